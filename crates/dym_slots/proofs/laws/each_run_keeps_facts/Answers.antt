use Rattle.std.proofs.Common.{◌∙◌}
use Rattle.std.proofs.lemmas.List.{length-replicate}
use Rattle.dym_slots.specs.declared.machine.Slot.TheVariants.{Free}
use Rattle.dym_slots.specs.Slots.{start}
use Rattle.dym_slots.proofs.Steps.{start_meets, run_keeps}
use Rattle.dym_slots.proofs.laws.each_run_keeps_facts.Goals as goal

pub returns : goal.returns
returns _ count es c steps =
    let kept = run_keeps es (start count) c steps (start_meets count) in
    (kept.0, kept.1 ∙ length-replicate count Free)
