use Rattle.std.proofs.Common.{arith}
use Rattle.dym_slots.specs.SlotNotes.{noted_start}
use Rattle.dym_slots.proofs.Steps.{start_meets}
use Rattle.dym_slots.proofs.Notes.{run_keeps_notes, start_stands}
use Rattle.dym_slots.proofs.laws.each_run_keeps_notes.Goals as goal

pub returns : goal.returns
returns _ count es a steps =
    let kept = run_keeps_notes es (noted_start count) a steps (start_meets count) (start_stands count) in
    (kept.facts, kept.notes, record { rounds = omega (arith, kept.rounds); taken_back = omega (arith, kept.taken_back) })
