use Rattle.std.proofs.Common.{map, take}
use Rattle.std.specs.List.{FoldsTo}
use Rattle.dym_wave.specs.Results.{origin_shown}
use Rattle.dym_wave.specs.Works.{WorkMeaning}
use Rattle.dym_wave.proofs.object_queue.hand_over.Given as goal

abbrev pub invariant-loop-work : goal.invariant-loop-work
invariant-loop-work g l =
    FoldsTo g.C.Consumer.takes l.initial.output (map (λ (w : WorkMeaning). origin_shown w.origin) (take l.work-index l.works)) l.output
