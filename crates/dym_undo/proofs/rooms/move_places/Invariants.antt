use Rattle.std.proofs.Common.{◌≡◌, ◌++◌, ◌-◌, map, take, drop}
use Rattle.dym_undo.proofs.rooms.move_places.Given as goal

abbrev pub invariant-loop-place : goal.invariant-loop-place
invariant-loop-place l = l.places ≡ map (λ p. p - l.count) (take l.place-index l.initial.places) ++ drop l.place-index l.initial.places
