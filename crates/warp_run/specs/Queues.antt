-- A queue of events in order, of those that a heap keeps in any order.
use Rattle.std.specs.Prelude.{ℕ, List, []}
use Rattle.warp_base.specs.declared.event.Event.{Event}
use Rattle.warp_base.specs.Sequential.{all_queued}

-- these events in the order of their keys
abbrev pub sorted : {P : Type 0} → (P → List ℕ) → List (Event P) → List (Event P)
sorted words events = all_queued words events []
