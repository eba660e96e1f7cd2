-- What messages say of an event: how many send it, and how many take it back.
use Rattle.std.specs.Prelude.{ℕ, ◌+◌, ◌≤◌, List, [], ◌∷◌}
use Rattle.warp_base.specs.declared.event.Event.{Event}
use Rattle.warp_base.specs.declared.event.Message.{Message}
use Rattle.warp_base.specs.declared.event.Message.TheVariants as Variants
use Rattle.warp_base.specs.Events.{Each, hit}

-- the event that a message sends or takes back
abbrev pub event_of : {P : Type 0} → Message P → Event P
event_of (Variants.Event e) = e
event_of (Variants.Anti e) = e

-- how many of these messages send an event
abbrev pub positives : {P : Type 0} → (P → List ℕ) → Event P → List (Message P) → ℕ
positives words e [] = 0
positives words e (Variants.Event x ∷ ms) = hit words e x + positives words e ms
positives words e (Variants.Anti x ∷ ms) = positives words e ms

-- how many of these messages take an event back
abbrev pub negatives : {P : Type 0} → (P → List ℕ) → Event P → List (Message P) → ℕ
negatives words e [] = 0
negatives words e (Variants.Event x ∷ ms) = negatives words e ms
negatives words e (Variants.Anti x ∷ ms) = hit words e x + negatives words e ms

-- no message is about an event before a time
abbrev pub AreMessagesFrom : {P : Type 0} → ℕ → List (Message P) → Type 0
AreMessagesFrom t = Each (λ m. t ≤ (event_of m).time)
