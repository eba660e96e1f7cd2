-- The order of events, and how many copies of one a list has. `words` reads a payload as numbers.
use Rattle.std.specs.Prelude.{⊤, ◌≡◌, ℕ, ◌+◌, ◌≤◌, Bool, true, cond, List, [], ◌∷◌}
use Rattle.warp_base.specs.declared.event.Event.{Event}
use Rattle.warp_base.specs.Words.{lexically, same_numbers}

-- a fact that each element of a list meets
abbrev pub Each : {X : Type 0} → (X → Type 0) → List X → Type 0
Each P [] = ⊤
Each P (x ∷ xs) = P x × Each P xs

-- all that an event is, the most important first: a model's own priority settles a tie of times, and what stands behind it those that are left
abbrev pub key : {P : Type 0} → (P → List ℕ) → Event P → List ℕ
key words e = e.time ∷ e.priority ∷ e.sender ∷ e.serial ∷ e.receiver ∷ e.kind ∷ words e.payload

-- one event is at or before another
abbrev pub precedes : {P : Type 0} → (P → List ℕ) → Event P → Event P → Bool
precedes words a b = lexically (key words a) (key words b)

-- 1 where two events are one in all, else 0
abbrev pub hit : {P : Type 0} → (P → List ℕ) → Event P → Event P → ℕ
hit words e x = cond (same_numbers (key words e) (key words x)) 1 0

-- how many copies of an event a list has
abbrev pub copies : {P : Type 0} → (P → List ℕ) → Event P → List (Event P) → ℕ
copies words e [] = 0
copies words e (x ∷ xs) = hit words e x + copies words e xs

-- an event is at or before each of these
abbrev pub IsBefore : {P : Type 0} → (P → List ℕ) → Event P → List (Event P) → Type 0
IsBefore words e = Each (λ x. precedes words e x ≡ true)

-- each event is at or before all that follow it
abbrev pub IsInOrder : {P : Type 0} → (P → List ℕ) → List (Event P) → Type 0
IsInOrder words [] = ⊤
IsInOrder words (x ∷ xs) = IsBefore words x xs × IsInOrder words xs

-- each event is for one process
abbrev pub AreFor : {P : Type 0} → ℕ → List (Event P) → Type 0
AreFor p = Each (λ e. e.receiver ≡ p)

-- no event is before a time
abbrev pub AreFrom : {P : Type 0} → ℕ → List (Event P) → Type 0
AreFrom t = Each (λ e. t ≤ e.time)
