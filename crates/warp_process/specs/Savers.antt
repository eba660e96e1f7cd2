-- Dated copies of a state: the date of a copy is the number of events that were run before it.
use Rattle.std.specs.Prelude.{⊤, ◌≡◌, ℕ, ◌<◌, ◌≤◌, nat_le, List, [], ◌∷◌, ◌++◌, filter}
use Rattle.warp_base.specs.Events.{Each}

module _ {S : Type 0} where
  -- the copies that aren't later than a date
  abbrev pub until : ℕ → List (ℕ × S) → List (ℕ × S)
  until date = filter (λ c. nat_le c.0 date)

  -- each copy is older than all behind it
  abbrev pub AreAscending : List (ℕ × S) → Type 0
  AreAscending [] = ⊤
  AreAscending (c ∷ cs) = Each (λ (later : ℕ × S). c.0 < later.0) cs × AreAscending cs

  -- the last of these copies
  pub record IsNewest (copies : List (ℕ × S)) (date : ℕ) (s : S) : Type 0 where
    pub older : List (ℕ × S)
    pub last : copies ≡ older ++ (date, s) ∷ []

  -- from the newest copy that isn't later than `before` on, these copies are kept; it is that of the date
  pub record KeepsFrom (copies : List (ℕ × S)) (before date : ℕ) (kept : List (ℕ × S)) : Type 0 where
    pub gone : List (ℕ × S)
    pub oldest : S
    pub later : List (ℕ × S)
    pub whole : copies ≡ gone ++ kept
    pub first : kept ≡ (date, oldest) ∷ later
    pub not_later : date ≤ before
    pub newest : Each (λ (c : ℕ × S). before < c.0) later
