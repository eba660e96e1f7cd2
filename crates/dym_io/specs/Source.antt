-- What a pull does to the bytes that a source has left, where it tells them.
use Rattle.std.specs.Prelude.{◌≡◌, ◌≤◌, ◌⊎◌, ◌↔◌, ℕ, List, [], length, take, Option, Result, MatchResult, IfSome, OnSome}
use Rattle.std.specs.Io.KnownBytes.{Consumes, Keeps}

-- At Ok(n) the first n bytes of `out` are the next bytes that were left. At an error nothing was taken.
abbrev pub Takes : {E : Type 0} → Option (List ℕ) → Option (List ℕ) → List ℕ → Result ℕ E → Type 0
Takes old new out result = MatchResult result (λ n. Consumes old new (take n out)) (λ _. Keeps old new)

-- A source gives nothing exactly where it has nothing left.
abbrev pub IsEmptyAtEnd : Option (List ℕ) → ℕ → Type 0
IsEmptyAtEnd left n = IfSome left (λ bytes. (n ≡ 0) ↔ (bytes ≡ []))

-- Reading went to the end, or so far that `limit` bytes were taken.
abbrev pub IsEndOrLimit : ℕ → Option (List ℕ) → Option (List ℕ) → List ℕ → Type 0
IsEndOrLimit limit old new bytes = OnSome old (IfSome new (λ more. (more ≡ []) ⊎ (length bytes ≡ limit)))

-- Of the bytes that were left no more than this number was taken, where they are told.
pub record TookAtMost (most : ℕ) (old new : Option (List ℕ)) : Type 0 where
  pub got : List ℕ
  pub taken : Consumes old new got
  pub few : length got ≤ most
