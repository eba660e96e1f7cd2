-- What contracts say of lists of jobs.
use Rattle.std.specs.Prelude.{◌≡◌, ℕ, ◌<◌, List, map, All, length, slice_index_or}
use Rattle.std.specs.declared.boxed.Box.{Box}
use Rattle.std.specs.declared.alloc.Global.{Global}

module _ {J : Type 0} where
  -- the jobs' numbers are 0, 1, 2 and so on, in order
  abbrev pub Numbered : (J → ℕ) → List J → Type 0
  Numbered number jobs = (k : ℕ) (d : J) → k < length jobs → number (slice_index_or jobs k d) ≡ k

  -- nothing is left to do of any of the jobs
  abbrev pub AllEnded : (J → ℕ) → List J → Type 0
  AllEnded left jobs = All (λ j. left j ≡ 0) jobs

  -- nothing is left to do of any of the jobs in these boxes
  abbrev pub AllBoxedEnded : (J → ℕ) → List (Box J Global) → Type 0
  AllBoxedEnded left boxes = All (λ b. left b.value ≡ 0) boxes

  -- the jobs in their boxes
  abbrev pub unboxed : List (Box J Global) → List J
  unboxed boxes = map (λ b. b.value) boxes

module _ {J O : Type 0} (number : J → ℕ) (origin : J → O) where
  -- what tells jobs apart, and no turn changes: for each its number and its origin
  abbrev pub labels : List J → List (ℕ × O)
  labels jobs = map (λ j. (number j, origin j)) jobs

  -- the labels of jobs in boxes
  abbrev pub boxed_labels : List (Box J Global) → List (ℕ × O)
  boxed_labels boxes = map (λ b. (number b.value, origin b.value)) boxes

-- every job is back once, in order, each with its number and its origin, and with nothing left to do
abbrev pub EveryJobBack : {J O : Type 0} → (J → ℕ) → (J → ℕ) → (J → O) → List J → List J → Type 0
EveryJobBack number left origin before after =
    (labels number origin after ≡ labels number origin before) × AllEnded left after
