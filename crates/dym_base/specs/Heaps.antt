-- What a heap means: a finite map from handles to bytes, and how many segments it needs.
use Rattle.std.specs.Prelude.{ℕ, zero, suc, ◌+◌, ◌/◌, max, List, [], ◌∷◌, ◌==◌, if◌then◌else◌, sum_by}
use Rattle.std.specs.Ordering.{nat_cmp}
use Rattle.std.specs.FinMap.{FinMap, contains_key, len, keys}
use Rattle.std.specs.FinSet.{FinSet}
use Rattle.dym_base.specs.Numbers.{per, number, exponent_of, index_of, classes}

-- the chunks that are live: the bytes of each, under its handle's number. Numbers are in the order of (exponent, index)
abbrev pub Live : Type 0
Live = FinMap nat_cmp (List ℕ)

-- the handles that were touched since the last log, by their numbers
abbrev pub Touched : Type 0
Touched = FinSet nat_cmp

-- the least number from i on, at most n further, that is the index of no live chunk of class e
abbrev pub free_index : Live → ℕ → ℕ → ℕ → ℕ
free_index live e zero i = i
free_index live e (suc n) i = if contains_key live (number e i) then free_index live e n (i + 1) else i

-- the least i such that (e, i) isn't live: among that many and one more indices one is free
unfoldable pub fresh : Live → ℕ → ℕ
fresh live e = free_index live e (len live) 0

-- the areas of class e that reach as far as each of these handles
abbrev pub areas_over : ℕ → List ℕ → ℕ
areas_over e [] = 0
areas_over e (k ∷ ks) = max (if exponent_of k == e then index_of k / per e + 1 else 0) (areas_over e ks)

-- 0 where live has no handle of class e, else the greatest index / per(e) + 1
unfoldable pub areas : Live → ℕ → ℕ
areas live e = areas_over e (keys live)

-- the segments that the heap needs: the areas of all classes
unfoldable pub held : Live → ℕ
held live = sum_by (areas live) classes

-- a heap: its live chunks, and those of them that were touched since the last log
pub record HeapState : Type 0 where
  pub live : Live
  pub touched : Touched
