-- Records whose numbers rise.
use Rattle.std.proofs.Common.{◌≡◌, ℕ, zero, suc, ◌+◌, ◌<◌, ◌≤◌, true, false, List, [], ◌∷◌, ◌++◌, map, take, drop, length, refl, ap, arith}
use Rattle.std.specs.Prelude.{nat_le, filter}
use Rattle.std.proofs.lemmas.List.{length-map}
use Rattle.dym_slots.specs.declared.view.Listed.{Listed}
use Rattle.dym_slots.specs.Meanings.{Numbered, record_at, first_number, NumbersRise}
use Rattle.dym_slots.specs.Orders.{numbered}
use Rattle.dym_slots.proofs.Entries.{below, from_on}

rise_head : (r : Numbered) (rs : List Numbered) (made : ℕ) → NumbersRise (r ∷ rs) made → (j : ℕ) → j < length rs → r.number < (record_at rs j).number
rise_head r [] made h j lt = absurd (omega arith)
rise_head r (s ∷ rs) made h zero lt = h.0
rise_head r (s ∷ rs) made h (suc j) lt = let later = rise_head s rs made h.1 j (omega arith) in let first = h.0 in omega arith

-- each number is below the next one
pub below_made : (rs : List Numbered) (made i : ℕ) → NumbersRise rs made → i < length rs → (record_at rs i).number < made
below_made [] made i h lt = absurd (omega arith)
below_made (r ∷ []) made zero h lt = h.0
below_made (r ∷ (s ∷ rs)) made zero h lt = let rest = below_made (s ∷ rs) made zero h.1 (omega arith) in let first = h.0 in omega arith
below_made (r ∷ rs) made (suc i) h lt = below_made rs made i h.1 (omega arith)

pub rise_push : (rs : List Numbered) (made : ℕ) (bytes : List ℕ) → NumbersRise rs made → NumbersRise (rs ++ record { number = made; bytes = bytes } ∷ []) (made + 1)
rise_push [] made bytes h = (omega arith, tt)
rise_push (r ∷ []) made bytes h = (h.0, rise_push [] made bytes tt)
rise_push (r ∷ (s ∷ rs)) made bytes h = (h.0, rise_push (s ∷ rs) made bytes h.1)

pub rise_drop : (rs : List Numbered) (made n : ℕ) → NumbersRise rs made → NumbersRise (drop n rs) made
rise_drop [] made zero h = tt
rise_drop [] made (suc n) h = tt
rise_drop (r ∷ rs) made zero h = h
rise_drop (r ∷ rs) made (suc n) h = rise_drop rs made n h.1

pub rise_take : (rs : List Numbered) (made n : ℕ) → NumbersRise rs made → NumbersRise (take n rs) made
rise_take [] made zero h = tt
rise_take [] made (suc n) h = tt
rise_take (r ∷ rs) made zero h = tt
rise_take (r ∷ []) made (suc zero) h = h
rise_take (r ∷ []) made (suc (suc n)) h = h
rise_take (r ∷ (s ∷ rs)) made (suc zero) h = (below_made (r ∷ (s ∷ rs)) made zero h (omega arith), tt)
rise_take (r ∷ (s ∷ rs)) made (suc (suc n)) h = (h.0, rise_take (s ∷ rs) made (suc n) h.1)

-- Entries from a number on

no_more : (n : ℕ) → n ≤ n
no_more n = omega arith

up_to_next : (n a b : ℕ) → n ≤ a → a < b → n ≤ b
up_to_next n a b le lt = omega arith

-- from a number on that none is below, a list keeps all
from_first : (list : List Listed) (made n : ℕ) → NumbersRise (map numbered list) made → n ≤ first_number (map numbered list) made → filter (λ x. nat_le n x.entry.number) list ≡ list
from_first [] made n h le = refl
from_first (x ∷ list) made n h le =
    let keeps : nat_le n x.entry.number ≡ true = from_on x.entry.number n le in
    let rest = from_first list made n h.1 (up_to_next n x.entry.number _ le h.0) in
    rw keeps (ap (λ (l : List Listed). x ∷ l) rest)

-- from the number at a place on, a list keeps what stands from that place on
pub from_place : (list : List Listed) (made place : ℕ) → NumbersRise (map numbered list) made → place < length list
    → filter (λ x. nat_le (record_at (map numbered list) place).number x.entry.number) list ≡ drop place list
from_place [] made place h lt = absurd (omega arith)
from_place (x ∷ list) made zero h lt = from_first (x ∷ list) made x.entry.number h (no_more x.entry.number)
from_place (x ∷ list) made (suc place) h lt =
    let n = (record_at (map numbered list) place).number in
    let later : x.entry.number < n = rise_head (numbered x) (map numbered list) made h place (let l = length-map list numbered in omega arith) in
    let gone : nat_le n x.entry.number ≡ false = below x.entry.number n later in
    rw gone (from_place list made place h.1 (omega arith))
