-- Entries with their records, and what a rising list keeps under the machine's filters.
use Rattle.std.proofs.Common.{◌≡◌, ℕ, suc, ◌+◌, ◌<◌, ◌≤◌, Bool, true, false, cond, not, nat_eq, List, [], ◌∷◌, ◌++◌, map, length, get_or, sym, refl, ap, ◌∙◌, subst, arith}
use Rattle.std.specs.Prelude.{nat_le}
use Rattle.std.specs.List.{All, Contains, filter}
use Rattle.std.proofs.lemmas.List.{length-map, length-append, get_or-map, get_or_append_left, get_or_at, get_or-append-add}
use Rattle.std.proofs.lemmas.List.Elements.{All-head, All-tail, filter-append}
use Rattle.std.proofs.lemmas.Bool.Decides.{nat_tests}
use Rattle.dym_slots.specs.declared.machine.Entry.{Entry}
use Rattle.dym_slots.specs.Slots.{entry}
use Rattle.dym_slots.specs.SlotSteps.{without, from_number}
use Rattle.dym_slots.specs.SlotFacts.{NumbersRise}
use Rattle.dym_slots.specs.declared.view.Listed.{Listed}
use Rattle.dym_slots.specs.SeatViews.{Naming, listed}
use Rattle.dym_slots.specs.Orders.{entry_of}

pub map_entries : (records : Naming) (es : List Entry) → map entry_of (map (listed records) es) ≡ es
map_entries records [] = refl
map_entries records (e ∷ es) = ap (λ (l : List Entry). e ∷ l) (map_entries records es)

-- each part of a list of entries with their records is one
pub parts : (records : Naming) (a b : List Listed) → map (listed records) (map entry_of (a ++ b)) ≡ a ++ b
    → (map (listed records) (map entry_of a) ≡ a) × (map (listed records) (map entry_of b) ≡ b)
parts records [] b is = (refl, is)
parts records (x ∷ a) b is =
    let head : listed records x.entry ≡ x = cc in
    let rest = parts records a b cc in
    ((λ i. head i ∷ rest.0 i), rest.1)

pub contains_entry : (records : Naming) (es : List Entry) (x : Listed) → Contains (map (listed records) es) x
    → Contains es x.entry × (records x.entry.number ≡ x.bytes)
contains_entry records es x (k, lt, is) =
    let inside : k < length es = let n = length-map es (listed records) in omega arith in
    let at : listed records (get_or es k x.entry) ≡ x = sym (get_or-map (listed records) es k x.entry x inside) ∙ is in
    ((k, inside, ap entry_of at), subst (λ (y : Listed). records y.entry.number ≡ y.bytes) at refl)

pub contains_listed : (records : Naming) (es : List Entry) (e : Entry) → Contains es e → Contains (map (listed records) es) (listed records e)
contains_listed records es e (k, lt, is) =
    (k, (let n = length-map es (listed records) in omega arith), get_or-map (listed records) es k e (listed records e) lt ∙ ap (listed records) is)

-- the machine's filter on entries with their records
pub from_listed : (records : Naming) (n : ℕ) (es : List Entry) → map (listed records) (from_number n es) ≡ filter (λ x. nat_le n x.entry.number) (map (listed records) es)
from_listed records n [] = refl
from_listed records n (e ∷ es) =
    let kept = from_number n es in
    let shown = filter (λ (x : Listed). nat_le n x.entry.number) (map (listed records) es) in
    let rest = from_listed records n es in
    elim (nat_le n e.number) as (λ b. map (listed records) (cond b (e ∷ kept) kept) ≡ cond b (listed records e ∷ shown) shown) [
      | true ↦ ap (λ (l : List Listed). listed records e ∷ l) rest
      | false ↦ rest
    ]

-- Rising numbers

pub rising_front : (a b : List Entry) (x : Entry) → NumbersRise (a ++ x ∷ b) → All (λ e. e.number < x.number) a
rising_front a b x rise k d lt =
    let inside : length a < length (a ++ x ∷ b) = simp length-append (omega arith) in
    let p = rise k (length a) d lt inside in
    let q : (get_or a k d).number < (get_or (a ++ x ∷ b) (length a) d).number = subst (λ (y : Entry). y.number < (get_or (a ++ x ∷ b) (length a) d).number) (get_or_append_left a (x ∷ b) d k lt) p in
    subst (λ (y : Entry). (get_or a k d).number < y.number) (get_or_at a x b d (length a) refl) q

pub rising_back : (a b : List Entry) (x : Entry) → NumbersRise (a ++ x ∷ b) → All (λ e. x.number < e.number) b
rising_back a b x rise k d lt =
    let inside : length a + suc k < length (a ++ x ∷ b) = simp length-append (omega arith) in
    let p = rise (length a) (length a + suc k) d (omega arith) inside in
    let q : x.number < (get_or (a ++ x ∷ b) (length a + suc k) d).number = subst (λ (y : Entry). y.number < (get_or (a ++ x ∷ b) (length a + suc k) d).number) (get_or_at a x b d (length a) refl) p in
    subst (λ (y : Entry). x.number < y.number) (get_or-append-add a (x ∷ b) (suc k) d) q

-- Filters

pub keeps_all : (p : Entry → Bool) (es : List Entry) → All (λ e. p e ≡ true) es → filter p es ≡ es
keeps_all p [] all = refl
keeps_all p (e ∷ es) all =
    let head : p e ≡ true = All-head (λ x. p x ≡ true) e es all in
    rw head (ap (λ (l : List Entry). e ∷ l) (keeps_all p es (All-tail (λ x. p x ≡ true) e es all)))

keeps_none : (p : Entry → Bool) (es : List Entry) → All (λ e. p e ≡ false) es → filter p es ≡ []
keeps_none p [] all = refl
keeps_none p (e ∷ es) all =
    let head : p e ≡ false = All-head (λ x. p x ≡ false) e es all in
    rw head (keeps_none p es (All-tail (λ x. p x ≡ false) e es all))

append_nothing : (es : List Entry) → es ++ [] ≡ es
append_nothing [] = refl
append_nothing (e ∷ es) = ap (λ (l : List Entry). e ∷ l) (append_nothing es)

other : (a n : ℕ) → a < n → not (nat_eq a n) ≡ true
other a n lt = grind (arith, nat_tests)

same_number : (n : ℕ) → not (nat_eq n n) ≡ false
same_number n = grind (arith, nat_tests)

pub below : (a n : ℕ) → a < n → nat_le n a ≡ false
below a n lt = grind (arith, nat_tests)

pub from_on : (a n : ℕ) → n ≤ a → nat_le n a ≡ true
from_on a n le = grind (arith, nat_tests)

-- without its newest entry a rising list has the older ones
pub without_newest : (older : List Entry) (s n : ℕ) → NumbersRise (older ++ entry s n ∷ []) → without n (older ++ entry s n ∷ []) ≡ older
without_newest older s n rise =
    let front = rising_front older [] (entry s n) rise in
    let keeps = keeps_all (λ e. not (nat_eq e.number n)) older (λ k d lt. other (get_or older k d).number n (front k d lt)) in
    let last : filter (λ (e : Entry). not (nat_eq e.number n)) (entry s n ∷ []) ≡ [] = rw (same_number n) refl in
    filter-append (λ e. not (nat_eq e.number n)) older (entry s n ∷ []) ∙ (λ i. keeps i ++ last i) ∙ append_nothing older

-- from a number on a rising list has the entry of that number and the newer ones
pub from_raised : (dropped others : List Entry) (x : Entry) → NumbersRise (dropped ++ x ∷ others) → from_number x.number (dropped ++ x ∷ others) ≡ x ∷ others
from_raised dropped others x rise =
    let front = rising_front dropped others x rise in
    let back = rising_back dropped others x rise in
    let gone = keeps_none (λ e. nat_le x.number e.number) dropped (λ k d lt. below (get_or dropped k d).number x.number (front k d lt)) in
    let kept = keeps_all (λ e. nat_le x.number e.number) others (λ k d lt. from_on (get_or others k d).number x.number (let l = back k d lt in omega arith)) in
    let first : nat_le x.number x.number ≡ true = from_on x.number x.number (omega arith) in
    filter-append (λ e. nat_le x.number e.number) dropped (x ∷ others) ∙ (λ i. gone i ++ filter (λ (e : Entry). nat_le x.number e.number) (x ∷ others)) ∙ rw first (ap (λ (l : List Entry). x ∷ l) kept)
