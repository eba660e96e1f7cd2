-- Lists of entries whose numbers rise.
use Rattle.std.proofs.Common.{◌≡◌, ◌≢◌, inl, inr, ℕ, zero, suc, ◌<◌, ◌≤◌, Bool, true, false, not, nat_eq, nat_le, List, [], ◌∷◌, ◌++◌, length, get_or, drop, Option, Some, None, MatchOption, sym, ◌∙◌, ap, subst, refl, arith}
use Rattle.std.specs.List.{All, Contains, filter, HoldsAt}
use Rattle.std.specs.Borrow.{Bor}
use Rattle.std.specs.Option.{option_copied}
use Rattle.dym_trace.specs.Machine.{DropsNewest, DropsOlder}
use Rattle.std.proofs.lemmas.Bool.{cases_eq}
use Rattle.std.proofs.lemmas.Bool.Decides.{nat_tests}
use Rattle.std.proofs.lemmas.List.Elements.{Contains-get_or}
use Rattle.std.proofs.lemmas.List.{length-append, get_or_at, same_from_push}
use Rattle.dym_slots.specs.declared.machine.Entry.{Entry}
use Rattle.dym_slots.specs.Slots.{entry, HasNumber}
use Rattle.dym_slots.specs.SlotSteps.{without, from_number}
use Rattle.dym_slots.specs.SlotFacts.{NumbersRise}

-- a filter that each element passes keeps the list
filter_whole : (p : Entry → Bool) (xs : List Entry) → All (λ x. p x ≡ true) xs → filter p xs ≡ xs
filter_whole p [] h = refl
filter_whole p (x ∷ xs) h =
    let here : p x ≡ true = h 0 x (omega arith) in
    rw here (ap (λ ys. x ∷ ys) (filter_whole p xs (λ k d lt. h (suc k) d (omega arith))))

tail_rises : (x : Entry) (xs : List Entry) → NumbersRise (x ∷ xs) → NumbersRise xs
tail_rises x xs h = λ i j d lt within. h (suc i) (suc j) d (omega arith) (omega arith)

-- the oldest entry has a lower number than the newest
newest_last : (y : Entry) (older : List Entry) (x : Entry) → NumbersRise (y ∷ older ++ x ∷ []) → y.number < x.number
newest_last y older x h =
    let rise = h 0 (suc (length older)) x (omega arith) (omega (arith, length-append older (x ∷ []))) in
    let at : get_or (older ++ x ∷ []) (length older) x ≡ x = get_or_at older x [] x (length older) refl in
    omega (arith, rise, ap (λ (e : Entry). e.number) at)

-- without the number of the newest entry the list is the older ones
pub without_newest : (older : List Entry) (x : Entry) → NumbersRise (older ++ x ∷ []) → without x.number (older ++ x ∷ []) ≡ older
without_newest [] x h = let hit : nat_eq x.number x.number ≡ true = grind (arith, nat_tests) in rw hit refl
without_newest (y ∷ older) x h =
    let below : y.number < x.number = newest_last y older x h in
    let miss : nat_eq y.number x.number ≡ false = grind (arith, nat_tests) in
    rw miss (ap (λ ys. y ∷ ys) (without_newest older x (tail_rises y (older ++ x ∷ []) h)))

-- the entries that begin with one from n on are all from n on
pub from_number_whole : (n : ℕ) (x : Entry) (xs : List Entry) → NumbersRise (x ∷ xs) → n ≤ x.number → from_number n (x ∷ xs) ≡ x ∷ xs
from_number_whole n x xs h from = filter_whole (λ e. nat_le n e.number) (x ∷ xs) (λ k d lt. elim k as (λ j. j < length (x ∷ xs) → nat_le n (get_or (x ∷ xs) j d).number ≡ true) [
  | zero ↦ λ l. grind (arith, nat_tests)
  | suc j ↦ λ l. let rise = h 0 (suc j) d (omega arith) l in grind (arith, nat_tests)
] lt)

-- and have the number n where the first of them has it
pub first_has : (n : ℕ) (x : Entry) (xs : List Entry) → NumbersRise (x ∷ xs) → n ≤ x.number → HasNumber (x ∷ xs) n → x.number ≡ n
first_has n x xs h from (s, (zero, lt, e)) = ap (λ (y : Entry). y.number) e
first_has n x xs h from (s, (suc k, lt, e)) =
    let rise = h 0 (suc k) (entry s n) (omega arith) lt in
    let same : (get_or xs k (entry s n)).number ≡ n = ap (λ (y : Entry). y.number) e in
    absurd (omega arith)

-- an entry below n takes no part
pub later_has : (n : ℕ) (x : Entry) (xs : List Entry) → x.number < n → HasNumber (x ∷ xs) n → HasNumber xs n
later_has n x xs below (s, (zero, lt, e)) = absurd (let same : x.number ≡ n = ap (λ (y : Entry). y.number) e in omega arith)
later_has n x xs below (s, (suc k, lt, e)) = (s, (k, omega arith, e))

-- what `front` tells of a list
pub front_splits : (items : List Entry) (r : Option (Bor Entry)) (o : Option Entry) (x : Entry) → o ≡ option_copied r → o ≡ Some x →
    MatchOption r (length items ≤ 0) (λ y. (0 < length items) × HoldsAt (λ z. y.now ≡ z) items 0) → items ≡ x ∷ drop 1 items
front_splits [] None o x copied some m = cc
front_splits [] (Some y) o x copied some m = absurd (let none = m.0 in omega arith)
front_splits (z ∷ zs) None o x copied some m = absurd (omega (arith, m))
front_splits (z ∷ zs) (Some y) o x copied some m =
    let same : Some y.now ≡ Some x = sym copied ∙ some in
    let value : y.now ≡ x = cc in
    let first : y.now ≡ z = m.1 z in
    ap (λ (e : Entry). e ∷ zs) (sym first ∙ value)

-- a pass over the older entries is done at the first that isn't older
pub older_done : (n : ℕ) (old items : List Entry) (x : Entry) (rest : List Entry) → items ≡ x ∷ rest → NumbersRise items → n ≤ x.number →
    from_number n items ≡ from_number n old → (HasNumber old n → HasNumber items n) → (HasNumber items n → HasNumber old n) →
    DropsOlder n old items (nat_eq x.number n)
older_done n old items x rest is rises from kept there back =
    let rises' : NumbersRise (x ∷ rest) = subst NumbersRise is rises in
    elim (cases_eq x.number n) [
      | inl same ↦
          let hit : nat_eq x.number n ≡ true = grind (arith, nat_tests) in
          let has : HasNumber (x ∷ rest) n = subst (λ m. HasNumber (x ∷ rest) m) same (x.slot, (0, omega arith, refl)) in
          let whole : from_number n items ≡ items = rw is (from_number_whole n x rest rises' from) in
          rw hit (back (subst (λ (ys : List Entry). HasNumber ys n) (sym is) has), sym whole ∙ kept)
      | inr other ↦
          let miss : nat_eq x.number n ≡ false = grind (arith, nat_tests) in
          rw miss (λ has. other (first_has n x rest rises' from (subst (λ (ys : List Entry). HasNumber ys n) is (there has))))
    ]

-- and goes on past one that is older
pub rest_rises : (items : List Entry) (x : Entry) (rest : List Entry) → items ≡ x ∷ rest → NumbersRise items → NumbersRise rest
rest_rises items x rest is rises = tail_rises x rest (subst NumbersRise is rises)

pub rest_kept : (n : ℕ) (items : List Entry) (x : Entry) (rest : List Entry) → items ≡ x ∷ rest → x.number < n → from_number n rest ≡ from_number n items
rest_kept n items x rest is older = let miss : nat_le n x.number ≡ false = grind (arith, nat_tests) in rw is (rw miss refl)

pub rest_there : (n : ℕ) (items : List Entry) (x : Entry) (rest : List Entry) → items ≡ x ∷ rest → x.number < n → HasNumber items n → HasNumber rest n
rest_there n items x rest is older has = later_has n x rest older (subst (λ (ys : List Entry). HasNumber ys n) is has)

pub rest_back : (n : ℕ) (items : List Entry) (x : Entry) (rest : List Entry) → items ≡ x ∷ rest → HasNumber rest n → HasNumber items n
rest_back n items x rest is (s, (k, lt, e)) = subst (λ (ys : List Entry). HasNumber ys n) (sym is) (s, (suc k, omega arith, e))

-- what `pop_back` leaves is the list without its newest number
pub newest_done : (n : ℕ) (old after : List Entry) (x : Entry) → old ≡ after ++ x ∷ [] → NumbersRise old → 2 ≤ length old → DropsNewest n old after (nat_eq x.number n)
newest_done n old after x is rises two = elim (cases_eq x.number n) [
  | inl same ↦
      let hit : nat_eq x.number n ≡ true = grind (arith, nat_tests) in
      let two' : 2 ≤ length (after ++ x ∷ []) = rw (← is) two in
      let some : 0 < length after = omega (arith, two', length-append after (x ∷ [])) in
      let entry_is : old ≡ after ++ entry x.slot n ∷ [] = subst (λ m. old ≡ after ++ entry x.slot m ∷ []) same is in
      let whole : without x.number old ≡ after = rw is (without_newest after x (subst NumbersRise is rises)) in
      rw hit ((after, x.slot, entry_is, some), subst (λ m. after ≡ without m old) same (sym whole))
  | inr other ↦
      let miss : nat_eq x.number n ≡ false = grind (arith, nat_tests) in
      rw miss (λ (older, s, e, some). other (ap (λ (y : Entry). y.number) (same_from_push after older x (entry s n) (sym is ∙ e)).1))
]

-- a list that doesn't have the number is itself without it
pub without_none : (n : ℕ) (list : List Entry) → ¬ HasNumber list n → without n list ≡ list
without_none n list none = filter_whole (λ e. not (nat_eq e.number n)) list (λ k d lt.
    let other : (get_or list k d).number ≢ n = λ same. none ((get_or list k d).slot, subst (λ m. Contains list (entry (get_or list k d).slot m)) same (Contains-get_or list k d lt)) in
    grind (arith, nat_tests))
