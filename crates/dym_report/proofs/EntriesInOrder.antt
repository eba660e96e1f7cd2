-- The entry of the least key that is at least k comes first among those from k on.
use Rattle.std.proofs.Common.{◌≡◌, ◌≢◌, ℕ, ◌+◌, ◌<◌, ◌≤◌, Bool, true, false, cond, ◌&&◌, T, List, [], ◌∷◌, refl, sym, ap, subst, ◌∙◌, arith, Some, None, ltb}
use Rattle.std.proofs.lemmas.Bool.Decides.{nat_tests}
use Rattle.std.specs.Ordering.{nat_cmp, eq_by_cmp, is_lt}
use Rattle.std.specs.FinMap.{get, entries, entries_sorted, find, is_sorted, get-entries}
use Rattle.std.specs.FinMap.Entries.{below_all}
use Rattle.dym_base.specs.Heaps.{Live}
use Rattle.dym_report.specs.Entries.{entries_from}

-- in plain words: each key of es is above x
abbrev Above : ℕ → List (ℕ × List ℕ) → Type 0
Above x [] = Unit {0}
Above x (e ∷ es) = (x < e.0) × Above x es

abbrev Rising : List (ℕ × List ℕ) → Type 0
Rising [] = Unit {0}
Rising (e ∷ es) = Above e.0 es × Rising es

first : (a b : Bool) → T (a && b) → T a
first true b p = tt
first false b p = p

second : (a b : Bool) → T (a && b) → T b
second true b p = p
second false b p = absurd p

less : (a b : ℕ) → T (is_lt (nat_cmp a b)) → a < b
less a b h = grind (arith, nat_tests)

above : (x : ℕ) (es : List (ℕ × List ℕ)) → T (below_all nat_cmp x es) → Above x es
above x [] h = tt
above x (e ∷ es) h = (less x e.0 (first _ _ h), above x es (second _ _ h))

rising : (es : List (ℕ × List ℕ)) → T (is_sorted nat_cmp es) → Rising es
rising [] h = tt
rising (e ∷ es) h = (above e.0 es (first _ _ h), rising es (second _ _ h))

above_less : (x y : ℕ) (es : List (ℕ × List ℕ)) → x ≤ y → Above y es → Above x es
above_less x y [] le h = tt
above_less x y (e ∷ es) le h = (omega (arith, h.0), above_less x y es le h.1)

-- a key is found at the head or further on
find_head : (e : ℕ × List ℕ) (es : List (ℕ × List ℕ)) → find nat_cmp e.0 (e ∷ es) ≡ Some e.1
find_head e es = let t : eq_by_cmp nat_cmp e.0 e.0 ≡ true = grind (arith, nat_tests) in ap (λ b. cond b (Some e.1) (find nat_cmp e.0 es)) t

find_tail : (q : ℕ) (e : ℕ × List ℕ) (es : List (ℕ × List ℕ)) → q ≢ e.0 → find nat_cmp q (e ∷ es) ≡ find nat_cmp q es
find_tail q e es ne = let t : eq_by_cmp nat_cmp q e.0 ≡ false = grind (arith, nat_tests) in ap (λ b. cond b (Some e.1) (find nat_cmp q es)) t

find_above : (q : ℕ) (es : List (ℕ × List ℕ)) → Above q es → find nat_cmp q es ≡ None
find_above q [] h = refl
find_above q (e ∷ es) h = let ne : q ≢ e.0 = grind (arith, h.0) in find_tail q e es ne ∙ find_above q es h.1

-- the key of the first entry is above a key that is below it
below_first : (k a : ℕ) → ltb a k ≡ true → a < k
below_first k a is = grind (arith, nat_tests)

not_below : (k a : ℕ) → ltb a k ≡ false → k ≤ a
not_below k a is = grind (arith, nat_tests)

apart_above : (a j : ℕ) → a < j → j ≢ a
apart_above a j lt = grind arith

some_none : {P : Type 0} (x : List ℕ) → Some x ≡ None → P
some_none x e = absurd (cc)

-- no key from k on: no entry from k on
pub none_from : (k : ℕ) (es : List (ℕ × List ℕ)) → Rising es → ((j : ℕ) → k ≤ j → find nat_cmp j es ≡ None) → entries_from k es ≡ []
none_from k [] r h = refl
none_from k (e ∷ es) r h =
    elim (ltb e.0 k) as (λ b. ltb e.0 k ≡ b → cond b (entries_from k es) (e ∷ es) ≡ []) [
      | true ↦ λ is. none_from k es r.1 (λ j le. sym (find_tail j e es (apart_above e.0 j (omega (arith, below_first k e.0 is)))) ∙ h j le)
      | false ↦ λ is. some_none e.1 (sym (find_head e es) ∙ h e.0 (not_below k e.0 is))
    ] refl

-- the entries from k on, where each key is above k already
all_from : (k : ℕ) (es : List (ℕ × List ℕ)) → Above k es → entries_from (k + 1) es ≡ es
all_from k [] h = refl
all_from k (e ∷ es) h = let t : ltb e.0 (k + 1) ≡ false = grind (arith, nat_tests, h.0) in ap (λ b. cond b (entries_from (k + 1) es) (e ∷ es)) t

-- the first entry is that of its own key
same_entry : (j : ℕ) (bytes : List ℕ) (e : ℕ × List ℕ) (es : List (ℕ × List ℕ)) → j ≡ e.0 → find nat_cmp j (e ∷ es) ≡ Some bytes → e ≡ (j, bytes)
same_entry j bytes e es same is =
    let P : ℕ → Type 0 = λ k. find nat_cmp k (e ∷ es) ≡ Some bytes in
    let same_bytes : e.1 ≡ bytes = some_same (sym (find_head e es) ∙ subst P same is) in
    λ i. (sym same i, same_bytes i)
  where
    some_same : Some e.1 ≡ Some bytes → e.1 ≡ bytes
    some_same p = cc

-- the least key from k on comes first, with its bytes, and those after it follow
pub next_from : (k j : ℕ) (bytes : List ℕ) (es : List (ℕ × List ℕ)) → Rising es → k ≤ j → find nat_cmp j es ≡ Some bytes
    → ((i : ℕ) → k ≤ i → i < j → find nat_cmp i es ≡ None) → entries_from k es ≡ (j, bytes) ∷ entries_from (j + 1) es
next_from k j bytes [] r le is least = some_none bytes (sym is)
next_from k j bytes (e ∷ es) r le is least =
    elim (ltb e.0 k) as (λ b. ltb e.0 k ≡ b → cond b (entries_from k es) (e ∷ es) ≡ (j, bytes) ∷ entries_from (j + 1) (e ∷ es)) [
      | true ↦ λ below.
          let apart : j ≢ e.0 = apart_above e.0 j (omega (arith, below_first k e.0 below)) in
          let rest = next_from k j bytes es r.1 le (sym (find_tail j e es apart) ∙ is)
          (λ i lei lti. sym (find_tail i e es (apart_above e.0 i (omega (arith, below_first k e.0 below)))) ∙ least i lei lti) in
          let t : ltb e.0 (j + 1) ≡ true = grind (arith, nat_tests, below_first k e.0 below) in
          rest ∙ ap (λ b. (j, bytes) ∷ cond b (entries_from (j + 1) es) (e ∷ es)) (sym t)
      | false ↦ λ from. at_first from (ltb j e.0) refl (ltb e.0 j) refl
    ] refl
  where
    at_first : ltb e.0 k ≡ false → (a : Bool) → ltb j e.0 ≡ a → (b : Bool) → ltb e.0 j ≡ b → e ∷ es ≡ (j, bytes) ∷ entries_from (j + 1) (e ∷ es)
    at_first from true lower b is_b =
        let lower_all : Above j (e ∷ es) = (below_first e.0 j lower, above_less j e.0 es (omega (arith, below_first e.0 j lower)) r.0) in
        some_none bytes (sym is ∙ find_above j (e ∷ es) lower_all)
    at_first from false reach true higher = some_none e.1 (sym (find_head e es) ∙ least e.0 (not_below k e.0 from) (below_first j e.0 higher))
    at_first from false reach false same =
        let one : j ≡ e.0 = omega (arith, not_below e.0 j reach, not_below j e.0 same) in
        let t : ltb e.0 (j + 1) ≡ true = grind (arith, nat_tests, one) in
        let tail : entries_from (j + 1) es ≡ es = all_from j es (above_less j e.0 es (omega (arith, one)) r.0) in
        (λ i. same_entry j bytes e es one is i ∷ sym tail i) ∙ ap (λ b. (j, bytes) ∷ cond b (entries_from (j + 1) es) (e ∷ es)) (sym t)

-- the entries of a map rise
pub entries_rise : (live : Live) → Rising (entries live)
entries_rise live = rising (entries live) (entries_sorted live)

all_from_zero : (es : List (ℕ × List ℕ)) → entries_from 0 es ≡ es
all_from_zero [] = refl
all_from_zero (e ∷ es) = let t : ltb e.0 0 ≡ false = grind (arith, nat_tests) in ap (λ b. cond b (entries_from 0 es) (e ∷ es)) t

-- from 0 on all entries stand
pub entries_from_start : (live : Live) → entries_from 0 (entries live) ≡ entries live
entries_from_start live = all_from_zero (entries live)

-- of a live map: nothing from k on
pub no_entries_from : (live : Live) (k : ℕ) → ((j : ℕ) → k ≤ j → get live j ≡ None) → entries_from k (entries live) ≡ []
no_entries_from live k none = none_from k (entries live) (entries_rise live) (λ j le. sym (get-entries live j) ∙ none j le)

-- of a live map: the least chunk from k on
pub next_entry_from : (live : Live) (k j : ℕ) (bytes : List ℕ) → k ≤ j → get live j ≡ Some bytes → ((i : ℕ) → k ≤ i → i < j → get live i ≡ None)
    → entries_from k (entries live) ≡ (j, bytes) ∷ entries_from (j + 1) (entries live)
next_entry_from live k j bytes le is least =
    next_from k j bytes (entries live) (entries_rise live) le (sym (get-entries live j) ∙ is) (λ i lei lti. sym (get-entries live i) ∙ least i lei lti)
