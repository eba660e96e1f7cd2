-- Copies in the order of their dates.
use Rattle.std.proofs.Common.{◌≡◌, ℕ, zero, suc, ◌-◌, ◌<◌, ◌≤◌, subst, true, false, nat_le, List, [], ◌∷◌, ◌++◌, length, take, drop, get_or, refl, ap, sym, ◌∙◌, arith}
use Rattle.std.proofs.lemmas.Bool.{le-leb, leb-true}
use Rattle.std.proofs.lemmas.List.{take-append-drop, append-nil}
use Rattle.std.specs.List.{AllWithin}
use Rattle.std.specs.List.Sorted.{IsPartitionedBy}
use Rattle.warp_base.specs.Events.{Each}
use Rattle.warp_base.proofs.Lists.{Each-passed, filter-++, filter_all, filter_none}
use Rattle.warp_process.specs.Savers.{until, AreAscending, KeepsFrom}
use Rattle.warp_process.proofs.InOrder.{not_le, Each-at, Each-take_from, Each-drop_from}

module _ {S : Type 0} where
  ascending_at : (cs : List (ℕ × S)) (i j : ℕ) (d : ℕ × S) → AreAscending cs → i ≤ j → j < length cs → (get_or cs i d).0 ≤ (get_or cs j d).0
  ascending_at [] i j d h few within = absurd (omega (arith, within))
  ascending_at (c ∷ cs) zero zero d h few within = omega arith
  ascending_at (c ∷ cs) zero (suc j) d h few within = let less = Each-at (λ (later : ℕ × S). c.0 < later.0) cs j d h.0 (omega (arith, within)) in omega (arith, less)
  ascending_at (c ∷ cs) (suc i) zero d h few within = absurd (omega (arith, few))
  ascending_at (c ∷ cs) (suc i) (suc j) d h few within = ascending_at cs i j d h.1 (omega (arith, few)) (omega (arith, within))

  pub dates_partitioned : (date : ℕ) (cs : List (ℕ × S)) → AreAscending cs → IsPartitionedBy (λ c. nat_le c.0 date) cs
  dates_partitioned date cs h i j d few within passes =
      let up = ascending_at cs i j d h few within in
      let soon = leb-true (get_or cs j d).0 date passes in
      le-leb (get_or cs i d).0 date (omega (arith, up, soon))

  pub later_from : (date : ℕ) (cs : List (ℕ × S)) (k : ℕ) → AllWithin (λ c. nat_le c.0 date ≡ false) cs k (length cs) → Each (λ c. date < c.0) (drop k cs)
  later_from date cs k h =
      Each-drop_from (λ c. date < c.0) cs k (λ j d more within. not_le (get_or cs j d).0 date (h j d more within))

  pub until_taken : (date : ℕ) (cs : List (ℕ × S)) (k : ℕ) → AllWithin (λ c. nat_le c.0 date ≡ true) cs 0 k → AllWithin (λ c. nat_le c.0 date ≡ false) cs k (length cs) → take k cs ≡ until date cs
  until_taken date cs k before behind =
      let test = λ (c : ℕ × S). nat_le c.0 date in
      let yes = filter_all test (take k cs) (Each-take_from (λ c. test c ≡ true) cs k (λ j d few within. before j d (omega arith) few)) in
      let no = filter_none test (drop k cs) (Each-drop_from (λ c. test c ≡ false) cs k (λ j d more within. behind j d more within)) in
      sym (ap (until date) (sym (take-append-drop k cs)) ∙ filter-++ test (take k cs) (drop k cs) ∙ ap (λ l. l ++ until date (drop k cs)) yes ∙ ap (λ l. take k cs ++ l) no ∙ append-nil (take k cs))

  -- the last of the copies that aren't later than a date
  pub record LastUntil (before k : ℕ) (cs : List (ℕ × S)) : Type 0 where
    pub copy : ℕ × S
    pub first : drop k cs ≡ copy ∷ drop (suc k) cs
    pub not_later : copy.0 ≤ before

  last_until : (before k : ℕ) (cs : List (ℕ × S)) → k < length cs → Each (λ c. c.0 ≤ before) (take (suc k) cs) → LastUntil before k cs
  last_until before k [] within h = absurd (omega (arith, within))
  last_until before zero (c ∷ cs) within h = record { copy = c; first = refl; not_later = h.0 }
  last_until before (suc k) (c ∷ cs) within h =
      let rest = last_until before k cs (omega (arith, within)) h.1 in
      record { copy = rest.copy; first = rest.first; not_later = rest.not_later }

  Each-until_soon : (date : ℕ) (cs : List (ℕ × S)) → Each (λ c. c.0 ≤ date) (until date cs)
  Each-until_soon date cs = Each-passed (λ (c : ℕ × S). nat_le c.0 date) (λ c. c.0 ≤ date) (λ c passes. leb-true c.0 date passes) cs

  -- a copy that isn't later is among those
  pub some_until : (before k : ℕ) (cs : List (ℕ × S)) (date : ℕ) (s : S) (later : List (ℕ × S)) → cs ≡ (date, s) ∷ later → date ≤ before → Each (λ c. before < c.0) (drop k cs) → 1 ≤ k
  some_until before zero cs date s later is soon late =
      let first = subst (Each (λ (c : ℕ × S). before < c.0)) is late in let less = first.0 in absurd (omega (arith, less, soon))
  some_until before (suc k) cs date s later is soon late = omega arith

  pub keeps_from : (before k : ℕ) (cs kept : List (ℕ × S)) (first : ℕ × S) → 1 ≤ k → k ≤ length cs → take k cs ≡ until before cs → Each (λ c. before < c.0) (drop k cs) → kept ≡ drop (k - 1) cs → first ≡ get_or kept 0 first → KeepsFrom cs before first.0 kept
  keeps_from before k cs kept first some within soon late is at =
      let one : k ≡ suc (k - 1) = omega (arith, some) in
      let last = last_until before (k - 1) cs (omega (arith, some, within)) (subst (λ n. Each (λ (c : ℕ × S). c.0 ≤ before) (take n cs)) one (subst (Each (λ (c : ℕ × S). c.0 ≤ before)) (sym soon) (Each-until_soon before cs))) in
      let whole : kept ≡ last.copy ∷ drop k cs = is ∙ last.first ∙ ap (λ n. last.copy ∷ drop n cs) (sym one) in
      let same : first ≡ last.copy = at ∙ ap (λ l. get_or l 0 first) whole in
      record {
        gone = take (k - 1) cs;
        oldest = first.1;
        later = drop k cs;
        whole = sym (ap (λ l. take (k - 1) cs ++ l) is ∙ take-append-drop (k - 1) cs);
        first = whole ∙ ap (λ c. c ∷ drop k cs) (sym same);
        not_later = subst (λ (c : ℕ × S). c.0 ≤ before) (sym same) last.not_later;
        newest = late;
      }
