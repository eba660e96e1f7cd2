-- What records say doesn't depend on the logs that they are read as.
use Rattle.std.proofs.Common.{◌≡◌, ℕ, Bool, true, false, cond, is_some, unwrap_or, Option, None, List, [], ◌∷◌, map, ⊎_elim, refl, sym, ap, subst, ◌∙◌}
use Rattle.std.specs.Cmp.{nat_cmp_total}
use Rattle.std.specs.List.{AllByRecursion}
use Rattle.std.specs.FinMap.{get, contains_key, nat_cmp-IsAntisymmetric}
use Rattle.std.specs.FinSet.{contains}
use Rattle.std.specs.FinSet as set
use Rattle.std.proofs.lemmas.Bool.{cases_Bool, cond-true, cond-false}
use Rattle.dym_base.specs.LawfulLists.{depth_after}
use Rattle.dym_base.specs.Packed.{Logged, packs_by, packed}
use Rattle.dym_base.specs.Recorded.{IsRecorded}
use Rattle.dym_base.specs.StandsFor.{packed_by, or_else, newest_packed}
use Rattle.dym_base.specs.declared.command.Kind.{Kind}
use Rattle.dym_base.specs.declared.command.Kind.TheVariants.{Full, Inc}
use Rattle.dym_pack.specs.Areas.{found_by}
use Rattle.dym_pack.specs.Laws.{SaysTheSame}
use Rattle.dym_pack.proofs.Tells.{record_tells}
use Rattle.dym_heap.proofs.AreaLists.{LiesIn, lies_in}
use Rattle.dym_chain.specs.AdoptedLogs.{run_to, entry_in, entries_from}
use Rattle.dym_chain.proofs.Lawfuls.{heads, tails}
use Rattle.dym_chain.proofs.Stands.{none_of, packed_push, unwrapped, stood_same}

-- the place of a live chunk
place : (log : Logged) → IsRecorded log → (q : ℕ) → contains_key log.copy q ≡ true → LiesIn log.copy q
place log is q has =
    let fits = is.sized q (unwrap_or (get log.copy q) []) (sym (unwrapped (get log.copy q) has)) in
    lies_in log.copy q fits.0 fits.1 has

module _ (a b : Logged) (ok : IsRecorded a) (also : IsRecorded b) (same : packed a ≡ packed b) where
  says : SaysTheSame a b
  says = record_tells a b ok also same

  has_too : (q : ℕ) → contains_key a.copy q ≡ true → contains_key b.copy q ≡ true
  has_too q has =
      let at = place a ok q has in
      subst (λ k. contains_key b.copy k ≡ true) (sym at.is)
      (sym (says.handles at.k at.i at.within at.inside) ∙ ap (contains_key a.copy) (sym at.is) ∙ has)

  packs_too : (q : ℕ) → contains_key a.copy q ≡ true → packed_by a q ≡ packed_by b q
  packs_too q has =
      let at = place a ok q has in
      subst (λ k. packed_by a k ≡ packed_by b k) (sym at.is) (says.chunks at.k at.i at.within at.inside)

same_truth : (x y : Bool) → (x ≡ true → y ≡ true) → (y ≡ true → x ≡ true) → x ≡ y
same_truth true y to back = sym (to refl)
same_truth false true to back = back refl
same_truth false false to back = refl

both_none : (b : Bool) → cond {A = Option (List ℕ)} b None None ≡ None
both_none true = refl
both_none false = refl

packs_none : (log : Logged) (q : ℕ) → contains_key log.copy q ≡ false → packed_by log q ≡ None
packs_none log q gone =
    ap (λ o. cond (packs_by log.kind log.copy log.found q) o None) (none_of (get log.copy q) gone)
    ∙ both_none (packs_by log.kind log.copy log.found q)

-- what an incremental log packs is what it found touched
packs_found : (log : Logged) → IsRecorded log → log.kind ≡ Inc → (q : ℕ) → contains log.found q ≡ is_some (packed_by log q)
packs_found log is inc q =
    let packs : packs_by log.kind log.copy log.found q ≡ contains log.found q = ap (λ d. packs_by d log.copy log.found q) inc in
    ⊎_elim
    (λ here. here ∙ sym (ap is_some (cond-true (packs_by log.kind log.copy log.found q) (get log.copy q) None (packs ∙ here)) ∙ is.found_live q here))
    (λ gone. gone ∙ sym (ap is_some (cond-false (packs_by log.kind log.copy log.found q) (get log.copy q) None (packs ∙ gone))))
    (cases_Bool (contains log.found q))

module _ (a b : Logged) (ok : IsRecorded a) (also : IsRecorded b) (same : packed a ≡ packed b) where
  pub has_same : (q : ℕ) → contains_key a.copy q ≡ contains_key b.copy q
  has_same q = same_truth (contains_key a.copy q) (contains_key b.copy q) (has_too a b ok also same q) (has_too b a also ok (sym same) q)

  pub packs_same : (q : ℕ) → packed_by a q ≡ packed_by b q
  packs_same q =
      ⊎_elim
      (packs_too a b ok also same q)
      (λ gone. packs_none a q gone ∙ sym (packs_none b q (sym (has_same q) ∙ gone)))
      (cases_Bool (contains_key a.copy q))

  found_same : (kind : Kind) → a.kind ≡ kind → b.kind ≡ kind → found_by kind a.found ≡ found_by kind b.found
  found_same Full full fully = refl
  found_same Inc inc increments =
      set.same_set nat_cmp_total nat_cmp-IsAntisymmetric a.found b.found (λ q.
      packs_found a ok inc q ∙ ap is_some (packs_same q) ∙ sym (packs_found b also increments q))

  newest_next : (kind : Kind) (before others : List Logged) → ((q : ℕ) → newest_packed before q ≡ newest_packed others q) → (q : ℕ) → newest_packed (run_to kind before a) q ≡ newest_packed (run_to kind others b) q
  newest_next Full before others alike q = packs_same q
  newest_next Inc before others alike q =
      packed_push before a q
      ∙ (λ i. or_else (packs_same q i) (alike q i))
      ∙ sym (packed_push others b q)

  kind_same : a.kind ≡ b.kind
  kind_same = (record_tells a b ok also same).kind

  newest_run : (before others : List Logged) → ((q : ℕ) → newest_packed before q ≡ newest_packed others q) → (q : ℕ) → newest_packed (run_to a.kind before a) q ≡ newest_packed (run_to b.kind others b) q
  newest_run before others alike q = newest_next a.kind before others alike q ∙ ap (λ d. newest_packed (run_to d others b) q) kind_same

  entry_same : (n : ℕ) (before others : List Logged) → ((q : ℕ) → newest_packed before q ≡ newest_packed others q)
      → entry_in (depth_after n a.kind) (run_to a.kind before a) a ≡ entry_in (depth_after n b.kind) (run_to b.kind others b) b
  entry_same n before others alike =
      let copy = stood_same (run_to a.kind before a) (run_to b.kind others b) a.copy b.copy (newest_run before others alike) has_same in
      let found : found_by a.kind a.found ≡ found_by b.kind b.found = found_same a.kind refl (sym kind_same) ∙ ap (λ d. found_by d b.found) kind_same in
      λ i. record { time = (record_tells a b ok also same).time i; depth = depth_after n (kind_same i); copy = copy i; found = found i }

pub entries_same : (xs ys : List Logged) (n : ℕ) (before others : List Logged) → AllByRecursion IsRecorded xs → AllByRecursion IsRecorded ys → map packed xs ≡ map packed ys → ((q : ℕ) → newest_packed before q ≡ newest_packed others q)
    → entries_from n before xs ≡ entries_from n others ys
entries_same [] [] n before others oks alsos same alike = refl
entries_same [] (b ∷ ys) n before others oks alsos same alike = cc
entries_same (a ∷ xs) [] n before others oks alsos same alike = cc
entries_same (a ∷ xs) (b ∷ ys) n before others oks alsos same alike =
    let first : packed a ≡ packed b = heads (packed a) (packed b) (map packed xs) (map packed ys) same in
    let rest = entries_same xs ys (depth_after n a.kind) (run_to a.kind before a) (run_to b.kind others b) oks.1 alsos.1 (tails (packed a) (packed b) (map packed xs) (map packed ys) same)
    (newest_run a b oks.0 alsos.0 first before others alike) in
    let all : entries_from (depth_after n a.kind) (run_to a.kind before a) xs ≡ entries_from (depth_after n b.kind) (run_to b.kind others b) ys =
    rest ∙ ap (λ d. entries_from (depth_after n d) (run_to b.kind others b) ys) (kind_same a b oks.0 alsos.0 first) in
    λ i. entry_same a b oks.0 alsos.0 first n before others alike i ∷ all i
