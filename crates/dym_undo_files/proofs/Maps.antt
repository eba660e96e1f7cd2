-- Maps and sets of numbers, and heaps of which nothing is touched.
use Rattle.std.proofs.Common.{◌≡◌, ℕ, inl, inr, Bool, true, false, not, ◌&&◌, ◌==◌, is_some, Option, None, Some, List, [], unwrap_or}
use Rattle.std.proofs.Common.{refl, sym, ap, ◌∙◌, true≢false, eq-eqb}
use Rattle.std.proofs.lemmas.Bool.{cases_eq}
use Rattle.std.proofs.lemmas.Slice.Eq.{bytes_eq-Decides}
use Rattle.std.specs.Cmp.{nat_cmp_total}
use Rattle.std.specs.FinMap.{get, insert, same_map, nat_cmp-IsAntisymmetric}
use Rattle.std.specs.FinSet as set
use Rattle.std.specs.FinSet.{contains, contains-empty, same_set}
use Rattle.std.specs.Ordering.{nat_cmp}
use Rattle.dym_base.specs.Heaps.{Live, Touched, HeapState}
use Rattle.dym_base.specs.HeapStep.{without_chunk}
use Rattle.dym_base.proofs.Maps.{get_insert_here, get_insert_apart, get_remove_apart}
use Rattle.dym_heap.specs.Undo.{with_chunk_back}
use Rattle.dym_undo.specs.Passes.{TouchesNoMore}
use Rattle.dym_undo.specs.UndoLogs.{DiffersAt}
use Rattle.dym_undo_files.proofs.Lists.{contains_remove, and_right}
use Rattle.dym_undo_files.specs.TakenAgain.{has_bytes}

pub same_live : (a b : Live) → ((k : ℕ) → get a k ≡ get b k) → a ≡ b
same_live a b each = same_map nat_cmp_total nat_cmp-IsAntisymmetric a b each

pub same_touched : (a b : Touched) → ((k : ℕ) → contains a k ≡ contains b k) → a ≡ b
same_touched a b each = same_set nat_cmp_total nat_cmp-IsAntisymmetric a b each

pub none_there : (o : Option (List ℕ)) → is_some o ≡ false → o ≡ None
none_there None h = refl
none_there (Some x) h = absurd (true≢false h)

pub some_there : (o : Option (List ℕ)) → is_some o ≡ true → o ≡ Some (unwrap_or o [])
some_there None h = absurd (true≢false (sym h))
some_there (Some x) h = refl

-- a chunk that has bytes is live with them
pub has_same : (o : Option (List ℕ)) (bytes : List ℕ) → has_bytes o bytes ≡ true → o ≡ Some bytes
has_same None bytes h = absurd (true≢false (sym h))
has_same (Some old) bytes h = ap Some ((bytes_eq-Decides old bytes).0 h)

-- taking a chunk away, or putting it back, touches nothing
pub still_none : (t : Touched) (k : ℕ) → t ≡ set.empty → set.remove t k ≡ set.empty
still_none t k none =
    same_touched (set.remove t k) set.empty (λ q.
    contains_remove t k q ∙ ap (λ (x : Touched). not (q == k) && contains x q) none
    ∙ ap (λ b. not (q == k) && b) (contains-empty nat_cmp q) ∙ and_false (not (q == k)) ∙ sym (contains-empty nat_cmp q))
  where
    and_false : (b : Bool) → (b && false) ≡ false
    and_false true = refl
    and_false false = refl

pub differs_away : (s : HeapState) (k : ℕ) → DiffersAt k s (without_chunk s k)
differs_away s k = record {
  live = λ q apart. get_remove_apart s.live k q (λ same. true≢false (sym (eq-eqb q k same) ∙ apart));
  touched = λ q apart has. and_right _ _ (sym (contains_remove s.touched k q) ∙ has);
}

pub differs_back : (s : HeapState) (k : ℕ) (bytes : List ℕ) → DiffersAt k s (with_chunk_back s k bytes)
differs_back s k bytes = record {
  live = λ q apart. get_insert_apart s.live k bytes q (λ same. true≢false (sym (eq-eqb q k same) ∙ apart));
  touched = λ q apart has. and_right _ _ (sym (contains_remove s.touched k q) ∙ has);
}

-- a chunk that is put back as it is changes nothing
pub insert_same : (m : Live) (k : ℕ) (bytes : List ℕ) → get m k ≡ Some bytes → m ≡ insert m k bytes
insert_same m k bytes is =
    same_live m (insert m k bytes) (λ q. elim (cases_eq q k) as (λ _. get m q ≡ get (insert m k bytes) q) [
      | inl e ↦ ap (get m) e ∙ is ∙ sym (get_insert_here m k bytes q e)
      | inr ne ↦ sym (get_insert_apart m k bytes q ne)
    ])

-- where nothing was touched, nothing more is
pub touches_none : (s t : HeapState) → s.touched ≡ set.empty → TouchesNoMore s t → t.touched ≡ set.empty
touches_none s t none less =
    same_touched t.touched set.empty (λ q. by q (contains t.touched q) refl ∙ sym (contains-empty nat_cmp q))
  where
    by : (q : ℕ) (b : Bool) → contains t.touched q ≡ b → contains t.touched q ≡ false
    by q true e = absurd (true≢false (sym (less q e) ∙ ap (λ (x : Touched). contains x q) none ∙ contains-empty nat_cmp q))
    by q false e = e
