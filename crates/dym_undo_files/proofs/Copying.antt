-- A heap that gets what a full record of another packs.
use Rattle.std.proofs.Common.{◌≡◌, ℕ, ◌≤◌, ◌⊎◌, inl, inr, true, false, cond, is_some, Option, None, Some, List, refl, sym, ap, subst}
use Rattle.std.proofs.Common.{◌∙◌, arith, true≢false}
use Rattle.std.proofs.lemmas.Bool.{cases_Bool, cond-true, cond-false}
use Rattle.std.specs.FinMap.{get, contains_key}
use Rattle.std.specs.FinSet as set
use Rattle.std.specs.FinSet.{contains, contains-empty}
use Rattle.std.specs.Ordering.{nat_cmp}
use Rattle.dym_base.specs.Heaps.{Live, Touched, HeapState, held}
use Rattle.dym_base.specs.Packed.{Logged, packed}
use Rattle.dym_base.specs.Recorded.{IsRecorded}
use Rattle.dym_base.specs.StandsFor.{packed_by, or_else}
use Rattle.dym_base.specs.declared.command.Kind.TheVariants.{Full}
use Rattle.dym_base.specs.declared.command.Version.{Version}
use Rattle.dym_pack.specs.Areas.{IsPackable, logged}
use Rattle.dym_pack.specs.ParsedAreas.{OfLog}
use Rattle.dym_heap.specs.Meaning.{HeapMeaning, IsSound}
use Rattle.dym_heap.specs.RecordLoads.{areas_of, HaveOneSetOfHandles, IsLoaded}
use Rattle.dym_chain.proofs.Lawfuls.{version_same, held_same}
use Rattle.dym_undo.specs.UndoLogs.{UndoMeaning, Belongs}
use Rattle.dym_undo_files.specs.TakenChains.{IsHeapOf}
use Rattle.dym_undo_files.proofs.Maps.{same_live, none_there}

pub nothing_touched : (k : ℕ) → contains (set.empty {R = nat_cmp}) k ≡ true → ⊥
nothing_touched k is = true≢false (sym is ∙ contains-empty nat_cmp k)

-- whichever log has these bytes, it has the version and the segments of the log that was packed
pub of_version : (a : Logged) (v : Version) → a.version ≡ v → OfLog (packed a) (λ log. log.version ≡ v)
of_version a v is log recorded same = version_same log a same ∙ is

pub of_within : (a : Logged) (quota : ℕ) → IsRecorded a → held a.copy ≤ quota → OfLog (packed a) (λ log. held log.copy ≤ quota)
of_within a quota ok le log recorded same = omega (arith, held_same log a recorded ok same, le)

pub whole_recorded : (h : HeapMeaning) → IsPackable (areas_of h) → IsRecorded (logged (areas_of h) Full 0)
whole_recorded h p = record {
  sized = p.sized;
  found_live = λ k is. absurd (nothing_touched k is);
  few = p.few;
  time = omega arith;
}

-- a full record that is loaded gives the copy of its log
pub loaded_whole : (a : Logged) (mid new : Live) → a.kind ≡ Full → HaveOneSetOfHandles mid a.copy → IsLoaded a mid new → new ≡ a.copy
loaded_whole a mid new full handles loaded = same_live new a.copy (λ q. loaded q ∙ by q (cases_Bool (contains_key mid q)))
  where
    there : (q : ℕ) → contains_key a.copy q ≡ true → packed_by a q ≡ get a.copy q
    there q has = cond-true _ (get a.copy q) None (ap (λ kind. Rattle.dym_base.specs.Packed.packs_by kind a.copy a.found q) full ∙ has)

    first : (o p : Option (List ℕ)) → is_some o ≡ true → or_else o p ≡ o
    first None p h = absurd (true≢false (sym h))
    first (Some x) p h = refl

    by : (q : ℕ) → (contains_key mid q ≡ true) ⊎ (contains_key mid q ≡ false) → cond (contains_key mid q) (or_else (packed_by a q) (get mid q)) None ≡ get a.copy q
    by q (inl has) =
        let used : contains_key a.copy q ≡ true = sym (handles q) ∙ has in
        cond-true _ _ _ has ∙ ap (λ o. or_else o (get mid q)) (there q used) ∙ first (get a.copy q) (get mid q) used
    by q (inr gone) = cond-false _ _ _ gone ∙ sym (none_there (get a.copy q) (sym (handles q) ∙ gone))

-- ---- heaps and undo logs

pub belongs_untouched : (v : Version) (quota : ℕ) (s t : HeapState) (u : UndoMeaning) → t.live ≡ s.live → t.touched ≡ set.empty → Belongs v quota s u
    → Belongs v quota t u
belongs_untouched v quota s t u lives none belongs = record {
  quota_same = belongs.quota_same;
  copies = subst (λ (l : Live). Rattle.dym_undo.specs.UndoLogs.AreCopies l u.changes u.places u.logs) (sym lives) belongs.copies;
  noted = λ some k is. absurd (nothing_touched k (ap (λ (x : Touched). contains x k) (sym none) ∙ is));
  fitting = belongs.fitting;
}

pub heap_of : (v : Version) (quota : ℕ) (a b : HeapMeaning) → IsHeapOf v quota a → IsSound b → b ≡ record a { state = b.state; held_ids = b.held_ids }
    → IsHeapOf v quota b
heap_of v quota a b is sound rest = record {
  version_is = ap (λ (h : HeapMeaning). h.version) rest ∙ is.version_is;
  quota_is = ap (λ (h : HeapMeaning). h.quota) rest ∙ is.quota_is;
  sound = sound;
}
