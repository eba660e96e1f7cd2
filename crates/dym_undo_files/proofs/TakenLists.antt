-- Logs that are taken again one after the other.
use Rattle.std.proofs.Common.{◌≡◌, ℕ, Bool, true, false, not, ◌&&◌, Option, None, Some, List, [], ◌∷◌, ◌++◌, map, unwrap_or}
use Rattle.std.proofs.Common.{refl, sym, ap, ap₂, subst, ◌∙◌, arith, append-nil, append_assoc, length-append, true≢false}
use Rattle.std.specs.FinMap.{get, contains_key}
use Rattle.dym_base.specs.BaseLogs.{oldest_depth}
use Rattle.dym_base.specs.Heaps.{Live, HeapState}
use Rattle.dym_base.specs.Objects.{LogEntry, ObjectState, newest, new_entry, log, empty_heap}
use Rattle.dym_base.specs.Origins.{own}
use Rattle.dym_base.specs.declared.command.Kind.TheVariants.{Inc}
use Rattle.dym_base.specs.declared.command.Version.{Version}
use Rattle.dym_heap.specs.Meaning.{HeapMeaning, IsSound}
use Rattle.dym_chain.specs.Answers.{IsLogged}
use Rattle.dym_chain.specs.Chains.{ChainMeaning, Belongs, KeepsUntouched, KeepsFromNewest, object_of, logged}
use Rattle.dym_ckpt.specs.FileReads.{heap_at}
use Rattle.dym_undo_files.specs.Laws.{brought_by}
use Rattle.dym_undo_files.specs.TakenAgain.{is_same, differing, live_in, changed_to, taken_behind, taken_again}
use Rattle.dym_undo_files.specs.TakenChains.{AreTaken, IsHeapOf}
use Rattle.dym_undo_files.proofs.Maps.{has_same, some_there}
use Rattle.dym_undo_files.proofs.Logging.{log_taken, newest_push}
use Rattle.dym_undo_files.proofs.Differing.{contains-differing}

abbrev pub again : List LogEntry → LogEntry → LogEntry
again done e = new_entry (changed_to done e.copy) e.time Inc

behind_push : (done logs : List LogEntry) (e : LogEntry) → taken_behind done (logs ++ e ∷ []) ≡ taken_behind done logs ++ again (taken_behind done logs) e ∷ []
behind_push done [] e = refl
behind_push done (f ∷ logs) e = behind_push (done ++ again done f ∷ []) logs e

pub taken_push : (logs : List LogEntry) (e : LogEntry) → taken_again (logs ++ e ∷ []) ≡ taken_again logs ++ again (taken_again logs) e ∷ []
taken_push logs e = behind_push [] logs e

-- ---- what stays

map_append : {A B : Type 0} (f : A → B) (xs ys : List A) → map f (xs ++ ys) ≡ map f xs ++ map f ys
map_append f [] ys = refl
map_append f (x ∷ xs) ys = ap (λ l. f x ∷ l) (map_append f xs ys)

behind_brings : (done logs : List LogEntry) → map brought_by (taken_behind done logs) ≡ map brought_by done ++ map brought_by logs
behind_brings done [] = sym (append-nil (map brought_by done))
behind_brings done (e ∷ es) =
    behind_brings (done ++ again done e ∷ []) es
    ∙ ap (λ l. l ++ map brought_by es) (map_append brought_by done (again done e ∷ []))
    ∙ append_assoc (map brought_by done) (brought_by e ∷ []) (map brought_by es)

pub taken_brings : (logs : List LogEntry) → map brought_by (taken_again logs) ≡ map brought_by logs
taken_brings logs = behind_brings [] logs

behind_full : (f : LogEntry) (done logs : List LogEntry) → oldest_depth (taken_behind (f ∷ done) logs) ≡ f.depth
behind_full f done [] = refl
behind_full f done (e ∷ es) = behind_full f (done ++ again (f ∷ done) e ∷ []) es

pub taken_full : (logs : List LogEntry) → oldest_depth (taken_again logs) ≡ 0
taken_full [] = refl
taken_full (e ∷ es) = behind_full (again [] e) [] es

-- ---- the chain belongs to a heap in which what differs from the newest copy is touched

not_true : (a b : Bool) → a ≡ true → (a && not b) ≡ false → b ≡ true
not_true true true h e = refl
not_true true false h e = sym e
not_true false b h e = absurd (true≢false (sym h))

keeps_differing : (before copy : Live) → KeepsUntouched copy (differing before copy) before
keeps_differing before copy k has untouched =
    let same = not_true (contains_key copy k) (is_same before copy k) has (sym (contains-differing before copy k) ∙ untouched) in
    has_same (get before k) (unwrap_or (get copy k) []) same ∙ sym (some_there (get copy k) has)

pub belongs_differing : (v : Version) (quota : ℕ) (s : HeapState) (before copy : Live) (c : ChainMeaning) → before ≡ live_in (newest c.logs) → Belongs v quota s c
    → Belongs v quota (record { live = copy; touched = differing before copy }) c
belongs_differing v quota s before copy c is belongs = record {
  records = belongs.records;
  untouched = by (newest c.logs) refl;
  keeps = belongs.keeps;
  within = belongs.within;
}
  where
    by : (o : Option LogEntry) → newest c.logs ≡ o → KeepsFromNewest (record { live = copy; touched = differing before copy }) o
    by None e = tt
    by (Some f) e = subst (KeepsUntouched copy (differing before copy)) (is ∙ ap live_in e) (keeps_differing before copy)

-- ---- a log that is taken again

module _ (b n n1 : HeapMeaning) (c : ChainMeaning) (logs : List LogEntry) (taken : AreTaken b.version b.quota logs b c) (of : IsHeapOf b.version b.quota n)
    (touched : n1 ≡ record n { state = record { live = n.state.live; touched = differing b.state.live n.state.live } }) where
  of1 : (n1.version ≡ b.version) × (n1.quota ≡ b.quota)
  of1 = (ap (λ (h : HeapMeaning). h.version) touched ∙ of.version_is, ap (λ (h : HeapMeaning). h.quota) touched ∙ of.quota_is)

  pub to_log : Belongs n1.version n1.quota n1.state c
  to_log =
      subst (λ (s : HeapState). Belongs n1.version n1.quota s c) (sym (ap (λ (h : HeapMeaning). h.state) touched))
      (subst (λ (v : Version). Belongs v n1.quota (record { live = n.state.live; touched = differing b.state.live n.state.live }) c) (sym of1.0)
      (subst (λ q. Belongs b.version q (record { live = n.state.live; touched = differing b.state.live n.state.live }) c) (sym of1.1)
      (belongs_differing b.version b.quota b.state b.state.live n.state.live c taken.live taken.belongs)))

  module _ (e : LogEntry) (is : n.state ≡ heap_at (Some e)) where
    state_is : n1.state ≡ (changed_to c.logs e.copy).heap
    state_is =
        ap (λ (h : HeapMeaning). h.state) touched
        ∙ ap₂ (λ (x y : Live). record { live = y; touched = differing x y }) taken.live (ap (λ (s : HeapState). s.live) is)

    entry_is : new_entry (object_of n1.state c) e.time Inc ≡ again c.logs e
    entry_is = ap (λ (s : HeapState). new_entry (record { heap = s; logs = c.logs }) e.time Inc) state_is

    pub logged_again : (n2 : HeapMeaning) (d : ChainMeaning) → n2 ≡ record n1 { state = n2.state } → IsSound n2 → d ≡ logged n1.version
        (new_entry (object_of n1.state c) e.time Inc) c
        → IsLogged (log n1.version (object_of n1.state c) e.time Inc).reply → object_of n2.state d ≡ (log n1.version (object_of n1.state c) e.time Inc).object
        → Belongs n2.version n2.quota n2.state d → AreTaken b.version b.quota (logs ++ e ∷ []) n2 d
    logged_again n2 d same sound put reply after belongs =
        let version = ap (λ (h : HeapMeaning). h.version) same ∙ of1.0 in
        let quota = ap (λ (h : HeapMeaning). h.quota) same ∙ of1.1 in
        let lives : n2.state.live ≡ e.copy
        = ap (λ (o : ObjectState). o.heap.live) (after ∙ log_taken n1.version (object_of n1.state c) e.time Inc reply) ∙ ap (λ (s : HeapState). s.live) state_is in
        let lists : d.logs ≡ c.logs ++ again c.logs e ∷ [] = ap (λ (x : ChainMeaning). x.logs) put ∙ ap (λ (x : LogEntry). c.logs ++ x ∷ []) entry_is in
        record {
          heap = record { version_is = version; quota_is = quota; sound = sound };
          live = lives ∙ sym (ap live_in (ap newest lists ∙ newest_push c.logs (again c.logs e)));
          taken = lists ∙ ap (λ (l : List LogEntry). l ++ again l e ∷ []) taken.taken ∙ sym (taken_push logs e);
          base = ap (λ (x : ChainMeaning). x.base_logs) put ∙ taken.base;
          idle = ap (λ (x : ChainMeaning). x.lifted) put ∙ taken.idle;
          count = omega (arith, ap (λ (x : ChainMeaning). x.made) put, taken.count, length-append logs (e ∷ []));
          belongs = subst (λ (v : Version). Belongs v b.quota n2.state d) version (subst (λ q. Belongs n2.version q n2.state d) quota belongs);
        }

-- before the first one
pub taken_none : (v : Version) (quota : ℕ) (h : HeapMeaning) (c : ChainMeaning) → IsHeapOf v quota h → h.state ≡ empty_heap
    → c ≡ record { base_logs = []; logs = []; records = []; made = 0; lifted = None; origin = own } → AreTaken v quota [] h c
taken_none v quota h c of empty is = record {
  heap = of;
  live = ap (λ (s : HeapState). s.live) empty ∙ sym (ap (λ (x : ChainMeaning). live_in (newest x.logs)) is);
  taken = ap (λ (x : ChainMeaning). x.logs) is;
  base = ap (λ (x : ChainMeaning). x.base_logs) is;
  idle = ap (λ (x : ChainMeaning). x.lifted) is;
  count = omega (arith, ap (λ (x : ChainMeaning). x.made) is);
  belongs = subst (Belongs v quota h.state) (sym is) (record { records = refl; untouched = tt; keeps = tt; within = tt });
}

pub taken_as : (v w : Version) (quota q : ℕ) (logs : List LogEntry) (h : HeapMeaning) (c : ChainMeaning) → v ≡ w → quota ≡ q → AreTaken v quota logs h c
    → AreTaken w q logs h c
taken_as v w quota q logs h c version quota_is taken = subst (λ (x : Version). AreTaken x q logs h c) version (subst (λ n. AreTaken v n logs h c) quota_is taken)

pub heap_as : (v w : Version) (quota q : ℕ) (h : HeapMeaning) → v ≡ w → quota ≡ q → IsHeapOf v quota h → IsHeapOf w q h
heap_as v w quota q h version quota_is of = subst (λ (x : Version). IsHeapOf x q h) version (subst (λ n. IsHeapOf v n h) quota_is of)
