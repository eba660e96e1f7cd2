-- The newest log, restored.
use Rattle.std.proofs.Common.{◌≡◌, ℕ, ◌+◌, ◌≤◌, cond, nat_le, Option, Some, None, is_some, option_map, List, [], ◌∷◌, ◌++◌, length, map, take, refl, sym, ap, subst, ◌∙◌, arith}
use Rattle.std.specs.List.{AllByRecursion}
use Rattle.std.specs.FinMap.{get-empty}
use Rattle.std.specs.Ordering.{nat_cmp}
use Rattle.std.proofs.Math.Seq.{take-length}
use Rattle.std.proofs.lemmas.Bool.{le-leb, true≢false}
use Rattle.std.proofs.lemmas.List.Sums.{sum_by-cons}
use Rattle.std.proofs.lemmas.Option.{same_Some}
use Rattle.dym_base.specs.Heaps.{HeapState}
use Rattle.dym_base.specs.Objects.{LogEntry, ObjectState, newest, reached, restore, restore_to, record_of, empty_heap}
use Rattle.dym_base.specs.RunLaws.{EachFollows}
use Rattle.dym_base.specs.declared.command.Version.{Version}
use Rattle.dym_chain.specs.Chains.{ChainMeaning, KeepsFromNewest, Belongs, all_logs}
use Rattle.dym_base.specs.LawfulLists.{IsRecordOf}
use Rattle.dym_heap.specs.Meaning.{HeapMeaning}
use Rattle.dym_base.specs.Origins.{Origin, own}
use Rattle.dym_slots.specs.Meanings.{Numbered, KeepMeaning}
use Rattle.std.proofs.lemmas.List.{length-map}
use Rattle.dym_chain.specs.AdoptedLogs.{AreEntriesOf, BelongsByRecords}
use Rattle.dym_chain.specs.Keeps.{bytes_of}
use Rattle.dym_ckpt.specs.FileReads.{heap_at}

all_before : (e : LogEntry) (logs : List LogEntry) (n : LogEntry) → EachFollows (e ∷ logs) → newest (e ∷ logs) ≡ Some n → AllByRecursion (λ (x : LogEntry). x.time ≤ n.time) (e ∷ logs)
all_before e [] n each is = (omega (arith, ap (λ (x : LogEntry). x.time) (same_Some e n is)), tt)
all_before e (f ∷ logs) n each is =
    let rest = all_before f logs n each.1 is in
    (omega (arith, each.0.0, rest.0), rest)

all_reached : (t : ℕ) (logs : List LogEntry) → AllByRecursion (λ (x : LogEntry). x.time ≤ t) logs → reached t logs ≡ length logs
all_reached t [] all = refl
all_reached t (e ∷ logs) all =
    sum_by-cons (λ (f : LogEntry). cond (nat_le f.time t) 1 0) e logs
    ∙ ap (λ b. cond b 1 0 + reached t logs) (le-leb e.time t all.0)
    ∙ (let rest = all_reached t logs all.1 in omega arith)

pub restored_newest : (s : HeapState) (logs : List LogEntry) (t : ℕ) → EachFollows logs → Some t ≡ option_map (λ (e : LogEntry). e.time) (newest logs) → (restore (record { heap = s; logs = logs }) t).object ≡ record { heap = heap_at (newest logs); logs = logs }
restored_newest s [] t each is = absurd (none is)
  where
    none : Some t ≡ None → ⊥
    none same = true≢false (ap is_some same)
restored_newest s (e ∷ logs) t each is =
    let x : ObjectState = record { heap = s; logs = e ∷ logs } in
    elim (newest (e ∷ logs)) as (λ n. newest (e ∷ logs) ≡ n → Some t ≡ option_map (λ (e : LogEntry). e.time) n → (restore x t).object ≡ record { heap = heap_at n; logs = e ∷ logs }) [
      | Some n ↦ λ last at.
          let time : t ≡ n.time = same_Some t n.time at in
          let all = all_reached t (e ∷ logs) (subst (λ m. AllByRecursion (λ (x : LogEntry). x.time ≤ m) (e ∷ logs)) (sym time) (all_before e logs n each last)) in
          let whole : take (reached t (e ∷ logs)) (e ∷ logs) ≡ e ∷ logs = ap (λ m. take m (e ∷ logs)) all ∙ take-length (e ∷ logs) in
          ap (λ (ls : List LogEntry). (restore_to x ls (newest ls)).object) whole
          ∙ ap (λ (o : Option LogEntry). (restore_to x (e ∷ logs) o).object) last
      | None ↦ λ last at. absurd (true≢false (ap is_some at))
    ] refl is

-- the chain after it is the one before, but for the numbers of its records
pub same_chain : (c d : ChainMeaning) → d ≡ record c { logs = d.logs; records = d.records } → d.logs ≡ c.logs → d ≡ record c { records = d.records }
same_chain c d is logs = is ∙ ap (λ (ls : List LogEntry). record c { logs = ls; records = d.records }) logs

-- the records after it are those before
pub same_records : (v w : Version) (quota : ℕ) (s t : HeapState) (c d : ChainMeaning) → Belongs v quota s c → Belongs w quota t d → w ≡ v → d.base_logs ≡ c.base_logs → d.logs ≡ c.logs → bytes_of d.records ≡ bytes_of c.records
same_records v w quota s t c d before after versions base_logs logs =
    after.records
    ∙ ap (λ x. map (record_of x) (all_logs d)) versions
    ∙ ap (λ (b : List LogEntry). map (record_of v) (b ++ d.logs)) base_logs
    ∙ ap (λ (l : List LogEntry). map (record_of v) (c.base_logs ++ l)) logs
    ∙ sym before.records

-- of an empty heap nothing is to be kept
pub empty_keeps : (newest : Option LogEntry) → KeepsFromNewest empty_heap newest
empty_keeps None = tt
empty_keeps (Some e) = λ k has untouched. absurd (true≢false (sym has ∙ ap is_some (get-empty nat_cmp k)))

-- an empty heap and a chain that was made of records belong together
pub first_belongs : (h : HeapMeaning) (c : ChainMeaning) (v : Version) (quota : ℕ) (records : List (List ℕ)) → h.version ≡ v → h.quota ≡ quota → h.state ≡ empty_heap → bytes_of c.records ≡ records → AllByRecursion (IsRecordOf v quota) records → BelongsByRecords c → Belongs h.version h.quota h.state c
first_belongs h c v quota records versions quotas state are each belongs =
    let empty = belongs v quota empty_heap (subst (AllByRecursion (IsRecordOf v quota)) (sym are) each) (empty_keeps (newest c.logs)) in
    subst (λ x. Belongs x h.quota h.state c) (sym versions)
    (subst (λ x. Belongs v x h.state c) (sym quotas)
    (subst (λ (x : HeapState). Belongs v quota x c) (sym state) empty))

pub entries_again : (d : ℕ) (rs qs : List (List ℕ)) (base_logs kept other more : List LogEntry) → AreEntriesOf d rs base_logs kept → qs ≡ rs → other ≡ base_logs → more ≡ kept → AreEntriesOf d qs other more
entries_again d rs qs base_logs kept other more entries records belows logs v read is are =
    let said = entries v read is (are ∙ records) in
    (belows ∙ said.0, logs ∙ said.1)

-- the chain and the heap at the end
pub loaded_chain : (c d : ChainMeaning) (keep record_list : KeepMeaning) → d ≡ record c { records = d.records } → c.made ≡ keep.made → c.lifted ≡ keep.lifted → c.origin ≡ keep.origin → keep ≡ record_list → record_list.made ≡ length record_list.records → record_list.lifted ≡ None → record_list.origin ≡ own
    → d ≡ record d { made = length (bytes_of record_list.records); lifted = None; origin = own }
loaded_chain c d keep record_list after made lifted origin is counted idle own_room =
    let made_is : d.made ≡ length (bytes_of record_list.records)
    = ap (λ (x : ChainMeaning). x.made) after ∙ made ∙ ap (λ (k : KeepMeaning). k.made) is ∙ counted ∙ sym (length-map record_list.records (λ (r : Numbered). r.bytes)) in
    let lifted_is : d.lifted ≡ None = ap (λ (x : ChainMeaning). x.lifted) after ∙ lifted ∙ ap (λ (k : KeepMeaning). k.lifted) is ∙ idle in
    let origin_is : d.origin ≡ own = ap (λ (x : ChainMeaning). x.origin) after ∙ origin ∙ ap (λ (k : KeepMeaning). k.origin) is ∙ own_room in
    ap (λ n. record d { made = n }) made_is
    ∙ ap (λ l. record d { made = length (bytes_of record_list.records); lifted = l }) lifted_is
    ∙ ap (λ o. record d { made = length (bytes_of record_list.records); lifted = None; origin = o }) origin_is

pub loaded_heap : (h g : HeapMeaning) (v : Version) (quota q : ℕ) (o : Origin) (logs now : List LogEntry) → h ≡ record { version = v; quota = q; state = empty_heap; held_ids = []; origin = o; applied = 0 } → q ≡ quota
    → g ≡ record h { state = g.state; held_ids = g.held_ids } → g.state ≡ heap_at (newest logs) → now ≡ logs
    → g ≡ record { version = v; quota = quota; state = heap_at (newest now); held_ids = g.held_ids; origin = g.origin; applied = 0 }
loaded_heap h g v quota q o logs now opened quotas after state same =
    let opened_as : g ≡ record { version = v; quota = q; state = g.state; held_ids = g.held_ids; origin = o; applied = 0 }
    = after ∙ ap (λ (x : HeapMeaning). record x { state = g.state; held_ids = g.held_ids }) opened in
    let state_is : g.state ≡ heap_at (newest now) = state ∙ ap (λ (ls : List LogEntry). heap_at (newest ls)) (sym same) in
    opened_as
    ∙ ap (λ (s : HeapState). record { version = v; quota = q; state = s; held_ids = g.held_ids; origin = o; applied = 0 }) state_is
    ∙ ap (λ (n : ℕ). record { version = v; quota = n; state = heap_at (newest now); held_ids = g.held_ids; origin = o; applied = 0 }) quotas
    ∙ ap (λ (x : Origin). record { version = v; quota = quota; state = heap_at (newest now); held_ids = g.held_ids; origin = x; applied = 0 }) (sym (ap (λ (x : HeapMeaning). x.origin) opened_as))
