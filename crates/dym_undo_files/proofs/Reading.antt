-- Records that are read one after the other.
use Rattle.std.proofs.Common.{length-append, ◌≡◌, ℕ, zero, suc, ◌+◌, ◌-◌, ◌<◌, ◌≤◌, ◌⊎◌, inl, inr, Bool, true, false, not, cond, ◌&&◌, ◌==◌, nat_le, is_some}
use Rattle.std.proofs.Common.{Option, None, Some, option_map, List, [], ◌∷◌, ◌++◌, length, map, take, drop, refl, sym, ap, ap₂, subst, ◌∙◌}
use Rattle.std.proofs.Common.{arith, true≢false, eqb-true}
use Rattle.std.proofs.lemmas.Bool.{cases_Bool, cond-true, cond-false, eqb-false, le-leb}
use Rattle.std.proofs.lemmas.List.{length-map, length-drop, get_or-drop}
use Rattle.std.proofs.lemmas.List.Sums.{sum_by-cons}
use Rattle.std.proofs.lemmas.Option.{same_Some, none-some}
use Rattle.std.specs.List.{AllByRecursion}
use Rattle.std.specs.FinMap.{get, contains_key}
use Rattle.std.specs.FinSet as set
use Rattle.std.specs.FinSet.{contains, contains-empty}
use Rattle.std.specs.Ordering.{nat_cmp}
use Rattle.dym_base.specs.BaseLogs.{oldest_depth}
use Rattle.dym_base.specs.Heaps.{Live, HeapState}
use Rattle.dym_base.specs.Objects.{LogEntry, newest, reached, kind_of, record_of, next_depth, new_entry}
use Rattle.dym_base.specs.Packed.{packs_by}
use Rattle.dym_base.specs.RunLaws.{EachFollows, Follows}
use Rattle.dym_base.specs.StandsFor.{packed_by, or_else}
use Rattle.dym_base.specs.declared.command.Kind.{Kind}
use Rattle.dym_base.specs.declared.command.Kind.TheVariants.{Full, Inc}
use Rattle.dym_base.specs.declared.command.Version.{Version}
use Rattle.dym_heap.specs.Fetches.{heap_chunk, is_unmodified, IsReshaped}
use Rattle.dym_heap.specs.RecordLoads.{IsLoaded}
use Rattle.dym_slots.specs.Meanings.{Numbered, record_at}
use Rattle.dym_heap.specs.Meaning.{HeapMeaning}
use Rattle.dym_chain.specs.Chains.{ChainMeaning, EachKeeps, all_logs}
use Rattle.dym_chain.specs.Keeps.{bytes_of}
use Rattle.dym_chain.specs.Lawful.{logged_of}
use Rattle.dym_chain.proofs.Lawfuls.{heads, tails}
use Rattle.dym_ckpt.specs.FileReads.{heap_at}
use Rattle.dym_undo.specs.Changes.{Change}
use Rattle.dym_undo.specs.UndoLogs.{UndoMeaning, Belongs, AreCopies, log_at, no_entry, unfound}
use Rattle.dym_undo_files.specs.RecordedLogs.{IsReadable, AreBrought, StandsOn}
use Rattle.dym_undo_files.proofs.Logging.{found_nothing}
use Rattle.dym_undo_files.proofs.Maps.{same_live, none_there}

-- ---- one record

module _ (v : Version) (e : LogEntry) (before : Option LogEntry) (old mid new : HeapState) (stands : StandsOn before e) (is : old ≡ heap_at before)
    (shaped : (k : ℕ) → IsReshaped (contains_key e.copy k) (heap_chunk old k) (heap_chunk mid k)) (loaded : IsLoaded (logged_of v e) mid.live new.live) where
  abbrev packs : ℕ → Bool
  packs q = packs_by (kind_of e) e.copy e.found q

  first : (o p : Option (List ℕ)) → is_some o ≡ true → or_else o p ≡ o
  first None p h = absurd (true≢false (sym h))
  first (Some x) p h = refl

  -- a chunk that an incremental log doesn't pack is as it was
  was : (q : ℕ) (b : Bool) → (e.depth == 0) ≡ b → contains_key e.copy q ≡ true → packs q ≡ false → (o : Option LogEntry) → before ≡ o → get old.live q ≡ get e.copy q
  was q true full has free o there = absurd (true≢false (sym has ∙ ap (λ b. packs_by (cond b Full Inc) e.copy e.found q) (sym full) ∙ free))
  was q false inc has free None there = absurd (true≢false (sym (ap (λ n. n == 0) (subst (λ o. StandsOn o e) there stands)) ∙ inc))
  was q false inc has free (Some b) there =
      let quiet : contains e.found q ≡ false = ap (λ b. packs_by (cond b Full Inc) e.copy e.found q) (sym inc) ∙ free in
      ap (λ (s : HeapState). get s.live q) (is ∙ ap heap_at there)
      ∙ subst (λ o. StandsOn o e) there stands (omega (arith, eqb-false e.depth 0 inc)) q has quiet

  untouched : (q : ℕ) (o : Option LogEntry) → before ≡ o → contains old.touched q ≡ false
  untouched q None there = ap (λ (s : HeapState). contains s.touched q) (is ∙ ap heap_at there) ∙ contains-empty nat_cmp q
  untouched q (Some b) there = ap (λ (s : HeapState). contains s.touched q) (is ∙ ap heap_at there) ∙ contains-empty nat_cmp q

  stays : (q : ℕ) → contains_key e.copy q ≡ true → get old.live q ≡ get e.copy q → get mid.live q ≡ get e.copy q
  stays q has same =
      let unmodified : is_unmodified (heap_chunk old q) ≡ true = ap₂ (λ (a b : Bool). a && not b) (ap is_some same ∙ has) (untouched q before refl) in
      let quiet : contains mid.touched q ≡ false = (shaped q).wanted ∙ ap₂ (λ (a b : Bool). a && not b) has unmodified in
      (shaped q).kept has quiet ∙ same

  pub record_brought : new.live ≡ e.copy
  record_brought = same_live new.live e.copy (λ q. loaded q ∙ by q (cases_Bool (contains_key e.copy q)) (cases_Bool (packs q)))
    where
      by : (q : ℕ) → (contains_key e.copy q ≡ true) ⊎ (contains_key e.copy q ≡ false) → (packs q ≡ true) ⊎ (packs q ≡ false)
          → cond (contains_key mid.live q) (or_else (packed_by (logged_of v e) q) (get mid.live q)) None ≡ get e.copy q
      by q (inl has) (inl packed) =
          cond-true _ _ _ ((shaped q).used ∙ has) ∙ ap (λ o. or_else o (get mid.live q)) (cond-true (packs q) (get e.copy q) None packed) ∙ first (get e.copy q)
          (get mid.live q) has
      by q (inl has) (inr free) =
          cond-true _ _ _ ((shaped q).used ∙ has) ∙ ap (λ o. or_else o (get mid.live q)) (cond-false (packs q) (get e.copy q) None free)
          ∙ stays q has (was q (e.depth == 0) refl has free before refl)
      by q (inr gone) _ = cond-false _ _ _ ((shaped q).used ∙ gone) ∙ sym (none_there (get e.copy q) gone)

-- ---- the records of logs

pub record_bytes : (v : Version) (records : List Numbered) (logs : List LogEntry) (n : ℕ) → bytes_of records ≡ map (record_of v) logs → n < length logs
    → (record_at records n).bytes ≡ record_of v (log_at logs n)
record_bytes v records [] n are lt = absurd (omega arith)
record_bytes v [] (e ∷ es) n are lt = absurd cc
record_bytes v (r ∷ rs) (e ∷ es) zero are lt = heads r.bytes (record_of v e) (bytes_of rs) (map (record_of v) es) are
record_bytes v (r ∷ rs) (e ∷ es) (suc n) are lt = record_bytes v rs es n (tails r.bytes (record_of v e) (bytes_of rs) (map (record_of v) es) are) (omega arith)

pub records_count : (v : Version) (records : List Numbered) (logs : List LogEntry) → bytes_of records ≡ map (record_of v) logs → length records ≡ length logs
records_count v records logs are = sym (length-map records (λ (r : Numbered). r.bytes)) ∙ ap length are ∙ length-map logs (record_of v)

pub newest_take : (logs : List LogEntry) (n : ℕ) → n < length logs → newest (take (n + 1) logs) ≡ Some (log_at logs n)
newest_take logs n lt = ap (λ m. newest (take m logs)) (let e : n + 1 ≡ suc n = omega arith in e) ∙ by logs n lt
  where
    by : (logs : List LogEntry) (n : ℕ) → n < length logs → newest (take (suc n) logs) ≡ Some (log_at logs n)
    by [] n lt = absurd (omega arith)
    by (e ∷ es) zero lt = refl
    by (e ∷ []) (suc n) lt = absurd (omega arith)
    by (e ∷ f ∷ es) (suc n) lt = by (f ∷ es) n (omega arith)

-- what a log stands on is the one before it
pub stands_at : (logs : List LogEntry) (n : ℕ) → n < length logs → oldest_depth logs ≡ 0 → EachKeeps logs → StandsOn (newest (take n logs)) (log_at logs n)
stands_at [] n lt full keeps = absurd (omega arith)
stands_at (e ∷ es) zero lt full keeps = full
stands_at (e ∷ es) (suc n) lt full keeps = by e es n lt keeps
  where
    by : (e : LogEntry) (es : List LogEntry) (n : ℕ) → suc n < length (e ∷ es) → EachKeeps (e ∷ es) → StandsOn (newest (take (suc n) (e ∷ es))) (log_at es n)
    by e [] n lt keeps = absurd (omega arith)
    by e (f ∷ es) zero lt keeps = keeps.0
    by e (f ∷ es) (suc n) lt keeps = by f es n (omega arith) keeps.1

-- its depth is the next one
abbrev pub IsNextDepth : Option LogEntry → LogEntry → Type 0
IsNextDepth before e = next_depth (kind_of e) (option_map unfound before) ≡ e.depth

depth_next : (b e : LogEntry) → Follows b e → e.depth ≤ 31 → IsNextDepth (Some b) e
depth_next b e follows small = by (e.depth == 0) refl
  where
    by : (full : Bool) → (e.depth == 0) ≡ full → next_depth (cond (e.depth == 0) Full Inc) (Some (unfound b)) ≡ e.depth
    by true full = ap (λ x. next_depth (cond x Full Inc) (Some (unfound b))) full ∙ sym (eqb-true e.depth 0 full)
    by false inc =
        let some = eqb-false e.depth 0 inc in
        let one : e.depth ≡ b.depth + 1 = elim follows.1 [
          | inl none ↦ absurd (some none)
          | inr one ↦ one
        ] in
        ap (λ x. next_depth (cond x Full Inc) (Some (unfound b))) inc
        ∙ cond-false _ 0 (b.depth + 1) (Rattle.std.proofs.lemmas.Bool.ne_eqb b.depth 31 (λ most. absurd (omega (arith, most, one, small)))) ∙ sym one

pub depth_at : (logs : List LogEntry) (n : ℕ) → n < length logs → oldest_depth logs ≡ 0 → EachFollows logs → AllByRecursion (λ (e : LogEntry). e.depth ≤ 31) logs
    → IsNextDepth (newest (take n logs)) (log_at logs n)
depth_at [] n lt full follows small = absurd (omega arith)
depth_at (e ∷ es) zero lt full follows small = first (kind_of e) ∙ sym full
  where
    first : (kind : Kind) → next_depth kind None ≡ 0
    first Full = refl
    first Inc = refl
depth_at (e ∷ es) (suc n) lt full follows small = by e es n lt follows small.1
  where
    by : (e : LogEntry) (es : List LogEntry) (n : ℕ) → suc n < length (e ∷ es) → EachFollows (e ∷ es) → AllByRecursion (λ (f : LogEntry). f.depth ≤ 31) es
        → IsNextDepth (newest (take (suc n) (e ∷ es))) (log_at es n)
    by e [] n lt follows small = absurd (omega arith)
    by e (f ∷ es) zero lt follows small = depth_next e f follows.0 small.0
    by e (f ∷ es) (suc n) lt follows small = by f es n (omega arith) follows.1 small.1

-- ---- what an undo log has after a record's log was taken

pub entry_is : (e : LogEntry) (s : HeapState) (logs : List LogEntry) (time : ℕ) (kind : Kind) (before : Option LogEntry) → time ≡ e.time → kind ≡ kind_of e
    → newest logs ≡ option_map unfound before → IsNextDepth before e
    → s.live ≡ e.copy → s.touched ≡ set.empty → new_entry (record { heap = s; logs = logs }) time kind ≡ unfound e
entry_is e s logs time kind before time_is kind_is newest_is depth_is lives none =
    let depth : next_depth kind (newest logs) ≡ e.depth = ap₂ next_depth kind_is newest_is ∙ depth_is in
    let found = found_nothing (next_depth kind (newest logs)) s.touched none in
    λ i. record { time = time_is i; depth = depth i; copy = lives i; found = found i }

pub same_unfound : (logs : List LogEntry) → map unfound (map unfound logs) ≡ map unfound logs
same_unfound [] = refl
same_unfound (e ∷ es) = ap (λ l. unfound e ∷ l) (same_unfound es)

pub map_push : (xs : List LogEntry) (e : LogEntry) → map unfound (xs ++ e ∷ []) ≡ map unfound xs ++ unfound e ∷ []
map_push [] e = refl
map_push (x ∷ xs) e = ap (λ l. unfound x ∷ l) (map_push xs e)

pub take_more : (n : ℕ) (xs : List LogEntry) → n < length xs → take (n + 1) xs ≡ take n xs ++ log_at xs n ∷ []
take_more n xs lt = ap (λ m. take m xs) (let e : n + 1 ≡ suc n = omega arith in e) ∙ by n xs lt
  where
    by : (n : ℕ) (xs : List LogEntry) → n < length xs → take (suc n) xs ≡ take n xs ++ log_at xs n ∷ []
    by n [] lt = absurd (omega arith)
    by zero (x ∷ xs) lt = refl
    by (suc n) (x ∷ xs) lt = ap (λ l. x ∷ l) (by n xs (omega arith))

pub take_whole : (n : ℕ) (xs : List LogEntry) → length xs ≤ n → take n xs ≡ xs
take_whole n [] le = Rattle.std.proofs.Math.Seq.take-nil n
take_whole zero (x ∷ xs) le = absurd (omega arith)
take_whole (suc n) (x ∷ xs) le = ap (λ l. x ∷ l) (take_whole n xs (omega arith))

pub follows_unfound : (logs : List LogEntry) → EachFollows logs → EachFollows (map unfound logs)
follows_unfound [] h = tt
follows_unfound (e ∷ []) h = (tt, tt)
follows_unfound (e ∷ f ∷ es) h = (h.0, follows_unfound (f ∷ es) h.1)

pub copies_told : (live : Live) (cs : List Change) (ps : List ℕ) (logs told : List LogEntry) → map unfound told ≡ map unfound logs → AreCopies live cs ps logs
    → AreCopies live cs ps told
copies_told live cs ps logs told alike copies = back ps told (subst (AreCopies live cs ps) (sym alike) (there ps logs copies))
  where
    there : (ps : List ℕ) (logs : List LogEntry) → AreCopies live cs ps logs → AreCopies live cs ps (map unfound logs)
    there [] [] c = tt
    there [] (e ∷ es) c = absurd c
    there (p ∷ ps) [] c = absurd c
    there (p ∷ ps) (e ∷ es) c = (c.0, there ps es c.1)

    back : (ps : List ℕ) (logs : List LogEntry) → AreCopies live cs ps (map unfound logs) → AreCopies live cs ps logs
    back [] [] c = tt
    back [] (e ∷ es) c = absurd c
    back (p ∷ ps) [] c = absurd c
    back (p ∷ ps) (e ∷ es) c = (c.0, back ps es c.1)

pub belongs_told : (v : Version) (quota : ℕ) (s : HeapState) (u : UndoMeaning) (told : List LogEntry) → map unfound told ≡ map unfound u.logs → Belongs v quota s u
    → Belongs v quota s (record u { logs = told })
belongs_told v quota s u told alike belongs = record {
  quota_same = belongs.quota_same;
  copies = copies_told s.live u.changes u.places u.logs told alike belongs.copies;
  noted = belongs.noted;
  fitting = belongs.fitting;
}

-- ---- all logs but the newest are dropped

all_before : (logs : List LogEntry) (e : LogEntry) → EachFollows logs → newest logs ≡ Some e → AllByRecursion (λ (x : LogEntry). x.time ≤ e.time) logs
all_before [] e follows is = absurd (none-some e is)
all_before (x ∷ []) e follows is = (omega (arith, ap (λ (y : LogEntry). y.time) (same_Some x e is)), tt)
all_before (x ∷ y ∷ es) e follows is = let rest = all_before (y ∷ es) e follows.1 is in (omega (arith, follows.0.0, rest.0), rest)

all_reached : (t : ℕ) (logs : List LogEntry) → AllByRecursion (λ (x : LogEntry). x.time ≤ t) logs → reached t logs ≡ length logs
all_reached t [] all = refl
all_reached t (x ∷ xs) all =
    let one : ◌≡◌ {A = ℕ} (cond (nat_le x.time t) 1 0) 1 = ap (λ b. cond b 1 0) (le-leb x.time t all.0) in
    omega (arith, sum_by-cons (λ (y : LogEntry). cond (nat_le y.time t) 1 0) x xs, one, all_reached t xs all.1)

last_alone : (logs : List LogEntry) (e : LogEntry) → newest logs ≡ Some e → drop (length logs - 1) logs ≡ e ∷ []
last_alone [] e is = absurd (none-some e is)
last_alone (x ∷ []) e is = ap (λ (y : LogEntry). y ∷ []) (same_Some x e is)
last_alone (x ∷ y ∷ es) e is =
    ap (λ n. drop n (x ∷ y ∷ es)) (let one : length (x ∷ y ∷ es) - 1 ≡ suc (length (y ∷ es) - 1) = omega arith in one) ∙ last_alone (y ∷ es) e is

pub newest_alone : (logs : List LogEntry) (e : LogEntry) → EachFollows logs → newest logs ≡ Some e → drop (reached e.time logs - 1) logs ≡ e ∷ []
newest_alone logs e follows is = ap (λ n. drop (n - 1) logs) (all_reached e.time logs (all_before logs e follows is)) ∙ last_alone logs e is

-- ---- versions, quotas and chains that are the same

pub readable_as : (v w : Version) (quota q : ℕ) (c d : ChainMeaning) → v ≡ w → quota ≡ q → c ≡ d → IsReadable v quota c → IsReadable w q d
readable_as v w quota q c d version quota_is chain is =
    subst (λ (x : Version). IsReadable x q d) version (subst (λ n. IsReadable v n d) quota_is (subst (λ (x : ChainMeaning). IsReadable v quota x) chain is))

pub brought_as : (v w : Version) (quota q n : ℕ) (c d : ChainMeaning) (heap scratch : HeapMeaning) (undo : UndoMeaning) → v ≡ w → quota ≡ q → c ≡ d
    → AreBrought v quota (all_logs c) n heap scratch undo → AreBrought w q (all_logs d) n heap scratch undo
brought_as v w quota q n c d heap scratch undo version quota_is chain is =
    subst (λ (x : Version). AreBrought x q (all_logs d) n heap scratch undo) version
    (subst (λ m. AreBrought v m (all_logs d) n heap scratch undo) quota_is (subst (λ (x : ChainMeaning). AreBrought v quota (all_logs x) n heap scratch undo) chain is))

-- one log more of those from a place on
pub part_more : (from place : ℕ) (logs : List LogEntry) → from ≤ place → place < length logs → map unfound (take (place + 1 - from) (drop from logs)) ≡ map unfound
    (take (place - from) (drop from logs)) ++ unfound (log_at logs place) ∷ []
part_more from place logs low lt =
    let n = place - from in
    let at : log_at (drop from logs) n ≡ log_at logs place = get_or-drop from logs n no_entry ∙ ap (log_at logs) (let e : from + n ≡ place = omega (arith, low) in e) in
    ap (λ m. map unfound (take m (drop from logs))) (let e : place + 1 - from ≡ n + 1 = omega (arith, low) in e)
    ∙ ap (map unfound) (take_more n (drop from logs) (omega (arith, low, lt, length-drop from logs)))
    ∙ map_push (take n (drop from logs)) (log_at (drop from logs) n)
    ∙ ap (λ (x : LogEntry). map unfound (take n (drop from logs)) ++ unfound x ∷ []) at

-- ---- the kept logs behind those below

pub at_seam : (base : List LogEntry) (x : LogEntry) (xs : List LogEntry) → log_at (base ++ x ∷ xs) (length base) ≡ x
at_seam [] x xs = refl
at_seam (b ∷ bs) x xs = at_seam bs x xs

drop_seam : (base : List LogEntry) (x : LogEntry) (xs : List LogEntry) → drop (suc (length base)) (base ++ x ∷ xs) ≡ xs
drop_seam [] x xs = refl
drop_seam (b ∷ bs) x xs = drop_seam bs x xs

pub newest_behind : (base logs : List LogEntry) → 0 < length logs → newest (base ++ logs) ≡ newest logs
newest_behind base [] some = absurd (omega arith)
newest_behind [] (x ∷ xs) some = refl
newest_behind (b ∷ []) (x ∷ xs) some = refl
newest_behind (b ∷ c ∷ bs) (x ∷ xs) some = newest_behind (c ∷ bs) (x ∷ xs) some

pub none_kept : (base logs : List LogEntry) → length (base ++ logs) ≡ 0 → logs ≡ []
none_kept [] [] none = refl
none_kept [] (x ∷ xs) none = absurd (omega (arith, none))
none_kept (b ∷ bs) logs none = absurd (omega (arith, none))

-- where any log stands, one is kept
pub some_kept : (base logs : List LogEntry) → length base ≡ oldest_depth logs → 0 < length (base ++ logs) → 0 < length logs
some_kept base [] below some = absurd (omega (arith, below, some, length-append base []))
some_kept base (x ∷ xs) below some = omega arith

pub told_alike : (base logs u : List LogEntry) (n m : ℕ) → 0 < length logs → n ≡ length base + 1 → length (base ++ logs) ≤ n + m
    → u ≡ (unfound (log_at (base ++ logs) (length base)) ∷ []) ++ map unfound (take m (drop n (base ++ logs))) → map unfound logs ≡ map unfound u
told_alike base [] u n m some first all is = absurd (omega arith)
told_alike base (x ∷ xs) u n m some first all is =
    let rest : drop n (base ++ x ∷ xs) ≡ xs = ap (λ k. drop k (base ++ x ∷ xs)) (let e : n ≡ suc (length base) = omega (arith, first) in e) ∙ drop_seam base x xs in
    let whole : take m (drop n (base ++ x ∷ xs)) ≡ xs = ap (take m) rest ∙ take_whole m xs (omega (arith, first, all, length-append base (x ∷ xs))) in
    sym (ap (map unfound) is ∙ ap₂ (λ (y : LogEntry) (l : List LogEntry). map unfound (unfound y ∷ map unfound l)) (at_seam base x xs) whole
    ∙ ap (λ (l : List LogEntry). unfound x ∷ l) (same_unfound xs))

-- the undo log dropped logs but for the newest
pub brought_pruned : (v : Version) (quota n : ℕ) (logs : List LogEntry) (heap scratch : HeapMeaning) (u w : UndoMeaning) (x : LogEntry)
    → AreBrought v quota logs n heap scratch u
    → newest (take n logs) ≡ Some x → w.logs ≡ unfound x ∷ [] → Belongs v quota heap.state w → AreBrought v quota logs n heap scratch w
brought_pruned v quota n logs heap scratch u w x is last one belongs = record {
  heap_of = is.heap_of;
  scratch_of = is.scratch_of;
  heap_is = is.heap_is;
  scratch_is = is.scratch_is;
  newest_is = ap newest one ∙ sym (ap (option_map unfound) last);
  belongs = belongs;
}
