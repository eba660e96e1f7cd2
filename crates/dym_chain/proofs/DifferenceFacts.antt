-- What the records beside full logs tell, and what is touched where a restore read them.
use Rattle.std.proofs.Common.{◌≡◌, ℕ, zero, suc, ◌+◌, ◌-◌, ◌<◌, ◌≤◌, ◌^◌, inl, inr, Bool, true, false, cond, not, ◌&&◌, ◌||◌, is_some, unwrap_or, Option, Some, None, List, [], ◌∷◌, ◌++◌, length, take, drop, refl, sym, ap, subst, ◌∙◌, arith, ◌==◌, length-append}
use Rattle.std.specs.FinMap.{get, contains_key}
use Rattle.std.specs.FinSet.{contains}
use Rattle.std.proofs.lemmas.Bool.{cases_lt, cond-true, cond-false, true≢false, ne_eqb, and_parts}
use Rattle.std.proofs.lemmas.List.{length-take, length-drop, get_or-take, get_or-drop, get_or_append_left, get_or_push}
use Rattle.dym_base.specs.Heaps.{Live, HeapState}
use Rattle.dym_base.specs.Objects.{LogEntry, newest, kind_of, record_of}
use Rattle.dym_base.specs.Packed.{Logged, packs_by, packed}
use Rattle.dym_base.specs.Recorded.{IsRecorded}
use Rattle.dym_base.specs.StandsFor.{packed_by}
use Rattle.dym_base.specs.declared.command.Kind.TheVariants.{Full, Inc}
use Rattle.dym_base.specs.declared.command.Version.{Version}
use Rattle.dym_pack.specs.Areas.{IsPackable}
use Rattle.dym_pack.specs.ParsedAreas.{IsRecord, OfLog}
use Rattle.dym_heap.specs.Fetches.{ChunkMeaning, heap_chunk, marked, is_unmodified}
use Rattle.dym_slots.specs.Meanings.{Numbered, record_at}
use Rattle.dym_chain.specs.Differences.{TellsChanges, IsDifference, AreDifferences, HasOneMore, difference_at}
use Rattle.dym_chain.specs.Chains.{EachKeeps, KeepsUntouched, KeepsFromBefore, KeepsFromNewest, no_entry, log_at}
use Rattle.dym_chain.specs.Lawful.{logged_of}
use Rattle.dym_chain.specs.Loads.{PacksTouched, KeepsUnmodified}
use Rattle.dym_chain.proofs.Places.{keeps_at, newest_there}
use Rattle.dym_chain.proofs.Stands.{kind_full, none_of}

difference_recorded : (v : Version) (before e : LogEntry) (o : Option (List ℕ)) (bytes : List ℕ) → IsDifference before e o → IsRecorded (logged_of v e) → record_of v e ≡ bytes → IsRecord (unwrap_or o bytes)
difference_recorded v before e None bytes side recorded is = (logged_of v e, recorded, is)
difference_recorded v before e (Some x) bytes side recorded is = (side.log, side.recorded, side.are)

pub are_recorded : (v : Version) (logs : List LogEntry) (differences : List (Option (List ℕ))) (i : ℕ) (bytes : List ℕ) → AreDifferences logs differences → 0 < i → i < length logs → IsRecorded (logged_of v (log_at logs i)) → bytes ≡ record_of v (log_at logs i) → IsRecord (unwrap_or (difference_at differences i) bytes)
are_recorded v logs differences zero bytes sides some within recorded is = absurd (omega (arith, some))
are_recorded v logs differences (suc i) bytes sides some within recorded is = difference_recorded v (log_at logs i) (log_at logs (suc i)) (difference_at differences (suc i)) bytes (sides.each i within) recorded (sym is)

-- ---- one log that is marked

settled_parts : (t s p : Bool) → (s && not (t || (s && p))) ≡ true → (s ≡ true) × (t ≡ false) × (p ≡ false)
settled_parts t false p h = absurd cc
settled_parts true true p h = absurd cc
settled_parts false true true h = absurd cc
settled_parts false true false h = (refl, refl, refl)

unmarked : (t s : Bool) → (t || (s && false)) ≡ t
unmarked true s = refl
unmarked false true = refl
unmarked false false = refl

abbrev pub IsMarked : Logged → HeapState → HeapState → Type 0
IsMarked log s m = (k : ℕ) → heap_chunk m k ≡ marked (is_some (packed_by log k)) (heap_chunk s k)

pub mark_touches : (log : Logged) (s m : HeapState) → IsMarked log s m → PacksTouched m log
mark_touches log s m is k was =
    let parts = settled_parts (contains s.touched k) (is_some (get s.live k)) (is_some (packed_by log k)) (sym (ap is_unmodified (is k)) ∙ was) in
    none_of (packed_by log k) parts.2

pub mark_settles : (log : Logged) (s m : HeapState) → IsMarked log s m → KeepsUnmodified s m
mark_settles log s m is k was =
    let parts = settled_parts (contains s.touched k) (is_some (get s.live k)) (is_some (packed_by log k)) (sym (ap is_unmodified (is k)) ∙ was) in
    is k ∙ ap (λ b. marked b (heap_chunk s k)) parts.2 ∙ (λ i. record { bytes = get s.live k; touched = unmarked (contains s.touched k) (is_some (get s.live k)) i })

pub settles_on : (s m n : HeapState) → KeepsUnmodified s m → KeepsUnmodified m n → KeepsUnmodified s n
settles_on s m n first second k was = let same = second k was in same ∙ first k (ap is_unmodified (sym same) ∙ was)

pub touches_on : (m n : HeapState) (log : Logged) → PacksTouched m log → KeepsUnmodified m n → PacksTouched n log
touches_on m n log touched second k was = touched k (ap is_unmodified (sym (second k was)) ∙ was)

and_none : (s t : Bool) → (s && not (t || (s && false))) ≡ (s && not t)
and_none true true = refl
and_none true false = refl
and_none false t = refl

-- ---- down the logs

-- a log's own record tells of the changes since the log before
own_tells : (v : Version) (before e : LogEntry) → KeepsFromBefore before e → (k : ℕ) → contains_key e.copy k ≡ true → packed_by (logged_of v e) k ≡ None → get before.copy k ≡ get e.copy k
own_tells v before e keeps k there none =
    elim (cases_lt 0 e.depth) as (λ _. get before.copy k ≡ get e.copy k) [
      | inl deep ↦
          let inc : kind_of e ≡ Inc = cond-false (e.depth == 0) Full Inc (ne_eqb e.depth 0 (λ z. (let no_such : ⊥ = omega (arith, deep, z) in no_such))) in
          let found : cond (contains e.found k) (get e.copy k) None ≡ None = sym (ap (λ kind. cond (packs_by kind e.copy e.found k) (get e.copy k) None) inc) ∙ none in
          elim (contains e.found k) as (λ b. contains e.found k ≡ b → get before.copy k ≡ get e.copy k) [
            | true ↦ λ h. absurd (true≢false (sym there ∙ ap is_some (sym (cond-true (contains e.found k) (get e.copy k) None h) ∙ found)))
            | false ↦ λ h. keeps deep k there h
          ] refl
      | inr none_deep ↦
          let full : kind_of e ≡ Full = kind_full e (omega (arith, none_deep)) in
          let all : cond (contains_key e.copy k) (get e.copy k) None ≡ None = sym (ap (λ kind. cond (packs_by kind e.copy e.found k) (get e.copy k) None) full) ∙ none in
          absurd (true≢false (sym there ∙ ap is_some (sym (cond-true (contains_key e.copy k) (get e.copy k) None there) ∙ all)))
    ]

difference_tells : (v : Version) (before e : LogEntry) (o : Option (List ℕ)) (bytes : List ℕ) (m : HeapState) → KeepsFromBefore before e → IsRecorded (logged_of v e) → bytes ≡ record_of v e → IsDifference before e o
    → OfLog (unwrap_or o bytes) (PacksTouched m) → (k : ℕ) → is_unmodified (heap_chunk m k) ≡ true → contains_key e.copy k ≡ true → get before.copy k ≡ get e.copy k
difference_tells v before e None bytes m keeps recorded is side touched k was there = own_tells v before e keeps k there (touched (logged_of v e) recorded (sym is) k was)
difference_tells v before e (Some found) bytes m keeps recorded is side touched k was there = side.keeps k there (touched side.log side.recorded side.are k was)

module _ (v : Version) (logs : List LogEntry) (differences : List (Option (List ℕ))) (records : List Numbered) (base n : ℕ) (s m : HeapState) (keeps : EachKeeps logs) (untouched : KeepsFromNewest s (newest logs)) (sides : AreDifferences logs differences)
    (recorded : (i : ℕ) → i < length logs → IsRecorded (logged_of v (log_at logs i))) (bytes : (i : ℕ) → i < length logs → (record_at records (base + i)).bytes ≡ record_of v (log_at logs i))
    (marks : (i : ℕ) → n ≤ i → i < length logs → OfLog (unwrap_or (difference_at differences i) (record_at records (base + i)).bytes) (PacksTouched m)) (settles : KeepsUnmodified s m) where
  -- what isn't touched then has in each log from the one before n on the bytes that it has in the heap
  same_down : (k : ℕ) → is_unmodified (heap_chunk m k) ≡ true → (d i : ℕ) → n ≤ suc i → suc (i + d) ≡ length logs → get (log_at logs i).copy k ≡ get m.live k
  same_down k was zero i low here =
      let last : newest logs ≡ Some (log_at logs i) = newest_there logs i (omega arith) in
      let same = settles k was in
      let parts = settled_parts (contains s.touched k) (is_some (get s.live k)) false (and_none (is_some (get s.live k)) (contains s.touched k) ∙ ap is_unmodified (sym same) ∙ was) in
      (subst (KeepsFromNewest s) last untouched) k parts.0 parts.1 ∙ sym (ap (λ (c : ChunkMeaning). c.bytes) same)
  same_down k was (suc d) i low here =
      let within : suc i < length logs = omega arith in
      let above : get (log_at logs (suc i)).copy k ≡ get m.live k = same_down k was d (suc i) (omega arith) (omega arith) in
      let live : is_some (get m.live k) ≡ true = (and_parts (is_some (get m.live k)) (not (contains m.touched k)) was).0 in
      difference_tells v (log_at logs i) (log_at logs (suc i)) (difference_at differences (suc i)) (record_at records (base + suc i)).bytes m (keeps_at logs i keeps within) (recorded (suc i) within) (bytes (suc i) within) (sides.each i within)
      (marks (suc i) low within) k was (ap is_some above ∙ live)
      ∙ above

  pub settled_back : (k : ℕ) → is_unmodified (heap_chunk m k) ≡ true → 0 < n → n ≤ length logs → get (log_at logs (n - 1)).copy k ≡ get m.live k
  settled_back k was some within = same_down k was (length logs - n) (n - 1) (omega arith) (omega arith)

-- ---- what stands beside the logs after a step

pub no_differences : (logs : List LogEntry) → AreDifferences logs []
no_differences logs = record { few = omega arith; each = λ k l. tt }

moved : {a b a' b' : LogEntry} {o o' : Option (List ℕ)} → a' ≡ a → b' ≡ b → o' ≡ o → IsDifference a b o → IsDifference a' b' o'
moved {a = a} {b = b} {b' = b'} {o' = o'} first second same is =
    subst (λ x. IsDifference x b' o') (sym first) (subst (λ x. IsDifference a x o') (sym second) (subst (IsDifference a b) (sym same) is))

pub differences_take : (n : ℕ) (logs : List LogEntry) (differences : List (Option (List ℕ))) → AreDifferences logs differences → AreDifferences (take n logs) (take n differences)
differences_take n logs differences is = record {
  few = omega (arith, length-take n logs, length-take n differences, is.few);
  each = λ k l.
      let long = length-take n logs in
      let high : suc k < n = omega arith in
      moved (get_or-take n logs k no_entry (omega arith)) (get_or-take n logs (suc k) no_entry high) (get_or-take n differences (suc k) None high) (is.each k (omega arith));
}

pub differences_drop : (n : ℕ) (logs : List LogEntry) (differences : List (Option (List ℕ))) → AreDifferences logs differences → AreDifferences (drop n logs) (drop n differences)
differences_drop n logs differences is = record {
  few = omega (arith, length-drop n logs, length-drop n differences, is.few);
  each = λ k l.
      let long = length-drop n logs in
      let at : n + suc k ≡ suc (n + k) = omega arith in
      moved (get_or-drop n logs k no_entry) (get_or-drop n logs (suc k) no_entry ∙ ap (log_at logs) at) (get_or-drop n differences (suc k) None ∙ ap (difference_at differences) at) (is.each (n + k) (omega arith));
}

pub differences_same : (logs : List LogEntry) (old new : List (Option (List ℕ))) → AreDifferences logs old → length new ≤ length logs → ((k : ℕ) → difference_at new k ≡ difference_at old k) → AreDifferences logs new
differences_same logs old new is few same = record {
  few = few;
  each = λ k l. subst (IsDifference (log_at logs k) (log_at logs (suc k))) (sym (same (suc k))) (is.each k l);
}

-- an incremental record of a heap tells what may be other in it than in the newest log
pub tells_found : (v : Version) (s : HeapState) (t : ℕ) (before e : LogEntry) → KeepsUntouched s.live s.touched before.copy → IsPackable (record { version = v; live = s.live; touched = s.touched }) → t < 2 ^ 64 → e.copy ≡ s.live
    → TellsChanges before e (packed (record { version = v; kind = Inc; time = t; copy = s.live; found = s.touched }))
tells_found v s t before e keeps packable fits is =
    let log : Logged = record { version = v; kind = Inc; time = t; copy = s.live; found = s.touched } in
    record {
      log = log;
      recorded = record { sized = packable.sized; found_live = packable.touched_live; few = packable.few; time = fits };
      are = refl;
      keeps = λ k there none.
          let live : contains_key s.live k ≡ true = sym (ap (λ (l : Live). contains_key l k) is) ∙ there in
          elim (contains s.touched k) as (λ b. contains s.touched k ≡ b → get before.copy k ≡ get e.copy k) [
            | true ↦ λ h. absurd (true≢false (sym live ∙ ap is_some (sym (cond-true (contains s.touched k) (get s.live k) None h) ∙ none)))
            | false ↦ λ h. keeps k live h ∙ sym (ap (λ (l : Live). get l k) is)
          ] refl;
    }

-- a log of a heap is taken, and the record of what it found touched may stand beside it
pub differences_push : (logs : List LogEntry) (old new : List (Option (List ℕ))) (e : LogEntry) (bytes : List ℕ) → AreDifferences logs old → HasOneMore old new (length logs) bytes → ((before : LogEntry) → newest logs ≡ Some before → TellsChanges before e bytes)
    → AreDifferences (logs ++ e ∷ []) new
differences_push logs old new e bytes is more tells = record {
  few = omega (arith, more.few, length-append logs (e ∷ []));
  each = λ k l.
      let long = length-append logs (e ∷ []) in
      let first : log_at (logs ++ e ∷ []) k ≡ log_at logs k = get_or_append_left logs (e ∷ []) no_entry k (omega arith) in
      elim (cases_lt (suc k) (length logs)) as (λ _. IsDifference (log_at (logs ++ e ∷ []) k) (log_at (logs ++ e ∷ []) (suc k)) (difference_at new (suc k))) [
        | inl high ↦ moved first (get_or_append_left logs (e ∷ []) no_entry (suc k) high) (more.same (suc k) high) (is.each k high)
        | inr past ↦
            let at : suc k ≡ length logs = omega arith in
            moved first (get_or_push logs e no_entry (suc k) (sym at)) (ap (difference_at new) at)
            (elim more.last as (λ _. IsDifference (log_at logs k) e (difference_at new (length logs))) [
              | inl none ↦ subst (IsDifference (log_at logs k) e) (sym none) tt
              | inr some ↦ subst (IsDifference (log_at logs k) e) (sym some) (tells (log_at logs k) (newest_there logs k (sym at)))
            ])
      ];
}
