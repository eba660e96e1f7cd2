-- What one command can make of an object, and what holds along a run.
use Rattle.std.proofs.Common.{◌≡◌, ℕ, zero, suc, ◌+◌, ◌-◌, ◌<◌, ◌≤◌, ◌⊎◌, inl, inr, true, cond, nat_le, Option, Some, None, List, [], ◌∷◌, ◌++◌, ◌==◌, length, take, drop, refl, sym, ap, subst, ◌∙◌, arith, length-append}
use Rattle.std.specs.Prelude.{⊤}
use Rattle.std.specs.Ordering.{nat_cmp}
use Rattle.std.specs.List.{AllByRecursion}
use Rattle.std.specs.FinSet as set
use Rattle.std.proofs.lemmas.Bool.{cond_both, cases_lt, leb-false, le-leb, lt-leb, eqb-false, true≢false}
use Rattle.std.proofs.lemmas.Option.{same_Some, none-some}
use Rattle.std.proofs.lemmas.List.{length-take, length-drop}
use Rattle.std.proofs.lemmas.List.Sums.{sum_by-cons}
use Rattle.dym_base.specs.Heaps.{Live, Touched}
use Rattle.dym_base.specs.HeapStep.{heap_step}
use Rattle.dym_base.specs.Objects.{LogEntry, ObjectState, ObjectAnswer, object_start, newest, next_depth, found_touched, new_entry, log_more, log_after, reached, restore_to, object_step, object_after, run_end}
use Rattle.dym_base.specs.RunLaws.{Follows, FirstFollows, EachFollows, IsLogList, FoundLive, TouchedIsLive}
use Rattle.dym_base.specs.Laws.{IsLive, TouchesLive}
use Rattle.dym_base.proofs.Touched.{step_touches}
use Rattle.dym_base.specs.declared.command.Version.{Version}
use Rattle.dym_base.specs.declared.command.Kind.{Kind}
use Rattle.dym_base.specs.declared.command.Kind.TheVariants.{Full, Inc}
use Rattle.dym_base.specs.declared.command.Command.{Command}
use Rattle.dym_base.specs.declared.command.Command.TheVariants.{Malloc, Calloc, Realloc, Free, Write, Fill, Read, Link, Follow, Sum, Log, Ilog, Restore, Prune, Logs}

-- lists of logs

module _ (P : LogEntry → Type 0) where
  pub all_push : (logs : List LogEntry) (e : LogEntry) → AllByRecursion P logs → P e → AllByRecursion P (logs ++ e ∷ [])
  all_push [] e all here = (here, tt)
  all_push (f ∷ logs) e all here = (all.0, all_push logs e all.1 here)

  pub all_take : (n : ℕ) (logs : List LogEntry) → AllByRecursion P logs → AllByRecursion P (take n logs)
  all_take zero logs all = tt
  all_take (suc n) [] all = tt
  all_take (suc n) (e ∷ logs) all = (all.0, all_take n logs all.1)

  pub all_drop : (n : ℕ) (logs : List LogEntry) → AllByRecursion P logs → AllByRecursion P (drop n logs)
  all_drop zero logs all = all
  all_drop (suc n) [] all = tt
  all_drop (suc n) (e ∷ logs) all = all_drop n logs all.1

  pub all_newest : (logs : List LogEntry) (e : LogEntry) → AllByRecursion P logs → newest logs ≡ Some e → P e
  all_newest [] e all is = absurd (none-some e is)
  all_newest (f ∷ []) e all is = subst P (same_Some f e is) all.0
  all_newest (f ∷ g ∷ logs) e all is = all_newest (g ∷ logs) e all.1 is

-- the newest log, if there is one, may stand before this one
abbrev pub NewestBefore : Option LogEntry → LogEntry → Type 0
NewestBefore None f = ⊤
NewestBefore (Some e) f = Follows e f

pub follows_push : (logs : List LogEntry) (f : LogEntry) → EachFollows logs → NewestBefore (newest logs) f → EachFollows (logs ++ f ∷ [])
follows_push [] f each last = (tt, tt)
follows_push (e ∷ []) f each last = (last, (tt, tt))
follows_push (e ∷ g ∷ logs) f each last = (each.0, follows_push (g ∷ logs) f each.1 last)

first_take : (e : LogEntry) (n : ℕ) (logs : List LogEntry) → FirstFollows e logs → FirstFollows e (take n logs)
first_take e zero logs first = tt
first_take e (suc n) [] first = tt
first_take e (suc n) (f ∷ logs) first = first

pub follows_take : (n : ℕ) (logs : List LogEntry) → EachFollows logs → EachFollows (take n logs)
follows_take zero logs each = tt
follows_take (suc n) [] each = tt
follows_take (suc n) (e ∷ logs) each = (first_take e n logs each.0, follows_take n logs each.1)

pub follows_drop : (n : ℕ) (logs : List LogEntry) → EachFollows logs → EachFollows (drop n logs)
follows_drop zero logs each = each
follows_drop (suc n) [] each = tt
follows_drop (suc n) (e ∷ logs) each = follows_drop n logs each.1

-- the logs at or before a time

pub later_too : (t : ℕ) (e : LogEntry) (logs : List LogEntry) → t < e.time → FirstFollows e logs → EachFollows logs → AllByRecursion (λ f. t < f.time) logs
later_too t e [] later first each = tt
later_too t e (f ∷ logs) later first each =
    let next : t < f.time = omega (arith, first.0) in
    (next, later_too t f logs next each.0 each.1)

pub reached_cons : (t : ℕ) (e : LogEntry) (logs : List LogEntry) → reached t (e ∷ logs) ≡ cond (nat_le e.time t) 1 0 + reached t logs
reached_cons t e logs = sum_by-cons (λ f. cond (nat_le f.time t) 1 0) e logs

none_reached : (t : ℕ) (logs : List LogEntry) → AllByRecursion (λ f. t < f.time) logs → reached t logs ≡ 0
none_reached t [] all = refl
none_reached t (e ∷ logs) all =
    reached_cons t e logs ∙ ap (λ b. cond b 1 0 + reached t logs) (lt-leb e.time t all.0) ∙ (let rest = none_reached t logs all.1 in omega arith)

-- the first n logs are at or before t, and the others later
abbrev pub CutAt : ℕ → List LogEntry → ℕ → Type 0
CutAt t logs n = AllByRecursion (λ e. e.time ≤ t) (take n logs) × AllByRecursion (λ e. t < e.time) (drop n logs)

pub reached_before : (t : ℕ) (logs : List LogEntry) → EachFollows logs → CutAt t logs (reached t logs)
reached_before t [] each = (tt, tt)
reached_before t (e ∷ logs) each =
    elim (cases_lt t e.time) as (λ _. CutAt t (e ∷ logs) (reached t (e ∷ logs))) [
      | inl later ↦ (
          let all = later_too t e logs later each.0 each.1 in
          let none : reached t (e ∷ logs) ≡ 0 = none_reached t (e ∷ logs) (later, all) in
          subst (CutAt t (e ∷ logs)) (sym none) (tt, (later, all)))
      | inr before ↦ (
          let rest = reached_before t logs each.1 in
          let one_more : reached t (e ∷ logs) ≡ suc (reached t logs) = reached_cons t e logs ∙ ap (λ b. cond b 1 0 + reached t logs) (le-leb e.time t before) ∙ omega arith in
          subst (CutAt t (e ∷ logs)) (sym one_more) ((before, rest.0), rest.1))
    ]

-- what one command can make of an object: nothing, a heap after one step, a log more, a log restored, or logs dropped

-- the newest log, if there is one, is before this time
abbrev pub NewestIsBefore : Option LogEntry → ℕ → Type 0
NewestIsBefore None t = ⊤
NewestIsBefore (Some e) t = e.time < t

module _ (v : Version) (quota : ℕ) (s : ObjectState) (c : Command) (P : ObjectState → Type 0)
    (same : P s)
    (stepped : P (record { heap = (heap_step v quota s.heap c).heap; logs = s.logs }))
    (logged : (t : ℕ) (kind : Kind) → NewestIsBefore (newest s.logs) t → (length s.logs ≡ 256 → ⊥) → P (record { heap = record { live = s.heap.live; touched = set.empty }; logs = s.logs ++ new_entry s t kind ∷ [] }))
    (restored : (n : ℕ) (e : LogEntry) → newest (take n s.logs) ≡ Some e → P (record { heap = record { live = e.copy; touched = set.empty }; logs = take n s.logs }))
    (pruned : (n : ℕ) → P (record { heap = s.heap; logs = drop n s.logs })) where
  abbrev Of : ObjectAnswer → Type 0
  Of answer = P answer.object

  log_more_by : (t : ℕ) (kind : Kind) → NewestIsBefore (newest s.logs) t → Of (log_more v s t kind)
  log_more_by t kind before = cond_both (length s.logs == 256) _ _ Of (λ _. same) (λ room. logged t kind before (eqb-false (length s.logs) 256 room))

  log_after_by : (t : ℕ) (kind : Kind) (last : Option LogEntry) → newest s.logs ≡ last → Of (log_after v s t kind last)
  log_after_by t kind None is = log_more_by t kind (subst (λ o. NewestIsBefore o t) (sym is) tt)
  log_after_by t kind (Some e) is = cond_both (nat_le t e.time) _ _ Of (λ _. same) (λ later. log_more_by t kind (subst (λ o. NewestIsBefore o t) (sym is) (leb-false t e.time later)))

  restore_by : (n : ℕ) (last : Option LogEntry) → newest (take n s.logs) ≡ last → Of (restore_to s (take n s.logs) last)
  restore_by n None is = same
  restore_by n (Some e) is = restored n e is

  abbrev Stepped : Command → Type 0
  Stepped d = P (record { heap = (heap_step v quota s.heap d).heap; logs = s.logs })

  step_by : (d : Command) → c ≡ d → P (object_step v quota s d).object
  step_by (Log t) is = log_after_by t Full (newest s.logs) refl
  step_by (Ilog t) is = log_after_by t Inc (newest s.logs) refl
  step_by (Restore t) is = restore_by (reached t s.logs) (newest (take (reached t s.logs) s.logs)) refl
  step_by (Prune g) is = pruned (reached g s.logs - 1)
  step_by Logs is = same
  step_by (Malloc n) is = subst Stepped is stepped
  step_by (Calloc m n) is = subst Stepped is stepped
  step_by (Realloc h n) is = subst Stepped is stepped
  step_by (Free h) is = subst Stepped is stepped
  step_by (Write h at bytes) is = subst Stepped is stepped
  step_by (Fill h at n byte) is = subst Stepped is stepped
  step_by (Read h at n) is = subst Stepped is stepped
  step_by (Link h at to) is = subst Stepped is stepped
  step_by (Follow h at) is = subst Stepped is stepped
  step_by (Sum h) is = subst Stepped is stepped

  -- what holds of each of the five outcomes holds of the step
  pub object_step_by : P (object_step v quota s c).object
  object_step_by = step_by c refl

-- what each step keeps holds along a run

pub kept_by_commands : (Fit : Command → Type 0) (P : ObjectState → Type 0) (v : Version) (quota : ℕ) → ((s : ObjectState) (c : Command) → Fit c → P s → P (object_step v quota s c).object) → (commands : List Command) → AllByRecursion Fit commands → (s : ObjectState) → P s → P (object_after v quota s commands)
kept_by_commands Fit P v quota step [] fits s holds = holds
kept_by_commands Fit P v quota step (c ∷ cs) fits s holds = kept_by_commands Fit P v quota step cs fits.1 (object_step v quota s c).object (step s c fits.0 holds)

each_fits : (commands : List Command) → AllByRecursion (λ (c : Command). ⊤) commands
each_fits [] = tt
each_fits (c ∷ cs) = (tt, each_fits cs)

pub kept_along : (P : ObjectState → Type 0) (v : Version) (quota : ℕ) → ((s : ObjectState) (c : Command) → P s → P (object_step v quota s c).object) → (commands : List Command) → P object_start → P (run_end v quota commands)
kept_along P v quota step commands start = kept_by_commands (λ c. ⊤) P v quota (λ s c fits. step s c) commands (each_fits commands) object_start start

-- a fact of a heap's chunks that each step of a heap keeps holds of the heap and of each log
abbrev pub OfCopies : (Live → Type 0) → ObjectState → Type 0
OfCopies Q s = Q s.heap.live × AllByRecursion (λ (e : LogEntry). Q e.copy) s.logs

pub copies_kept : (Q : Live → Type 0) (v : Version) (quota : ℕ) (s : ObjectState) (c : Command) → Q (heap_step v quota s.heap c).heap.live → OfCopies Q s → OfCopies Q (object_step v quota s c).object
copies_kept Q v quota s c stepped each =
    let Copied : LogEntry → Type 0 = λ e. Q e.copy in
    object_step_by v quota s c (OfCopies Q) each
    (stepped, each.1)
    (λ t kind before room. (each.0, all_push Copied s.logs (new_entry s t kind) each.1 each.0))
    (λ n e is. (let kept = all_take Copied n s.logs each.1 in (all_newest Copied (take n s.logs) e kept is, kept)))
    (λ n. (each.0, all_drop Copied n s.logs each.1))

-- a log finds live what was touched

found_touched_live : (live : Live) (depth : ℕ) (touched : Touched) → TouchesLive (record { live = live; touched = touched }) → (k : ℕ) → set.contains (found_touched depth touched) k ≡ true → IsLive live k
found_touched_live live depth touched each k =
    cond_both (depth == 0) set.empty touched (λ (t : Touched). set.contains t k ≡ true → IsLive live k)
    (λ _ is. absurd (true≢false (sym is ∙ set.contains-empty nat_cmp k)))
    (λ _ is. each k is)

none_touched : (live : Live) → TouchesLive (record { live = live; touched = set.empty })
none_touched live k is = absurd (true≢false (sym is ∙ set.contains-empty nat_cmp k))

pub touched_kept : (v : Version) (quota : ℕ) (s : ObjectState) (c : Command) → TouchedIsLive s → TouchedIsLive (object_step v quota s c).object
touched_kept v quota s c each =
    object_step_by v quota s c TouchedIsLive each
    (step_touches v quota s.heap c each.0, each.1)
    (λ t kind before room. (none_touched s.heap.live, all_push FoundLive s.logs (new_entry s t kind) each.1 (found_touched_live s.heap.live (next_depth kind (newest s.logs)) s.heap.touched each.0)))
    (λ n e is. (none_touched e.copy, all_take FoundLive n s.logs each.1))
    (λ n. (each.0, all_drop FoundLive n s.logs each.1))

-- the list of logs

next_depth_small : (kind : Kind) (last : Option LogEntry) → ((e : LogEntry) → last ≡ Some e → e.depth ≤ 31) → next_depth kind last ≤ 31
next_depth_small Full last small = omega arith
next_depth_small Inc None small = omega arith
next_depth_small Inc (Some e) small =
    let before : e.depth ≤ 31 = small e refl in
    cond_both (e.depth == 31) 0 (e.depth + 1) (λ n. n ≤ 31) (λ _. omega arith) (λ less. (let apart = eqb-false e.depth 31 less in omega arith))

next_depth_follows : (kind : Kind) (e : LogEntry) → (next_depth kind (Some e) ≡ 0) ⊎ (next_depth kind (Some e) ≡ e.depth + 1)
next_depth_follows Full e = inl refl
next_depth_follows Inc e = cond_both (e.depth == 31) 0 (e.depth + 1) (λ n. (n ≡ 0) ⊎ (n ≡ e.depth + 1)) (λ _. inl refl) (λ _. inr refl)

newest_before : (s : ObjectState) (t : ℕ) (kind : Kind) (last : Option LogEntry) → newest s.logs ≡ last → NewestIsBefore last t → NewestBefore last (new_entry s t kind)
newest_before s t kind None is before = tt
newest_before s t kind (Some e) is before = (before, subst (λ o. (next_depth kind o ≡ 0) ⊎ (next_depth kind o ≡ e.depth + 1)) (sym is) (next_depth_follows kind e))

pub log_list_kept : (v : Version) (quota : ℕ) (s : ObjectState) (c : Command) → IsLogList s.logs → IsLogList (object_step v quota s c).object.logs
log_list_kept v quota s c list =
    let Small : LogEntry → Type 0 = λ e. e.depth ≤ 31 in
    object_step_by v quota s c (λ o. IsLogList o.logs) list
    list
    (λ t kind before room. (
      rw length-append (omega (arith, room, list.0)),
      all_push Small s.logs (new_entry s t kind) list.1 (next_depth_small kind (newest s.logs) (λ e is. all_newest Small s.logs e list.1 is)),
      follows_push s.logs (new_entry s t kind) list.2 (newest_before s t kind (newest s.logs) refl before),
    ))
    (λ n e is. (rw length-take (omega (arith, list.0)), all_take Small n s.logs list.1, follows_take n s.logs list.2))
    (λ n. (rw length-drop (omega (arith, list.0)), all_drop Small n s.logs list.1, follows_drop n s.logs list.2))
