-- The log of a time stays what it is while no restore goes back before it.
use Rattle.std.proofs.Common.{◌≡◌, ℕ, zero, suc, ◌+◌, ◌-◌, ◌<◌, ◌≤◌, ◌⊎◌, inl, inr, cond, nat_le, Option, Some, None, List, [], ◌∷◌, ◌++◌, ◌==◌, length, take, drop, refl, sym, ap, subst, ◌∙◌, arith}
use Rattle.std.specs.Prelude.{⊤}
use Rattle.std.specs.List.{AllByRecursion}
use Rattle.std.proofs.lemmas.Bool.{cond_both, leb-false, le-leb}
use Rattle.std.proofs.lemmas.Option.{none-some}
use Rattle.dym_base.specs.Heaps.{Live}
use Rattle.dym_base.specs.Objects.{LogEntry, ObjectState, ObjectAnswer, newest, new_entry, log_more, log_after, log, reached, restore_to, object_step, object_after}
use Rattle.dym_base.specs.RunLaws.{FirstFollows, EachFollows, IsLogList}
use Rattle.dym_base.specs.RestoreLaws.{IsLogged, StaysFrom, RestoresBringBack}
use Rattle.dym_base.proofs.Runs.{all_take, all_newest, later_too, reached_cons, NewestIsBefore, log_list_kept, kept_by_commands}
use Rattle.dym_base.specs.declared.command.Version.{Version}
use Rattle.dym_base.specs.declared.command.Kind.{Kind}
use Rattle.dym_base.specs.declared.command.Kind.TheVariants.{Full, Inc}
use Rattle.dym_base.specs.declared.command.Command.{Command}
use Rattle.dym_base.specs.declared.command.Command.TheVariants.{Malloc, Calloc, Realloc, Free, Write, Fill, Read, Link, Follow, Sum, Log, Ilog, Restore, Prune, Logs}
use Rattle.dym_base.specs.declared.reply.Reply.{Reply}
use Rattle.dym_base.specs.declared.reply.Reply.TheVariants as reply

-- the time that a reply tells of a restore
abbrev restored_time : Reply → ℕ
restored_time (reply.At t) = t
restored_time r = 0

abbrev IsAt : Reply → Type 0
IsAt (reply.At t) = ⊤
IsAt r = ⊥

module _ (t : ℕ) (live : Live) where
  -- the log of time t is kept, with this copy
  abbrev pub IsKept : List LogEntry → Type 0
  IsKept [] = ⊥
  IsKept (e ∷ es) = ((e.time < t) × IsKept es) ⊎ ((e.time ≡ t) × (e.copy ≡ live))

  -- the oldest log is later
  abbrev pub IsPast : List LogEntry → Type 0
  IsPast [] = ⊥
  IsPast (e ∷ es) = t < e.time

  abbrev pub Stays : List LogEntry → Type 0
  Stays logs = IsKept logs ⊎ IsPast logs

  kept_push : (logs : List LogEntry) (f : LogEntry) → IsKept logs → IsKept (logs ++ f ∷ [])
  kept_push [] f kept = absurd kept
  kept_push (e ∷ es) f (inl before) = inl (before.0, kept_push es f before.1)
  kept_push (e ∷ es) f (inr here) = inr here

  past_push : (logs : List LogEntry) (f : LogEntry) → IsPast logs → IsPast (logs ++ f ∷ [])
  past_push [] f past = absurd past
  past_push (e ∷ es) f past = past

  stays_push : (logs : List LogEntry) (f : LogEntry) → Stays logs → Stays (logs ++ f ∷ [])
  stays_push logs f (inl kept) = inl (kept_push logs f kept)
  stays_push logs f (inr past) = inr (past_push logs f past)

  past_drop : (n : ℕ) (logs : List LogEntry) → AllByRecursion (λ e. t < e.time) logs → n < length logs → IsPast (drop n logs)
  past_drop n [] all less = absurd (omega (arith, less))
  past_drop zero (e ∷ es) all less = all.0
  past_drop (suc n) (e ∷ es) all less = past_drop n es all.1 (omega (arith, less))

  later_all : (e : LogEntry) (es : List LogEntry) → e.time ≡ t → FirstFollows e es → EachFollows es → AllByRecursion (λ f. t < f.time) es
  later_all e [] at first each = tt
  later_all e (f ∷ es) at first each =
      let next : t < f.time = omega (arith, at, first.0) in
      (next, later_too t f es next each.0 each.1)

  kept_drop : (n : ℕ) (logs : List LogEntry) → EachFollows logs → n < length logs → IsKept logs → Stays (drop n logs)
  kept_drop n [] each less kept = absurd kept
  kept_drop zero (e ∷ es) each less kept = inl kept
  kept_drop (suc n) (e ∷ es) each less (inl before) = kept_drop n es each.1 (omega (arith, less)) before.1
  kept_drop (suc n) (e ∷ es) each less (inr here) = inr (past_drop n es (later_all e es here.0 each.0 each.1) (omega (arith, less)))

  stays_drop : (n : ℕ) (logs : List LogEntry) → EachFollows logs → n < length logs → Stays logs → Stays (drop n logs)
  stays_drop n logs each less (inl kept) = kept_drop n logs each less kept
  stays_drop n [] each less (inr past) = absurd past
  stays_drop n (e ∷ es) each less (inr past) = inr (past_drop n (e ∷ es) (past, later_too t e es past each.0 each.1) less)

  -- a restore to a time at or after t

  reached_more : (u : ℕ) (e : LogEntry) (es : List LogEntry) → e.time ≤ u → reached u (e ∷ es) ≡ suc (reached u es)
  reached_more u e es before = reached_cons u e es ∙ ap (λ b. cond b 1 0 + reached u es) (le-leb e.time u before) ∙ omega arith

  kept_take : (u : ℕ) (logs : List LogEntry) → t ≤ u → IsKept logs → IsKept (take (reached u logs) logs)
  kept_take u [] from kept = absurd kept
  kept_take u (e ∷ es) from (inl before) =
      subst (λ n. IsKept (take n (e ∷ es))) (sym (reached_more u e es (omega (arith, from, before.0)))) (inl (before.0, kept_take u es from before.1))
  kept_take u (e ∷ es) from (inr here) = subst (λ n. IsKept (take n (e ∷ es))) (sym (reached_more u e es (omega (arith, from, here.0)))) (inr here)

  past_take : (n : ℕ) (logs : List LogEntry) (f : LogEntry) → newest (take n logs) ≡ Some f → IsPast logs → IsPast (take n logs)
  past_take zero logs f is past = absurd (none-some f is)
  past_take (suc n) [] f is past = past
  past_take (suc n) (e ∷ es) f is past = past

  stays_restored : (s : ObjectState) (u : ℕ) (last : Option LogEntry) → t ≤ u → newest (take (reached u s.logs) s.logs) ≡ last → Stays s.logs
      → Stays (restore_to s (take (reached u s.logs) s.logs) last).object.logs
  stays_restored s u None from is stays = stays
  stays_restored s u (Some e) from is (inl kept) = inl (kept_take u s.logs from kept)
  stays_restored s u (Some e) from is (inr past) = inr (past_take (reached u s.logs) s.logs e is past)

  -- every command

  reached_within : (u : ℕ) (logs : List LogEntry) → reached u logs ≤ length logs
  reached_within u [] = omega arith
  reached_within u (e ∷ es) =
      let rest = reached_within u es in
      subst (λ n. n ≤ suc (length es)) (sym (reached_cons u e es))
      (cond_both (nat_le e.time u) 1 0 (λ n. n + reached u es ≤ suc (length es)) (λ _. omega (arith, rest)) (λ _. omega (arith, rest)))

  some_stays : (logs : List LogEntry) → Stays logs → 0 < length logs
  some_stays [] (inl kept) = absurd kept
  some_stays [] (inr past) = absurd past
  some_stays (e ∷ es) stays = omega arith

  more_stays : (v : Version) (s : ObjectState) (u : ℕ) (kind : Kind) → Stays s.logs → Stays (log_more v s u kind).object.logs
  more_stays v s u kind stays =
      cond_both (length s.logs == 256) _ _ (λ (a : ObjectAnswer). Stays a.object.logs) (λ _. stays) (λ _. stays_push s.logs (new_entry s u kind) stays)

  stays_logged : (v : Version) (s : ObjectState) (u : ℕ) (kind : Kind) (last : Option LogEntry) → Stays s.logs → Stays (log_after v s u kind last).object.logs
  stays_logged v s u kind None stays = more_stays v s u kind stays
  stays_logged v s u kind (Some e) stays =
      cond_both (nat_le u e.time) _ _ (λ (a : ObjectAnswer). Stays a.object.logs) (λ _. stays) (λ _. more_stays v s u kind stays)

  stays_pruned : (s : ObjectState) (g : ℕ) → EachFollows s.logs → Stays s.logs → Stays (drop (reached g s.logs - 1) s.logs)
  stays_pruned s g each stays =
      stays_drop (reached g s.logs - 1) s.logs each (omega (arith, reached_within g s.logs, some_stays s.logs stays)) stays

  stays_step : (v : Version) (quota : ℕ) (s : ObjectState) (c : Command) → StaysFrom t c → EachFollows s.logs → Stays s.logs
      → Stays (object_step v quota s c).object.logs
  stays_step v quota s (Log u) from each stays = stays_logged v s u Full (newest s.logs) stays
  stays_step v quota s (Ilog u) from each stays = stays_logged v s u Inc (newest s.logs) stays
  stays_step v quota s (Restore u) from each stays = stays_restored s u (newest (take (reached u s.logs) s.logs)) from refl stays
  stays_step v quota s (Prune g) from each stays = stays_pruned s g each stays
  stays_step v quota s Logs from each stays = stays
  stays_step v quota s (Malloc n) from each stays = stays
  stays_step v quota s (Calloc m n) from each stays = stays
  stays_step v quota s (Realloc h n) from each stays = stays
  stays_step v quota s (Free h) from each stays = stays
  stays_step v quota s (Write h at bytes) from each stays = stays
  stays_step v quota s (Fill h at n byte) from each stays = stays
  stays_step v quota s (Read h at n) from each stays = stays
  stays_step v quota s (Link h at to) from each stays = stays
  stays_step v quota s (Follow h at) from each stays = stays
  stays_step v quota s (Sum h) from each stays = stays

  -- the log's start

  kept_from : (e : LogEntry) (logs : List LogEntry) → NewestIsBefore (newest (e ∷ logs)) t → EachFollows (e ∷ logs) → e.time < t
  kept_from e [] before each = before
  kept_from e (f ∷ logs) before each = omega (arith, each.0.0, kept_from f logs before each.1)

  kept_start : (logs : List LogEntry) (e : LogEntry) → e.time ≡ t → e.copy ≡ live → EachFollows logs → NewestIsBefore (newest logs) t
      → IsKept (logs ++ e ∷ [])
  kept_start [] e at copy each before = inr (at, copy)
  kept_start (f ∷ []) e at copy each before = inl (before, inr (at, copy))
  kept_start (f ∷ g ∷ logs) e at copy each before =
      let rest = kept_start (g ∷ logs) e at copy each.1 before in
      inl (omega (arith, each.0.0, kept_from g logs before each.1), rest)

  -- a restore to t

  none_at : (logs : List LogEntry) → AllByRecursion (λ e. t < e.time) logs → AllByRecursion (λ e. e.time ≡ t → e.copy ≡ live) logs
  none_at [] all = tt
  none_at (e ∷ es) all = ((λ at. absurd (omega (arith, at, all.0))), none_at es all.1)

  own_copy : (logs : List LogEntry) → EachFollows logs → Stays logs → AllByRecursion (λ e. e.time ≡ t → e.copy ≡ live) logs
  own_copy [] each stays = tt
  own_copy (e ∷ es) each (inl (inl before)) = ((λ at. absurd (omega (arith, at, before.0))), own_copy es each.1 (inl before.1))
  own_copy (e ∷ es) each (inl (inr here)) = ((λ at. here.1), none_at es (later_all e es here.0 each.0 each.1))
  own_copy (e ∷ es) each (inr past) = none_at (e ∷ es) (past, later_too t e es past each.0 each.1)

  restored_live : (s : ObjectState) (last : Option LogEntry) → newest (take (reached t s.logs) s.logs) ≡ last → EachFollows s.logs → Stays s.logs
      → (restore_to s (take (reached t s.logs) s.logs) last).reply ≡ reply.At t → (restore_to s (take (reached t s.logs) s.logs) last).object.heap.live ≡ live
  restored_live s None is each stays at = absurd (subst IsAt (sym at) tt)
  restored_live s (Some e) is each stays at =
      let Own : LogEntry → Type 0 = λ f. f.time ≡ t → f.copy ≡ live in
      let kept = all_take Own (reached t s.logs) s.logs (own_copy s.logs each stays) in
      all_newest Own (take (reached t s.logs) s.logs) e kept is (ap restored_time at)

-- the log that was made is the newest, and the others are before it

module _ (v : Version) (s : ObjectState) (t : ℕ) (kind : Kind) (list : IsLogList s.logs) where
  abbrev Begins : ObjectAnswer → Type 0
  Begins a = IsLogged a.reply → IsLogList a.object.logs × Stays t s.heap.live a.object.logs

  more_begins : NewestIsBefore (newest s.logs) t → IsLogList (log_more v s t kind).object.logs → Begins (log_more v s t kind)
  more_begins before =
      cond_both (length s.logs == 256) _ _ (λ (a : ObjectAnswer). IsLogList a.object.logs → Begins a) (λ _ lists made. absurd made)
      (λ _ lists made. (lists, inl (kept_start t s.heap.live s.logs (new_entry s t kind) refl refl list.2 before)))

  after_begins : (last : Option LogEntry) → newest s.logs ≡ last → IsLogList (log_after v s t kind last).object.logs → Begins (log_after v s t kind last)
  after_begins None is = more_begins (subst (λ o. NewestIsBefore o t) (sym is) tt)
  after_begins (Some e) is =
      cond_both (nat_le t e.time) _ _ (λ (a : ObjectAnswer). IsLogList a.object.logs → Begins a) (λ _ lists made. absurd made)
      (λ later. more_begins (subst (λ o. NewestIsBefore o t) (sym is) (leb-false t e.time later)))

  log_lists : (k : Kind) → IsLogList (log v s t k).object.logs
  log_lists Full = log_list_kept v 0 s (Log t) list
  log_lists Inc = log_list_kept v 0 s (Ilog t) list

  pub log_begins : Begins (log v s t kind)
  log_begins = after_begins (newest s.logs) refl (log_lists kind)

pub brings_back : RestoresBringBack
brings_back v quota s t kind commands list made from at =
    let Whole : ObjectState → Type 0 = λ o. IsLogList o.logs × Stays t s.heap.live o.logs in
    let step : (o : ObjectState) (c : Command) → StaysFrom t c → Whole o → Whole (object_step v quota o c).object =
    λ o c fits whole. (log_list_kept v quota o c whole.0, stays_step t s.heap.live v quota o c fits whole.0.2 whole.1) in
    let after = object_after v quota (log v s t kind).object commands in
    let whole = kept_by_commands (StaysFrom t) Whole v quota step commands from (log v s t kind).object (log_begins v s t kind list made) in
    restored_live t s.heap.live after (newest (take (reached t after.logs) after.logs)) refl whole.0.2 whole.1 at
