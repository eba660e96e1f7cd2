-- The oldest kept log of an object only goes on: it stays, or a later one is the oldest. Once a log is kept, one is.
use Rattle.std.proofs.Common.{◌≡◌, ℕ, zero, suc, ◌-◌, ◌<◌, ◌≤◌, ◌⊎◌, inl, inr, nat_le, ◌==◌, Option, Some, None, List, [], ◌∷◌, ◌++◌, length, take, drop, option_map, refl, sym, ap, subst, ◌∙◌, arith}
use Rattle.std.proofs.lemmas.Bool.{cond_both}
use Rattle.std.proofs.lemmas.Option.{none-some}
use Rattle.std.proofs.lemmas.List.Sums.{count_by-le-length}
use Rattle.dym_base.specs.declared.command.Version.{Version}
use Rattle.dym_base.specs.declared.command.Kind.{Kind}
use Rattle.dym_base.specs.declared.command.Kind.TheVariants.{Full, Inc}
use Rattle.dym_base.specs.declared.command.Command.{Command}
use Rattle.dym_base.specs.declared.command.Command.TheVariants.{Malloc, Calloc, Realloc, Free, Write, Fill, Read, Link, Follow, Sum, Log, Ilog, Restore, Prune, Logs}
use Rattle.dym_base.specs.declared.limits.TheConstants.{MOST_KEPT_LOGS}
use Rattle.dym_base.specs.Objects.{LogEntry, ObjectState, ObjectAnswer, object_start, newest, new_entry, log_more, log_after, reached, restore_to, object_step, object_after, run_end}
use Rattle.dym_base.specs.RunLaws.{EachFollows, IsLogList}
use Rattle.dym_base.proofs.Runs.{log_list_kept}
use Rattle.dym_view.specs.Commits.{committed, oldest}
use Rattle.dym_wave.specs.Publications.{GoesOn, MayShow}

goes_self : (a : Option LogEntry) → GoesOn a a
goes_self None = tt
goes_self (Some e) = inl refl

later_by : (e f g : LogEntry) → (f ≡ e) ⊎ (e.time < f.time) → (g ≡ f) ⊎ (f.time < g.time) → (g ≡ e) ⊎ (e.time < g.time)
later_by e f g (inl same) (inl again) = inl (again ∙ same)
later_by e f g (inl same) (inr later) = inr (subst (λ (x : LogEntry). x.time < g.time) same later)
later_by e f g (inr later) (inl same) = inr (subst (λ (x : LogEntry). e.time < x.time) (sym same) later)
later_by e f g (inr later) (inr more) = inr (omega (arith, later, more))

goes_further : (a b c : Option LogEntry) → GoesOn a b → GoesOn b c → GoesOn a c
goes_further None b c p q = tt
goes_further (Some e) None c p q = absurd p
goes_further (Some e) (Some f) None p q = absurd q
goes_further (Some e) (Some f) (Some g) p q = later_by e f g p q

-- what one command does to the oldest log

goes_push : (logs : List LogEntry) (f : LogEntry) → GoesOn (oldest logs) (oldest (logs ++ f ∷ []))
goes_push [] f = tt
goes_push (e ∷ logs) f = inl refl

goes_take : (n : ℕ) (logs : List LogEntry) (e : LogEntry) → newest (take n logs) ≡ Some e → GoesOn (oldest logs) (oldest (take n logs))
goes_take zero logs e is = absurd (none-some e is)
goes_take (suc n) [] e is = tt
goes_take (suc n) (f ∷ logs) e is = inl refl

goes_drop : (n : ℕ) (e : LogEntry) (logs : List LogEntry) → EachFollows (e ∷ logs) → n ≤ length logs → GoesOn (Some e) (oldest (drop n (e ∷ logs)))
goes_drop zero e logs each few = inl refl
goes_drop (suc n) e [] each few = absurd (omega (arith, few))
goes_drop (suc n) e (f ∷ logs) each few =
    goes_further (Some e) (Some f) (oldest (drop n (f ∷ logs))) (inr each.0.0) (goes_drop n f logs each.1 (omega (arith, few)))

goes_prune : (g : ℕ) (logs : List LogEntry) → EachFollows logs → GoesOn (oldest logs) (oldest (drop (reached g logs - 1) logs))
goes_prune g [] each = tt
goes_prune g (e ∷ logs) each =
    goes_drop (reached g (e ∷ logs) - 1) e logs each (omega (arith, count_by-le-length (λ (f : LogEntry). nat_le f.time g) (e ∷ logs)))

module _ (v : Version) (quota : ℕ) (s : ObjectState) where
  abbrev Goes : ObjectAnswer → Type 0
  Goes answer = GoesOn (oldest s.logs) (oldest answer.object.logs)

  stays : GoesOn (oldest s.logs) (oldest s.logs)
  stays = goes_self (oldest s.logs)

  goes_more : (t : ℕ) (kind : Kind) → Goes (log_more v s t kind)
  goes_more t kind = cond_both (length s.logs == MOST_KEPT_LOGS) _ _ Goes (λ _. stays) (λ _. goes_push s.logs (new_entry s t kind))

  goes_after : (t : ℕ) (kind : Kind) (last : Option LogEntry) → Goes (log_after v s t kind last)
  goes_after t kind None = goes_more t kind
  goes_after t kind (Some e) = cond_both (nat_le t e.time) _ _ Goes (λ _. stays) (λ _. goes_more t kind)

  goes_restore : (n : ℕ) (last : Option LogEntry) → newest (take n s.logs) ≡ last → Goes (restore_to s (take n s.logs) last)
  goes_restore n None is = stays
  goes_restore n (Some e) is = goes_take n s.logs e is

  goes_step : (c : Command) → EachFollows s.logs → Goes (object_step v quota s c)
  goes_step (Log t) each = goes_after t Full (newest s.logs)
  goes_step (Ilog t) each = goes_after t Inc (newest s.logs)
  goes_step (Restore t) each = goes_restore (reached t s.logs) (newest (take (reached t s.logs) s.logs)) refl
  goes_step (Prune g) each = goes_prune g s.logs each
  goes_step Logs each = stays
  goes_step (Malloc n) each = stays
  goes_step (Calloc m n) each = stays
  goes_step (Realloc h n) each = stays
  goes_step (Free h) each = stays
  goes_step (Write h at bytes) each = stays
  goes_step (Fill h at n byte) each = stays
  goes_step (Read h at n) each = stays
  goes_step (Link h at to) each = stays
  goes_step (Follow h at) each = stays
  goes_step (Sum h) each = stays

-- and what more commands do

module _ (v : Version) (quota : ℕ) where
  goes_along : (commands : List Command) (s : ObjectState) → IsLogList s.logs → GoesOn (oldest s.logs) (oldest (object_after v quota s commands).logs)
  goes_along [] s list = goes_self (oldest s.logs)
  goes_along (c ∷ commands) s list =
      let next = (object_step v quota s c).object in
      goes_further (oldest s.logs) (oldest next.logs) (oldest (object_after v quota next commands).logs)
      (goes_step v quota s c list.2) (goes_along commands next (log_list_kept v quota s c list))

  goes_between : (commands : List Command) (n m : ℕ) (s : ObjectState) → n ≤ m → IsLogList s.logs
      → GoesOn (oldest (object_after v quota s (take n commands)).logs) (oldest (object_after v quota s (take m commands)).logs)
  goes_between commands zero m s less list = goes_along (take m commands) s list
  goes_between commands (suc n) zero s less list = absurd (omega (arith, less))
  goes_between [] (suc n) (suc m) s less list = goes_self (oldest s.logs)
  goes_between (c ∷ commands) (suc n) (suc m) s less list =
      goes_between commands n m (object_step v quota s c).object (omega (arith, less)) (log_list_kept v quota s c list)

  -- the oldest log after more of a run's commands
  pub goes_on : (commands : List Command) (n m : ℕ) → n ≤ m
      → GoesOn (oldest (run_end v quota (take n commands)).logs) (oldest (run_end v quota (take m commands)).logs)
  goes_on commands n m less = goes_between commands n m object_start less (omega arith, tt, tt)

-- the same of commits

pub may_show : (a b : Option LogEntry) → GoesOn a b → MayShow (option_map committed a) (option_map committed b)
may_show None b goes = tt
may_show (Some e) None goes = absurd goes
may_show (Some e) (Some f) (inl same) = inl (ap committed same)
may_show (Some e) (Some f) (inr later) = inr later
