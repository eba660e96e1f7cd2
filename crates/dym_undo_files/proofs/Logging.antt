-- A log that was taken: what it leaves.
use Rattle.std.proofs.Common.{◌≡◌, ℕ, Bool, true, false, cond, ◌==◌, nat_le, Option, None, Some, List, [], ◌∷◌, ◌++◌, length, refl, ap, subst, ◌∙◌}
use Rattle.std.specs.FinSet as set
use Rattle.dym_base.specs.Heaps.{Touched}
use Rattle.dym_base.specs.Objects.{LogEntry, ObjectState, ObjectAnswer, newest, log, log_after, log_more, new_entry, unchanged, kind_of, record_of}
use Rattle.dym_base.specs.Objects.{found_touched}
use Rattle.dym_base.specs.declared.command.Kind.{Kind}
use Rattle.dym_base.specs.declared.command.Version.{Version}
use Rattle.dym_base.specs.declared.limits.TheConstants.{MOST_KEPT_LOGS}
use Rattle.dym_base.specs.declared.reply.Reply.TheVariants as reply
use Rattle.dym_base.specs.declared.reply.Refusal.TheVariants.{NotAfter, LogsFull}
use Rattle.dym_chain.specs.Answers.{IsLogged}

-- the object after a log that was not refused
abbrev pub taken : ObjectState → ℕ → Kind → ObjectState
taken s t kind = record { heap = record { live = s.heap.live; touched = set.empty }; logs = s.logs ++ new_entry s t kind ∷ [] }

module _ (v : Version) (s : ObjectState) (t : ℕ) (kind : Kind) where
  abbrev full : ObjectAnswer
  full = unchanged s (reply.Refused LogsFull)

  abbrev done : ObjectAnswer
  done = record { object = taken s t kind; reply = reply.Logged (kind_of (new_entry s t kind)) (length (record_of v (new_entry s t kind))) }

  more_taken : IsLogged (log_more v s t kind).reply → (log_more v s t kind).object ≡ taken s t kind
  more_taken is = by (length s.logs == MOST_KEPT_LOGS) refl
    where
      by : (b : Bool) → (length s.logs == MOST_KEPT_LOGS) ≡ b → (log_more v s t kind).object ≡ taken s t kind
      by true e = absurd (subst (λ b. IsLogged (cond b full done).reply) e is)
      by false e = ap (λ b. (cond b full done).object) e

pub log_taken : (v : Version) (s : ObjectState) (t : ℕ) (kind : Kind) → IsLogged (log v s t kind).reply → (log v s t kind).object ≡ taken s t kind
log_taken v s t kind is = by (newest s.logs) refl
  where
    later : (e : LogEntry) (b : Bool) → nat_le t e.time ≡ b → IsLogged (log_after v s t kind (Some e)).reply → (log_after v s t kind (Some e)).object ≡ taken s t kind
    later e true is_late is = absurd (subst (λ b. IsLogged (cond b (unchanged s (reply.Refused (NotAfter e.time))) (log_more v s t kind)).reply) is_late is)
    later e false is_late is =
        ap (λ b. (cond b (unchanged s (reply.Refused (NotAfter e.time))) (log_more v s t kind)).object) is_late
        ∙ more_taken v s t kind (subst (λ b. IsLogged (cond b (unchanged s (reply.Refused (NotAfter e.time))) (log_more v s t kind)).reply) is_late is)

    by : (o : Option LogEntry) → newest s.logs ≡ o → (log v s t kind).object ≡ taken s t kind
    by None e = ap (λ o. (log_after v s t kind o).object) e ∙ more_taken v s t kind (subst (λ o. IsLogged (log_after v s t kind o).reply) e is)
    by (Some f) e = ap (λ o. (log_after v s t kind o).object) e ∙ later f (nat_le t f.time) refl (subst (λ o. IsLogged (log_after v s t kind o).reply) e is)

pub newest_push : (logs : List LogEntry) (e : LogEntry) → newest (logs ++ e ∷ []) ≡ Some e
newest_push [] e = refl
newest_push (f ∷ []) e = refl
newest_push (f ∷ g ∷ es) e = newest_push (g ∷ es) e

-- of an untouched heap a log finds nothing
pub found_nothing : (depth : ℕ) (touched : Touched) → touched ≡ set.empty → found_touched depth touched ≡ set.empty
found_nothing depth touched none = ap (found_touched depth) none ∙ by (depth == 0)
  where
    by : (b : Bool) → cond {A = Touched} b set.empty set.empty ≡ set.empty
    by true = refl
    by false = refl
