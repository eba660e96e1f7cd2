-- What an export does, by how the process stands.
use Rattle.std.proofs.Common.{◌≡◌, ℕ, suc, List, [], ◌++◌, length, drop, Option, Some, Bool, true, false}
use Rattle.std.proofs.Common.{Result, Ok, Err, OnOk, OnErr, ◌↔◌, ◌≤◌, ◌∷◌, refl, ap, sym, subst, ◌∙◌, arith}
use Rattle.std.specs.Prelude.{⊤}
use Rattle.std.proofs.Math.Seq.{drop-append_seam}
use Rattle.dym_base.specs.Heaps.{Live}
use Rattle.dym_base.specs.declared.limits.TheConstants.{COUNT_LIMIT}
use Rattle.dym_undo_object.specs.Meaning.{UndoObjectMeaning}
use Rattle.warp_base.specs.declared.event.Event.{Event}
use Rattle.warp_base.specs.declared.event.Message.{Message}
use Rattle.warp_base.specs.Histories.{Behaviour}
use Rattle.warp_base.specs.declared.event.Draft.{Draft}
use Rattle.warp_process.specs.Processes.{HasCommitted, ProcessFace}
use Rattle.warp_object.specs.Processes.{inner, date_of, IsProcessOf, IsHandedOut}
use Rattle.warp_object.specs.declared.object_process.OpenError.{OpenError}
use Rattle.warp_object.specs.declared.object_process.OpenError.TheVariants as opening
use Rattle.warp_object.specs.declared.steps.SendError.{SendError}
use Rattle.warp_object.specs.declared.steps.SendError.TheVariants as sending
use Rattle.dym_c.specs.ProcessExports.{ByPhase, ByState, ByBoth, IsTaking}
use Rattle.dym_c.specs.ProcessMeanings.{ProcessMeaning, words}
use Rattle.dym_c.specs.ProcessRuns.{Kept, HasCommittedIn, HasCommittedBefore, HasSent, HasStarted, HasEndedStart}
use Rattle.dym_c.specs.declared.events.DymData.{DymData}
use Rattle.dym_c.specs.declared.process_content.Phase.{Phase}
use Rattle.dym_c.specs.declared.process_content.Phase.TheVariants.{Starting, Running}
use Rattle.dym_c.specs.declared.process_content.Start.{Start}

module _ (old : Option ProcessMeaning) (p : ProcessMeaning) (closed : Type 0) (starting : ProcessMeaning → Start → Type 0)
    (running : ProcessMeaning → Kept → Type 0) where
  by_phase : old ≡ Some p → ByPhase p.phase (starting p) (running p) → ByState old closed starting running
  by_phase is h = subst (λ (o : Option ProcessMeaning). ByState o closed starting running) (sym is) h

  pub by_starting : old ≡ Some p → (start : Start) → p.phase ≡ Starting start → starting p start → ByState old closed starting running
  by_starting is start at h = by_phase is (subst (λ (f : Phase). ByPhase f (starting p) (running p)) (sym at) h)

  pub by_running : old ≡ Some p → (r : Kept) → p.phase ≡ Running r → running p r → ByState old closed starting running
  by_running is r at h = by_phase is (subst (λ (f : Phase). ByPhase f (starting p) (running p)) (sym at) h)

module _ (old : Option ProcessMeaning) (object : Option UndoObjectMeaning) (closed : Type 0)
    (starting : ProcessMeaning → Start → UndoObjectMeaning → Type 0) (running : ProcessMeaning → Kept → UndoObjectMeaning → Type 0) where
  both_open : (p : ProcessMeaning) (o : UndoObjectMeaning) → old ≡ Some p → object ≡ Some o
      → ByPhase p.phase (λ start. starting p start o) (λ r. running p r o) → ByBoth old object closed starting running
  both_open p o is there h = subst (λ (x : Option UndoObjectMeaning). ByBoth old x closed starting running) (sym there)
      (subst (λ (x : Option ProcessMeaning). ByBoth x (Some o) closed starting running) (sym is) h)

  pub both_running : (p : ProcessMeaning) (o : UndoObjectMeaning) → old ≡ Some p → object ≡ Some o → (r : Kept)
      → p.phase ≡ Running r → running p r o → ByBoth old object closed starting running
  both_running p o is there r at h = both_open p o is there
      (subst (λ (f : Phase). ByPhase f (λ start. starting p start o) (λ r. running p r o)) (sym at) h)

-- a message that C hands in is one
module _ (old : Option ProcessMeaning) (status undone new_undone : ℕ) (new : Option ProcessMeaning) where
  pub taking_of : (given taken : Option (Message DymData)) → given ≡ taken → IsTaking old taken status undone new_undone new
      → IsTaking old given status undone new_undone new
  taking_of given taken is h = subst (λ (m : Option (Message DymData)). IsTaking old m status undone new_undone new) (sym is) h

abbrev start_or : Start → Phase → Start
start_or s (Starting t) = t
start_or s (Running p) = s

-- a start that isn't ended is one start
pub of_start : (P : Start → Type 0) (f : Phase) (s : Start) → f ≡ Starting s → P s → (start : Start) → f ≡ Starting start → P start
of_start P f s at h start is = subst P (ap (start_or s) (sym at ∙ is)) h

module _ {A : Type 0} (time : ℕ) (f g : ProcessFace DymData A) (before out new : List (Event DymData)) where
  -- of the events that commits handed out, the last one's are left
  pub last_committed : new ≡ drop (length before) out → HasCommitted words time f g before out → HasCommitted words time f g [] new
  last_committed left done = record {
    gone = done.gone;
    handed = left ∙ ap (drop (length before)) done.handed ∙ drop-append_seam before done.gone;
    whole = done.whole;
    before = done.before;
    behind = done.behind;
    same_done = done.same_done;
    process = done.process;
    marks = done.marks;
    last = done.last;
    early = done.early;
    number = done.number;
  }

  pub last_gone : new ≡ drop (length before) out → (done : HasCommitted words time f g before out) → new ≡ done.gone
  last_gone left done = left ∙ ap (drop (length before)) done.handed ∙ drop-append_seam before done.gone

-- all events before a bound were committed
module _ (o : UndoObjectMeaning) (p : Kept) (new_o : UndoObjectMeaning) (q : Kept) (committed new_committed : List (Event DymData))
    (status told new_told : ℕ) where
  pub committed_before : (bound last : ℕ) → bound ≡ suc last → HasCommittedIn o p new_o q last committed new_committed status told new_told
      → HasCommittedBefore o p new_o q bound committed new_committed status told new_told
  committed_before bound last is h =
      subst (λ (n : ℕ). HasCommittedBefore o p new_o q n committed new_committed status told new_told) (sym is) h

-- up to a time all was committed, and what was handed out before was dropped
module _ (o : UndoObjectMeaning) (p : Kept) (new_o : UndoObjectMeaning) (q : Kept) (last : ℕ) (before out new : List (Event DymData))
    (told new_told : ℕ) where
  pub all_committed : new ≡ drop (length before) out → (done : HasCommitted words last (inner p) (inner q) before out)
      → ((b : Behaviour DymData Live) (past : List (Event DymData)) → IsProcessOf words b past o p → IsProcessOf words b (past ++ done.gone) new_o q)
      → new_told ≡ length new → (p.is_open ≡ true → ⊥) → q ≡ record p { process = q.process } → HasCommittedIn o p new_o q last before new 0 told new_told
  all_committed left done kept count closed rest = record {
    done = λ _. last_committed last (inner p) (inner q) before out new left done;
    kept = λ _ b past h. subst (λ (l : List (Event DymData)). IsProcessOf words b (past ++ l) new_o q)
        (sym (last_gone last (inner p) (inner q) before out new left done)) (kept b past h);
    count = λ _. count;
    was_open = (λ e. absurd (omega (arith, e)), λ is. absurd (closed is));
    backward = λ e. absurd (omega (arith, e));
    unsettled = λ e. absurd (omega (arith, e));
    spent = λ e. absurd (omega (arith, e));
    rest = rest;
    unchanged = λ no. absurd (no refl);
  }

-- an answer is not both
module _ {T E : Type 0} where
  abbrev IsDone : Result T E → Type 0
  IsDone (Ok v) = ⊤
  IsDone (Err e) = ⊥

  pub not_both : (r : Result T E) (v : T) (e : E) → r ≡ Ok v → r ≡ Err e → ⊥
  not_both r v e ok err = subst IsDone (sym ok ∙ err) tt

  pub err_of : (r : Result T E) (e f : E) → r ≡ Err e → e ≡ f → r ≡ Err f
  err_of r e f is same = is ∙ ap Err same

  pub on_err : (r : Result T E) (e : E) (P : Type 0) → r ≡ Err e → OnErr r P → P
  on_err r e P is h = subst (λ (x : Result T E). OnErr x P) is h

module _ {T : Type 0} where
  -- the status of what a process answers to an event that is sent
  abbrev pub send_status : Result T SendError → ℕ
  send_status (Ok v) = 0
  send_status (Err sending.Idle) = 11
  send_status (Err sending.NotLater) = 14
  send_status (Err sending.NoProcess) = 15
  send_status (Err sending.Memory) = 8

  idle_of : (r : Result T SendError) → send_status r ≡ 11 → r ≡ Err sending.Idle
  idle_of (Ok v) e = absurd (omega (arith, e))
  idle_of (Err sending.Idle) e = refl
  idle_of (Err sending.NotLater) e = absurd (omega (arith, e))
  idle_of (Err sending.NoProcess) e = absurd (omega (arith, e))
  idle_of (Err sending.Memory) e = absurd (omega (arith, e))

  not_later_of : (r : Result T SendError) → send_status r ≡ 14 → r ≡ Err sending.NotLater
  not_later_of (Ok v) e = absurd (omega (arith, e))
  not_later_of (Err sending.Idle) e = absurd (omega (arith, e))
  not_later_of (Err sending.NotLater) e = refl
  not_later_of (Err sending.NoProcess) e = absurd (omega (arith, e))
  not_later_of (Err sending.Memory) e = absurd (omega (arith, e))

  nobody_of : (r : Result T SendError) → send_status r ≡ 15 → r ≡ Err sending.NoProcess
  nobody_of (Ok v) e = absurd (omega (arith, e))
  nobody_of (Err sending.Idle) e = absurd (omega (arith, e))
  nobody_of (Err sending.NotLater) e = absurd (omega (arith, e))
  nobody_of (Err sending.NoProcess) e = refl
  nobody_of (Err sending.Memory) e = absurd (omega (arith, e))

  done_of_send : (r : Result T SendError) (P : Type 0) → OnOk r P → send_status r ≡ 0 → P
  done_of_send (Ok v) P h e = h
  done_of_send (Err sending.Idle) P h e = absurd (omega (arith, e))
  done_of_send (Err sending.NotLater) P h e = absurd (omega (arith, e))
  done_of_send (Err sending.NoProcess) P h e = absurd (omega (arith, e))
  done_of_send (Err sending.Memory) P h e = absurd (omega (arith, e))

  kept_of_send : (r : Result T SendError) (P : Type 0) → OnErr r P → (send_status r ≡ 0 → ⊥) → P
  kept_of_send (Ok v) P h fails = absurd (fails refl)
  kept_of_send (Err e) P h fails = h

  -- what a process says of an event that is sent, by the status
  pub sent_of : (p q : Kept) (draft : Draft DymData) (r : Result T SendError) (status : ℕ) → send_status r ≡ status
      → OnOk r (p.reached ≡ Some (date_of (inner p)) → q.drafts.items ≡ p.drafts.items ++ draft ∷ [])
      → ((event : Event DymData) → IsHandedOut p event true → q.drafts.items ≡ p.drafts.items)
      → ((r ≡ Err sending.Idle) ↔ (p.is_open ≡ false))
      → ((event : Event DymData) (is_replayed : Bool) → p.is_open ≡ true → IsHandedOut p event is_replayed
      → (r ≡ Err sending.NotLater) ↔ (draft.time ≤ event.time))
      → (r ≡ Err sending.NoProcess → p.processes ≤ draft.receiver) → OnErr r (q.drafts.items ≡ p.drafts.items)
      → q ≡ record p { drafts = q.drafts } → HasSent p q draft status
  sent_of p q draft r status at sent dropped idle later nobody unchanged rest =
      subst (HasSent p q draft) at (record {
        sent = λ e. done_of_send r _ sent e;
        dropped = dropped;
        idle = (λ e. idle.0 (idle_of r e), λ closed. ap send_status (idle.1 closed));
        later = λ event is_replayed open_now out. (
          λ e. (later event is_replayed open_now out).0 (not_later_of r e),
          λ late. ap send_status ((later event is_replayed open_now out).1 late),
        );
        no_process = λ e. nobody (nobody_of r e);
        unchanged = kept_of_send r _ unchanged;
        rest = rest;
      })

  -- whether an object that is spent is why a process isn't opened
  abbrev pub open_status : Result T OpenError → ℕ
  open_status (Ok v) = 0
  open_status (Err opening.Memory) = 8
  open_status (Err opening.Spent) = 10
  open_status (Err opening.Logged) = 18
  open_status (Err opening.NoProcess) = 15

-- the start was ended
module _ (p : ProcessMeaning) (start : Start) (o new_o : UndoObjectMeaning) (q : Kept) (out : List (Message DymData)) where
  pub start_ended : HasStarted o start new_o q p.out out → (COUNT_LIMIT ≤ o.ran → ⊥)
      → HasEndedStart p start o 0 (Some (record p { phase = Running q; out = out })) (Some new_o)
  start_ended h few = record {
    done = λ _. (q, out, new_o, refl, refl, h);
    spent = (λ e. absurd (omega (arith, e)), λ many. absurd (few many));
    logged = λ e. absurd (omega (arith, e));
    no_process = λ e. absurd (omega (arith, e));
    unchanged = λ no. absurd (no refl);
  }
