-- What the calls do, of a process that is started or starts, that hand events out and end them, take messages and commit.
use Rattle.std.specs.Prelude.{◌≡◌, ◌↔◌, ◌≤◌, ◌<◌, ◌+◌, ◌^◌, ◌⊎◌, ◌++◌, ◌∷◌, [], ℕ, zero, suc, Bool, true, false, List, map, length, drop, Option, None, Some}
use Rattle.std.specs.Bool.{MatchBool}
use Rattle.dym_base.specs.Heaps.{Live}
use Rattle.dym_base.specs.declared.limits.TheConstants.{COUNT_LIMIT}
use Rattle.dym_undo_object.specs.Meaning.{UndoObjectMeaning}
use Rattle.warp_base.specs.Events.{AreFrom, Each}
use Rattle.warp_base.specs.Histories.{Behaviour, stamped}
use Rattle.warp_base.specs.Messages.{event_of}
use Rattle.warp_base.specs.declared.event.Draft.{Draft}
use Rattle.warp_base.specs.declared.event.Event.{Event}
use Rattle.warp_base.specs.declared.event.Message.{Message}
use Rattle.warp_base.specs.declared.event.Message.TheVariants as messages
use Rattle.warp_process.specs.Processes.{HasTakenMessage, HasPosted, UndoesFrom, HasCommitted, bound_of}
use Rattle.warp_object.specs.Processes.{inner, date_of, IsKept, IsProcessOf, IsHandedOut}
use Rattle.warp_object.specs.declared.messages.CommitError.{CommitError}
use Rattle.warp_object.specs.declared.messages.CommitError.TheVariants as committing
use Rattle.warp_object.specs.declared.object_process.ObjectProcess.{ObjectProcess}
use Rattle.warp_object.specs.declared.steps.BeginError.{BeginError}
use Rattle.warp_object.specs.declared.steps.BeginError.TheVariants as beginning
use Rattle.dym_c.specs.Events.{c_event}
use Rattle.dym_c.specs.ProcessCalls.{flag, next_of}
use Rattle.dym_c.specs.ProcessMeanings.{ProcessMeaning, words}
use Rattle.dym_c.specs.declared.events.DymData.{DymData}
use Rattle.dym_c.specs.declared.events.DymEvent.{DymEvent}
use Rattle.dym_c.specs.declared.process_content.Phase.TheVariants.{Running}
use Rattle.dym_c.specs.declared.process_content.Start.{Start}

abbrev pub Kept : Type 0
Kept = ObjectProcess DymData

-- whatever behaviour the process was of, it is of it still
abbrev pub StaysOf : UndoObjectMeaning → Kept → UndoObjectMeaning → Kept → Type 0
StaysOf o p new_o q = (b : Behaviour DymData Live) (past : List (Event DymData)) → IsProcessOf words b past o p
    → IsProcessOf words b past new_o q

-- a process is as it was
pub record IsUnchanged (p q : Kept) : Type 0 where
  pub face : inner q ≡ inner p
  pub reached : q.reached ≡ p.reached
  pub rest : q ≡ record p { process = q.process; reached = q.reached }

-- the status where no event is handed out
abbrev pub begin_number : BeginError → ℕ
begin_number beginning.Open = 11
begin_number beginning.Memory = 8
begin_number beginning.Spent = 10
begin_number beginning.Astray = 18

-- the status where nothing is committed
abbrev pub commit_number : CommitError → ℕ
commit_number committing.Open = 11
commit_number committing.Backward = 13
commit_number committing.Unsettled = 16
commit_number committing.Spent = 10
commit_number committing.Memory = 8

-- an event was handed out, and whether it was run before is told
pub record IsGiven (q : Kept) (event : DymEvent) (how : ℕ) : Type 0 where
  pub event_given : Event DymData
  pub is_replayed : Bool
  pub untouched : Bool
  pub event_told : event ≡ c_event event_given
  pub is_open : q.is_open ≡ true
  pub handed_out : IsHandedOut q event_given is_replayed
  pub nothing_sent : q.drafts.items ≡ []
  pub how_told : how ≡ flag is_replayed + (flag untouched + flag untouched)

-- the next event, or one that was run before, was handed out
pub record HasBegun (o : UndoObjectMeaning) (p : Kept) (new_o : UndoObjectMeaning) (q : Kept) (status : ℕ)
    (event new_event : DymEvent) (how new_how : ℕ) : Type 0 where
  pub kept : StaysOf o p new_o q
  pub given : status ≡ 0 → IsGiven q new_event new_how
  pub none : status ≡ 17 → (q.reached ≡ Some (date_of (inner q))) × (next_of q ≡ None) × (q.is_open ≡ false)
  pub was_open : (status ≡ 11) ↔ (p.is_open ≡ true)
  pub spent : status ≡ 10 → COUNT_LIMIT ≤ new_o.ran
  pub astray : (b : Behaviour DymData Live) (past : List (Event DymData)) → IsProcessOf words b past o p → status ≡ 18 → ⊥
  pub reached : (r : ℕ) → p.reached ≡ Some r → q.reached ≡ Some r
  pub rest : inner q ≡ record (inner p) { copies = (inner q).copies }
  pub unchanged : (status ≡ 0 → ⊥) → (status ≡ 17 → ⊥) → (q.is_open ≡ p.is_open) × (q.drafts ≡ p.drafts)
  pub untold : (status ≡ 0 → ⊥) → (new_event ≡ event) × (new_how ≡ how)

-- an event that was run before was handed out
pub record HasBegunReplay (o : UndoObjectMeaning) (p : Kept) (new_o : UndoObjectMeaning) (q : Kept) (status : ℕ)
    (event new_event : DymEvent) (how new_how : ℕ) : Type 0 where
  pub kept : StaysOf o p new_o q
  pub given : status ≡ 0 → IsGiven q new_event new_how
  pub none : status ≡ 17 → (q.reached ≡ Some (date_of (inner q))) × (q.is_open ≡ false)
  pub was_open : (status ≡ 11) ↔ (p.is_open ≡ true)
  pub spent : status ≡ 10 → COUNT_LIMIT ≤ new_o.ran
  pub astray : (b : Behaviour DymData Live) (past : List (Event DymData)) → IsProcessOf words b past o p → status ≡ 18 → ⊥
  pub reached : (r : ℕ) → p.reached ≡ Some r → q.reached ≡ Some r
  pub same : inner q ≡ inner p
  pub rest : q ≡ record p { reached = q.reached; is_open = q.is_open; drafts = q.drafts }
  pub unchanged : (status ≡ 0 → ⊥) → (status ≡ 17 → ⊥) → (q.is_open ≡ p.is_open) × (q.drafts ≡ p.drafts)
  pub untold : (status ≡ 0 → ⊥) → (new_event ≡ event) × (new_how ≡ how)

-- an event was sent by the one that is handed out
pub record HasSent (p q : Kept) (draft : Draft DymData) (status : ℕ) : Type 0 where
  pub sent : status ≡ 0 → p.reached ≡ Some (date_of (inner p)) → q.drafts.items ≡ p.drafts.items ++ draft ∷ []
  pub dropped : (event : Event DymData) → IsHandedOut p event true → q.drafts.items ≡ p.drafts.items
  pub idle : (status ≡ 11) ↔ (p.is_open ≡ false)
  pub later : (event : Event DymData) (is_replayed : Bool) → p.is_open ≡ true → IsHandedOut p event is_replayed
      → (status ≡ 14) ↔ (draft.time ≤ event.time)
  pub no_process : status ≡ 15 → p.processes ≤ draft.receiver
  pub unchanged : (status ≡ 0 → ⊥) → q.drafts.items ≡ p.drafts.items
  pub rest : q ≡ record p { drafts = q.drafts }

-- the start sends an event: it may be at any time
pub record HasKeptFirst (start sent : Start) (draft : Draft DymData) (status : ℕ) : Type 0 where
  pub kept : status ≡ 0 → sent.firsts.items ≡ start.firsts.items ++ draft ∷ []
  pub no_process : (status ≡ 15) ↔ (start.processes ≤ draft.receiver)
  pub others : (status ≡ 0 → ⊥) → sent.firsts.items ≡ start.firsts.items
  pub rest : sent ≡ record start { firsts = sent.firsts }

-- the event that was handed out was ended
pub record HasEnded (o : UndoObjectMeaning) (p q : Kept) (out new_out : List (Message DymData)) (status : ℕ) : Type 0 where
  pub kept : status ≡ 0 → (b : Behaviour DymData Live) (past : List (Event DymData)) (begun : UndoObjectMeaning)
      (event : Event DymData) (is_replayed : Bool) → IsProcessOf words b past begun p → IsHandedOut p event is_replayed
      → o.logs ≡ begun.logs → o.heap.state.live ≡ b.after p.process.number begun.heap.state.live event
      → (is_replayed ≡ false → p.drafts.items ≡ b.drafts p.process.number begun.heap.state.live event)
      → IsProcessOf words b past o q
  pub posted : status ≡ 0 → (event : Event DymData) (is_replayed : Bool) → IsHandedOut p event is_replayed
      → HasPosted words event.time p.process.sent.items q.process.sent.items out new_out
  pub replayed : status ≡ 0 → (event : Event DymData) → IsHandedOut p event true → (inner q ≡ inner p) × (new_out ≡ out)
  pub reached : status ≡ 0 → (r : ℕ) → p.reached ≡ Some r → q.reached ≡ Some (r + 1)
  pub idle : (status ≡ 11) ↔ (p.is_open ≡ false)
  pub many : status ≡ 10 → (2 ^ 64 ≤ p.process.serial + length p.drafts.items) ⊎ (2 ^ 64 ≤ date_of (inner p) + 1)
  pub closed : status ≡ 0 → q.is_open ≡ false
  pub face : inner q ≡ record (inner p) {
    marks = (inner q).marks;
    sent = (inner q).sent;
    serial = (inner q).serial;
    state = (inner q).state;
    is_stale = (inner q).is_stale;
  }
  pub rest : q ≡ record p { process = q.process; reached = q.reached; is_open = q.is_open }
  pub unchanged : (status ≡ 0 → ⊥) → IsUnchanged p q × (new_out ≡ out)

-- the start was ended: the object is the state in which the process starts
pub record HasStarted (o : UndoObjectMeaning) (start : Start) (new_o : UndoObjectMeaning) (q : Kept)
    (out new_out : List (Message DymData)) : Type 0 where
  pub process : (b : Behaviour DymData Live) → o.heap.state.live ≡ b.start start.number
      → start.firsts.items ≡ b.firsts start.number → IsProcessOf words b [] new_o q
  pub number : q.process.number ≡ start.number
  pub processes : q.processes ≡ start.processes
  pub posted : new_out ≡ out ++ map messages.Event (stamped start.number 0 start.firsts.items)
  pub live : new_o.heap.state.live ≡ o.heap.state.live

-- the start was ended, or nothing is changed
pub record HasEndedStart (p : ProcessMeaning) (start : Start) (o : UndoObjectMeaning) (status : ℕ) (new : Option ProcessMeaning)
    (new_object : Option UndoObjectMeaning) : Type 0 where
  pub done : status ≡ 0 → (q : Kept) × (out : List (Message DymData)) × (new_o : UndoObjectMeaning)
      × (new ≡ Some (record p { phase = Running q; out = out })) × (new_object ≡ Some new_o) × HasStarted o start new_o q p.out out
  pub spent : (status ≡ 10) ↔ (COUNT_LIMIT ≤ o.ran)
  pub logged : status ≡ 18 → 0 < length o.logs
  pub no_process : status ≡ 15 → Each (λ (d : Draft DymData). d.receiver < start.processes) start.firsts.items → ⊥
  pub unchanged : (status ≡ 0 → ⊥) → (new ≡ Some p) × (new_object ≡ Some o)

-- a message was taken, and how many events it undid is told
pub record HasTakenIn (p q : Kept) (message : Message DymData) (out new_out : List (Message DymData))
    (status undone new_undone : ℕ) : Type 0 where
  pub kept : (o : UndoObjectMeaning) → StaysOf o p o q
  pub taken : status ≡ 0 → HasTakenMessage words message (inner p) (inner q)
  pub undoes : status ≡ 0 → UndoesFrom (event_of message).time (inner p) (inner q)
  pub reached : status ≡ 0 → IsKept p.reached q.reached (date_of (inner q))
  pub told : status ≡ 0 → new_undone + date_of (inner q) ≡ date_of (inner p)
  pub posted : status ≡ 0 → HasPosted words (event_of message).time p.process.sent.items q.process.sent.items out new_out
  pub own : status ≡ 0 → (event_of message).receiver ≡ p.process.number
  pub late : status ≡ 0 → bound_of p.process.last ≤ (event_of message).time
  pub was_open : (status ≡ 11) ↔ (p.is_open ≡ true)
  pub elsewhere : status ≡ 15 → (event_of message).receiver ≡ p.process.number → ⊥
  pub committed : status ≡ 13 → (event_of message).time < bound_of p.process.last
  pub same : (q.process.number ≡ p.process.number) × (q.process.last ≡ p.process.last)
  pub rest : q ≡ record p { process = q.process; reached = q.reached }
  pub unchanged : (status ≡ 0 → ⊥) → IsUnchanged p q × (new_out ≡ out) × (new_undone ≡ undone)

-- all events before a bound above 0 were committed, and how many is told
pub record HasCommittedIn (o : UndoObjectMeaning) (p : Kept) (new_o : UndoObjectMeaning) (q : Kept) (last : ℕ)
    (committed new_committed : List (Event DymData)) (status told new_told : ℕ) : Type 0 where
  pub done : status ≡ 0 → HasCommitted words last (inner p) (inner q) [] new_committed
  pub kept : status ≡ 0 → (b : Behaviour DymData Live) (past : List (Event DymData)) → IsProcessOf words b past o p
      → IsProcessOf words b (past ++ new_committed) new_o q
  pub count : status ≡ 0 → new_told ≡ length new_committed
  pub was_open : (status ≡ 11) ↔ (p.is_open ≡ true)
  pub backward : status ≡ 13 → suc last < bound_of p.process.last
  pub unsettled : status ≡ 16 → (AreFrom (suc last) (drop (length p.process.marks.items) p.process.events.items)
      × AreFrom (suc last) p.process.early.items) → ⊥
  pub spent : status ≡ 10 → COUNT_LIMIT ≤ o.ran
  pub rest : q ≡ record p { process = q.process }
  pub unchanged : (status ≡ 0 → ⊥) → IsUnchanged p q × (new_o ≡ o) × (new_committed ≡ committed) × (new_told ≡ told)

-- all events before a bound were committed, and how many is told: none before 0
abbrev pub HasCommittedBefore : UndoObjectMeaning → Kept → UndoObjectMeaning → Kept → ℕ → List (Event DymData) → List (Event DymData)
    → ℕ → ℕ → ℕ → Type 0
HasCommittedBefore o p new_o q zero committed new_committed status told new_told = (q ≡ p) × (new_o ≡ o)
    × MatchBool p.is_open ((status ≡ 11) × (new_committed ≡ committed) × (new_told ≡ told))
    ((status ≡ 0) × (new_committed ≡ []) × (new_told ≡ 0))
HasCommittedBefore o p new_o q (suc last) committed new_committed status told new_told =
    HasCommittedIn o p new_o q last committed new_committed status told new_told
