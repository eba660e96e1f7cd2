-- What the exports of a process do that run events: where the process runs, and where it is closed or its start isn't ended.
use Rattle.std.specs.Prelude.{◌≡◌, ℕ, List, Option, None, Some}
use Rattle.warp_base.specs.declared.event.Event.{Event}
use Rattle.warp_base.specs.declared.event.Message.{Message}
use Rattle.dym_undo_object.specs.Meaning.{UndoObjectMeaning}
use Rattle.dym_c.specs.Events.{draft_of_c}
use Rattle.dym_c.specs.ProcessMeanings.{ProcessMeaning}
use Rattle.dym_c.specs.ProcessRuns.{Kept, HasBegun, HasBegunReplay, HasSent, HasKeptFirst, HasEnded, HasEndedStart, HasTakenIn, HasCommittedBefore}
use Rattle.dym_c.specs.declared.events.DymData.{DymData}
use Rattle.dym_c.specs.declared.events.DymEvent.{DymEvent}
use Rattle.dym_c.specs.declared.process_content.Phase.{Phase}
use Rattle.dym_c.specs.declared.process_content.Phase.TheVariants.{Starting, Running}
use Rattle.dym_c.specs.declared.process_content.Start.{Start}

-- what holds of a start that isn't ended, and what of a process that runs
abbrev pub ByPhase : Phase → (Start → Type 0) → (Kept → Type 0) → Type 0
ByPhase (Starting start) starting running = starting start
ByPhase (Running r) starting running = running r

-- the same of what C keeps, and what holds where it is closed
abbrev pub ByState : Option ProcessMeaning → Type 0 → (ProcessMeaning → Start → Type 0) → (ProcessMeaning → Kept → Type 0) → Type 0
ByState None closed starting running = closed
ByState (Some p) closed starting running = ByPhase p.phase (starting p) (running p)

-- the same where the object is open, too
abbrev pub ByBoth : Option ProcessMeaning → Option UndoObjectMeaning → Type 0 → (ProcessMeaning → Start → UndoObjectMeaning → Type 0)
    → (ProcessMeaning → Kept → UndoObjectMeaning → Type 0) → Type 0
ByBoth old None closed starting running = closed
ByBoth old (Some o) closed starting running = ByState old closed (λ p start. starting p start o) (λ p r. running p r o)

-- a message is taken, and how many events it undid is told
abbrev pub IsTaking : Option ProcessMeaning → Option (Message DymData) → ℕ → ℕ → ℕ → Option ProcessMeaning → Type 0
IsTaking old None status undone new_undone new = (status ≡ 9) × (new ≡ old) × (new_undone ≡ undone)
IsTaking old (Some message) status undone new_undone new =
    let other = (status ≡ 11) × (new ≡ old) × (new_undone ≡ undone) in
    ByState old other (λ p start. other) (λ p r. (q : Kept) × (out : List (Message DymData))
    × (new ≡ Some (record p { phase = Running q; out = out })) × HasTakenIn r q message p.out out status undone new_undone)

-- nothing is handed out, and nothing is changed
abbrev IsIdle : Option ProcessMeaning → Option UndoObjectMeaning → ℕ → DymEvent → DymEvent → ℕ → ℕ → Option ProcessMeaning
    → Option UndoObjectMeaning → Type 0
IsIdle old object status event new_event how new_how new new_object =
    (status ≡ 11) × (new ≡ old) × (new_object ≡ object) × (new_event ≡ event) × (new_how ≡ how)

-- an event is handed out, and how is told
abbrev pub IsBeginning : Option ProcessMeaning → Option UndoObjectMeaning → ℕ → DymEvent → DymEvent → ℕ → ℕ → Option ProcessMeaning
    → Option UndoObjectMeaning → Type 0
IsBeginning old object status event new_event how new_how new new_object =
    let other = IsIdle old object status event new_event how new_how new new_object in
    ByBoth old object other (λ p start o. other) (λ p r o. (q : Kept) × (new_o : UndoObjectMeaning)
    × (new ≡ Some (record p { phase = Running q })) × (new_object ≡ Some new_o)
    × HasBegun o r new_o q status event new_event how new_how)

-- so for events that were run before alone
abbrev pub IsReplaying : Option ProcessMeaning → Option UndoObjectMeaning → ℕ → DymEvent → DymEvent → ℕ → ℕ → Option ProcessMeaning
    → Option UndoObjectMeaning → Type 0
IsReplaying old object status event new_event how new_how new new_object =
    let other = IsIdle old object status event new_event how new_how new new_object in
    ByBoth old object other (λ p start o. other) (λ p r o. (q : Kept) × (new_o : UndoObjectMeaning)
    × (new ≡ Some (record p { phase = Running q })) × (new_object ≡ Some new_o)
    × HasBegunReplay o r new_o q status event new_event how new_how)

-- an event is sent
abbrev pub IsSending : Option ProcessMeaning → DymEvent → ℕ → Option ProcessMeaning → Type 0
IsSending old event status new =
    ByState old ((status ≡ 11) × (new ≡ None))
    (λ p start. (sent : Start) × (new ≡ Some (record p { phase = Starting sent })) × HasKeptFirst start sent (draft_of_c event) status)
    (λ p r. (q : Kept) × (new ≡ Some (record p { phase = Running q })) × HasSent r q (draft_of_c event) status)

-- the start, or the event that is handed out, is ended
abbrev pub IsEnding : Option ProcessMeaning → Option UndoObjectMeaning → ℕ → Option ProcessMeaning → Option UndoObjectMeaning → Type 0
IsEnding old object status new new_object =
    ByBoth old object ((status ≡ 11) × (new ≡ old) × (new_object ≡ object))
    (λ p start o. HasEndedStart p start o status new new_object)
    (λ p r o. (q : Kept) × (out : List (Message DymData)) × (new ≡ Some (record p { phase = Running q; out = out }))
    × (new_object ≡ object) × HasEnded o r q p.out out status)

-- all events before a bound are committed, and how many is told
abbrev pub IsCommitting : Option ProcessMeaning → Option UndoObjectMeaning → ℕ → ℕ → ℕ → ℕ → Option ProcessMeaning
    → Option UndoObjectMeaning → Type 0
IsCommitting old object bound status told new_told new new_object =
    let other = (status ≡ 11) × (new ≡ old) × (new_object ≡ object) × (new_told ≡ told) in
    ByBoth old object other (λ p start o. other) (λ p r o. (q : Kept) × (new_o : UndoObjectMeaning) × (committed : List (Event DymData))
    × (new ≡ Some (record p { phase = Running q; committed = committed })) × (new_object ≡ Some new_o)
    × HasCommittedBefore o r new_o q bound p.committed committed status told new_told)
