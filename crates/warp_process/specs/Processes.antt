-- What is true of a logical process between two calls, and what a call does to it.
use Rattle.std.specs.Prelude.{◌≡◌, ℕ, suc, ◌+◌, ◌^◌, ◌<◌, ◌≤◌, ◌⊎◌, Bool, true, false, cond, Option, Some, None, List, [], ◌∷◌, ◌++◌, length, take, drop, slice_get}
use Rattle.warp_base.specs.declared.event.Event.{Event}
use Rattle.warp_base.specs.declared.event.Message.{Message}
use Rattle.warp_base.specs.declared.event.Message.TheVariants as Variants
use Rattle.warp_base.specs.Events.{Each, hit, copies, IsInOrder, AreFor, AreFrom}
use Rattle.warp_base.specs.Messages.{event_of, positives, negatives}
use Rattle.warp_base.specs.Histories.{Behaviour, LooksAhead, state_after, sent_from, all_sent}
use Rattle.warp_process.specs.declared.process.Process.{Process}
use Rattle.warp_process.specs.Savers.{until, AreAscending}

-- what a process is, as lists and numbers: the events since the committed past, of which as many are run as there are marks; what these
-- sent, and how many events had been sent before each; the anti-messages whose event hasn't come; the last committed time; the committed
-- events that a replay may still need, and the date of the first of them; the state and its dated copies; the date of the first fault. A date is
-- the number of events that were run before
pub record ProcessFace (P S : Type 0) : Type 0 where
  pub number : ℕ
  pub last : Option ℕ
  pub events : List (Event P)
  pub marks : List ℕ
  pub sent : List (Event P)
  pub serial : ℕ
  pub early : List (Event P)
  pub first_date : ℕ
  pub fossils : List (Event P)
  pub is_stale : Bool
  pub state : S
  pub copies : List (ℕ × S)
  pub fault : Option ℕ

abbrev pub face : {P S K : Type 0} → (K → S) → (K → List (ℕ × S)) → Process P K → ProcessFace P S
face state copies p = record {
  number = p.number;
  last = p.last;
  events = p.events.items;
  marks = p.marks.items;
  sent = p.sent.items;
  serial = p.serial;
  early = p.early.items;
  first_date = p.first_date;
  fossils = p.fossils.items;
  is_stale = p.is_stale;
  state = state p.saver;
  copies = copies p.saver;
  fault = p.fault;
}

-- times below this are committed
abbrev pub bound_of : Option ℕ → ℕ
bound_of None = 0
bound_of (Some last) = suc last

-- all that the process has run
abbrev pub done_of : {P S : Type 0} → List (Event P) → ProcessFace P S → List (Event P)
done_of past f = past ++ take (length f.marks) f.events

-- a dated copy is the state after that many events
abbrev pub IsCopy : {P S : Type 0} → Behaviour P S → ℕ → List (Event P) → ℕ × S → Type 0
IsCopy b p done c = (c.0 ≤ length done) × (c.1 ≡ state_after b p (take c.0 done))

-- the date of the first state that is a fault of the model's own, of those after 0, 1, .. and all of these events
abbrev pub IsFirstFault : {P S : Type 0} → Behaviour P S → ℕ → List (Event P) → Option ℕ → Type 0
IsFirstFault b p done None = (k : ℕ) → k ≤ length done → b.faulty (state_after b p (take k done)) ≡ false
IsFirstFault b p done (Some date) = (date ≤ length done) × (b.faulty (state_after b p (take date done)) ≡ true)
    × ((k : ℕ) → k < date → b.faulty (state_after b p (take k done)) ≡ false)

-- the first fault, with a further state of a later date that may be one
abbrev pub fault_with : Option ℕ → Bool → ℕ → Option ℕ
fault_with (Some first) is_faulty date = Some first
fault_with None is_faulty date = cond is_faulty (Some date) None

-- from a state before which n events were sent, as many of these events are run as there are marks: they sent these
pub record IsRun {P S : Type 0} (b : Behaviour P S) (p n : ℕ) (s : S) (events : List (Event P)) (marks : List ℕ) (sent : List (Event P)) (serial : ℕ) : Type 0 where
  pub mark : (k : ℕ) → k < length marks → slice_get marks k ≡ Some (n + length (sent_from b p n s (take k events)))
  pub outputs : sent ≡ sent_from b p n s (take (length marks) events)
  pub total : serial ≡ n + length sent

-- the process is that of the behaviour, with this committed past
pub record IsProcess {P S : Type 0} (words : P → List ℕ) (b : Behaviour P S) (past : List (Event P)) (f : ProcessFace P S) : Type 0 where
  pub in_order : IsInOrder words (past ++ f.events)
  pub own : AreFor f.number (past ++ f.events)
  pub committed : Each (λ (e : Event P). e.time < bound_of f.last) past
  pub pending : AreFrom (bound_of f.last) f.events
  pub early_own : AreFor f.number f.early
  pub early_from : AreFrom (bound_of f.last) f.early
  pub apart : (e : Event P) → 0 < copies words e f.early → copies words e f.events ≡ 0
  pub ran_within : length f.marks ≤ length f.events
  pub run : IsRun b f.number (length (all_sent b f.number past)) (state_after b f.number past) f.events f.marks f.sent f.serial
  pub fossils : f.fossils ≡ drop f.first_date past
  pub dates : f.first_date + length f.fossils ≡ length past
  pub counted : length (done_of past f) < 2 ^ 64
  pub ascending : AreAscending f.copies
  pub kept : Each (IsCopy b f.number (done_of past f)) f.copies
  pub oldest : (s : S) × (later : List (ℕ × S)) × (f.copies ≡ (f.first_date, s) ∷ later)
  pub state : f.is_stale ≡ false → f.state ≡ state_after b f.number (done_of past f)
  pub fault : IsFirstFault b f.number (done_of past f) f.fault

-- it is that of some behaviour that looks ahead
pub record IsSomeProcess {P S : Type 0} (words : P → List ℕ) (f : ProcessFace P S) : Type 0 where
  pub behaviour : Behaviour P S
  pub past : List (Event P)
  pub looks_ahead : LooksAhead behaviour
  pub process : IsProcess words behaviour past f

-- whatever it is the process of, it stays
abbrev pub Stays : {P S : Type 0} → (P → List ℕ) → ProcessFace P S → ProcessFace P S → Type 0
Stays {P} {S} words old new = (b : Behaviour P S) (past : List (Event P)) → IsProcess words b past old → IsProcess words b past new

-- one event more was taken: it stands, or the anti-message that came before it is gone
abbrev pub HasTaken : {P S : Type 0} → (P → List ℕ) → Event P → ProcessFace P S → ProcessFace P S → Type 0
HasTaken {P} words taken old new =
    (e : Event P) → copies words e new.events + copies words e old.early ≡ copies words e old.events + copies words e new.early + hit words e taken

-- one event was taken back: it is gone, or its anti-message waits for it
abbrev pub HasTakenBack : {P S : Type 0} → (P → List ℕ) → Event P → ProcessFace P S → ProcessFace P S → Type 0
HasTakenBack {P} words gone old new =
    (e : Event P) → copies words e new.events + copies words e old.early + hit words e gone ≡ copies words e old.events + copies words e new.early

-- what went out is the difference of what was sent and what is sent now, about events later than a time that were or are sent
pub record HasPosted {P : Type 0} (words : P → List ℕ) (time : ℕ) (sent new_sent : List (Event P)) (out new_out : List (Message P)) : Type 0 where
  pub more : List (Message P)
  pub appended : new_out ≡ out ++ more
  pub balance : (e : Event P) → copies words e new_sent + negatives words e more ≡ copies words e sent + positives words e more
  pub later : Each (λ (m : Message P). time < (event_of m).time) more
  pub own : Each (λ (m : Message P). 0 < copies words (event_of m) sent + copies words (event_of m) new_sent) more

-- nothing is run that wasn't, and what is undone isn't before a time
pub record UndoesFrom {P S : Type 0} (time : ℕ) (old new : ProcessFace P S) : Type 0 where
  pub pending : (floor : ℕ) → floor ≤ time → AreFrom floor (drop (length old.marks) old.events) → AreFrom floor (drop (length new.marks) new.events)
  pub until : (end : ℕ) → Each (λ (e : Event P). e.time ≤ end) (take (length old.marks) old.events)
      → Each (λ (e : Event P). e.time ≤ end) (take (length new.marks) new.events)

-- the events that stay run are the first of those that were, and so are the copies. The state isn't touched; it is stale where any were undone
pub record KeepsFirst {P S : Type 0} (old new : ProcessFace P S) : Type 0 where
  pub few : length new.marks ≤ length old.marks
  pub ran : take (length new.marks) new.events ≡ take (length new.marks) old.events
  pub first_date : new.first_date ≡ old.first_date
  pub fossils : new.fossils ≡ old.fossils
  pub copies : new.copies ≡ until (old.first_date + length old.fossils + length new.marks) old.copies
  pub state : new.state ≡ old.state
  pub fresh : new.is_stale ≡ false → (old.is_stale ≡ false) × (length new.marks ≡ length old.marks)

-- what a message does to the events and to the anti-messages that wait
abbrev pub HasTakenMessage : {P S : Type 0} → (P → List ℕ) → Message P → ProcessFace P S → ProcessFace P S → Type 0
HasTakenMessage words (Variants.Event e) old new = HasTaken words e old new
HasTakenMessage words (Variants.Anti e) old new = HasTakenBack words e old new

-- the events up to a time were handed out as committed, in order, and those behind them are left. What the process has run is as it was, and
-- so is what it has sent since its start; only the past is longer
pub record HasCommitted {P S : Type 0} (words : P → List ℕ) (time : ℕ) (old new : ProcessFace P S) (out new_out : List (Event P)) : Type 0 where
  pub gone : List (Event P)
  pub handed : new_out ≡ out ++ gone
  pub whole : old.events ≡ gone ++ new.events
  pub before : Each (λ (e : Event P). e.time ≤ time) gone
  pub behind : AreFrom (suc time) new.events
  pub same_done : (past : List (Event P)) → done_of (past ++ gone) new ≡ done_of past old
  pub process : (b : Behaviour P S) (past : List (Event P)) → IsProcess words b past old → IsProcess words b (past ++ gone) new
  pub marks : length new.marks + length gone ≡ length old.marks
  pub last : new.last ≡ Some time
  pub early : new.early ≡ old.early
  pub number : new.number ≡ old.number

-- with this event more, a process has run or has sent as many events as 64 bits don't count
abbrev pub IsTooMany : {P S : Type 0} → Behaviour P S → List (Event P) → ProcessFace P S → Event P → Type 0
IsTooMany b past f e =
    (2 ^ 64 ≤ length (done_of past f ++ e ∷ [])) ⊎ (2 ^ 64 ≤ length (all_sent b f.number (done_of past f ++ e ∷ [])))

-- a fault of this date is one of a state after this many events, or fewer
abbrev pub IsFaultBy : Option ℕ → ℕ → Type 0
IsFaultBy None count = ⊥
IsFaultBy (Some date) count = date ≤ count

-- the first fault is one of a state after committed events
abbrev pub HasFailed : {P S : Type 0} → ProcessFace P S → Type 0
HasFailed f = IsFaultBy f.fault (f.first_date + length f.fossils)
