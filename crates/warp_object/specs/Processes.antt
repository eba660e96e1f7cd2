-- When a process over an object is that of a behaviour, and what is true of it whatever a program does.
use Rattle.std.specs.Prelude.{◌≡◌, ℕ, suc, ◌+◌, ◌-◌, ◌<◌, ◌≤◌, nat_lt, Bool, true, false, Option, Some, List, []}
use Rattle.std.specs.Prelude.{◌++◌, length, take, map, slice_get}
use Rattle.dym_base.specs.Heaps.{Live}
use Rattle.dym_base.specs.Objects.{LogEntry}
use Rattle.dym_undo_object.specs.Meaning.{UndoObjectMeaning}
use Rattle.warp_base.specs.declared.event.Draft.{Draft}
use Rattle.warp_base.specs.declared.event.Event.{Event}
use Rattle.warp_base.specs.Events.{Each}
use Rattle.warp_base.specs.Histories.{Behaviour, LooksAhead, state_after}
use Rattle.warp_process.specs.Processes.{ProcessFace, IsProcess, face, done_of}
use Rattle.warp_object.specs.Moments.{dated}
use Rattle.warp_object.specs.declared.moment.Moment.{Moment}
use Rattle.warp_object.specs.declared.object_process.ObjectProcess.{ObjectProcess}

-- a process as lists and numbers. Its states, and their copies, are known to clauses alone
abbrev pub inner : {P : Type 0} → ObjectProcess P → ProcessFace P Moment
inner p = face (λ k. k.state) (λ k. k.copies.items) p.process

module _ {P S : Type 0} where
  -- how many events are run, the committed ones among them
  abbrev pub date_of : ProcessFace P S → ℕ
  date_of f = f.first_date + length f.fossils + length f.marks

  -- the event that is run, or is to be run, after r others
  abbrev pub event_after : ProcessFace P S → ℕ → Option (Event P)
  event_after f r = slice_get (f.fossils ++ f.events) (r - f.first_date)

-- the date of a log and its chunks, and what a copy says of them
abbrev pub log_pair : LogEntry → ℕ × Live
log_pair e = (e.time, e.copy)

abbrev pub copy_pair : ℕ × Moment → ℕ × Live
copy_pair c = (c.0, c.1.seen.1)

abbrev pub logs_of : UndoObjectMeaning → List (ℕ × Live)
logs_of o = map log_pair o.logs

abbrev pub copies_of : {P : Type 0} → ProcessFace P Moment → List (ℕ × Live)
copies_of f = map copy_pair f.copies

-- what is reached is forgotten, where it is behind a date
pub record IsKept (reached new : Option ℕ) (date : ℕ) : Type 0 where
  pub kept : (r : ℕ) → new ≡ Some r → (reached ≡ Some r) × (r ≤ date)
  pub stays : (r : ℕ) → reached ≡ Some r → r ≤ date → new ≡ Some r

module _ {P : Type 0} where
  -- the object's logs are the copies, and behind them logs of events that were undone: none, where the object is what
  -- events that stand made of it
  pub record HasLogs (o : UndoObjectMeaning) (f : ProcessFace P Moment) (reached : Option ℕ) : Type 0 where
    pub undone : List (ℕ × Live)
    pub logs : logs_of o ≡ copies_of f ++ undone
    pub behind : Each (λ (c : ℕ × Live). date_of f < c.0) undone
    pub none : (r : ℕ) → reached ≡ Some r → undone ≡ []

  -- a process over an object is that of a behaviour, with this committed past: the object is what the first events
  -- made of it, where as many as
  -- are reached
  pub record IsFaceOf (words : P → List ℕ) (b : Behaviour P Live) (past : List (Event P)) (o : UndoObjectMeaning)
      (f : ProcessFace P Moment) (reached : Option ℕ) : Type 0 where
    pub process : IsProcess words (dated b) past f
    pub logs : HasLogs o f reached
    pub state : (r : ℕ) → reached ≡ Some r → o.heap.state.live ≡ state_after b f.number (take r (done_of past f))

  abbrev pub IsProcessOf : (P → List ℕ) → Behaviour P Live → List (Event P) → UndoObjectMeaning → ObjectProcess P
      → Type 0
  IsProcessOf words b past o p = IsFaceOf words b past o (inner p) p.reached

  -- what is true whatever a program did to the object: the process is that of some behaviour, whose states know how
  -- many events led to them. At
  -- least as many are reached as led to any copy
  pub record IsKnown (words : P → List ℕ) (f : ProcessFace P Moment) (reached : Option ℕ) : Type 0 where
    pub behaviour : Behaviour P Moment
    pub past : List (Event P)
    pub looks_ahead : LooksAhead behaviour
    pub starts : (n : ℕ) → (behaviour.start n).seen.0 ≡ 0
    pub counts : (n : ℕ) (m : Moment) (e : Event P) → (behaviour.after n m e).seen.0 ≡ suc m.seen.0
    pub faultless : (m : Moment) → behaviour.faulty m ≡ false
    pub process : IsProcess words behaviour past f
    pub late : (r : ℕ) → reached ≡ Some r → Each (λ (c : ℕ × Moment). c.0 ≤ r) f.copies
    pub soon : (r : ℕ) → reached ≡ Some r → r ≤ date_of f
    pub fresh : f.is_stale ≡ false → reached ≡ Some (date_of f)

  -- an event is handed out, after r others: what it sent is later than it, and for one of so many processes
  pub record HandsOut (f : ProcessFace P Moment) (reached : Option ℕ) (processes : ℕ)
      (drafts : List (Draft P)) : Type 0 where
    pub count : ℕ
    pub event : Event P
    pub at : reached ≡ Some count
    pub is : event_after f count ≡ Some event
    pub later : Each (λ (d : Draft P). event.time < d.time) drafts
    pub within : Each (λ (d : Draft P). d.receiver < processes) drafts

  -- this event is handed out; where it was run before, fewer are reached than are run
  abbrev pub IsHandedOut : ObjectProcess P → Event P → Bool → Type 0
  IsHandedOut p e is_replayed =
      (r : ℕ) × (p.reached ≡ Some r) × (event_after (inner p) r ≡ Some e) × (is_replayed ≡ nat_lt r (date_of (inner p)))

  -- what is true of every process
  pub record IsRecorded (words : P → List ℕ) (p : ObjectProcess P) : Type 0 where
    pub known : IsKnown words (inner p) p.reached
    pub handed_out : p.is_open ≡ true → HandsOut (inner p) p.reached p.processes p.drafts.items
