-- What the calls of a worker do within a round, in which messages between its own processes are on their way: its mail.
use Rattle.std.specs.Prelude.{◌≡◌, ℕ, suc, ◌+◌, ◌≤◌, min, Option, Some, None, List, [], length, map, slice_get}
use Rattle.warp_base.specs.declared.event.Event.{Event}
use Rattle.warp_base.specs.declared.event.Message.{Message}
use Rattle.warp_base.specs.Events.{Each, AreFrom}
use Rattle.warp_base.specs.Messages.{positives, negatives}
use Rattle.warp_base.specs.Histories.{Behaviour}
use Rattle.warp_process.specs.Processes.{ProcessFace, bound_of}
use Rattle.warp_worker.specs.Workers.{WorkerFace, Cell, total, stands, waits, sends, past_of, history_of, IsWorker, IsArrival, IsDeparture, ran_of, to_run}

module _ {P S : Type 0} where
  -- how often an event stands with the worker or comes to it, and how often it is sent or taken back
  abbrev pub has : (P → List ℕ) → Event P → List (Cell P S) → WorkerFace P S → List (Message P) → ℕ
  has words e cells w mail =
      total (stands words e) cells + positives words e w.inbox + positives words e mail + positives words e w.outbox

  abbrev pub owes : (P → List ℕ) → Behaviour P S → Event P → List (Cell P S) → WorkerFace P S → List (Message P) → ℕ
  owes words b e cells w mail =
      total (waits words e) cells + total (sends words b e) cells + negatives words e w.inbox + negatives words e mail + negatives words e w.outbox

  -- what a worker has beside what it owes is as it was, and so is something of each process and its past
  pub record HasMoved (keep : Cell P S → List (Event P)) (words : P → List ℕ) (b : Behaviour P S) (cells : List (Cell P S)) (old : WorkerFace P S) (mail : List (Message P)) (new : WorkerFace P S) (new_mail : List (Message P)) : Type 0 where
    pub new_cells : List (Cell P S)
    pub worker : IsWorker words b new_cells new
    pub kept : map keep new_cells ≡ map keep cells
    pub balance : (e : Event P) → has words e new_cells new new_mail + owes words b e cells old mail ≡ has words e cells old mail + owes words b e new_cells new new_mail

  -- it is so whatever pasts the processes have: these stay, or, where they grow by a commit, the past and the events since together
  abbrev pub Moves : (P → List ℕ) → Behaviour P S → WorkerFace P S → List (Message P) → WorkerFace P S → List (Message P) → Type 0
  Moves words b old mail new new_mail = (cells : List (Cell P S)) → IsWorker words b cells old → HasMoved past_of words b cells old mail new new_mail

  abbrev pub Commits : (P → List ℕ) → Behaviour P S → WorkerFace P S → WorkerFace P S → Type 0
  Commits words b old new = (cells : List (Cell P S)) → IsWorker words b cells old → HasMoved history_of words b cells old [] new []

  -- all before the bound is committed, and nothing later than the end was run since
  pub record IsDue (bound end : ℕ) (f : ProcessFace P S) : Type 0 where
    pub committed : bound_of f.last ≡ bound
    pub until : Each (λ (e : Event P). e.time ≤ end) (ran_of f)

  -- nothing is to be run before a time
  abbrev pub IsPendingFrom : ℕ → ProcessFace P S → Type 0
  IsPendingFrom time f = AreFrom time (to_run f)

  -- where a worker stands within a round
  pub record IsMidway (bound end n : ℕ) (w : WorkerFace P S) (letters : List (Message P)) : Type 0 where
    pub due : Each (IsDue bound end) w.processes
    pub inbox : Each (IsArrival bound w) w.inbox
    pub mail : Each (IsDeparture bound n) letters
    pub outbox : Each (IsDeparture bound n) w.outbox

  -- up to a time, what was to be run from a time on still is
  abbrev pub KeepsPending : ℕ → WorkerFace P S → WorkerFace P S → Type 0
  KeepsPending until old new =
      (time : ℕ) → time ≤ until → Each (IsPendingFrom time) old.processes → Each (IsPendingFrom time) new.processes

  -- the next event that a process is to run
  abbrev pub next_of : ProcessFace P S → Option (Event P)
  next_of f = slice_get f.events (length f.marks)

  -- the process at a place is to run an event at or before a time
  abbrev pub HasNextUntil : ℕ → ℕ → WorkerFace P S → Type 0
  HasNextUntil time place w = (f : ProcessFace P S) × (e : Event P) × (slice_get w.processes place ≡ Some f) × (next_of f ≡ Some e) × (e.time ≤ time)

  -- how many events are to be run, and how many of those that are sent may be taken back
  abbrev pub all_to_run : WorkerFace P S → ℕ
  all_to_run w = total (λ (f : ProcessFace P S). length (to_run f)) w.processes

  abbrev pub all_sent_since : WorkerFace P S → ℕ
  all_sent_since w = total (λ (f : ProcessFace P S). length f.sent) w.processes

-- the lesser of two times, of which there may be none
abbrev pub lesser_of : Option ℕ → Option ℕ → Option ℕ
lesser_of None other = other
lesser_of (Some one) None = Some one
lesser_of (Some one) (Some other) = Some (min one other)

-- the last time from which on all is that is asked of; none where that is so of each time
abbrev pub TellsLeast : (ℕ → Type 0) → Option ℕ → Type 0
TellsLeast AllFrom None = (time : ℕ) → AllFrom time
TellsLeast AllFrom (Some least) = AllFrom least × (AllFrom (suc least) → ⊥)
