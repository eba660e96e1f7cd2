-- What is true of a worker between two rounds, and what a round does to it.
use Rattle.std.specs.Prelude.{⊤, ◌≡◌, ℕ, suc, ◌+◌, ◌^◌, ◌<◌, ◌≤◌, ◌⊎◌, false, Option, Some, None, List, [], ◌∷◌, ◌++◌, length, map, take, drop, slice_get}
use Rattle.warp_base.specs.declared.event.Event.{Event}
use Rattle.warp_base.specs.declared.event.Message.{Message}
use Rattle.warp_base.specs.Events.{Each, copies, AreFrom}
use Rattle.warp_base.specs.Messages.{event_of, positives, negatives, AreMessagesFrom}
use Rattle.warp_base.specs.Histories.{Behaviour, state_after, all_sent, earlier}
use Rattle.warp_process.specs.Processes.{ProcessFace, face, IsProcess, bound_of, done_of}
use Rattle.warp_process.specs.Laws.{IsFaultyPast}
use Rattle.warp_worker.specs.declared.worker.Worker.{Worker}

-- what a worker is, as lists: its processes, whose numbers begin at `first`; the messages that it is to take, and those that it sends away;
-- the least time of all that is still to be run or is sent away; and a process that has failed in what is committed
pub record WorkerFace (P S : Type 0) : Type 0 where
  pub first : ℕ
  pub processes : List (ProcessFace P S)
  pub inbox : List (Message P)
  pub outbox : List (Message P)
  pub next : Option ℕ
  pub failed : Option ℕ

abbrev pub worker_face : {P S K : Type 0} → (K → S) → (K → List (ℕ × S)) → Worker P K → WorkerFace P S
worker_face state copies w = record {
  first = w.first;
  processes = map (face state copies) w.processes.items;
  inbox = w.inbox.items;
  outbox = w.outbox.items;
  next = w.next;
  failed = w.failed;
}

-- a process with its committed past, which no process keeps
abbrev pub Cell : (P S : Type 0) → Type 0
Cell P S = List (Event P) × ProcessFace P S

-- the committed past of a process, and all its events
abbrev pub past_of : {P S : Type 0} → Cell P S → List (Event P)
past_of c = c.0

abbrev pub history_of : {P S : Type 0} → Cell P S → List (Event P)
history_of c = c.0 ++ c.1.events

-- a number of each element, added up
abbrev pub total : {X : Type 0} → (X → ℕ) → List X → ℕ
total count [] = 0
total count (x ∷ xs) = count x + total count xs

-- how many copies of an event stand in the whole history of a process; how many anti-messages for it wait there; how many the process has sent
abbrev pub stands : {P S : Type 0} → (P → List ℕ) → Event P → Cell P S → ℕ
stands words e c = copies words e (c.0 ++ c.1.events)

abbrev pub waits : {P S : Type 0} → (P → List ℕ) → Event P → Cell P S → ℕ
waits words e c = copies words e c.1.early

abbrev pub sends : {P S : Type 0} → (P → List ℕ) → Behaviour P S → Event P → Cell P S → ℕ
sends words b e c = copies words e (all_sent b c.1.number (done_of c.0 c.1))

-- the numbers of these processes are `first`, the one after it, and so on
abbrev pub AreNumbered : {P S : Type 0} → ℕ → List (ProcessFace P S) → Type 0
AreNumbered first [] = ⊤
AreNumbered first (f ∷ fs) = (f.number ≡ first) × AreNumbered (suc first) fs

-- the worker's processes are those of the behaviour, with these committed pasts
pub record IsWorker {P S : Type 0} (words : P → List ℕ) (b : Behaviour P S) (cells : List (Cell P S)) (w : WorkerFace P S) : Type 0 where
  pub faces : map (λ c. c.1) cells ≡ w.processes
  pub are : Each (λ c. IsProcess words b c.0 c.1) cells
  pub numbered : AreNumbered w.first w.processes

-- the events that a process has run since its committed past, and those that it is to run
abbrev pub ran_of : {P S : Type 0} → ProcessFace P S → List (Event P)
ran_of f = take (length f.marks) f.events

abbrev pub to_run : {P S : Type 0} → ProcessFace P S → List (Event P)
to_run f = drop (length f.marks) f.events

-- times below `bound` may be committed, all that is to be run is at or after `floor`, and nothing later than the end is run
pub record IsReady {P S : Type 0} (bound floor end : ℕ) (f : ProcessFace P S) : Type 0 where
  pub committed : bound_of f.last ≤ bound
  pub pending : AreFrom floor (to_run f)
  pub until : Each (λ (e : Event P). e.time ≤ end) (ran_of f)

-- a message is for one of the worker's processes, about an event at or after the bound
pub record IsArrival {P S : Type 0} (bound : ℕ) (w : WorkerFace P S) (m : Message P) : Type 0 where
  pub time : bound ≤ (event_of m).time
  pub above : w.first ≤ (event_of m).receiver
  pub below : (event_of m).receiver < w.first + length w.processes

-- what a round needs: below its bound nothing is left to do, no anti-message waits and none is on its way
pub record MayAdvance {P S : Type 0} (bound end : ℕ) (w : WorkerFace P S) : Type 0 where
  pub within : bound ≤ end
  pub ready : Each (IsReady bound bound end) w.processes
  pub early : Each (λ (f : ProcessFace P S). AreFrom bound f.early) w.processes
  pub inbox : Each (IsArrival bound w) w.inbox
  pub outbox : w.outbox ≡ []

-- a message that is sent away: later than the bound, to one of n processes
pub record IsDeparture {P : Type 0} (bound n : ℕ) (m : Message P) : Type 0 where
  pub later : bound < (event_of m).time
  pub within : (event_of m).receiver < n

-- nothing that is to be run or is sent away is before a time
pub record IsIdleUntil {P S : Type 0} (w : WorkerFace P S) (time : ℕ) : Type 0 where
  pub processes : Each (λ (f : ProcessFace P S). AreFrom time (to_run f)) w.processes
  pub outbox : AreMessagesFrom time w.outbox

-- the least time of that, later than the bound; none where there is nothing of the kind
abbrev pub TellsNext : {P S : Type 0} → ℕ → WorkerFace P S → Option ℕ → Type 0
TellsNext bound w None = (time : ℕ) → IsIdleUntil w time
TellsNext bound w (Some next) = (bound < next) × IsIdleUntil w next × (IsIdleUntil w (suc next) → ⊥)

-- the number of a process that in its committed past reaches a state that is a fault of the model's own; none where no process does
abbrev pub TellsFailed : {P S : Type 0} → (P → List ℕ) → Behaviour P S → List (Cell P S) → Option ℕ → Type 0
TellsFailed {P} {S} words b cells None =
    Each (λ (c : Cell P S). (k : ℕ) → k ≤ length c.0 → b.faulty (state_after b c.1.number (take k c.0)) ≡ false) cells
TellsFailed {P} {S} words b cells (Some p) =
    (i : ℕ) × (c : Cell P S) × (slice_get cells i ≡ Some c) × (c.1.number ≡ p) × IsFaultyPast words S b p c.0

-- one of the processes from number `first` on, of these pasts, has committed 2^63 events, which is half of what 64 bits count; or it has sent so
-- many by what it committed that with what one event more would send they are 2^63
pub record HasTooMany {P S : Type 0} (b : Behaviour P S) (first : ℕ) (pasts : List (List (Event P))) : Type 0 where
  pub place : ℕ
  pub past : List (Event P)
  pub there : slice_get pasts place ≡ Some past
  pub state : S
  pub event : Event P
  pub many : (2 ^ 63 ≤ length past) ⊎ (2 ^ 63 ≤ length (all_sent b (first + place) past) + length (b.drafts (first + place) state event))

-- what stands of a process below the bound
abbrev pub settled_of : {P S : Type 0} → ℕ → Cell P S → List (Event P)
settled_of bound c = earlier bound (history_of c)

-- what a round of n processes up to the end does: all below its bound is committed, all messages are taken, and all events at the bound are
-- run. `balance`: what stands and what went out is accounted for, event by event
pub record HasAdvanced {P S : Type 0} (words : P → List ℕ) (b : Behaviour P S) (n bound end : ℕ) (cells : List (Cell P S)) (old new : WorkerFace P S) : Type 0 where
  pub new_cells : List (Cell P S)
  pub worker : IsWorker words b new_cells new
  pub first : new.first ≡ old.first
  pub count : length new.processes ≡ length old.processes
  pub ready : Each (IsReady bound (suc bound) end) new.processes
  pub committed : Each (λ (f : ProcessFace P S). bound_of f.last ≡ bound) new.processes
  pub inbox : new.inbox ≡ []
  pub outbox : Each (IsDeparture bound n) new.outbox
  pub balance : (e : Event P)
      → total (stands words e) new_cells + total (waits words e) cells + total (sends words b e) cells + negatives words e old.inbox + positives words e new.outbox
      ≡ total (stands words e) cells + total (waits words e) new_cells + total (sends words b e) new_cells + positives words e old.inbox + negatives words e new.outbox
  pub next : TellsNext bound new new.next
  pub failed : TellsFailed words b new_cells new.failed

-- processes that have taken and run nothing; all that they send at the start is on its way
pub record IsOpened {P S : Type 0} (words : P → List ℕ) (b : Behaviour P S) (n : ℕ) (w : WorkerFace P S) : Type 0 where
  pub worker : IsWorker words b (map (λ f. ([], f)) w.processes) w
  pub last : Each (λ (f : ProcessFace P S). f.last ≡ None) w.processes
  pub events : Each (λ (f : ProcessFace P S). f.events ≡ []) w.processes
  pub early : Each (λ (f : ProcessFace P S). f.early ≡ []) w.processes
  pub inbox : w.inbox ≡ []
  pub outbox : Each (λ (m : Message P). (event_of m).receiver < n) w.outbox
  pub sent : (e : Event P) → positives words e w.outbox ≡ total (sends words b e) (map (λ f. ([], f)) w.processes)
  pub none_back : (e : Event P) → negatives words e w.outbox ≡ 0

-- all has been run: the states in which the processes end, and how many events they ran
pub record HasEnded {P S : Type 0} (words : P → List ℕ) (b : Behaviour P S) (cells : List (Cell P S)) (old_states new_states : List S) (sum : ℕ) (told : Option ℕ) : Type 0 where
  pub states : new_states ≡ old_states ++ map (λ (c : Cell P S). state_after b c.1.number (done_of c.0 c.1)) cells
  pub count : sum ≡ total (λ (c : Cell P S). length (done_of c.0 c.1)) cells
  pub failed : TellsFailed words b (map (λ (c : Cell P S). (done_of c.0 c.1, c.1)) cells) told
