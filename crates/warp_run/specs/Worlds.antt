-- All workers between two rounds, and the messages on their way.
use Rattle.std.specs.Prelude.{⊤, ◌≡◌, ℕ, ◌+◌, ◌<◌, ◌≤◌, Option, Some, None, List, [], ◌∷◌, ◌++◌, length}
use Rattle.warp_base.specs.declared.event.Event.{Event}
use Rattle.warp_base.specs.declared.event.Message.{Message}
use Rattle.warp_base.specs.Events.{Each}
use Rattle.warp_base.specs.Messages.{event_of, positives, negatives}
use Rattle.warp_base.specs.Histories.{Behaviour}
use Rattle.warp_worker.specs.Workers.{WorkerFace, Cell, IsWorker, IsReady, IsArrival, total, stands, waits, sends}

-- the processes are numbered from `first` on, worker after worker
abbrev pub AreContiguous : {P S : Type 0} → ℕ → List (WorkerFace P S) → Type 0
AreContiguous first [] = ⊤
AreContiguous first (w ∷ ws) = (w.first ≡ first) × AreContiguous (first + length w.processes) ws

-- the workers' processes are those of the behaviour, with these committed pasts
abbrev pub AreWorkers : {P S : Type 0} → (P → List ℕ) → Behaviour P S → List (Cell P S) → List (WorkerFace P S) → Type 0
AreWorkers words b cells [] = cells ≡ []
AreWorkers {P} {S} words b cells (w ∷ ws) =
    (front : List (Cell P S)) × (back : List (Cell P S)) × (cells ≡ front ++ back) × IsWorker words b front w × AreWorkers words b back ws

-- how many processes a worker has
abbrev pub process_count : {P S : Type 0} → WorkerFace P S → ℕ
process_count w = length w.processes

-- how many messages of a worker's boxes send an event, and how many take it back
abbrev pub sent_off : {P S : Type 0} → (P → List ℕ) → Event P → WorkerFace P S → ℕ
sent_off words e w = positives words e w.inbox + positives words e w.outbox

abbrev pub taken_off : {P S : Type 0} → (P → List ℕ) → Event P → WorkerFace P S → ℕ
taken_off words e w = negatives words e w.inbox + negatives words e w.outbox

-- what a worker tells of its next time isn't before this one
abbrev pub IsNotBefore : ℕ → Option ℕ → Type 0
IsNotBefore time None = ⊤
IsNotBefore time (Some next) = time ≤ next

-- a message is about an event at or after the bound, for one of n processes
pub record IsOnItsWay {P : Type 0} (bound n : ℕ) (m : Message P) : Type 0 where
  pub time : bound ≤ (event_of m).time
  pub within : (event_of m).receiver < n

-- the workers have all n processes, nothing that is to be run or is on its way is before the bound, and each event that was sent or taken back
-- has come or is on its way: in an inbox, an outbox, or among the loose messages
pub record IsWorld {P S : Type 0} (words : P → List ℕ) (b : Behaviour P S) (n bound end : ℕ) (cells : List (Cell P S)) (ws : List (WorkerFace P S)) (loose : List (Message P)) : Type 0 where
  pub workers : AreWorkers words b cells ws
  pub contiguous : AreContiguous 0 ws
  pub count : total process_count ws ≡ n
  pub ready : Each (λ (w : WorkerFace P S). Each (IsReady bound bound end) w.processes) ws
  pub inboxes : Each (λ (w : WorkerFace P S). Each (IsArrival bound w) w.inbox) ws
  pub outboxes : Each (λ (w : WorkerFace P S). Each (IsOnItsWay bound n) w.outbox) ws
  pub others : Each (IsOnItsWay bound n) loose
  pub balance : (e : Event P)
      → total (stands words e) cells + total (sent_off words e) ws + positives words e loose
      ≡ total (sends words b e) cells + total (waits words e) cells + total (taken_off words e) ws + negatives words e loose

-- it is one of some behaviour
pub record IsSomeWorld {P S : Type 0} (words : P → List ℕ) (n : ℕ) (ws : List (WorkerFace P S)) (loose : List (Message P)) : Type 0 where
  pub behaviour : Behaviour P S
  pub bound : ℕ
  pub end : ℕ
  pub cells : List (Cell P S)
  pub world : IsWorld words behaviour n bound end cells ws loose

-- whatever it is the world of, it stays
abbrev pub StaysWorld : {P S : Type 0} → (P → List ℕ) → List (WorkerFace P S) → List (Message P) → List (WorkerFace P S) → List (Message P) → Type 0
StaysWorld {P} {S} words old old_loose new new_loose =
    (b : Behaviour P S) (n bound end : ℕ) (cells : List (Cell P S)) → IsWorld words b n bound end cells old old_loose
    → IsWorld words b n bound end cells new new_loose
