-- A model as mathematics, and what the history of a process comes to: its state, and all that it has sent.
use Rattle.std.specs.Prelude.{◌≡◌, ℕ, ◌+◌, ◌<◌, ◌≤◌, Bool, nat_lt, List, [], ◌∷◌, ◌++◌, length, filter}
use Rattle.warp_base.specs.declared.event.Event.{Event}
use Rattle.warp_base.specs.declared.event.Draft.{Draft}
use Rattle.warp_base.specs.Events.{Each, copies, IsInOrder, AreFor}

-- a model: the state in which each process starts, what it sends then, what an event does to a state and sends, and the states that are
-- faults of the model's own. The first argument is the process
pub record Behaviour (P S : Type 0) : Type 0 where
  pub start : ℕ → S
  pub firsts : ℕ → List (Draft P)
  pub after : ℕ → S → Event P → S
  pub drafts : ℕ → S → Event P → List (Draft P)
  pub faulty : S → Bool

-- a draft as the event that process p sends, which has sent n before
abbrev pub stamp : {P : Type 0} → ℕ → ℕ → Draft P → Event P
stamp p n d =
    record { time = d.time; priority = d.priority; sender = p; serial = n; receiver = d.receiver; kind = d.kind; payload = d.payload }

abbrev pub stamped : {P : Type 0} → ℕ → ℕ → List (Draft P) → List (Event P)
stamped p n [] = []
stamped p n (d ∷ ds) = stamp p n d ∷ stamped p (n + 1) ds

-- the state of process p after these events
abbrev pub state_from : {P S : Type 0} → Behaviour P S → ℕ → S → List (Event P) → S
state_from b p s [] = s
state_from b p s (e ∷ es) = state_from b p (b.after p s e) es

-- what process p sends while it runs these events, where it has sent n before
abbrev pub sent_from : {P S : Type 0} → Behaviour P S → ℕ → ℕ → S → List (Event P) → List (Event P)
sent_from b p n s [] = []
sent_from b p n s (e ∷ es) =
    stamped p n (b.drafts p s e) ++ sent_from b p (n + length (b.drafts p s e)) (b.after p s e) es

-- the state of process p after these events, from its start on
abbrev pub state_after : {P S : Type 0} → Behaviour P S → ℕ → List (Event P) → S
state_after b p es = state_from b p (b.start p) es

-- all that process p sends, from its start on, until it has run these events
abbrev pub all_sent : {P S : Type 0} → Behaviour P S → ℕ → List (Event P) → List (Event P)
all_sent b p es = stamped p 0 (b.firsts p) ++ sent_from b p (length (b.firsts p)) (b.start p) es

-- whatever an event sends is later than the event: a lookahead of one tick
abbrev pub LooksAhead : {P S : Type 0} → Behaviour P S → Type 0
LooksAhead {P} {S} b = (p : ℕ) (s : S) (e : Event P) → Each (λ (d : Draft P). e.time < d.time) (b.drafts p s e)

-- only processes 0 to n - 1 send at the start
abbrev pub StartsWithin : {P S : Type 0} → ℕ → Behaviour P S → Type 0
StartsWithin n b = (p : ℕ) → n ≤ p → b.firsts p ≡ []

-- whatever is sent, at the start or by an event, is for one of processes 0 to n - 1
pub record SendsWithin {P S : Type 0} (n : ℕ) (b : Behaviour P S) : Type 0 where
  pub firsts : (p : ℕ) → Each (λ (d : Draft P). d.receiver < n) (b.firsts p)
  pub drafts : (p : ℕ) (s : S) (e : Event P) → Each (λ (d : Draft P). d.receiver < n) (b.drafts p s e)

-- the events before a time
abbrev pub earlier : {P : Type 0} → ℕ → List (Event P) → List (Event P)
earlier t = filter (λ e. nat_lt e.time t)

-- a history for each process: events for it, in order, and before the bound exactly those that all processes send
pub record IsConsistent {P S : Type 0} (words : P → List ℕ) (b : Behaviour P S) (bound : ℕ) (histories : ℕ → List (Event P)) : Type 0 where
  pub in_order : (p : ℕ) → IsInOrder words (histories p)
  pub own : (p : ℕ) → AreFor p (histories p)
  pub balanced : (e : Event P) → e.time < bound
      → copies words e (histories e.receiver) ≡ copies words e (all_sent b e.sender (histories e.sender))
