-- The run in order: one queue of events in the order of their keys, of which each step runs the first one.
use Rattle.std.specs.Prelude.{ℕ, zero, suc, ◌+◌, ◌<◌, cond, nat_le, ◌==◌, List, [], ◌∷◌, ◌++◌, length, filter}
use Rattle.warp_base.specs.declared.event.Event.{Event}
use Rattle.warp_base.specs.Events.{Each, precedes}
use Rattle.warp_base.specs.Histories.{Behaviour, stamped}

-- a queue in order, with an event more
abbrev pub queued : {P : Type 0} → (P → List ℕ) → Event P → List (Event P) → List (Event P)
queued words e [] = e ∷ []
queued words e (x ∷ xs) = cond (precedes words e x) (e ∷ x ∷ xs) (x ∷ queued words e xs)

abbrev pub all_queued : {P : Type 0} → (P → List ℕ) → List (Event P) → List (Event P) → List (Event P)
all_queued words [] queue = queue
all_queued words (e ∷ es) queue = all_queued words es (queued words e queue)

-- where a run in order stands: the state of each process, how many events each has sent, those that are to be run, and those that were
pub record Run (P S : Type 0) : Type 0 where
  pub states : ℕ → S
  pub serials : ℕ → ℕ
  pub queue : List (Event P)
  pub ran : List (Event P)

-- the first events of processes 0 to n - 1
abbrev pub first_queue : {P S : Type 0} → (P → List ℕ) → Behaviour P S → ℕ → List (Event P)
first_queue words b zero = []
first_queue words b (suc n) = all_queued words (stamped n 0 (b.firsts n)) (first_queue words b n)

abbrev pub first_run : {P S : Type 0} → (P → List ℕ) → Behaviour P S → ℕ → Run P S
first_run words b n =
    record { states = b.start; serials = λ p. length (b.firsts p); queue = first_queue words b n; ran = [] }

-- the run after its event e, with what is left of its queue
abbrev pub after_event : {P S : Type 0} → (P → List ℕ) → Behaviour P S → Run P S → Event P → List (Event P) → Run P S
after_event words b r e queue =
    let p = e.receiver in
    let drafts = b.drafts p (r.states p) e in
    record {
      states = λ q. cond (q == p) (b.after p (r.states p) e) (r.states q);
      serials = λ q. cond (q == p) (r.serials p + length drafts) (r.serials q);
      queue = all_queued words (stamped p (r.serials p) drafts) queue;
      ran = r.ran ++ e ∷ [];
    }

-- one step, unless no event is left at or before the end
abbrev pub step_with : {P S : Type 0} → (P → List ℕ) → Behaviour P S → ℕ → Run P S → List (Event P) → Run P S
step_with words b end r [] = r
step_with words b end r (e ∷ queue) = cond (nat_le e.time end) (after_event words b r e queue) r

-- the run of a model of n processes, after so many steps
abbrev pub sequential : {P S : Type 0} → (P → List ℕ) → Behaviour P S → ℕ → ℕ → ℕ → Run P S
sequential words b n end zero = first_run words b n
sequential words b n end (suc steps) =
    let r = sequential words b n end steps in step_with words b end r r.queue

-- no event is left at or before the end
abbrev pub IsOver : {P S : Type 0} → ℕ → Run P S → Type 0
IsOver end r = Each (λ e. end < e.time) r.queue

-- the events for a process
abbrev pub those_for : {P : Type 0} → ℕ → List (Event P) → List (Event P)
those_for p = filter (λ e. e.receiver == p)
