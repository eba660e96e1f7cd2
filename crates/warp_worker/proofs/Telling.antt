-- What a worker tells of where it stands: the least time of what is left, and a process that has failed.
use Rattle.std.proofs.Common.{◌≡◌, ℕ, zero, suc, ◌+◌, ◌<◌, ◌≤◌, ◌⊎◌, inl, inr, min, false, IfSome, IfNone, Option, Some, None, List, [], ◌∷◌, ◌++◌, length, map, take, get_or, slice_get, refl, ap, sym, subst, ◌∙◌, arith}
use Rattle.std.proofs.lemmas.Bool.{cases_lt}
use Rattle.std.proofs.lemmas.List.{take_more}
use Rattle.warp_base.specs.declared.event.Event.{Event}
use Rattle.warp_base.specs.declared.event.Message.{Message}
use Rattle.warp_base.specs.Events.{Each, AreFrom}
use Rattle.warp_base.specs.Messages.{event_of, AreMessagesFrom}
use Rattle.warp_base.specs.Histories.{Behaviour, state_after}
use Rattle.warp_base.proofs.Lists.{Each-append, Each-front, Each-back, Each-weaker}
use Rattle.warp_process.specs.Processes.{ProcessFace, IsProcess, HasFailed}
use Rattle.warp_process.specs.Laws.{FailuresAreReal, IsFaultyPast}
use Rattle.warp_worker.specs.Workers.{WorkerFace, Cell, IsWorker, IsIdleUntil, TellsFailed, TellsNext, IsDeparture, to_run}
use Rattle.warp_worker.specs.Moves.{IsPendingFrom, next_of, lesser_of, TellsLeast}
use Rattle.warp_worker.proofs.Places.{Each-at}
use Rattle.warp_worker.proofs.Midway.{next_is_least, no_next, next_first}
use Rattle.warp_worker.proofs.Cells.{cell_at}
use Rattle.warp_worker.proofs.Loops.{later_from}

-- what holds from a time on, and so from any earlier one
abbrev pub IsDownward : (ℕ → Type 0) → Type 0
IsDownward From = (s t : ℕ) → s ≤ t → From t → From s

module _ (A B : ℕ → Type 0) (down_a : IsDownward A) (down_b : IsDownward B) where
  -- the least of two kinds of things is the lesser of the two least
  pub least_both : (one other : Option ℕ) → TellsLeast A one → TellsLeast B other → TellsLeast (λ t. A t × B t) (lesser_of one other)
  least_both None None a b = λ t. (a t, b t)
  least_both None (Some y) a b = ((a y, b.0), λ h. b.1 h.1)
  least_both (Some x) None a b = ((a.0, b x), λ h. a.1 h.0)
  least_both (Some x) (Some y) a b = (
    (down_a (min x y) x (omega arith) a.0, down_b (min x y) y (omega arith) b.0),
    λ h. elim (cases_lt y x) [
      | inl less ↦ b.1 (down_b (suc y) (suc (min x y)) (omega (arith, less)) h.1)
      | inr more ↦ a.1 (down_a (suc x) (suc (min x y)) (omega (arith, more)) h.0)
    ],
  )

pub least_same : (A B : ℕ → Type 0) → ((t : ℕ) → A t → B t) → ((t : ℕ) → B t → A t) → (least : Option ℕ) → TellsLeast A least → TellsLeast B least
least_same A B there back None h = λ t. there t (h t)
least_same A B there back (Some x) h = (there x h.0, λ more. h.1 (back (suc x) more))

module _ {P : Type 0} where
  pub messages_down : (ms : List (Message P)) → IsDownward (λ t. AreMessagesFrom t ms)
  messages_down ms s t soon h = Each-weaker (λ (m : Message P). t ≤ (event_of m).time) (λ (m : Message P). s ≤ (event_of m).time) (λ m late. omega (arith, soon, late)) ms h

  pub message_least : (m : Message P) → TellsLeast (λ t. t ≤ (event_of m).time) (Some (event_of m).time)
  message_least m = (omega arith, λ h. omega (arith, h))

module _ {P S : Type 0} where
  pub pending_down : (fs : List (ProcessFace P S)) → IsDownward (λ t. Each (IsPendingFrom t) fs)
  pending_down fs s t soon h = Each-weaker (IsPendingFrom t) (IsPendingFrom s) (λ f from. later_from s t (to_run f) soon from) fs h

  pub none_least : (f : ProcessFace P S) → next_of f ≡ None → TellsLeast (λ t. IsPendingFrom t f) None
  none_least f none = λ t. subst (AreFrom t) (sym (no_next f none)) tt

  pub next_least : (words : P → List ℕ) (b : Behaviour P S) (past : List (Event P)) (f : ProcessFace P S) (e : Event P) → IsProcess words b past f → next_of f ≡ Some e → TellsLeast (λ t. IsPendingFrom t f) (Some e.time)
  next_least words b past f e h there = (next_is_least words b past f e h there, λ more. let late = (subst (AreFrom (suc e.time)) (next_first f e there) more).0 in omega (arith, late))

-- one element more
pub least_more : {X : Type 0} (Q : ℕ → X → Type 0) (down : (x : X) → IsDownward (λ t. Q t x)) (xs ys : List X) (x : X) (so_far next : Option ℕ) → ys ≡ xs ++ x ∷ [] → TellsLeast (λ t. Each (Q t) xs) so_far → TellsLeast (λ t. Q t x) next → TellsLeast (λ t. Each (Q t) ys) (lesser_of so_far next)
least_more Q down xs ys x so_far next is h g =
    subst (λ l. TellsLeast (λ t. Each (Q t) l) (lesser_of so_far next)) (sym is)
    (least_same (λ t. Each (Q t) xs × Q t x) (λ t. Each (Q t) (xs ++ x ∷ [])) (λ t both. Each-append (Q t) xs (x ∷ []) both.0 (both.1, tt)) (λ t all. (Each-front (Q t) xs (x ∷ []) all, (Each-back (Q t) xs (x ∷ []) all).0)) (lesser_of so_far next)
    (least_both (λ t. Each (Q t) xs) (λ t. Q t x) (λ s t soon all. Each-weaker (Q t) (Q s) (λ y from. down y s t soon from) xs all) (down x) so_far next h g))

module _ {P S : Type 0} where
  pub idle_least : (w : WorkerFace P S) (one other : Option ℕ) → TellsLeast (λ t. Each (IsPendingFrom t) w.processes) one → TellsLeast (λ t. AreMessagesFrom t w.outbox) other → TellsLeast (IsIdleUntil w) (lesser_of one other)
  idle_least w one other h g =
      least_same (λ t. Each (IsPendingFrom t) w.processes × AreMessagesFrom t w.outbox) (IsIdleUntil w) (λ t both. record { processes = both.0; outbox = both.1 }) (λ t idle. (idle.processes, idle.outbox)) (lesser_of one other)
      (least_both (λ t. Each (IsPendingFrom t) w.processes) (λ t. AreMessagesFrom t w.outbox) (pending_down w.processes) (messages_down w.outbox) one other h g)

  -- after a round it is later than the bound
  pub tells_next : (bound n : ℕ) (w : WorkerFace P S) (least : Option ℕ) → Each (IsPendingFrom (suc bound)) w.processes → Each (IsDeparture bound n) w.outbox → TellsLeast (IsIdleUntil w) least → TellsNext bound w least
  tells_next bound n w None pending leave h = h
  tells_next bound n w (Some t) pending leave h =
      let outbox = Each-weaker (IsDeparture bound n) (λ (m : Message P). suc bound ≤ (event_of m).time) (λ m d. d.later) w.outbox leave in
      let later : bound < t = elim (cases_lt bound t) as (λ _. bound < t) [
        | inl fine ↦ fine
        | inr early ↦ absurd (h.1 (record { processes = pending_down w.processes (suc t) (suc bound) (omega (arith, early)) pending; outbox = messages_down w.outbox (suc t) (suc bound) (omega (arith, early)) outbox }))
      ] in
      (later, h.0, h.1)

module _ {P S : Type 0} (words : P → List ℕ) (real : FailuresAreReal words S) (b : Behaviour P S) where
  pub tells_one : (cells : List (Cell P S)) (w : WorkerFace P S) (i : ℕ) (f : ProcessFace P S) → IsWorker words b cells w → slice_get w.processes i ≡ Some f → HasFailed f → TellsFailed words b cells (Some f.number)
  tells_one cells w i f h get failed =
      let c = cell_at cells i f (ap (λ l. slice_get l i) h.faces ∙ get) in
      let process = Each-at (λ (x : Cell P S). IsProcess words b x.0 x.1) cells i c.0 h.are c.1 in
      let faulty = (real b c.0.0 c.0.1 process).failed (subst HasFailed (sym c.2) failed) in
      (i, c.0, c.1, ap (λ (x : ProcessFace P S). x.number) c.2, subst (λ p. IsFaultyPast words S b p c.0.0) (ap (λ (x : ProcessFace P S). x.number) c.2) faulty)

  pub tells_none : (cells : List (Cell P S)) (w : WorkerFace P S) → IsWorker words b cells w → Each (λ f. HasFailed f → ⊥) w.processes → TellsFailed words b cells None
  tells_none cells w h none = all cells h.are (subst (Each (λ (f : ProcessFace P S). HasFailed f → ⊥)) (sym h.faces) none)
    where
      all : (cs : List (Cell P S)) → Each (λ (c : Cell P S). IsProcess words b c.0 c.1) cs → Each (λ (f : ProcessFace P S). HasFailed f → ⊥) (map (λ (c : Cell P S). c.1) cs) → Each (λ (c : Cell P S). (k : ℕ) → k ≤ length c.0 → b.faulty (state_after b c.1.number (take k c.0)) ≡ false) cs
      all [] are none = tt
      all (c ∷ cs) are none = ((real b c.0 c.1 are.0).sound none.0, all cs are.1 none.1)

-- the least time of what one process is to run, as it is told of its next event
pub told_least : {P S : Type 0} (words : P → List ℕ) (b : Behaviour P S) (past : List (Event P)) (f : ProcessFace P S) (next : Option ℕ) → IsProcess words b past f → IfSome next (λ t. (e : Event P) × (next_of f ≡ Some e) × (e.time ≡ t)) → IfNone next (next_of f ≡ None) → TellsLeast (λ t. IsPendingFrom t f) next
told_least words b past f None h some none = none_least f none
told_least words b past f (Some t) h some none = subst (λ k. TellsLeast (λ s. IsPendingFrom s f) (Some k)) some.2 (next_least words b past f some.0 h some.1)

pub map_more : {X Y : Type 0} (f : X → Y) (xs : List X) (i : ℕ) (x : X) → i < length xs → x ≡ get_or xs i x → map f (take (i + 1) xs) ≡ map f (take i xs) ++ f x ∷ []
map_more f xs i x less is = ap (map f) (take_more xs i x less ∙ ap (λ y. take i xs ++ y ∷ []) (sym is)) ∙ push (take i xs)
  where
    push : (ys : List _) → map f (ys ++ x ∷ []) ≡ map f ys ++ f x ∷ []
    push [] = refl
    push (y ∷ ys) = ap (λ l. f y ∷ l) (push ys)
