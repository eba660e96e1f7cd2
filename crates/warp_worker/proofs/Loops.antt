-- What lasts in the loops of a round, and what its messages come to where they change their place.
use Rattle.std.proofs.Common.{◌≡◌, ℕ, zero, suc, ◌+◌, ◌<◌, ◌≤◌, ◌⊎◌, inl, inr, Option, Some, None, IsTrue, List, [], ◌∷◌, ◌++◌, length, take, nat_le, slice_get, refl, ap, sym, subst, ◌∙◌, arith}
use Rattle.std.proofs.lemmas.Bool.{cases_lt, leb-true, le-leb}
use Rattle.warp_base.specs.declared.event.Event.{Event}
use Rattle.warp_base.specs.declared.event.Message.{Message}
use Rattle.warp_base.specs.Events.{Each, AreFrom}
use Rattle.warp_base.specs.Messages.{positives, negatives}
use Rattle.warp_base.specs.Histories.{Behaviour}
use Rattle.warp_base.proofs.Lists.{Each-append, Each-back, Each-weaker}
use Rattle.warp_process.specs.Processes.{ProcessFace, IsProcess}
use Rattle.warp_worker.specs.Workers.{WorkerFace, IsArrival, IsDeparture, to_run}
use Rattle.warp_worker.specs.Moves.{Moves, IsDue, IsMidway, KeepsPending, IsPendingFrom, HasNextUntil, next_of}
use Rattle.warp_worker.proofs.Places.{positives-append, negatives-append}
use Rattle.warp_worker.proofs.Midway.{arrivals_stay, moves_then, moves_letters, next_is_least, no_next}

module _ {P S : Type 0} (words : P → List ℕ) (b : Behaviour P S) where
  -- the last message of the mail, or of the inbox, is taken out of it; one is put into the outbox
  pub mail_popped : (w : WorkerFace P S) (front : List (Message P)) (m : Message P) → Moves words b w (front ++ m ∷ []) w (m ∷ front)
  mail_popped w front m = moves_letters words b w w (front ++ m ∷ []) (m ∷ front) refl refl
      (λ e. let last = positives-append words e front (m ∷ []) in let first = positives-append words e (m ∷ []) front in omega (arith, last, first))
      (λ e. let last = negatives-append words e front (m ∷ []) in let first = negatives-append words e (m ∷ []) front in omega (arith, last, first))

  pub inbox_popped : (w v : WorkerFace P S) (front mail : List (Message P)) (m : Message P) → v.processes ≡ w.processes → v.first ≡ w.first → v.outbox ≡ w.outbox → w.inbox ≡ v.inbox ++ m ∷ [] → Moves words b w mail v (m ∷ mail)
  inbox_popped w v front mail m processes first outbox inbox = moves_letters words b w v mail (m ∷ mail) processes first
      (λ e. let last = ap (positives words e) inbox ∙ positives-append words e v.inbox (m ∷ []) in let more = positives-append words e (m ∷ []) mail in let out = ap (positives words e) outbox in omega (arith, last, more, out))
      (λ e. let last = ap (negatives words e) inbox ∙ negatives-append words e v.inbox (m ∷ []) in let more = negatives-append words e (m ∷ []) mail in let out = ap (negatives words e) outbox in omega (arith, last, more, out))

  pub sent_away : (w v : WorkerFace P S) (mail : List (Message P)) (m : Message P) → v.processes ≡ w.processes → v.first ≡ w.first → v.inbox ≡ w.inbox → v.outbox ≡ w.outbox ++ m ∷ [] → Moves words b w (m ∷ mail) v mail
  sent_away w v mail m processes first inbox outbox = moves_letters words b w v (m ∷ mail) mail processes first
      (λ e. let last = ap (positives words e) outbox ∙ positives-append words e w.outbox (m ∷ []) in let more = positives-append words e (m ∷ []) mail in let same = ap (positives words e) inbox in omega (arith, last, more, same))
      (λ e. let last = ap (negatives words e) outbox ∙ negatives-append words e w.outbox (m ∷ []) in let more = negatives-append words e (m ∷ []) mail in let same = ap (negatives words e) inbox in omega (arith, last, more, same))

module _ {P S : Type 0} (bound end n : ℕ) where
  pub last_arrives : (w v : WorkerFace P S) (mail : List (Message P)) (m : Message P) → v.processes ≡ w.processes → v.first ≡ w.first → w.inbox ≡ v.inbox ++ m ∷ [] → IsMidway bound end n w mail → IsArrival bound v m
  last_arrives w v mail m processes first inbox h =
      (arrivals_stay bound w v (m ∷ []) first (ap length processes) (Each-back (IsArrival bound w) v.inbox (m ∷ []) (subst (Each (IsArrival bound w)) inbox h.inbox))).0

  pub midway_sent : (w v : WorkerFace P S) (mail : List (Message P)) (m : Message P) → v.processes ≡ w.processes → v.first ≡ w.first → v.inbox ≡ w.inbox → v.outbox ≡ w.outbox ++ m ∷ [] → IsDeparture bound n m → IsMidway bound end n w mail → IsMidway bound end n v mail
  midway_sent w v mail m processes first inbox outbox leaves h = record {
    due = subst (Each (IsDue bound end)) (sym processes) h.due;
    inbox = subst (Each (IsArrival bound v)) (sym inbox) (arrivals_stay bound w v w.inbox first (ap length processes) h.inbox);
    mail = h.mail;
    outbox = subst (Each (IsDeparture bound n)) (sym outbox) (Each-append (IsDeparture bound n) w.outbox (m ∷ []) h.outbox (leaves, tt));
  }

-- what lasts from the start of a loop on
pub record Goes {P S : Type 0} (words : P → List ℕ) (b : Behaviour P S) (bound end n until : ℕ) (w : WorkerFace P S) (letters : List (Message P)) (new : WorkerFace P S) (new_letters : List (Message P)) : Type 0 where
  pub moved : Moves words b w letters new new_letters
  pub midway : IsMidway bound end n new new_letters
  pub pending : KeepsPending until w new

module _ {P S : Type 0} (words : P → List ℕ) (b : Behaviour P S) (bound end n until : ℕ) where
  -- a step more
  pub goes_on : (u v w : WorkerFace P S) (us vs ws : List (Message P)) → Goes words b bound end n until u us v vs → Moves words b v vs w ws → IsMidway bound end n w ws → KeepsPending until v w → Goes words b bound end n until u us w ws
  goes_on u v w us vs ws h moved midway pending = record {
    moved = moves_then words b u v w us vs ws h.moved moved;
    midway = midway;
    pending = λ t soon all. pending t soon (h.pending t soon all);
  }

-- the next event at a place
option_cases : {X : Type 0} (o : Option X) → (o ≡ None) ⊎ ((x : X) × (o ≡ Some x))
option_cases None = inl refl
option_cases (Some x) = inr (x, refl)

pub later_from : {P : Type 0} (s t : ℕ) (es : List (Event P)) → s ≤ t → AreFrom t es → AreFrom s es
later_from {P} s t es soon h = Each-weaker (λ (e : Event P). t ≤ e.time) (λ (e : Event P). s ≤ e.time) (λ e late. omega (arith, soon, late)) es h

module _ {P S : Type 0} where
  pub due_iff : (w : WorkerFace P S) (place last : ℕ) (f : ProcessFace P S) (e : Event P) → slice_get w.processes place ≡ Some f → next_of f ≡ Some e → (IsTrue (nat_le e.time last) → HasNextUntil last place w) × (HasNextUntil last place w → IsTrue (nat_le e.time last))
  due_iff w place last f e get there = (
    λ yes. (f, e, get, there, leb-true e.time last yes),
    λ h. let one : Some f ≡ Some h.0 = sym get ∙ h.2 in let same : f ≡ h.0 = cc in let both : Some e ≡ Some h.1 = sym there ∙ ap next_of same ∙ h.3 in let is : e ≡ h.1 = cc in le-leb e.time last (subst (λ (x : Event P). x.time ≤ last) (sym is) h.4),
  )

  pub not_due : (w : WorkerFace P S) (place last : ℕ) (f : ProcessFace P S) → slice_get w.processes place ≡ Some f → next_of f ≡ None → HasNextUntil last place w → ⊥
  not_due w place last f get none h = let one : Some f ≡ Some h.0 = sym get ∙ h.2 in let same : f ≡ h.0 = cc in let both : None ≡ Some h.1 = sym none ∙ ap next_of same ∙ h.3 in cc

  -- nothing is due there, so all that is to be run is later
  pub done_at : (words : P → List ℕ) (b : Behaviour P S) (past : List (Event P)) (w : WorkerFace P S) (place last : ℕ) (f : ProcessFace P S) → IsProcess words b past f → slice_get w.processes place ≡ Some f → (HasNextUntil last place w → ⊥) → IsPendingFrom (suc last) f
  done_at words b past w place last f h get none =
      elim (option_cases (next_of f)) as (λ _. IsPendingFrom (suc last) f) [
        | inl nothing ↦ subst (AreFrom (suc last)) (sym (no_next f nothing)) tt
        | inr some ↦ elim (cases_lt last some.0.time) as (λ _. IsPendingFrom (suc last) f) [
          | inl later ↦ later_from (suc last) some.0.time (to_run f) later (next_is_least words b past f some.0 h some.1)
          | inr due ↦ absurd (none (f, some.0, get, some.1, due))
        ]
      ]

-- a place more
pub Each-take-next : {X : Type 0} (Q : X → Type 0) (xs : List X) (i : ℕ) (x : X) → Each Q (take i xs) → slice_get xs i ≡ Some x → Q x → Each Q (take (i + 1) xs)
Each-take-next Q xs i x h there is = subst (λ k. Each Q (take k xs)) (let e : suc i ≡ i + 1 = omega arith in e) (next xs i h there)
  where
    next : (ys : List _) (k : ℕ) → Each Q (take k ys) → slice_get ys k ≡ Some x → Each Q (take (suc k) ys)
    next [] k h there = absurd cc
    next (y ∷ ys) zero h there = let same : y ≡ x = cc in (subst Q (sym same) is, tt)
    next (y ∷ ys) (suc k) h there = (h.0, next ys k h.1 there)

pub some_at : {X : Type 0} (xs : List X) (i : ℕ) → i < length xs → (x : X) × (slice_get xs i ≡ Some x)
some_at [] i less = absurd (omega (arith, less))
some_at (x ∷ xs) zero less = (x, refl)
some_at (x ∷ xs) (suc i) less = some_at xs i (omega (arith, less))
