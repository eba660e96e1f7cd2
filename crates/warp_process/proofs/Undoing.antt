-- What is run, and what is to be run, where events from a place on are undone and others follow there.
use Rattle.std.proofs.Common.{◌≡◌, ℕ, zero, suc, ◌≤◌, min, inl, inr, List, [], ◌∷◌, ◌++◌, length, take, drop, slice_get, Some, sym, subst, ◌∙◌, arith}
use Rattle.std.proofs.lemmas.List.{take-append-le, length-take-le, drop-append-le}
use Rattle.std.specs.List.{insert, remove}
use Rattle.std.proofs.lemmas.Bool.{cases_lt}
use Rattle.std.proofs.lemmas.Option.{slice_get_within}
use Rattle.warp_base.specs.declared.event.Event.{Event}
use Rattle.warp_base.specs.Events.{Each, AreFrom}
use Rattle.warp_base.proofs.Lists.{Each-append, Each-take, Each-weaker}
use Rattle.warp_process.specs.Processes.{ProcessFace, UndoesFrom}
use Rattle.warp_process.proofs.Runs.{take_less, Each-drop_take}

Each-beyond : {X : Type 0} (Q : X → Type 0) (m : ℕ) (xs : List X) → length xs ≤ m → Each Q (drop m xs)
Each-beyond Q zero [] few = tt
Each-beyond Q zero (x ∷ xs) few = absurd (omega (arith, few))
Each-beyond Q (suc m) [] few = tt
Each-beyond Q (suc m) (x ∷ xs) few = Each-beyond Q m xs (omega (arith, few))

module _ {X : Type 0} (Q : X → Type 0) (place marks m : ℕ) (xs ys : List X) (is : m ≡ min place marks) (within : place ≤ length xs) where
  long : length (take place xs) ≡ place
  long = length-take-le place xs within

  behind_place : Each Q (drop marks xs) → Each Q ys → Each Q (drop m (take place xs ++ ys))
  behind_place h back =
      subst (Each Q) (sym (drop-append-le m (take place xs) ys (let n = long in omega (arith, n, is)))) (Each-append Q (drop m (take place xs)) ys front back)
    where
      front : Each Q (drop m (take place xs))
      front = elim (cases_lt place marks) as (λ _. Each Q (drop m (take place xs))) [
        | inl less ↦ Each-beyond Q m (take place xs) (let n = long in omega (arith, n, is, less))
        | inr more ↦ (let same : m ≡ marks = omega (arith, is, more) in subst (λ k. Each Q (drop k (take place xs))) (sym same) (Each-drop_take Q marks place xs h))
      ]

  before_place : Each Q (take marks xs) → Each Q (take m (take place xs ++ ys))
  before_place h =
      let front : take m (take place xs ++ ys) ≡ take m (take marks xs) = take-append-le m (take place xs) ys (let n = long in omega (arith, n, is)) ∙ take_less m place xs (omega (arith, is)) ∙ sym (take_less m marks xs (omega (arith, is))) in
      subst (Each Q) (sym front) (Each-take Q m (take marks xs) h)

from_next : {P : Type 0} (time place : ℕ) (xs : List (Event P)) → AreFrom time (drop place xs) → AreFrom time (drop (suc place) xs)
from_next time zero [] h = tt
from_next time zero (x ∷ xs) h = h.1
from_next time (suc place) [] h = tt
from_next time (suc place) (x ∷ xs) h = from_next time place xs h

module _ {P S : Type 0} where
  undoes_at : (time place : ℕ) (ys : List (Event P)) (f new : ProcessFace P S) → new.events ≡ take place f.events ++ ys → length new.marks ≡ min place (length f.marks) → place ≤ length f.events → AreFrom time ys → UndoesFrom time f new
  undoes_at time place ys f new events marks within behind = record {
    pending = λ floor few h. subst (λ l. AreFrom floor (drop (length new.marks) l)) (sym events) (behind_place (λ (e : Event P). floor ≤ e.time) place (length f.marks) (length new.marks) f.events ys marks within h (Each-weaker (λ (e : Event P). time ≤ e.time) (λ (e : Event P). floor ≤ e.time) (λ e late. omega (arith, late, few)) ys behind));
    until = λ end h. subst (λ l. Each (λ (e : Event P). e.time ≤ end) (take (length new.marks) l)) (sym events) (before_place (λ (e : Event P). e.time ≤ end) place (length f.marks) (length new.marks) f.events ys marks within h);
  }

  pub undoes_insert : (e : Event P) (place : ℕ) (f new : ProcessFace P S) → new.events ≡ insert f.events place e → length new.marks ≡ min place (length f.marks) → place ≤ length f.events → AreFrom e.time (drop place f.events) → UndoesFrom e.time f new
  undoes_insert e place f new events marks within behind = undoes_at e.time place (e ∷ drop place f.events) f new events marks within (omega arith, behind)

  pub undoes_remove : (e : Event P) (place : ℕ) (f new : ProcessFace P S) → new.events ≡ remove f.events place → length new.marks ≡ min place (length f.marks) → slice_get f.events place ≡ Some e → AreFrom e.time (drop place f.events) → UndoesFrom e.time f new
  undoes_remove e place f new events marks there behind =
      let within = slice_get_within f.events place e there in
      undoes_at e.time place (drop (suc place) f.events) f new events marks (omega (arith, within)) (from_next e.time place f.events behind)
