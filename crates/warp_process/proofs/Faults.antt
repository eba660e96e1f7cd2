-- The first fault, where events are undone or one more is run, and what it says of the committed past.
use Rattle.std.proofs.Common.{◌≡◌, ℕ, ◌+◌, ◌<◌, ◌≤◌, inl, inr, false, cond, Option, Some, None, IfSome, IfNone, List, [], ◌∷◌, ◌++◌, length, take, ap, sym, subst, ◌∙◌, arith, length-append}
use Rattle.std.proofs.lemmas.List.{take-append-le, take_all}
use Rattle.std.proofs.lemmas.Bool.{cases_Bool, cases_lt}
use Rattle.warp_base.specs.declared.event.Event.{Event}
use Rattle.warp_base.specs.Histories.{Behaviour, state_after}
use Rattle.warp_process.specs.Processes.{ProcessFace, IsProcess, IsFirstFault, fault_with, done_of}
use Rattle.warp_process.specs.Laws.{FailureIsReal}

module _ {P S : Type 0} (b : Behaviour P S) (p : ℕ) where
  faulty_front : (done rest : List (Event P)) (k : ℕ) → k ≤ length done → b.faulty (state_after b p (take k (done ++ rest))) ≡ b.faulty (state_after b p (take k done))
  faulty_front done rest k few = ap (λ l. b.faulty (state_after b p l)) (take-append-le k done rest few)

  -- a fault of what is undone is forgotten
  pub fault_back : (done rest : List (Event P)) (fault new : Option ℕ) → IsFirstFault b p (done ++ rest) fault → IfSome new (λ date. (fault ≡ Some date) × (date ≤ length done)) → IfNone new (IfSome fault (λ date. length done < date)) → IsFirstFault b p done new
  fault_back done rest None None h kept gone = λ k few. sym (faulty_front done rest k few) ∙ h k (let all = length-append done rest in omega (arith, all, few))
  fault_back done rest (Some date) None h kept gone = λ k few. sym (faulty_front done rest k few) ∙ h.2 k (omega (arith, few, gone))
  fault_back done rest fault (Some date) h kept gone =
      let is = subst (IsFirstFault b p (done ++ rest)) kept.0 h in
      let few = kept.1 in
      (few, sym (faulty_front done rest date few) ∙ is.1, λ k less. sym (faulty_front done rest k (omega (arith, less, few))) ∙ is.2 k less)

  -- the state after an event more may be the first one
  pub fault_next : (done : List (Event P)) (e : Event P) (fault : Option ℕ) (date : ℕ) → date ≡ length done + 1 → IsFirstFault b p done fault → IsFirstFault b p (done ++ e ∷ []) (fault_with fault (b.faulty (state_after b p (done ++ e ∷ []))) date)
  fault_next done e (Some first) date is h =
      let all = length-append done (e ∷ []) in
      let few = h.0 in
      (omega (arith, all, few), faulty_front done (e ∷ []) first few ∙ h.1, λ k less. faulty_front done (e ∷ []) k (omega (arith, less, few)) ∙ h.2 k less)
  fault_next done e None date is h =
      let all = length-append done (e ∷ []) in
      let whole : (k : ℕ) → length done < k → take k (done ++ e ∷ []) ≡ done ++ e ∷ [] = λ k more. take_all k (done ++ e ∷ []) (omega (arith, all, more)) in
      elim (cases_Bool (b.faulty (state_after b p (done ++ e ∷ [])))) as (λ _. IsFirstFault b p (done ++ e ∷ []) (cond (b.faulty (state_after b p (done ++ e ∷ []))) (Some date) None)) [
        | inl holds ↦ subst (λ t. IsFirstFault b p (done ++ e ∷ []) (cond t (Some date) None)) (sym holds) (omega (arith, all, is), ap (λ l. b.faulty (state_after b p l)) (whole date (omega (arith, is))) ∙ holds, λ k less. faulty_front done (e ∷ []) k (omega (arith, less, is)) ∙ h k (omega (arith, less, is)))
        | inr fails ↦ subst (λ t. IsFirstFault b p (done ++ e ∷ []) (cond t (Some date) None)) (sym fails) (λ k few. elim (cases_lt (length done) k) as (λ _. b.faulty (state_after b p (take k (done ++ e ∷ []))) ≡ false) [
          | inl more ↦ (ap (λ l. b.faulty (state_after b p l)) (whole k more) ∙ fails)
          | inr less ↦ (faulty_front done (e ∷ []) k less ∙ h k less)
        ])
      ]

pub failure_is_real : {P S : Type 0} (words : P → List ℕ) (b : Behaviour P S) (past : List (Event P)) (f : ProcessFace P S) → IsProcess words b past f → FailureIsReal words S b past f
failure_is_real {P} {S} words b past f h = told f.fault h.fault
  where
    rest : List (Event P)
    rest = take (length f.marks) f.events

    told : (fault : Option ℕ) → IsFirstFault b f.number (done_of past f) fault → FailureIsReal words S b past (record f { fault = fault })
    told None is = record {
      failed = λ fails. absurd fails;
      sound = λ not k few. sym (faulty_front b f.number past rest k few) ∙ is k (let all = length-append past rest in omega (arith, all, few));
    }
    told (Some date) is = record {
      failed = λ fails. let dates = h.dates in let few : date ≤ length past = omega (arith, fails, dates) in (date, few, sym (faulty_front b f.number past rest date few) ∙ is.1);
      sound = λ not k few. elim (cases_lt k date) as (λ _. b.faulty (state_after b f.number (take k past)) ≡ false) [
        | inl less ↦ (sym (faulty_front b f.number past rest k few) ∙ is.2 k less)
        | inr more ↦ (let dates = h.dates in absurd (not (omega (arith, more, few, dates))))
      ];
    }
