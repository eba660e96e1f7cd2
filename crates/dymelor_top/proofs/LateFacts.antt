-- What becomes of late events, one after another.
use Rattle.std.proofs.Common.{◌≡◌, ℕ, ◌+◌, ◌≤◌, true, false, cond, max, nat_lt, List, [], ◌∷◌, ◌++◌, All, length, count_by, refl, sym, ap, subst, ◌∙◌, append_assoc, append-nil, add-zero, arith, length-append}
use Rattle.std.proofs.lemmas.List.{map-append}
use Rattle.std.proofs.lemmas.List.Sums.{sum_by-cons}
use Rattle.std.proofs.lemmas.List.Elements.{All-nil, All-cons}
use Rattle.dym_base.specs.LateRun.{LateEvent, Arrival, event, commit, bound_after, accepted_after, accepted}
use Rattle.dym_late.specs.Meaning.{LateMeaning}
use Rattle.dym_script.specs.declared.late_script.LateAct.{LateAct}
use Rattle.dym_script.specs.declared.late_script.LateAct.TheVariants.{At, Commit}
use Rattle.dym_script.specs.Late.{is_event}
use Rattle.dym_script.specs.LateArrivals.{arrival}
use Rattle.dymelor_top.specs.declared.late_outcome.LateOutcome.{LateOutcome}
use Rattle.dymelor_top.specs.declared.late_outcome.LateOutcome.TheVariants as outcome
use Rattle.dymelor_top.specs.LateReport.{outcome_at, outcome_behind, outcome_onto, outcome_of}
use Rattle.dymelor_top.specs.LateParts.{arrivals_by, TookIn, IsOneOf}

-- what is accepted of two lists, one behind the other
accepted_both : (bound : ℕ) (xs ys : List Arrival) → accepted_after bound (xs ++ ys) ≡ accepted_after bound xs ++ accepted_after (bound_after bound xs) ys
accepted_both bound [] ys = refl
accepted_both bound (event e ∷ xs) ys =
    elim (nat_lt e.time bound) as (λ b. cond b (accepted_after bound (xs ++ ys)) (e ∷ accepted_after bound (xs ++ ys))
    ≡ cond b (accepted_after bound xs) (e ∷ accepted_after bound xs) ++ accepted_after (bound_after bound xs) ys) [
      | true ↦ accepted_both bound xs ys
      | false ↦ ap (λ l. e ∷ l) (accepted_both bound xs ys)
    ]
accepted_both bound (commit t ∷ xs) ys = accepted_both (max bound t) xs ys

bound_both : (bound : ℕ) (xs ys : List Arrival) → bound_after bound (xs ++ ys) ≡ bound_after (bound_after bound xs) ys
bound_both bound [] ys = refl
bound_both bound (event e ∷ xs) ys = bound_both bound xs ys
bound_both bound (commit t ∷ xs) ys = bound_both (max bound t) xs ys

told_onto_push : (before xs : List Arrival) (x : Arrival) → outcome_onto before (xs ++ x ∷ []) ≡ outcome_onto before xs ++ outcome_behind (before ++ xs) x ∷ []
told_onto_push before [] x = ap (λ l. outcome_behind l x ∷ []) (sym (append-nil before))
told_onto_push before (y ∷ xs) x =
    ap (λ l. outcome_behind before y ∷ l)
    (told_onto_push (before ++ y ∷ []) xs x ∙ ap (λ l. outcome_onto (before ++ y ∷ []) xs ++ outcome_behind l x ∷ []) (append_assoc before (y ∷ []) xs))

pub told_of_push : (xs : List Arrival) (x : Arrival) → outcome_of (xs ++ x ∷ []) ≡ outcome_of xs ++ outcome_behind xs x ∷ []
unfolding outcome_of
told_of_push xs x = told_onto_push [] xs x

pub arrivals_push : (acts : List LateAct) (act : LateAct) → arrivals_by (acts ++ act ∷ []) ≡ arrivals_by acts ++ arrival act ∷ []
arrivals_push acts act = map-append (λ a. arrival a) acts (act ∷ [])

-- nothing came yet
pub took_none : (old : LateMeaning) → old.broken ≡ false → TookIn old old []
took_none old whole = record { events = sym (append-nil old.events); bound = refl; whole = whole; quota = refl }

-- one arrival more
pub took_more : (old mid new : LateMeaning) (xs : List Arrival) (x : Arrival) → TookIn old mid xs → TookIn mid new (x ∷ []) → TookIn old new (xs ++ x ∷ [])
took_more old mid new xs x p q = record {
  events =
      q.events ∙ (λ i. p.events i ++ accepted_after (p.bound i) (x ∷ []))
      ∙ append_assoc old.events (accepted_after old.bound xs) (accepted_after (bound_after old.bound xs) (x ∷ []))
      ∙ ap (λ l. old.events ++ l) (sym (accepted_both old.bound xs (x ∷ [])));
  bound = q.bound ∙ ap (λ b. bound_after b (x ∷ [])) p.bound ∙ sym (bound_both old.bound xs (x ∷ []));
  whole = q.whole;
  quota = q.quota ∙ p.quota;
}

-- the heap was new
module _ (old mid : LateMeaning) (none : old.events ≡ []) (zero : old.bound ≡ 0) where
  pub events_are : (xs : List Arrival) → TookIn old mid xs → mid.events ≡ accepted xs
  events_are xs p = p.events ∙ (λ i. none i ++ accepted_after (zero i) xs)

  pub told_more : (acts : List LateAct) (act : LateAct) (so_far : List LateOutcome) (became : LateOutcome) → TookIn old mid (arrivals_by acts)
      → so_far ≡ outcome_of (arrivals_by acts)
      → became ≡ outcome_at mid.bound (length mid.events) (arrival act) → so_far ++ became ∷ [] ≡ outcome_of (arrivals_by (acts ++ act ∷ []))
  told_more acts act so_far became p are is =
      let xs : List Arrival = arrivals_by acts in
      let now : became ≡ outcome_behind xs (arrival act) =
      is ∙ (λ i. outcome_at ((p.bound ∙ ap (λ b. bound_after b xs) zero) i) (length (events_are xs p i)) (arrival act)) in
      (λ i. are i ++ now i ∷ []) ∙ sym (told_of_push xs (arrival act)) ∙ ap outcome_of (sym (arrivals_push acts act))

pub took_push : (old mid new : LateMeaning) (acts : List LateAct) (act : LateAct) → TookIn old mid (arrivals_by acts) → TookIn mid new (arrival act ∷ [])
    → TookIn old new (arrivals_by (acts ++ act ∷ []))
took_push old mid new acts act p q = subst (TookIn old new) (sym (arrivals_push acts act)) (took_more old mid new (arrivals_by acts) (arrival act) p q)

-- room for the events that are left

accepted_one : (bound : ℕ) (act : LateAct) → length (accepted_after bound (arrival act ∷ [])) ≤ count_by is_event (act ∷ [])
accepted_one bound (At time command) =
    let e : LateEvent = record { time = time; command = command } in
    elim (nat_lt time bound) as (λ b. length (cond b (accepted_after bound []) (e ∷ accepted_after bound [])) ≤ 1) [
      | true ↦ omega arith
      | false ↦ omega arith
    ]
accepted_one bound (Commit time) = omega arith

count_cons : (act : LateAct) (acts : List LateAct) → count_by is_event (act ∷ acts) ≡ count_by is_event (act ∷ []) + count_by is_event acts
count_cons act acts =
    let f : LateAct → ℕ = λ a. cond (is_event a) 1 0 in
    sum_by-cons f act acts ∙ ap (λ n. n + count_by is_event acts) (sym (sum_by-cons f act [] ∙ add-zero (f act)))

pub room_later : (old new : LateMeaning) (most : ℕ) (act : LateAct) (acts : List LateAct) → length old.events + count_by is_event (act ∷ acts) ≤ most
    → TookIn old new (arrival act ∷ [])
    → length new.events + count_by is_event acts ≤ most
room_later old new most act acts few p =
    omega (arith, few, count_cons act acts, ap length p.events, length-append old.events (accepted_after old.bound (arrival act ∷ [])), accepted_one old.bound act)

-- each accepted event that is told of is one of all

one_of_all : (before more : List Arrival) (x : Arrival) → IsOneOf (length (accepted (before ++ x ∷ more))) (outcome_behind before x)
one_of_all before more (event e) =
    let grown = ap length (accepted_both 0 before (event e ∷ more)) in
    elim (nat_lt e.time (bound_after 0 before)) as (λ b. length (accepted (before ++ event e ∷ more))
    ≡ length (accepted before ++ cond b (accepted_after (bound_after 0 before) more) (e ∷ accepted_after (bound_after 0 before) more))
    → IsOneOf (length (accepted (before ++ event e ∷ more))) (cond b (outcome.Early (bound_after 0 before)) (outcome.Accepted (length (accepted before))))) [
      | true ↦ λ is. tt
      | false ↦ λ is. omega (arith, is, length-append (accepted before) (e ∷ accepted_after (bound_after 0 before) more))
    ] grown
one_of_all before more (commit t) = tt

ones_onto : (before xs : List Arrival) → All (IsOneOf (length (accepted (before ++ xs)))) (outcome_onto before xs)
ones_onto before [] = All-nil (IsOneOf (length (accepted (before ++ []))))
ones_onto before (x ∷ xs) =
    All-cons (IsOneOf (length (accepted (before ++ x ∷ xs)))) (outcome_behind before x) (outcome_onto (before ++ x ∷ []) xs) (one_of_all before xs x)
    (subst (λ (l : List Arrival). All (IsOneOf (length (accepted l))) (outcome_onto (before ++ x ∷ []) xs)) (append_assoc before (x ∷ []) xs)
    (ones_onto (before ++ x ∷ []) xs))

pub ones_of : (xs : List Arrival) → All (IsOneOf (length (accepted xs))) (outcome_of xs)
unfolding outcome_of
ones_of xs = ones_onto [] xs
