-- How many events have a time at or before another, and before it.
use Rattle.std.proofs.Common.{◌≡◌, ℕ, zero, suc, ◌+◌, ◌<◌, ◌≤◌, inl, inr, cond, nat_le, nat_lt, List, [], ◌∷◌, ◌++◌, length, take, drop, refl, ap, ◌∙◌, arith}
use Rattle.std.specs.List.{insert}
use Rattle.std.proofs.lemmas.Bool.{cases_lt, le-leb, lt-leb, lt-ltb, le-ltb}
use Rattle.std.proofs.lemmas.List.{length-take, take-append-le}
use Rattle.std.proofs.lemmas.List.Sums.{sum_by-cons, sum_by-insert, sum_by_push, count_by-le-length}
use Rattle.std.proofs.lemmas.List.Edits.{length-insert}
use Rattle.dym_base.specs.LateRun.{LateEvent, events_to, events_before, placed, order_onto, order}

-- one where the event is at or before the time, and where it is before it
abbrev pub one_to : ℕ → LateEvent → ℕ
one_to t e = cond (nat_le e.time t) 1 0

abbrev pub one_before : ℕ → LateEvent → ℕ
one_before t e = cond (nat_lt e.time t) 1 0

pub one_yes : (t : ℕ) (e : LateEvent) → e.time ≤ t → one_to t e ≡ 1
one_yes t e early = ap (λ b. cond b 1 0) (le-leb e.time t early)

pub one_no : (t : ℕ) (e : LateEvent) → t < e.time → one_to t e ≡ 0
one_no t e late = ap (λ b. cond b 1 0) (lt-leb e.time t late)

pub before_yes : (t : ℕ) (e : LateEvent) → e.time < t → one_before t e ≡ 1
before_yes t e early = ap (λ b. cond b 1 0) (lt-ltb e.time t early)

pub before_no : (t : ℕ) (e : LateEvent) → t ≤ e.time → one_before t e ≡ 0
before_no t e late = ap (λ b. cond b 1 0) (le-ltb e.time t late)

pub to_cons : (t : ℕ) (e : LateEvent) (es : List LateEvent) → events_to t (e ∷ es) ≡ one_to t e + events_to t es
to_cons t e es = sum_by-cons (one_to t) e es

pub before_cons : (t : ℕ) (e : LateEvent) (es : List LateEvent) → events_before t (e ∷ es) ≡ one_before t e + events_before t es
before_cons t e es = sum_by-cons (one_before t) e es

pub to_push : (t : ℕ) (es : List LateEvent) (e : LateEvent) → events_to t (es ++ e ∷ []) ≡ events_to t es + one_to t e
to_push t es e = sum_by_push (one_to t) es e

pub before_push : (t : ℕ) (es : List LateEvent) (e : LateEvent) → events_before t (es ++ e ∷ []) ≡ events_before t es + one_before t e
before_push t es e = sum_by_push (one_before t) es e

pub to_most : (t : ℕ) (es : List LateEvent) → events_to t es ≤ length es
to_most t es = count_by-le-length (λ (e : LateEvent). nat_le e.time t) es

pub to_rises : (t u : ℕ) (es : List LateEvent) → t ≤ u → events_to t es ≤ events_to u es
to_rises t u [] up = omega arith
to_rises t u (e ∷ es) up =
    let rest = to_rises t u es up in
    let first = to_cons t e es in
    let second = to_cons u e es in
    elim (cases_lt t e.time) as (λ _. events_to t (e ∷ es) ≤ events_to u (e ∷ es)) [
      | inl late ↦ (let none = one_no t e late in omega (arith, rest, first, second, none))
      | inr early ↦ (let one = one_yes t e early in let more = one_yes u e (omega (arith, early, up)) in omega (arith, rest, first, second, one, more))
    ]

pub before_none : (es : List LateEvent) → events_before 0 es ≡ 0
before_none [] = refl
before_none (e ∷ es) =
    let rest = before_none es in
    let first = before_cons 0 e es in
    let none = before_no 0 e (omega arith) in
    omega (arith, rest, first, none)

pub before_most : (t : ℕ) (es : List LateEvent) → events_before t es ≤ events_to t es
before_most t [] = omega arith
before_most t (e ∷ es) =
    let rest = before_most t es in
    let first = before_cons t e es in
    let second = to_cons t e es in
    elim (cases_lt t e.time) as (λ _. events_before t (e ∷ es) ≤ events_to t (e ∷ es)) [
      | inl late ↦ (let none = before_no t e (omega (arith, late)) in omega (arith, rest, first, second, none))
      | inr early ↦ (let one = one_yes t e early in (elim (cases_lt e.time t) as (λ _. events_before t (e ∷ es) ≤ events_to t (e ∷ es)) [
        | inl less ↦ (let too = before_yes t e less in omega (arith, rest, first, second, one, too))
        | inr same ↦ (let none = before_no t e same in omega (arith, rest, first, second, one, none))
      ]))
    ]

pub before_rises : (t u : ℕ) (es : List LateEvent) → t ≤ u → events_before t es ≤ events_before u es
before_rises t u [] up = omega arith
before_rises t u (e ∷ es) up =
    let rest = before_rises t u es up in
    let first = before_cons t e es in
    let second = before_cons u e es in
    elim (cases_lt e.time t) as (λ _. events_before t (e ∷ es) ≤ events_before u (e ∷ es)) [
      | inl early ↦ (let one = before_yes t e early in let more = before_yes u e (omega (arith, early, up)) in omega (arith, rest, first, second, one, more))
      | inr late ↦ (let none = before_no t e late in omega (arith, rest, first, second, none))
    ]

-- an event more in the order

pub placed_is : (ordered : List LateEvent) (e : LateEvent) → placed ordered e ≡ insert ordered (events_to e.time ordered) e
placed_is ordered e = refl

pub to_placed : (t : ℕ) (ordered : List LateEvent) (e : LateEvent) → events_to t (placed ordered e) ≡ events_to t ordered + one_to t e
to_placed t ordered e = ap (events_to t) (placed_is ordered e) ∙ sum_by-insert (one_to t) ordered (events_to e.time ordered) e

pub length_placed : (ordered : List LateEvent) (e : LateEvent) → length (placed ordered e) ≡ length ordered + 1
length_placed ordered e = ap length (placed_is ordered e) ∙ length-insert ordered (events_to e.time ordered) e (to_most e.time ordered)

pub to_order_onto : (t : ℕ) (ordered es : List LateEvent) → events_to t (order_onto ordered es) ≡ events_to t ordered + events_to t es
to_order_onto t ordered [] = omega arith
to_order_onto t ordered (e ∷ es) =
    let rest = to_order_onto t (placed ordered e) es in
    let here = to_placed t ordered e in
    let count = to_cons t e es in
    omega (arith, rest, here, count)

pub to_order : (t : ℕ) (events : List LateEvent) → events_to t (order events) ≡ events_to t events
to_order t events = (let is = to_order_onto t [] events in omega (arith, is))

length_onto : (ordered es : List LateEvent) → length (order_onto ordered es) ≡ length ordered + length es
length_onto ordered [] = omega arith
length_onto ordered (e ∷ es) =
    let rest = length_onto (placed ordered e) es in
    let here = length_placed ordered e in
    omega (arith, rest, here)

pub length_order : (events : List LateEvent) → length (order events) ≡ length events
length_order events = (let is = length_onto [] events in omega (arith, is))

onto_push : (ordered es : List LateEvent) (e : LateEvent) → order_onto ordered (es ++ e ∷ []) ≡ placed (order_onto ordered es) e
onto_push ordered [] e = refl
onto_push ordered (f ∷ es) e = onto_push (placed ordered f) es e

-- the order with an event more
pub order_push : (events : List LateEvent) (e : LateEvent) → order (events ++ e ∷ []) ≡ insert (order events) (events_to e.time events) e
order_push events e = onto_push [] events e ∙ placed_is (order events) e ∙ ap (λ p. insert (order events) p e) (to_order e.time events)

take_take : (k p : ℕ) (xs : List LateEvent) → k ≤ p → take k (take p xs) ≡ take k xs
take_take zero p xs less = refl
take_take (suc k) zero xs less = absurd (omega (arith, less))
take_take (suc k) (suc p) [] less = refl
take_take (suc k) (suc p) (x ∷ xs) less = ap (λ l. x ∷ l) (take_take k p xs (omega (arith, less)))

-- what stands before the place stays
pub take_inserted : (k p : ℕ) (xs : List LateEvent) (e : LateEvent) → k ≤ p → p ≤ length xs → take k (insert xs p e) ≡ take k xs
take_inserted k p xs e before within =
    take-append-le k (take p xs) (e ∷ drop p xs) (omega (arith, length-take p xs, before, within)) ∙ take_take k p xs before

pub take_order : (k : ℕ) (events : List LateEvent) (e : LateEvent) → k ≤ events_to e.time events → take k (order (events ++ e ∷ [])) ≡ take k (order events)
take_order k events e before =
    let most = to_most e.time events in
    let count = length_order events in
    ap (take k) (order_push events e) ∙ take_inserted k (events_to e.time events) (order events) e before (omega (arith, most, count))
