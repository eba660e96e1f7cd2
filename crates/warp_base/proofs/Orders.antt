-- The order of events, counts of copies, and lists in order: two of them with as many copies of each event are one list.
use Rattle.std.proofs.Common.{◌≡◌, ℕ, zero, suc, ◌+◌, ◌<◌, ◌≤◌, ◌⊎◌, inl, inr, Bool, true, false, cond, List, [], ◌∷◌, ◌++◌, drop, refl, ap, sym, subst, ◌∙◌, arith}
use Rattle.std.proofs.lemmas.Bool.{cases_lt, cases_Bool}
use Rattle.std.specs.List.{filter}
use Rattle.warp_base.specs.declared.event.Event.{Event}
use Rattle.warp_base.specs.Words.{same_numbers}
use Rattle.warp_base.specs.Events.{Each, key, precedes, hit, copies, IsBefore, IsInOrder}
use Rattle.warp_base.proofs.Words.{same_numbers-refl, same_numbers-true, lexically-less, lexically-more, lexically-total, lexically-one, lexically-trans}
use Rattle.warp_base.proofs.Lists.{Each-front, Each-filter, Each-weaker, filter_yes, filter_no}

-- a number of a key, by its place
abbrev part : List ℕ → ℕ → ℕ
part [] k = 0
part (x ∷ xs) zero = x
part (x ∷ xs) (suc k) = part xs k

abbrev event_with : {P : Type 0} → List ℕ → P → Event P
event_with xs payload =
    record { time = part xs 0; priority = part xs 1; sender = part xs 2; serial = part xs 3; receiver = part xs 4; kind = part xs 5; payload = payload }

-- what words payloads have tells them apart
abbrev pub TellsApart : {P : Type 0} → (P → List ℕ) → Type 0
TellsApart {P} words = (a b : P) → words a ≡ words b → a ≡ b

module _ {P : Type 0} (words : P → List ℕ) where
  pub precedes_self : (a : Event P) → precedes words a a ≡ true
  precedes_self a =
      elim (cases_Bool (precedes words a a)) [
        | inl holds ↦ holds
        | inr fails ↦ lexically-total (key words a) (key words a) fails
      ]

  pub precedes_total : (a b : Event P) → precedes words a b ≡ false → precedes words b a ≡ true
  precedes_total a b h = lexically-total (key words a) (key words b) h

  pub precedes_trans : (a b c : Event P) → precedes words a b ≡ true → precedes words b c ≡ true → precedes words a c ≡ true
  precedes_trans a b c h g = lexically-trans (key words a) (key words b) (key words c) h g

  pub precedes_time : (a b : Event P) → precedes words a b ≡ true → a.time ≤ b.time
  precedes_time a b h =
      elim (cases_lt b.time a.time) [
        | inl less ↦ (let no : precedes words a b ≡ false = lexically-more a.time b.time (a.priority ∷ a.sender ∷ a.serial ∷ a.receiver ∷ a.kind ∷ words a.payload) (b.priority ∷ b.sender ∷ b.serial ∷ b.receiver ∷ b.kind ∷ words b.payload) less in cc)
        | inr fine ↦ fine
      ]

  pub precedes_later : (a b : Event P) → a.time < b.time → precedes words a b ≡ true
  precedes_later a b less = lexically-less a.time b.time (a.priority ∷ a.sender ∷ a.serial ∷ a.receiver ∷ a.kind ∷ words a.payload) (b.priority ∷ b.sender ∷ b.serial ∷ b.receiver ∷ b.kind ∷ words b.payload) less

  pub hit_self : (e : Event P) → hit words e e ≡ 1
  hit_self e = ap (λ b. cond b 1 0) (same_numbers-refl (key words e))

  pub copies-append : (e : Event P) (xs ys : List (Event P)) → copies words e (xs ++ ys) ≡ copies words e xs + copies words e ys
  copies-append e [] ys = omega arith
  copies-append e (x ∷ xs) ys = let rest = copies-append e xs ys in omega (arith, rest)

  -- behind a list in order that an event is before
  pub before_trans : (e x : Event P) (xs : List (Event P)) → precedes words e x ≡ true → IsBefore words x xs → IsBefore words e xs
  before_trans e x xs first h = Each-weaker (λ y. precedes words x y ≡ true) (λ y. precedes words e y ≡ true) (λ y next. precedes_trans e x y first next) xs h

  pub in_order_front : (xs ys : List (Event P)) → IsInOrder words (xs ++ ys) → IsInOrder words xs
  in_order_front [] ys h = tt
  in_order_front (x ∷ xs) ys h = (Each-front (λ y. precedes words x y ≡ true) xs ys h.0, in_order_front xs ys h.1)

  pub in_order_back : (xs ys : List (Event P)) → IsInOrder words (xs ++ ys) → IsInOrder words ys
  in_order_back [] ys h = h
  in_order_back (x ∷ xs) ys h = in_order_back xs ys h.1

  pub in_order_drop : (n : ℕ) (xs : List (Event P)) → IsInOrder words xs → IsInOrder words (drop n xs)
  in_order_drop zero xs h = h
  in_order_drop (suc n) [] h = tt
  in_order_drop (suc n) (x ∷ xs) h = in_order_drop n xs h.1

  pub in_order_filter : (test : Event P → Bool) (xs : List (Event P)) → IsInOrder words xs → IsInOrder words (filter test xs)
  in_order_filter test [] h = tt
  in_order_filter test (x ∷ xs) h =
      elim (cases_Bool (test x)) as (λ _. IsInOrder words (filter test (x ∷ xs))) [
        | inl holds ↦ rw (filter_yes test x xs holds) (Each-filter test (λ y. precedes words x y ≡ true) xs h.0, in_order_filter test xs h.1)
        | inr fails ↦ rw (filter_no test x xs fails) (in_order_filter test xs h.1)
      ]

  module _ (tells : TellsApart words) where
    pub key_tells : (a b : Event P) → key words a ≡ key words b → a ≡ b
    key_tells a b h =
        let same : words a.payload ≡ words b.payload = cc in
        ap (λ xs. event_with xs a.payload) h ∙ ap (event_with (key words b)) (tells a.payload b.payload same)

    pub precedes_one : (a b : Event P) → precedes words a b ≡ true → precedes words b a ≡ true → a ≡ b
    precedes_one a b h g = key_tells a b (lexically-one (key words a) (key words b) h g)

    pub hit_cases : (e x : Event P) → (e ≡ x) ⊎ (hit words e x ≡ 0)
    hit_cases e x =
        elim (cases_Bool (same_numbers (key words e) (key words x))) as (λ _. (e ≡ x) ⊎ (hit words e x ≡ 0)) [
          | inl holds ↦ inl (key_tells e x (same_numbers-true (key words e) (key words x) holds))
          | inr fails ↦ inr (ap (λ b. cond b 1 0) fails)
        ]

    -- a fact of each element is a fact of an event of which there is a copy, so an event that misses it has none
    pub Each-copy : (Q : Event P → Type 0) (e : Event P) (xs : List (Event P)) → Each Q xs → 0 < copies words e xs → Q e
    Each-copy Q e [] h there = absurd (omega (arith, there))
    Each-copy Q e (x ∷ xs) h there =
        elim (hit_cases e x) [
          | inl is ↦ subst Q (sym is) h.0
          | inr none ↦ Each-copy Q e xs h.1 (omega (arith, there, none))
        ]

    pub none_of : (Q : Event P → Type 0) (e : Event P) (xs : List (Event P)) → Each Q xs → (Q e → ⊥) → copies words e xs ≡ 0
    none_of Q e xs h against =
        elim (cases_lt 0 (copies words e xs)) as (λ _. copies words e xs ≡ 0) [
          | inl some ↦ absurd (against (Each-copy Q e xs h some))
          | inr none ↦ omega (arith, none)
        ]

    -- the copies that pass a test
    pub copies_kept : (test : Event P → Bool) (e : Event P) (xs : List (Event P)) → test e ≡ true → copies words e (filter test xs) ≡ copies words e xs
    copies_kept test e [] passes = refl
    copies_kept test e (x ∷ xs) passes =
        let rest = copies_kept test e xs passes in
        elim (cases_Bool (test x)) as (λ _. copies words e (filter test (x ∷ xs)) ≡ copies words e (x ∷ xs)) [
          | inl holds ↦ (let is = ap (copies words e) (filter_yes test x xs holds) in omega (arith, rest, is))
          | inr fails ↦ (let is = ap (copies words e) (filter_no test x xs fails) in elim (hit_cases e x) as (λ _. copies words e (filter test (x ∷ xs)) ≡ copies words e (x ∷ xs)) [
            | inl same ↦ (let there = ap test same in cc)
            | inr none ↦ omega (arith, rest, is, none)
          ])
        ]

    pub copies_left_out : (test : Event P → Bool) (e : Event P) (xs : List (Event P)) → test e ≡ false → copies words e (filter test xs) ≡ 0
    copies_left_out test e [] fails = refl
    copies_left_out test e (x ∷ xs) fails =
        let rest = copies_left_out test e xs fails in
        elim (cases_Bool (test x)) as (λ _. copies words e (filter test (x ∷ xs)) ≡ 0) [
          | inl holds ↦ (let is = ap (copies words e) (filter_yes test x xs holds) in elim (hit_cases e x) as (λ _. copies words e (filter test (x ∷ xs)) ≡ 0) [
            | inl same ↦ (let there = ap test same in cc)
            | inr none ↦ omega (arith, rest, is, none)
          ])
          | inr fails ↦ (let is = ap (copies words e) (filter_no test x xs fails) in omega (arith, rest, is))
        ]

    -- the first event of a list in order is before each of which the list has a copy
    first_copy : (x e : Event P) (xs : List (Event P)) → IsInOrder words (x ∷ xs) → 0 < copies words e (x ∷ xs) → precedes words x e ≡ true
    first_copy x e xs order there = Each-copy (λ y. precedes words x y ≡ true) e (x ∷ xs) (precedes_self x, order.0) there

    pub one_order : (xs ys : List (Event P)) → IsInOrder words xs → IsInOrder words ys → ((e : Event P) → copies words e xs ≡ copies words e ys) → xs ≡ ys
    one_order [] [] h g same = refl
    one_order [] (y ∷ ys) h g same = let one = hit_self y in let no = same y in absurd (omega (arith, one, no))
    one_order (x ∷ xs) [] h g same = let one = hit_self x in let no = same x in absurd (omega (arith, one, no))
    one_order (x ∷ xs) (y ∷ ys) h g same =
        let x_one = hit_self x in
        let y_one = hit_self y in
        let x_same = same x in
        let y_same = same y in
        let is = precedes_one x y (first_copy x y xs h (omega (arith, y_one, y_same))) (first_copy y x ys g (omega (arith, x_one, x_same))) in
        let rest = one_order xs ys h.1 g.1 (λ e. let all = same e in let first = ap (hit words e) is in omega (arith, all, first)) in
        cc
