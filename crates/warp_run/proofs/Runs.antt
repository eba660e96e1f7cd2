-- The run in order: what it has run grows, a run to an earlier end is its beginning, and its events are those of its processes together.
use Rattle.std.proofs.Common.{◌≡◌, ℕ, zero, suc, ◌+◌, ◌<◌, ◌≤◌, ◌⊎◌, inl, inr, cond, nat_le, ◌==◌, List, [], ◌∷◌, ◌++◌, length, take, refl, ap, sym, ◌∙◌, arith, append_assoc, length-append}
use Rattle.std.proofs.lemmas.List.{append-nil}
use Rattle.std.proofs.Math.Seq.{take-append_seam}
use Rattle.std.proofs.lemmas.Bool.{cases_Bool, cases_eq, cases_lt, eq-eqb, ne_eqb, le-leb, leb-true}
use Rattle.warp_base.specs.declared.event.Event.{Event}
use Rattle.warp_base.specs.Events.{Each, copies}
use Rattle.warp_base.specs.Histories.{Behaviour, SendsWithin, all_sent}
use Rattle.warp_base.specs.Sequential.{Run, after_event, step_with, sequential, those_for}
use Rattle.warp_base.specs.Laws.{FollowsHistories, NothingBeyond}
use Rattle.warp_base.proofs.Lists.{filter_yes, filter_no, filter-++}
use Rattle.warp_base.proofs.Orders.{TellsApart, hit_self, Each-copy}

module _ {P S : Type 0} (words : P → List ℕ) (b : Behaviour P S) where
  -- what was run before
  pub record Grows (old new : List (Event P)) : Type 0 where
    pub more : List (Event P)
    pub whole : new ≡ old ++ more

  step_grows : (end : ℕ) (r : Run P S) (queue : List (Event P)) → Grows r.ran (step_with words b end r queue).ran
  step_grows end r [] = record { more = []; whole = sym (append-nil r.ran) }
  step_grows end r (e ∷ queue) =
      elim (cases_Bool (nat_le e.time end)) as (λ _. Grows r.ran (step_with words b end r (e ∷ queue)).ran) [
        | inl holds ↦ record { more = e ∷ []; whole = ap (λ t. (cond t (after_event words b r e queue) r).ran) holds }
        | inr fails ↦ record { more = []; whole = ap (λ t. (cond t (after_event words b r e queue) r).ran) fails ∙ sym (append-nil r.ran) }
      ]

  pub ran_grows : (n end steps more : ℕ) → Grows (sequential words b n end steps).ran (sequential words b n end (more + steps)).ran
  ran_grows n end steps zero = record { more = []; whole = ap (λ k. (sequential words b n end k).ran) (let e : 0 + steps ≡ steps = omega arith in e) ∙ sym (append-nil (sequential words b n end steps).ran) }
  ran_grows n end steps (suc more) =
      let before = ran_grows n end steps more in
      let r = sequential words b n end (more + steps) in
      let step = step_grows end r r.queue in
      record {
        more = before.more ++ step.more;
        whole = ap (λ k. (sequential words b n end k).ran) (let e : suc more + steps ≡ suc (more + steps) = omega arith in e) ∙ step.whole ∙ ap (λ l. l ++ step.more) before.whole ∙ append_assoc (sequential words b n end steps).ran before.more step.more;
      }

  pub those_grow : (p : ℕ) (old new : List (Event P)) → Grows old new → take (length (those_for p old)) (those_for p new) ≡ those_for p old
  those_grow p old new grows =
      let split = ap (those_for p) grows.whole ∙ filter-++ (λ (e : Event P). e.receiver == p) old grows.more in
      ap (take (length (those_for p old))) split ∙ take-append_seam (those_for p old) (those_for p grows.more)

  pub those_fewer : (p : ℕ) (old new : List (Event P)) → Grows old new → length (those_for p old) ≤ length (those_for p new)
  those_fewer p old new grows =
      let split = ap length (ap (those_for p) grows.whole ∙ filter-++ (λ (e : Event P). e.receiver == p) old grows.more) ∙ length-append (those_for p old) (those_for p grows.more) in
      omega (arith, split)

  -- a step to an earlier end is a step, or nothing
  steps_alike : (last end : ℕ) (r : Run P S) (queue : List (Event P)) → last ≤ end → (step_with words b end r queue ≡ step_with words b last r queue) ⊎ (step_with words b last r queue ≡ r)
  steps_alike last end r [] few = inl refl
  steps_alike last end r (e ∷ queue) few =
      elim (cases_Bool (nat_le e.time last)) as (λ _. (step_with words b end r (e ∷ queue) ≡ step_with words b last r (e ∷ queue)) ⊎ (step_with words b last r (e ∷ queue) ≡ r)) [
        | inl holds ↦ (
            let soon = leb-true e.time last holds in
            let also = le-leb e.time end (omega (arith, soon, few)) in
            inl (ap (λ t. cond t (after_event words b r e queue) r) also ∙ sym (ap (λ t. cond t (after_event words b r e queue) r) holds)))
        | inr fails ↦ inr (ap (λ t. cond t (after_event words b r e queue) r) fails)
      ]

  pub reached_later : (n last end steps : ℕ) → last ≤ end → (later : ℕ) × (sequential words b n end later ≡ sequential words b n last steps)
  reached_later n last end zero few = (0, refl)
  reached_later n last end (suc steps) few =
      let before = reached_later n last end steps few in
      let r = sequential words b n last steps in
      let here : sequential words b n end (suc before.0) ≡ step_with words b end r r.queue = ap (λ (t : Run P S). step_with words b end t t.queue) before.1 in
      elim (steps_alike last end r r.queue few) as (λ _. (later : ℕ) × (sequential words b n end later ≡ step_with words b last r r.queue)) [
        | inl same ↦ (suc before.0, here ∙ same)
        | inr stays ↦ (before.0, before.1 ∙ sym stays)
      ]

pub those_all : {P : Type 0} (p : ℕ) (xs : List (Event P)) → length (those_for p xs) ≤ length xs
those_all p [] = omega arith
those_all {P} p (x ∷ xs) =
    let rest = those_all p xs in
    elim (cases_Bool (x.receiver == p)) as (λ _. length (those_for p (x ∷ xs)) ≤ suc (length xs)) [
      | inl holds ↦ (let one = ap length (filter_yes (λ (e : Event P). e.receiver == p) x xs holds) in omega (arith, rest, one))
      | inr fails ↦ (let one = ap length (filter_no (λ (e : Event P). e.receiver == p) x xs fails) in omega (arith, rest, one))
    ]

-- how many of these events are for processes first, first + 1, .. (k of them)
abbrev pub sum_those : {P : Type 0} → ℕ → ℕ → List (Event P) → ℕ
sum_those first zero xs = 0
sum_those first (suc k) xs = length (those_for first xs) + sum_those (suc first) k xs

module _ {P : Type 0} where
  sum_none : (first k : ℕ) (xs : List (Event P)) → xs ≡ [] → sum_those first k xs ≡ 0
  sum_none first zero xs none = refl
  sum_none first (suc k) xs none = let rest = sum_none (suc first) k xs none in let one = ap (λ l. length (those_for first l)) none in omega (arith, rest, one)

  sum_below : (first k : ℕ) (x : Event P) (xs : List (Event P)) → x.receiver < first → sum_those first k (x ∷ xs) ≡ sum_those first k xs
  sum_below first zero x xs less = refl
  sum_below first (suc k) x xs less =
      let one = ap length (filter_no (λ (e : Event P). e.receiver == first) x xs (ne_eqb x.receiver first (λ is. omega (arith, is, less)))) in
      let rest = sum_below (suc first) k x xs (omega (arith, less)) in
      omega (arith, one, rest)

  sum_cons : (first k : ℕ) (x : Event P) (xs : List (Event P)) → first ≤ x.receiver → x.receiver < first + k → sum_those first k (x ∷ xs) ≡ suc (sum_those first k xs)
  sum_cons first zero x xs low high = absurd (omega (arith, low, high))
  sum_cons first (suc k) x xs low high =
      elim (cases_eq x.receiver first) as (λ _. sum_those first (suc k) (x ∷ xs) ≡ suc (sum_those first (suc k) xs)) [
        | inl is ↦ (
            let one = ap length (filter_yes (λ (e : Event P). e.receiver == first) x xs (eq-eqb x.receiver first is)) in
            let rest = sum_below (suc first) k x xs (omega (arith, is)) in
            omega (arith, one, rest))
        | inr other ↦ (
            let one = ap length (filter_no (λ (e : Event P). e.receiver == first) x xs (ne_eqb x.receiver first other)) in
            let rest = sum_cons (suc first) k x xs (strictly x.receiver first low other) (omega (arith, high)) in
            omega (arith, one, rest))
      ]
    where
      strictly : (m k : ℕ) → k ≤ m → (m ≡ k → ⊥) → suc k ≤ m
      strictly m k few other = elim (cases_lt k m) as (λ _. suc k ≤ m) [
        | inl less ↦ omega (arith, less)
        | inr more ↦ absurd (other (omega (arith, few, more)))
      ]

  pub sum_all : (n : ℕ) (xs : List (Event P)) → Each (λ (x : Event P). x.receiver < n) xs → sum_those 0 n xs ≡ length xs
  sum_all n [] h = sum_none 0 n [] refl
  sum_all n (x ∷ xs) h =
      let less = h.0 in
      let one = sum_cons 0 n x xs (omega arith) (omega (arith, less)) in
      let rest = sum_all n xs h.1 in
      omega (arith, one, rest)

module _ {P : Type 0} (words : P → List ℕ) where
  weaker_counts : (Q : Event P → Type 0) (xs : List (Event P)) → ((x : Event P) → 0 < copies words x xs → Q x) → Each Q xs
  weaker_counts Q [] h = tt
  weaker_counts Q (x ∷ xs) h =
      (h x (let one = hit_self words x in omega (arith, one)), weaker_counts Q xs (λ y some. h y (omega (arith, some))))

  -- all that was run is for one of the processes
  pub ran_within : {S : Type 0} → TellsApart words → NothingBeyond words S → (b : Behaviour P S) (n : ℕ) (r : Run P S) → SendsWithin n b → FollowsHistories words S b r → Each (λ (x : Event P). x.receiver < n) r.ran
  ran_within tells none b n r sends follows =
      weaker_counts (λ (x : Event P). x.receiver < n) r.ran (λ x some.
      let all = follows.sent x in
      Each-copy words tells (λ (y : Event P). y.receiver < n) x (all_sent b x.sender (those_for x.sender r.ran)) (none b n x.sender (those_for x.sender r.ran) sends) (omega (arith, all, some)))
