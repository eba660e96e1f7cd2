-- What may still have to be kept before the next log.
use Rattle.std.proofs.Common.{◌≡◌, ℕ, zero, suc, ◌+◌, ◌*◌, ◌/◌, ◌%◌, ◌<◌, ◌≤◌, inl, inr, Bool, true, false, List, [], refl, sym, ap, subst, ◌∙◌, arith, true≢false, if◌then◌else◌}
use Rattle.std.proofs.lemmas.Bool.{cases_eq}
use Rattle.dym_base.specs.Numbers.{per, number, exponent_of, index_of}
use Rattle.dym_undo.specs.Changes.{Change, is_noted}
use Rattle.dym_undo.specs.Keys.{IsKey}
use Rattle.dym_undo.specs.Rooms.{pending_of, pending_in, pending, one, all_handles}
use Rattle.dym_undo.proofs.Stamping.{number_of}

-- the changes of one list are all among those of another
abbrev pub NotesMore : List Change → List Change → Type 0
NotesMore cs ds = (k : ℕ) → is_noted k cs ≡ true → is_noted k ds ≡ true

weight_falls : (b c : Bool) (n : ℕ) → (b ≡ true → c ≡ true) → (if c then 0 else n) ≤ (if b then 0 else n)
weight_falls true true n h = omega arith
weight_falls true false n h = absurd (true≢false (sym (h refl)))
weight_falls false true n h = omega arith
weight_falls false false n h = omega arith

of_falls : (w : ℕ → ℕ) (cs ds : List Change) (e n : ℕ) → NotesMore cs ds → pending_of w ds e n ≤ pending_of w cs e n
unfolding pending_of
of_falls w cs ds e zero more = omega arith
of_falls w cs ds e (suc i) more =
    omega (arith, of_falls w cs ds e i more, weight_falls (is_noted (number e i) cs) (is_noted (number e i) ds) (w (number e i)) (more (number e i)))

of_notes : (w : ℕ → ℕ) (cs ds : List Change) (e n i : ℕ) → NotesMore cs ds → i < n → is_noted (number e i) cs ≡ false → is_noted (number e i) ds ≡ true → pending_of w ds e n + w (number e i) ≤ pending_of w cs e n
unfolding pending_of
of_notes w cs ds e zero i more lt new noted = absurd (omega arith)
of_notes w cs ds e (suc m) i more lt new noted =
    elim (cases_eq i m) as (λ _. pending_of w ds e (suc m) + w (number e i) ≤ pending_of w cs e (suc m)) [
      | inl same ↦
          let was : (if is_noted (number e m) cs then 0 else w (number e m)) ≡ w (number e m) = ap (λ b. if b then 0 else w (number e m)) (ap (λ j. is_noted (number e j) cs) (sym same) ∙ new) in
          let is : (if is_noted (number e m) ds then 0 else w (number e m)) ≡ 0 = ap (λ b. if b then 0 else w (number e m)) (ap (λ j. is_noted (number e j) ds) (sym same) ∙ noted) in
          let here : w (number e i) ≡ w (number e m) = ap (λ j. w (number e j)) same in
          omega (arith, was, is, here, of_falls w cs ds e m more)
      | inr apart ↦
          let below : i < m = omega (arith, lt, apart) in
          omega (arith, of_notes w cs ds e m i more below new noted, weight_falls (is_noted (number e m) cs) (is_noted (number e m) ds) (w (number e m)) (more (number e m)))
    ]

in_falls : (w : ℕ → ℕ) (cs ds : List Change) (quota n : ℕ) → NotesMore cs ds → pending_in w ds quota n ≤ pending_in w cs quota n
unfolding pending_in
in_falls w cs ds quota zero more = omega arith
in_falls w cs ds quota (suc n) more = omega (arith, in_falls w cs ds quota n more, of_falls w cs ds (n + 5) (quota * per (n + 5)) more)

in_notes : (w : ℕ → ℕ) (cs ds : List Change) (quota n e i : ℕ) → NotesMore cs ds → 5 ≤ e → e < n + 5 → i < quota * per e → is_noted (number e i) cs ≡ false → is_noted (number e i) ds ≡ true
    → pending_in w ds quota n + w (number e i) ≤ pending_in w cs quota n
unfolding pending_in
in_notes w cs ds quota zero e i more low high lt new noted = absurd (omega arith)
in_notes w cs ds quota (suc n) e i more low high lt new noted =
    elim (cases_eq e (n + 5)) as (λ _. pending_in w ds quota (suc n) + w (number e i) ≤ pending_in w cs quota (suc n)) [
      | inl same ↦
          let here : pending_of w ds (n + 5) (quota * per (n + 5)) + w (number (n + 5) i) ≤ pending_of w cs (n + 5) (quota * per (n + 5))
          = of_notes w cs ds (n + 5) (quota * per (n + 5)) i more (subst (λ x. i < quota * per x) same lt) (subst (λ x. is_noted (number x i) cs ≡ false) same new) (subst (λ x. is_noted (number x i) ds ≡ true) same noted) in
          omega (arith, here, in_falls w cs ds quota n more, ap (λ x. w (number x i)) same)
      | inr apart ↦ omega (arith, in_notes w cs ds quota n e i more low (omega (arith, high, apart)) lt new noted, of_falls w cs ds (n + 5) (quota * per (n + 5)) more)
    ]

pub index_below : (quota n i : ℕ) → 0 < n → i / n < quota → i < quota * n
index_below quota n i some area =
    let low : i % n < n = Rattle.std.proofs.lemmas.Nat.mod_below i n some in
    let whole : i / n * n + i % n ≡ i = Rattle.std.proofs.lemmas.Nat.div-add-mod' i n in
    let up : suc (i / n) * n ≤ quota * n = Rattle.std.proofs.Math.Nat.mul-le-mul_right n (let h : suc (i / n) ≤ quota = omega arith in h) in
    let split : suc (i / n) * n ≡ i / n * n + n = Rattle.std.proofs.Math.Nat.suc-mul (i / n) n in
    omega (arith, low, whole, up, split)

-- a change more takes its chunk's weight
pub pending-notes : (w : ℕ → ℕ) (cs ds : List Change) (quota k : ℕ) → NotesMore cs ds → IsKey quota k → is_noted k cs ≡ false → is_noted k ds ≡ true → pending w ds quota + w k ≤ pending w cs quota
unfolding pending
pending-notes w cs ds quota k more is new noted =
    let e : ℕ = exponent_of k in
    let i : ℕ = index_of k in
    let lt : i < quota * per e = index_below quota (per e) i (Rattle.dym_undo.proofs.Stamping.per_some e) is.area in
    let all : pending_in w ds quota 12 + w (number e i) ≤ pending_in w cs quota 12
    = in_notes w cs ds quota 12 e i more is.least (omega (arith, is.greatest)) lt (ap (λ j. is_noted j cs) (number_of k) ∙ new) (ap (λ j. is_noted j ds) (number_of k) ∙ noted) in
    omega (arith, all, ap w (number_of k))

of_all : (n e : ℕ) → pending_of one [] e n ≡ n
unfolding pending_of
of_all zero e = refl
of_all (suc n) e = omega (arith, of_all n e)

-- each handle that can be live has the weight one
pub pending-all : (quota : ℕ) → pending one [] quota ≤ all_handles quota
unfolding pending pending_in
pending-all quota =
    omega (arith, of_all (quota * 2048) 5, of_all (quota * 1024) 6, of_all (quota * 512) 7, of_all (quota * 256) 8, of_all (quota * 128) 9, of_all (quota * 64) 10, of_all (quota * 32) 11, of_all (quota * 16) 12, of_all (quota * 8) 13, of_all (quota * 4) 14, of_all (quota * 2) 15, of_all (quota * 1) 16)
