-- The bytes of all live chunks are at most those of the segments that the heap needs.
use Rattle.std.proofs.Common.{◌≡◌, ℕ, zero, suc, ◌+◌, ◌*◌, ◌/◌, ◌^◌, ◌<◌, ◌≤◌, inl, inr, [], List, length, Option, None, Some, refl, ap, subst, ◌∙◌, arith}
use Rattle.std.proofs.lemmas.Bool.{cases_lt}
use Rattle.std.proofs.Math.Nat.{mul_assoc, mul-le-mul_right, suc-mul}
use Rattle.std.specs.FinMap.{get}
use Rattle.dym_base.specs.Heaps.{Live, areas, held}
use Rattle.dym_base.specs.Laws.{FitsClass, IsWellSized}
use Rattle.dym_base.specs.Numbers.{per, number, exponent_of, index_of}
use Rattle.dym_base.specs.declared.command.Version.{Version}
use Rattle.dym_base.specs.declared.command.Version.TheVariants.{One, Two}
use Rattle.dym_base.proofs.Classes.{cls_class}
use Rattle.dym_base.proofs.Heaps.{areas_below}
use Rattle.dym_undo.specs.Changes.{bytes_of}
use Rattle.dym_undo.specs.Rooms.{pending_of, pending_in, pending, length_at, all_bytes}
use Rattle.dym_undo.proofs.Lists.{none_of, false_of}
use Rattle.dym_undo.proofs.Pendings.{index_below}
use Rattle.dym_undo.proofs.Stamping.{per_some}

-- n weights, each at most this
of_few : (w : ℕ → ℕ) (e n most : ℕ) → ((i : ℕ) → i < n → w (number e i) ≤ most) → pending_of w [] e n ≤ n * most
unfolding pending_of
of_few w e zero most small = omega arith
of_few w e (suc i) most small =
    let here : w (number e i) ≤ most = small i (omega arith) in
    omega (arith, here, of_few w e i most (λ j lt. small j (omega (arith, lt))), suc-mul i most)

-- from m on there is none
of_most : (w : ℕ → ℕ) (e n m most : ℕ) → ((i : ℕ) → i < n → w (number e i) ≤ most) → ((i : ℕ) → m ≤ i → i < n → w (number e i) ≡ 0) → pending_of w [] e n ≤ m * most
unfolding pending_of
of_most w e zero m most small none = omega arith
of_most w e (suc i) m most small none =
    elim (cases_lt i m) as (λ _. pending_of w [] e (suc i) ≤ m * most) [
      | inl below ↦ (
          let up : suc i * most ≤ m * most = mul-le-mul_right most (let h : suc i ≤ m = omega (arith, below) in h) in
          omega (arith, up, of_few w e (suc i) most small))
      | inr past ↦ (
          let here : w (number e i) ≡ 0 = none i (omega (arith, past)) (omega arith) in
          omega (arith, here, of_most w e i m most (λ j lt. small j (omega (arith, lt))) (λ j low lt. none j low (omega (arith, lt)))))
    ]

fits_size : (v : Version) (k : ℕ) (bytes : List ℕ) → FitsClass v k bytes → length bytes ≤ 2 ^ exponent_of k
fits_size One k bytes fit = omega (arith, fit.2)
fits_size Two k bytes fit = (cls_class (length bytes) (exponent_of k) fit.2).2

number_class : (e i : ℕ) → i < 2 ^ 32 → exponent_of (number e i) ≡ e
number_class e i lt = omega (arith, lt)

number_index : (e i : ℕ) → i < 2 ^ 32 → index_of (number e i) ≡ i
number_index e i lt = omega (arith, lt)

module _ (v : Version) (live : Live) (sized : IsWellSized v live) where
  chunk_small : (e i : ℕ) → i < 2 ^ 32 → length_at live (number e i) ≤ 2 ^ e
  chunk_small e i lt = by (get live (number e i)) refl
    where
      by : (o : Option (List ℕ)) → get live (number e i) ≡ o → bytes_of o ≤ 2 ^ e
      by None is = omega arith
      by (Some bytes) is = subst (λ x. length bytes ≤ 2 ^ x) (number_class e i lt) (fits_size v (number e i) bytes (sized (number e i) bytes is))

  chunk_none : (e i : ℕ) → i < 2 ^ 32 → areas live e * per e ≤ i → length_at live (number e i) ≡ 0
  chunk_none e i lt past = ap bytes_of (none_of (get live (number e i)) (false_of _ (λ has.
      (let area : index_of (number e i) / per e < areas live e = (areas_below live e (areas live e)).0 (omega arith) (number e i) has (number_class e i lt) in
      let below = index_below (areas live e) (per e) i (per_some e) (subst (λ j. j / per e < areas live e) (number_index e i lt) area) in
      omega (arith, below, past)))))

  class_bytes : (e n : ℕ) → n ≤ 2 ^ 32 → per e * 2 ^ e ≡ 65536 → pending_of (length_at live) [] e n ≤ areas live e * 65536
  class_bytes e n few is =
      let low = of_most (length_at live) e n (areas live e * per e) (2 ^ e) (λ i lt. chunk_small e i (omega (arith, lt, few))) (λ i past lt. chunk_none e i (omega (arith, lt, few)) past) in
      omega (arith, low, mul_assoc (areas live e) (per e) (2 ^ e) ∙ ap (λ x. areas live e * x) is)

held_sum : (live : Live) → held live
    ≡ areas live 5 + (areas live 6 + (areas live 7 + (areas live 8 + (areas live 9 + (areas live 10 + (areas live 11 + (areas live 12 + (areas live 13 + (areas live 14 + (areas live 15 + areas live 16))))))))))
unfolding held
held_sum live = omega arith

pub all_bytes-held : (v : Version) (quota : ℕ) (live : Live) → quota ≤ 1024 → IsWellSized v live → all_bytes live quota ≤ 65536 * held live
unfolding pending pending_in
all_bytes-held v quota live most sized =
    omega (
      arith,
      held_sum live,
      class_bytes v live sized 5 (quota * 2048) (omega (arith, most)) refl,
      class_bytes v live sized 6 (quota * 1024) (omega (arith, most)) refl,
      class_bytes v live sized 7 (quota * 512) (omega (arith, most)) refl,
      class_bytes v live sized 8 (quota * 256) (omega (arith, most)) refl,
      class_bytes v live sized 9 (quota * 128) (omega (arith, most)) refl,
      class_bytes v live sized 10 (quota * 64) (omega (arith, most)) refl,
      class_bytes v live sized 11 (quota * 32) (omega (arith, most)) refl,
      class_bytes v live sized 12 (quota * 16) (omega (arith, most)) refl,
      class_bytes v live sized 13 (quota * 8) (omega (arith, most)) refl,
      class_bytes v live sized 14 (quota * 4) (omega (arith, most)) refl,
      class_bytes v live sized 15 (quota * 2) (omega (arith, most)) refl,
      class_bytes v live sized 16 (quota * 1) (omega (arith, most)) refl,
    )
