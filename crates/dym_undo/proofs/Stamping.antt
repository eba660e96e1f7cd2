-- Each handle has a bit of its own.
use Rattle.std.proofs.Common.{◌≡◌, ℕ, suc, ◌+◌, ◌-◌, ◌*◌, ◌/◌, ◌%◌, ◌^◌, ◌<◌, ◌≤◌, not, ◌&&◌, ◌||◌, ◌==◌, List, length, set, get_or, sym, ap, ap₂, ◌∙◌, arith, inl, inr, bit_or, bit_and, w64}
use Rattle.std.specs.Int.{bit_at, bit_not}
use Rattle.std.proofs.lemmas.List.{get_or-set_same, get_or-set_other, length-set}
use Rattle.std.proofs.lemmas.Nat.{pow_pos, div-add-mod', mod_below}
use Rattle.std.proofs.lemmas.Nat.Bits.{bit_at_set_same, bit_at_set_other, bit_at_clear_same, bit_at_clear_other}
use Rattle.std.proofs.lemmas.Bool.{cases_eq, cases_lt, eq-eqb, ne_eqb}
use Rattle.std.proofs.Math.Pow.{pow_mono}
use Rattle.std.proofs.Math.Nat.{pow-suc}
use Rattle.dym_base.specs.Numbers.{per, exponent_of, index_of}
use Rattle.dym_undo.specs.Keys.{IsKey, bit_of_class, stamp_bit, is_stamped, with_stamp, without_stamp}

-- the bit of an index stands in its area's part
split : (n i : ℕ) → 0 < n → n ≤ 2048 → (bit_of_class n i / 4096 ≡ i / n) × (bit_of_class n i % 4096 ≡ n + i % n)
split n i some small =
    let low : i % n < n = mod_below i n some in
    (omega (arith, low), omega (arith, low))

pub bit_below : (n i quota : ℕ) → 0 < n → n ≤ 2048 → i / n < quota → bit_of_class n i < quota * 4096
bit_below n i quota some small area =
    let low : i % n < n = mod_below i n some in
    omega (arith, low)

-- classes whose chunks an area are so many lie apart
apart : (m n i j : ℕ) → 0 < m → 0 < n → m ≤ 2048 → n ≤ 2048 → 2 * m ≤ n → bit_of_class m i ≡ bit_of_class n j → ⊥
apart m n i j some others small less double same =
    let low : i % m < m = mod_below i m some in
    let a = (split m i some small).1 in
    let b = (split n j others less).1 in
    let e = ap (λ k. k % 4096) same in
    omega (arith, low, a, b, e, mod_below j n others)

same_index : (n i j : ℕ) → 0 < n → n ≤ 2048 → bit_of_class n i ≡ bit_of_class n j → i ≡ j
same_index n i j some small same =
    let a = split n i some small in
    let b = split n j some small in
    let q : i / n ≡ j / n = sym a.0 ∙ ap (λ k. k / 4096) same ∙ b.0 in
    let r : i % n ≡ j % n = omega (arith, a.1, b.1, ap (λ k. k % 4096) same) in
    sym (div-add-mod' i n) ∙ ap₂ (λ x y. x * n + y) q r ∙ div-add-mod' j n

pub per_small : (e : ℕ) → 5 ≤ e → per e ≤ 2048
per_small e low = pow_mono {i = 16 - e} {j = 11} (omega arith)

pub per_some : (e : ℕ) → 0 < per e
per_some e = pow_pos (16 - e)

per_double : (d e : ℕ) → d < e → e ≤ 16 → 2 * per e ≤ per d
per_double d e less high =
    let up : 2 ^ suc (16 - e) ≤ 2 ^ (16 - d) = pow_mono {i = suc (16 - e)} {j = 16 - d} (omega arith) in
    omega (arith, up, pow-suc 2 (16 - e))

pub number_of : (k : ℕ) → exponent_of k * 2 ^ 32 + index_of k ≡ k
number_of k = omega arith

-- two handles have two bits
pub same_key : (quota q j k : ℕ) → IsKey quota j → IsKey q k → stamp_bit j ≡ stamp_bit k → j ≡ k
unfolding stamp_bit
same_key quota q j k a b same =
    elim (cases_lt (exponent_of j) (exponent_of k)) as (λ _. j ≡ k) [
      | inl less ↦ absurd (apart (per (exponent_of k)) (per (exponent_of j)) (index_of k) (index_of j) (per_some (exponent_of k)) (per_some (exponent_of j)) (per_small (exponent_of k) b.least) (per_small (exponent_of j) a.least) (per_double (exponent_of j) (exponent_of k) less b.greatest) (sym same))
      | inr there ↦ (elim (cases_lt (exponent_of k) (exponent_of j)) as (λ _. j ≡ k) [
        | inl more ↦ absurd (apart (per (exponent_of j)) (per (exponent_of k)) (index_of j) (index_of k) (per_some (exponent_of j)) (per_some (exponent_of k)) (per_small (exponent_of j) a.least) (per_small (exponent_of k) b.least) (per_double (exponent_of k) (exponent_of j) more a.greatest) same)
        | inr back ↦
            let e : exponent_of j ≡ exponent_of k = omega (arith, there, back) in
            let i : index_of j ≡ index_of k = same_index (per (exponent_of k)) (index_of j) (index_of k) (per_some (exponent_of k)) (per_small (exponent_of k) b.least) (ap (λ x. bit_of_class (per x) (index_of j)) (sym e) ∙ same) in
            sym (number_of j) ∙ ap₂ (λ x y. x * 2 ^ 32 + y) e i ∙ number_of k
      ])
    ]

pub stamp_below : (quota k : ℕ) → IsKey quota k → stamp_bit k < quota * 4096
unfolding stamp_bit
stamp_below quota k a = bit_below (per (exponent_of k)) (index_of k) quota (per_some (exponent_of k)) (per_small (exponent_of k) a.least) a.area

pub word_below : (quota n k : ℕ) → IsKey quota k → quota * 64 ≤ n → stamp_bit k / 64 < n
word_below quota n k a le = omega (arith, stamp_below quota k a)

-- a bit in words, after one was set or cleared
set_bit : (words : List ℕ) (s t : ℕ) → s / 64 < length words
    → (bit_at (get_or (set words (s / 64) (bit_or (get_or words (s / 64) 0) (1 * 2 ^ (s % 64) % 2 ^ 64))) (t / 64) 0) (t % 64) == 1) ≡ ((t == s) || (bit_at (get_or words (t / 64) 0) (t % 64) == 1))
set_bit words s t within =
    elim (cases_eq (t / 64) (s / 64)) as (λ _. (bit_at (get_or (set words (s / 64) (bit_or (get_or words (s / 64) 0) (1 * 2 ^ (s % 64) % 2 ^ 64))) (t / 64) 0) (t % 64) == 1) ≡ ((t == s) || (bit_at (get_or words (t / 64) 0) (t % 64) == 1))) [
      | inl q ↦ (elim (cases_eq (t % 64) (s % 64)) as (λ _. (bit_at (get_or (set words (s / 64) (bit_or (get_or words (s / 64) 0) (1 * 2 ^ (s % 64) % 2 ^ 64))) (t / 64) 0) (t % 64) == 1) ≡ ((t == s) || (bit_at (get_or words (t / 64) 0) (t % 64) == 1))) [
        | inl r ↦
            let same : t ≡ s = omega (arith, q, r) in
            let here : get_or (set words (s / 64) (bit_or (get_or words (s / 64) 0) (1 * 2 ^ (s % 64) % 2 ^ 64))) (t / 64) 0 ≡ bit_or (get_or words (s / 64) 0) (1 * 2 ^ (s % 64) % 2 ^ 64)
            = ap (λ i. get_or (set words (s / 64) (bit_or (get_or words (s / 64) 0) (1 * 2 ^ (s % 64) % 2 ^ 64))) i 0) q ∙ get_or-set_same words (s / 64) _ 0 within in
            ap₂ (λ w i. bit_at w i == 1) here r ∙ ap (λ b. b == 1) (bit_at_set_same w64 (get_or words (s / 64) 0) (s % 64) (omega arith))
            ∙ sym (ap (λ b. b || (bit_at (get_or words (t / 64) 0) (t % 64) == 1)) (eq-eqb t s same))
        | inr ne ↦
            let other : t ≡ s → ⊥ = λ e. ne (ap (λ k. k % 64) e) in
            let here : get_or (set words (s / 64) (bit_or (get_or words (s / 64) 0) (1 * 2 ^ (s % 64) % 2 ^ 64))) (t / 64) 0 ≡ bit_or (get_or words (s / 64) 0) (1 * 2 ^ (s % 64) % 2 ^ 64)
            = ap (λ i. get_or (set words (s / 64) (bit_or (get_or words (s / 64) 0) (1 * 2 ^ (s % 64) % 2 ^ 64))) i 0) q ∙ get_or-set_same words (s / 64) _ 0 within in
            ap (λ w. bit_at w (t % 64) == 1) here
            ∙ ap (λ b. b == 1) (bit_at_set_other w64 (get_or words (s / 64) 0) (s % 64) (omega arith) (t % 64) ne)
            ∙ ap (λ i. bit_at (get_or words i 0) (t % 64) == 1) (sym q)
            ∙ sym (ap (λ b. b || (bit_at (get_or words (t / 64) 0) (t % 64) == 1)) (ne_eqb t s other))
      ])
      | inr ne ↦
          let other : t ≡ s → ⊥ = λ e. ne (ap (λ k. k / 64) e) in
          ap (λ w. bit_at w (t % 64) == 1) (get_or-set_other words (s / 64) (t / 64) _ 0 ne)
          ∙ sym (ap (λ b. b || (bit_at (get_or words (t / 64) 0) (t % 64) == 1)) (ne_eqb t s other))
    ]

clear_bit : (words : List ℕ) (s t : ℕ) → s / 64 < length words
    → (bit_at (get_or (set words (s / 64) (bit_and (get_or words (s / 64) 0) (bit_not w64 (1 * 2 ^ (s % 64) % 2 ^ 64)))) (t / 64) 0) (t % 64) == 1) ≡ (not (t == s) && (bit_at (get_or words (t / 64) 0) (t % 64) == 1))
clear_bit words s t within =
    elim (cases_eq (t / 64) (s / 64)) as (λ _. (bit_at (get_or (set words (s / 64) (bit_and (get_or words (s / 64) 0) (bit_not w64 (1 * 2 ^ (s % 64) % 2 ^ 64)))) (t / 64) 0) (t % 64) == 1) ≡ (not (t == s) && (bit_at (get_or words (t / 64) 0) (t % 64) == 1))) [
      | inl q ↦ (elim (cases_eq (t % 64) (s % 64)) as (λ _. (bit_at (get_or (set words (s / 64) (bit_and (get_or words (s / 64) 0) (bit_not w64 (1 * 2 ^ (s % 64) % 2 ^ 64)))) (t / 64) 0) (t % 64) == 1) ≡ (not (t == s) && (bit_at (get_or words (t / 64) 0) (t % 64) == 1))) [
        | inl r ↦
            let same : t ≡ s = omega (arith, q, r) in
            let here : get_or (set words (s / 64) (bit_and (get_or words (s / 64) 0) (bit_not w64 (1 * 2 ^ (s % 64) % 2 ^ 64)))) (t / 64) 0 ≡ bit_and (get_or words (s / 64) 0) (bit_not w64 (1 * 2 ^ (s % 64) % 2 ^ 64))
            = ap (λ i. get_or (set words (s / 64) (bit_and (get_or words (s / 64) 0) (bit_not w64 (1 * 2 ^ (s % 64) % 2 ^ 64)))) i 0) q ∙ get_or-set_same words (s / 64) _ 0 within in
            ap₂ (λ w i. bit_at w i == 1) here r ∙ ap (λ b. b == 1) (bit_at_clear_same w64 (get_or words (s / 64) 0) (s % 64) (omega arith))
            ∙ sym (ap (λ b. not b && (bit_at (get_or words (t / 64) 0) (t % 64) == 1)) (eq-eqb t s same))
        | inr ne ↦
            let other : t ≡ s → ⊥ = λ e. ne (ap (λ k. k % 64) e) in
            let here : get_or (set words (s / 64) (bit_and (get_or words (s / 64) 0) (bit_not w64 (1 * 2 ^ (s % 64) % 2 ^ 64)))) (t / 64) 0 ≡ bit_and (get_or words (s / 64) 0) (bit_not w64 (1 * 2 ^ (s % 64) % 2 ^ 64))
            = ap (λ i. get_or (set words (s / 64) (bit_and (get_or words (s / 64) 0) (bit_not w64 (1 * 2 ^ (s % 64) % 2 ^ 64)))) i 0) q ∙ get_or-set_same words (s / 64) _ 0 within in
            ap (λ w. bit_at w (t % 64) == 1) here
            ∙ ap (λ b. b == 1) (bit_at_clear_other w64 (get_or words (s / 64) 0) (s % 64) (omega arith) (t % 64) (omega arith) ne)
            ∙ ap (λ i. bit_at (get_or words i 0) (t % 64) == 1) (sym q)
            ∙ sym (ap (λ b. not b && (bit_at (get_or words (t / 64) 0) (t % 64) == 1)) (ne_eqb t s other))
      ])
      | inr ne ↦
          let other : t ≡ s → ⊥ = λ e. ne (ap (λ k. k / 64) e) in
          ap (λ w. bit_at w (t % 64) == 1) (get_or-set_other words (s / 64) (t / 64) _ 0 ne)
          ∙ sym (ap (λ b. not b && (bit_at (get_or words (t / 64) 0) (t % 64) == 1)) (ne_eqb t s other))
    ]

same_test : (quota q j k : ℕ) → IsKey quota j → IsKey q k → (stamp_bit j == stamp_bit k) ≡ (j == k)
same_test quota q j k a b =
    elim (cases_eq j k) as (λ _. (stamp_bit j == stamp_bit k) ≡ (j == k)) [
      | inl e ↦ eq-eqb (stamp_bit j) (stamp_bit k) (ap stamp_bit e) ∙ sym (eq-eqb j k e)
      | inr ne ↦ ne_eqb (stamp_bit j) (stamp_bit k) (λ e. ne (same_key quota q j k a b e)) ∙ sym (ne_eqb j k ne)
    ]

pub is_stamped-with : (quota : ℕ) (words : List ℕ) (k j : ℕ) → IsKey quota k → IsKey quota j → quota * 64 ≤ length words → is_stamped (with_stamp words k) j ≡ ((j == k) || is_stamped words j)
unfolding is_stamped with_stamp
is_stamped-with quota words k j a b le =
    set_bit words (stamp_bit k) (stamp_bit j) (word_below quota (length words) k a le)
    ∙ ap (λ t. t || (bit_at (get_or words (stamp_bit j / 64) 0) (stamp_bit j % 64) == 1)) (same_test quota quota j k b a)

pub is_stamped-without : (quota : ℕ) (words : List ℕ) (k j : ℕ) → IsKey quota k → IsKey quota j → quota * 64 ≤ length words → is_stamped (without_stamp words k) j ≡ (not (j == k) && is_stamped words j)
unfolding is_stamped without_stamp
is_stamped-without quota words k j a b le =
    clear_bit words (stamp_bit k) (stamp_bit j) (word_below quota (length words) k a le)
    ∙ ap (λ t. not t && (bit_at (get_or words (stamp_bit j / 64) 0) (stamp_bit j % 64) == 1)) (same_test quota quota j k b a)

pub length-with : (words : List ℕ) (k : ℕ) → length (with_stamp words k) ≡ length words
unfolding with_stamp
length-with words k = length-set words (stamp_bit k / 64) _

pub length-without : (words : List ℕ) (k : ℕ) → length (without_stamp words k) ≡ length words
unfolding without_stamp
length-without words k = length-set words (stamp_bit k / 64) _
