-- The sizes and numbers of chunks of a class, and where chunks lie.
use Rattle.std.proofs.Common.{◌≡◌, ℕ, ◌+◌, ◌-◌, ◌*◌, ◌/◌, ◌^◌, ◌<◌, ◌≤◌, max, sym, ◌∙◌, ap, arith, le_refl}
use Rattle.std.proofs.lemmas.Nat.{pow-add, row_fits}
use Rattle.std.proofs.Math.Nat.{pow-le-pow_right}
use Rattle.std.proofs.Common.{subst}
use Rattle.dym_base.specs.Numbers.{size, per}
use Rattle.dym_bits.specs.Bits.{bit_in, IsSet}
use Rattle.dym_area.specs.Area.{AreaMeaning, IsValidArea, AreFilled}

-- the chunks of a class fill a segment
pub per-size : (e : ℕ) → e ≤ 16 → per e * size e ≡ 65536
per-size e greatest =
    let all : 16 - e + e ≡ 16 = omega arith in
    sym (pow-add 2 (16 - e) e) ∙ ap (λ n. 2 ^ n) all

pub per_small : (e : ℕ) → 5 ≤ e → per e ≤ 2048
per_small e least =
    let two : 1 ≤ 2 = omega arith in
    let few : 16 - e ≤ 11 = omega arith in
    pow-le-pow_right two few

-- chunk i lies in the segment
pub chunk_fits : (e i : ℕ) → e ≤ 16 → i < per e → i * size e + size e ≤ 65536
chunk_fits e i greatest within = omega (arith, row_fits i (size e) (per e) (size e) within (le_refl (size e)), per-size e greatest)

-- ---- an area that is seen as another record of the same fields

module _ {area seen : AreaMeaning} (is : area ≡ seen) (valid : IsValidArea area) where
  pub index_seen : (i : ℕ) → i < per seen.exponent → i < per area.exponent
  index_seen i below = subst (λ (a : AreaMeaning). i < per a.exponent) (sym is) below

  pub bit_seen : (i : ℕ) → i < per seen.exponent → i < 2048
  bit_seen i below = omega (arith, index_seen i below, per_small area.exponent valid.least)

  -- chunk i by the size that is at hand
  pub chunk_seen : (i : ℕ) {n : ℕ} → n ≡ size area.exponent → i < per seen.exponent → i * n + n ≤ 65536
  chunk_seen i same below = omega (arith, ap (λ n. i * n) same, chunk_fits area.exponent i valid.greatest (index_seen i below))

  -- and its first bytes
  pub front_seen : (i len : ℕ) {n : ℕ} → n ≡ size area.exponent → i < per seen.exponent → len ≤ size seen.exponent → i * n + len ≤ 65536
  front_seen i len same below fits = omega (arith, same, ap (λ (a : AreaMeaning). size a.exponent) is, chunk_seen i same below)

  -- and a part of it, as far as the used chunks reach
  pub place_real : (far i at len : ℕ) {n : ℕ} → n ≡ size area.exponent → IsSet seen.used i → at + len ≤ size seen.exponent → AreFilled area.used area.exponent far → i * n + at + len ≤ far
  place_real far i at len same used within filled =
      omega (arith, ap (λ n. i * n) same, ap (λ (a : AreaMeaning). size a.exponent) is, filled i (ap (λ (a : AreaMeaning). bit_in a.used i) is ∙ used))

  pub all_filled : AreFilled area.used area.exponent 65536
  all_filled i set = chunk_fits area.exponent i valid.greatest (valid.used_below i set)

  pub place_seen : (i at len : ℕ) {n : ℕ} → n ≡ size area.exponent → IsSet seen.used i → at + len ≤ size seen.exponent → i * n + at + len ≤ 65536
  place_seen i at len same used within = place_real 65536 i at len same used within all_filled

-- a bitmap of the chunks of a class has no more bits than there are
pub bitmap_fits : (e : ℕ) → 5 ≤ e → 8 * max 1 (per e / 8) ≤ 2048
bitmap_fits e least = omega (arith, per_small e least)
