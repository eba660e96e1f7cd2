-- Where a chunk lies is a multiple of each power of two that divides its size.
use Rattle.std.proofs.Common.{◌≡◌, ℕ, ◌+◌, ◌-◌, ◌*◌, ◌/◌, ◌%◌, ◌^◌, ◌≤◌, ap, ◌∙◌, arith}
use Rattle.std.proofs.Math.Nat.{mul-mod_left}
use Rattle.std.proofs.lemmas.Nat.{pow-add}
use Rattle.dym_base.specs.Numbers.{size, per, rank}
use Rattle.dym_base.specs.declared.handle.Handle.{Handle}
use Rattle.dym_heap.specs.Addresses.{chunk_offset}

split_pow : (a b : ℕ) → b ≤ a → 2 ^ a ≡ 2 ^ (a - b) * 2 ^ b
split_pow a b le = ap (λ n. 2 ^ n) (let e : a ≡ a - b + b = omega (arith, le) in e) ∙ pow-add 2 (a - b) b

shared : (x y a b z u w : ℕ) → a ≡ u * z → b ≡ w * z → x * a + y * b ≡ (x * u + y * w) * z
shared x y a b z u w a_is b_is = (λ j. x * a_is j + y * b_is j) ∙ omega arith

pub aligned : (quota k : ℕ) (h : Handle) → k ≤ h.exp → h.exp ≤ 16 → chunk_offset quota h % 2 ^ k ≡ 0
aligned quota k h low high =
    ap (λ n. n % 2 ^ k) is ∙ mul-mod_left ((rank h.exp * quota + h.index / per h.exp) * 2 ^ (16 - k) + (h.index % per h.exp) * 2 ^ (h.exp - k)) (2 ^ k)
  where
    is : chunk_offset quota h ≡ ((rank h.exp * quota + h.index / per h.exp) * 2 ^ (16 - k) + (h.index % per h.exp) * 2 ^ (h.exp - k)) * 2 ^ k
    is = shared (rank h.exp * quota + h.index / per h.exp) (h.index % per h.exp) 65536 (size h.exp) (2 ^ k) (2 ^ (16 - k)) (2 ^ (h.exp - k))
        (split_pow 16 k (omega (arith, low, high))) (split_pow h.exp k low)
