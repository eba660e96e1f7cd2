use Rattle.std.proofs.Common.{◌≡◌, ℕ, ◌+◌, ◌-◌, ◌*◌, ◌^◌, ◌<◌, ◌≤◌, Some, inl, inr, refl, sym, add-one, arith}
use Rattle.std.proofs.Math.Nat.{pow-succ'}
use Rattle.std.proofs.Math.Pow.{pow_mono}
use Rattle.std.proofs.lemmas.Bool.{cases_lt}
use Rattle.dym_base.specs.Numbers.{cls}
use Rattle.dym_base.proofs.Classes.{cls_is, cls_none, cls_class}
use Rattle.dym_base.proofs.class.Class.of_len.Goals as goal

-- the exponents of numbers from 32 to 65,535
least_exponent : (x e : ℕ) → 32 ≤ x → x < 2 ^ (e + 1) → 5 ≤ e
least_exponent x e low lt =
    elim (cases_lt e 5) as (λ _. 5 ≤ e) [
      | inl small ↦ (let p : 2 ^ (e + 1) ≤ 2 ^ 5 = pow_mono {i = e + 1} {j = 5} (omega arith) in absurd (omega arith))
      | inr big ↦ big
    ]

greatest_exponent : (x e : ℕ) → x < 65536 → 2 ^ e ≤ x → e < 16
greatest_exponent x e high le =
    elim (cases_lt e 16) as (λ _. e < 16) [
      | inl small ↦ small
      | inr big ↦ (let p : 2 ^ 16 ≤ 2 ^ e = pow_mono {i = 16} {j = e} big in absurd (omega arith))
    ]

doubled : (e : ℕ) → 2 ^ (e + 1) ≡ 2 * 2 ^ e
doubled e = rw add-one (pow-succ' 2 e)

class_above : (n e : ℕ) → 32 < n → n ≤ 65536 → 2 ^ e ≤ n - 1 → n - 1 < 2 * 2 ^ e → cls n ≡ Some (e + 1)
class_above n e low high le lt =
    let twice : 2 ^ (e + 1) ≡ 2 * 2 ^ e = doubled e in
    let base_logs : n - 1 < 2 ^ (e + 1) = omega arith in
    let lowest : 5 ≤ e = least_exponent (n - 1) e (omega arith) base_logs in
    let highest : e < 16 = greatest_exponent (n - 1) e (omega arith) le in
    let before : e + 1 - 1 ≡ e = omega arith in
    cls_is n (e + 1) (omega arith) (omega arith) (inr (rw before (omega arith))) (omega arith)

-- what the logarithm gives, in the last case
class_found : (n e : ℕ) → 32 < n → n ≤ 65536 → 2 ^ e ≤ n - 1 → n - 1 < 2 * 2 ^ e → (5 ≤ e + 1) × (e + 1 ≤ 16) × (n ≤ 2 ^ (e + 1))
class_found n e low high le lt = cls_class n (e + 1) (class_above n e low high le lt)

pub returns-then-len-le-LEAST_SIZE-clause-value : goal.returns-then-len-le-LEAST_SIZE-clause-value
returns-then-len-le-LEAST_SIZE-clause-value c = sym (cls_is c.args.len 5 (omega arith) (omega arith) (inl refl) (omega arith))

pub returns-then-len-from-clause-value : goal.returns-then-len-from-clause-value
returns-then-len-from-clause-value c = sym (cls_none c.args.len (omega (arith, c.from.ensures)))

pub invariant_of-result-2 : goal.invariant_of-result-2
invariant_of-result-2 c =
    let class = class_found c.args.len c.ilog2.result (omega arith) (omega (arith, c.from.ensures)) c.ilog2.ensures.power_le c.ilog2.ensures.next_power_gt in
    record { least = class.0; most = class.1 }

pub returns : goal.returns
returns c =
    let le = c.ilog2.ensures.power_le in
    let lt = c.ilog2.ensures.next_power_gt in
    record {
      value = sym (class_above c.args.len c.ilog2.result (omega arith) (omega (arith, c.from.ensures)) le lt);
      fits = ((class_found c.args.len c.ilog2.result (omega arith) (omega (arith, c.from.ensures)) le lt).2, omega (arith, c.from.ensures));
    }
