-- A write changes one number more.
use Rattle.std.proofs.Common.{◌≡◌, ℕ, ◌+◌, ◌*◌, ◌%◌, ◌^◌, ◌<◌, List, length, get_or, inl, inr, sym, ap, ◌∙◌, arith}
use Rattle.std.proofs.Math.ListN.{set}
use Rattle.std.proofs.lemmas.Bool.{cases_lt}
use Rattle.std.proofs.lemmas.Grind.{get_or_default_zero}
use Rattle.warp_models.specs.Phold.{changed}
use Rattle.warp_models.proofs.Changes.{changed_none, changed_all, changed_more, length-changed}
use Rattle.warp_models.proofs.phold.change.Goals as goal

-- sums that wrap one by one come to the sum that wraps once
wraps : (x job k : ℕ) → (x * 5 % 18446744073709551616 + (job + k) % 18446744073709551616) % 18446744073709551616 ≡ (x * 5 + job + k) % 2 ^ 64
wraps x job k = omega arith

writes : (job k x : ℕ) (items xs : List ℕ) → items ≡ changed job k 0 xs → k < length xs → x ≡ get_or items k x
    → set items k ((x * 5 % 18446744073709551616 + (job + k) % 18446744073709551616) % 18446744073709551616) ≡ changed job (k + 1) 0 xs
writes job k x items xs was within is =
    let long = length-changed job k 0 xs in
    let same : length items ≡ length xs = ap length was ∙ long in
    let x-is : x ≡ get_or items k 0 = is ∙ get_or_default_zero items k x (omega (arith, same)) in
    ap (λ t. set items k t) (wraps x job k)
    ∙ ap (λ t. set items k ((t * 5 + job + k) % 2 ^ 64)) x-is
    ∙ ap (λ (ys : List ℕ). set ys k ((get_or ys k 0 * 5 + job + k) % 2 ^ 64)) was
    ∙ changed_more job k 0 k xs (omega arith) within

pub loop-k-init : goal.loop-k-init
loop-k-init c = sym (changed_none c.args.job 0 0 c.args.numbers.now.items (omega arith))

pub loop-k-preserved : goal.loop-k-preserved
loop-k-preserved c =
    let long = c.args.numbers.now.ok.0 in
    writes c.args.job c.loop-k.k c.index.result.now c.loop-k.numbers.items c.args.numbers.now.items c.loop-k.invariant (omega (arith, long)) c.index.ensures

pub returns : goal.returns
returns c =
    let xs = c.args.numbers.now.items in
    let long = c.args.numbers.now.ok.0 in
    let job = c.args.job in
    elim (cases_lt c.args.count (length xs)) [
      | inl few ↦ (let is : c.loop-k.k ≡ c.args.count = omega (arith, few, long) in c.loop-k.invariant ∙ ap (λ n. changed job n 0 xs) is)
      | inr many ↦ c.loop-k.invariant ∙ changed_all job c.loop-k.k c.args.count 0 xs (omega (arith, many, long)) (omega (arith, many))
    ]
