use Rattle.std.proofs.Common.{◌≡◌, ◌+◌, ◌*◌, ◌∙◌, ap, arith}
use Rattle.dym_base.specs.Numbers.{size}
use Rattle.dym_area.proofs.Classes.{chunk_fits}
use Rattle.dym_area.proofs.Reach.{chunk_end}
use Rattle.dym_area.proofs.ends.end_of.Goals as goal

pub overflow_mul-result : goal.overflow_mul-result
overflow_mul-result c =
    let top = c.in-Some.top in
    let e = c.args.class.exp in
    let end : (top + 1) * c.size.result ≡ top * size e + size e = ap (λ n. (top + 1) * n) c.size.ensures ∙ chunk_end top (size e) in
    omega (arith, end, chunk_fits e top c.args.class.most (c.requires.below top c.in-Some.ensures.is_set))

pub returns-in-Some-clause-within : goal.returns-in-Some-clause-within
returns-in-Some-clause-within c =
    let top = c.in-Some.top in
    let e = c.args.class.exp in
    let end : (top + 1) * c.size.result ≡ top * size e + size e = ap (λ n. (top + 1) * n) c.size.ensures ∙ chunk_end top (size e) in
    omega (arith, end, chunk_fits e top c.args.class.most (c.requires.below top c.in-Some.ensures.is_set))
