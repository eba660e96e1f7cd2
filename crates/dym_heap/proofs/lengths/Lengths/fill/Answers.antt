use Rattle.std.proofs.Common.{◌≡◌, replicate, vec_len, ap, ◌∙◌, arith}
use Rattle.dym_base.specs.declared.limits.TheConstants.{MOST_CHUNKS}
use Rattle.dym_heap.proofs.lengths.Lengths.fill.Goals as goal

pub returns : goal.returns
returns c =
    let whole = c.args.self.now.whole in
    let many : vec_len c.args.self.now.table ≡ MOST_CHUNKS = omega arith in
    c.fill.ensures.items (λ y same. same) ∙ ap (λ n. replicate n c.args.len) many
