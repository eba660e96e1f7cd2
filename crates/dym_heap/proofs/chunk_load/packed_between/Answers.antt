use Rattle.std.proofs.Common.{ap, sym, ◌∙◌, ◌+◌, ◌-◌, arith}
use Rattle.dym_bits.specs.Bits.{bit_in}
use Rattle.dym_heap.proofs.Skips as skips
use Rattle.dym_heap.proofs.chunk_load.packed_between.Goals.{then-get, else-get}
use Rattle.dym_heap.proofs.chunk_load.packed_between.Goals as goal

pub overflow_sub-result : goal.overflow_sub-result
overflow_sub-result c =
    let whole = c.count_below.ensures.len in
    let high = c.requires.within in
    let all = skips.count_between c.args.packed.now c.args.from c.args.end c.requires.order (omega arith) in
    let upper = c.count_below.ensures.counted in
    let lower = c.count_below-then-end-from-gt-FEW_CHUNKS.ensures.counted in
    omega arith

pub returns-then-end-from-gt-FEW_CHUNKS : goal.returns-then-end-from-gt-FEW_CHUNKS
returns-then-end-from-gt-FEW_CHUNKS c =
    let whole = c.count_below.ensures.len in
    let high = c.requires.within in
    let all = skips.count_between c.args.packed.now c.args.from c.args.end c.requires.order (omega arith) in
    let upper = c.count_below.ensures.counted in
    let lower = c.count_below-then-end-from-gt-FEW_CHUNKS.ensures.counted in
    omega arith

pub overflow_add-count : goal.overflow_add-count
overflow_add-count c =
    let most = skips.count_most (bit_in c.args.packed.now) c.args.from (c.loop-i.i - c.args.from) in
    let counted = c.loop-i.invariant.counted in
    let below = c.loop-i-test.true in
    let high = c.requires.within in
    record { fits = omega arith }

pub loop-i-preserved : goal.loop-i-preserved
loop-i-preserved c = record {
  counted =
      elim c.if-get.branch [
        | then-get w ↦
            w.count-is ∙ ap (λ k. k + 1) c.loop-i.invariant.counted
            ∙ skips.count_step c.args.packed.now c.loop-i.auto.i (sym w.if-get.true ∙ c.get.ensures)
        | else-get w ↦
            let step = skips.count_step c.args.packed.now c.loop-i.auto.i (sym w.if-get.false ∙ c.get.ensures) in
            let before = c.loop-i.invariant.counted in
            let same = w.count-is in
            omega arith
      ];
}
