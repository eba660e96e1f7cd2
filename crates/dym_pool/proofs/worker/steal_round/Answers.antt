use Rattle.std.proofs.Common.{arith, ◌<◌, length, ap, subst}
use Rattle.dym_pool.specs.Holdings.{Holding, KeepsShare}
use Rattle.dym_pool.proofs.Keeping.{keeps_none, keeps_set, keeps_parts}
use Rattle.dym_pool.proofs.worker.steal_round.Goals as goal

pub loop-init : goal.loop-init
loop-init g c = record { keeps = keeps_none c.args.reaches.now.items; inside = omega (arith, c.requires.number, c.len-count.ensures); all = c.len-count.ensures }

pub steal-requires-clause-part : goal.steal-requires-clause-part
steal-requires-clause-part g c κs within =
    let inside : c.after-place.result < length c.loop.reaches.items = omega (arith, c.after-place.ensures, c.loop.invariant.all, c.loop.reaches.ok.0) in
    let here = keeps_parts c.args.reaches.now.items c.loop.reaches.items c.loop.invariant.keeps c.requires.parts c.after-place.result c.index_mut.result.now inside in
    omega (arith, here, ap (λ (h : Holding g.row.J-Origin.Denot). h.part) c.index_mut.ensures.value)

pub returns-then-not-is_empty : goal.returns-then-not-is_empty
returns-then-not-is_empty g c =
    let inside : c.after-place.result < length c.loop.reaches.items = omega (arith, c.after-place.ensures, c.loop.invariant.all, c.loop.reaches.ok.0) in
    record {
      keeps = keeps_set c.args.reaches.now.items c.loop.reaches.items c.after-place.result c.steal.new.self c.index_mut.result.now inside c.loop.invariant.keeps
          (subst (λ (h : Holding g.row.J-Origin.Denot). KeepsShare h c.steal.new.self) c.index_mut.ensures.value c.steal.ensures.keeps);
    }

pub loop-preserved : goal.loop-preserved
loop-preserved g c =
    let inside : c.after-place.result < length c.loop.reaches.items = omega (arith, c.after-place.ensures, c.loop.invariant.all, c.loop.reaches.ok.0) in
    record {
      keeps = keeps_set c.args.reaches.now.items c.loop.reaches.items c.after-place.result c.steal.new.self c.index_mut.result.now inside c.loop.invariant.keeps
          (subst (λ (h : Holding g.row.J-Origin.Denot). KeepsShare h c.steal.new.self) c.index_mut.ensures.value c.steal.ensures.keeps);
      inside = omega (arith, c.after-place.ensures);
      all = c.loop.invariant.all;
    }
