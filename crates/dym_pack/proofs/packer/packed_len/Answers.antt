use Rattle.std.proofs.Common.{length, ap, sym, ◌∙◌, arith}
use Rattle.dym_pack.specs.Areas.{logged, area_at}
use Rattle.dym_pack.proofs.Fronts.{start_none, start_more, start_last, area_at_any_time}
use Rattle.dym_pack.proofs.packer.packed_len.Goals as goal

pub loop-k-init : goal.loop-k-init
loop-k-init g c = record {
  few = omega arith;
  so_far = λ time. sym (start_none (logged (g.A.Areas.meaning c.args.areas.now) c.args.kind time));
}

pub loop-k-preserved : goal.loop-k-preserved
loop-k-preserved g c = record {
  few = omega (arith, c.loop-k.invariant.few, c.area_len.ensures.few);
  so_far = λ time. (
      let m = g.A.Areas.meaning c.args.areas.now in
      let more = start_more (logged m c.args.kind time) c.loop-k.k (omega arith) in
      let same = ap length (area_at_any_time m c.args.kind time (area_at m.live c.loop-k.k)) in
      omega (arith, c.loop-k.invariant.so_far time, c.area_len.ensures.value));
}

pub returns : goal.returns
returns g c time =
    c.loop-k.invariant.so_far time ∙ start_last (logged (g.A.Areas.meaning c.args.areas.now) c.args.kind time) c.loop-k.k (omega arith)
