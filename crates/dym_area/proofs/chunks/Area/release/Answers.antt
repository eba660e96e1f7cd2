use Rattle.std.proofs.Common.{◌<◌, arith, subst, sym, rules, length}
use Rattle.dym_base.specs.Numbers.{per}
use Rattle.dym_bits.specs.Bits.{IsSet}
use Rattle.dym_area.specs.Area.{AreaMeaning, IsSummary, AreFilled}
use Rattle.dym_area.proofs.Classes.{per_small}
use Rattle.dym_area.proofs.Reach.{filled_released}
use Rattle.dym_area.proofs.Rooms.{summary_released}
use Rattle.dym_area.proofs.chunks.Area.release.Goals as goal

pub invariant_of-self : goal.invariant_of-self
invariant_of-self g c =
    let used : IsSet c.self.inside.used c.args.i = subst (λ (a : AreaMeaning). IsSet a.used c.args.i) (sym c.self.view_is) c.requires in
    let below = c.self.invariant.valid.used_below c.args.i used in
    let within : c.args.i < length c.self.inside.used = omega (arith, below, per_small c.self.inside.class.exp c.self.invariant.valid.least, c.self.invariant.valid.used_len) in
    record {
      valid = search rules;
      summed = subst (λ bits. IsSummary bits (per c.self.inside.class.exp) c.with_room-self-inside.result) (sym c.clear.ensures.after)
          (summary_released c.self.inside.used (per c.self.inside.class.exp) c.self.inside.room c.with_room-self-inside.result c.args.i within below c.self.invariant.summed c.with_room-self-inside.ensures.same c.with_room-self-inside.ensures.others);
      fits = search rules;
      real = subst (λ bits. AreFilled bits c.self.inside.class.exp (g.G.Segment.filled c.self.inside.segment)) (sym c.clear.ensures.after) (filled_released c.self.inside.used c.self.inside.class.exp _ c.args.i within c.self.invariant.real);
    }
