use Rattle.std.proofs.Common.{◌≡◌, ◌+◌, ◌*◌, ◌<◌, ◌≤◌, length, ap, sym, subst, rules, arith}
use Rattle.dym_base.specs.Numbers.{size, per}
use Rattle.dym_area.specs.Area.{AreFilled}
use Rattle.dym_bits.specs.Bits.{IsSet}
use Rattle.dym_area.proofs.Classes.{index_seen, bit_seen, chunk_seen}
use Rattle.dym_area.proofs.Reach.{filled_taken}
use Rattle.dym_area.proofs.Taken.{used_below_taken, dirty_used_taken}
use Rattle.dym_area.proofs.chunks.Area.take_first.Goals as goal

pub set-requires : goal.set-requires
set-requires g c = bit_seen c.self.view_is c.self.invariant.valid c.in_ok-i.i c.in_ok-i.ensures.below

pub set-requires-2 : goal.set-requires-2
set-requires-2 g c = bit_seen c.self.view_is c.self.invariant.valid c.in_ok-i.i c.in_ok-i.ensures.below

pub overflow_mul-i : goal.overflow_mul-i
overflow_mul-i g c = omega (arith, chunk_seen c.self.view_is c.self.invariant.valid c.in_ok-i.i c.size-size.ensures c.in_ok-i.ensures.below)

pub zero-requires : goal.zero-requires
zero-requires g c = chunk_seen c.self.view_is c.self.invariant.valid c.in_ok-i.i c.size-size.ensures c.in_ok-i.ensures.below

pub after_take-self-inside-requires-clause-within : goal.after_take-self-inside-requires-clause-within
after_take-self-inside-requires-clause-within g c = bit_seen c.self.view_is c.self.invariant.valid c.in_ok-i.i c.in_ok-i.ensures.below

pub invariant_of-self : goal.invariant_of-self
invariant_of-self g c =
    let i = c.in_ok-i.i in
    let within : i < per c.self.inside.class.exp = index_seen c.self.view_is c.self.invariant.valid c.in_ok-i.i c.in_ok-i.ensures.below in
    let there : i < length c.self.inside.used = omega (arith, bit_seen c.self.view_is c.self.invariant.valid c.in_ok-i.i c.in_ok-i.ensures.below, c.self.invariant.valid.used_len) in
    let start : i * c.size-size.result ≡ i * size c.self.inside.class.exp = ap (λ s. i * s) c.size-size.ensures in
    let reached : i * size c.self.inside.class.exp + size c.self.inside.class.exp ≤ g.G.Segment.filled c.zero.new.self = omega (arith, start, c.size-size.ensures, c.zero.ensures.reached) in
    record {
      valid = record {
        least = c.self.invariant.valid.least;
        greatest = c.self.invariant.valid.greatest;
        used_len = c.set.ensures.len;
        dirty_len = c.set-2.ensures.len;
        used_below = λ k set. used_below_taken c.self.inside.used (per c.self.inside.class.exp) i within c.self.invariant.valid.used_below k (subst (λ bits. IsSet bits k) c.set.ensures.after set);
        dirty_used = λ k set.
            subst (λ bits. IsSet bits k) (sym c.set.ensures.after)
            (dirty_used_taken c.self.inside.used c.self.inside.dirty i there c.self.invariant.valid.dirty_used k (subst (λ bits. IsSet bits k) c.set-2.ensures.after set));
        content_len = search rules;
      };
      summed = c.after_take-self-inside.ensures;
      fits = search rules;
      real = subst (λ bits. AreFilled bits c.self.inside.class.exp (g.G.Segment.filled c.zero.new.self)) (sym c.set.ensures.after) (filled_taken c.self.inside.used c.self.inside.class.exp _ _ i c.zero.ensures.more reached c.self.invariant.real);
    }

pub returns-clause-valid : goal.returns-clause-valid
returns-clause-valid g c = (invariant_of-self g c).valid
