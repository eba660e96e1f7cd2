use Rattle.std.proofs.Common.{Some, ap, ◌∙◌}
use Rattle.dym_heap.specs.SizedAreas.{len_of}
use Rattle.dym_heap.specs.Lengths.{numbers_of}
use Rattle.dym_heap.proofs.PlaceFacts as facts
use Rattle.dym_heap.proofs.sized_area.SizedArea.used_len.Goals as goal

pub noted_len-requires : goal.noted_len-requires
noted_len-requires g c = facts.few_p c.self.view_is c.self.invariant (c.self.invariant.valid.used_below c.args.i (facts.set_p c.self.view_is c.self.invariant c.args.i c.requires))

pub returns : goal.returns
returns g c =
    ap Some (c.noted_len.ensures ∙ (ap (λ e. len_of e (numbers_of c.self.inside.lengths) c.args.i) c.class.ensures))
    ∙ facts.len_used_p c.self.view_is c.self.invariant c.args.i (facts.set_p c.self.view_is c.self.invariant c.args.i c.requires)
