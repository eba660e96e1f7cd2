use Rattle.std.proofs.Common.{rules, Some, ap, ◌∙◌}
use Rattle.dym_heap.specs.SizedAreas.{len_of}
use Rattle.dym_heap.specs.Lengths.{numbers_of}
use Rattle.dym_heap.proofs.PlaceFacts as facts
use Rattle.dym_heap.proofs.sized_area.SizedArea.chunk_len.Goals as goal

pub is_used-requires : goal.is_used-requires
is_used-requires g c = facts.below_p c.self.view_is c.self.invariant c.requires

pub returns-then-not-is_used : goal.returns-then-not-is_used
returns-then-not-is_used g c = facts.len_free_p c.self.view_is c.self.invariant c.args.i (search rules)

pub returns : goal.returns
returns g c =
    ap Some (c.noted_len.ensures ∙ (ap (λ e. len_of e (numbers_of c.self.inside.lengths) c.args.i) c.class.ensures))
    ∙ facts.len_used_p c.self.view_is c.self.invariant c.args.i (search rules)
