use Rattle.std.proofs.Common.{rules, sym, ◌∙◌}
use Rattle.dym_heap.proofs.PlaceFacts as facts
use Rattle.dym_heap.proofs.sized_area.SizedArea.chunk_bytes.Goals as goal

pub is_used-requires : goal.is_used-requires
is_used-requires g c = facts.below_p c.self.view_is c.self.invariant c.requires

pub returns-then-not-is_used : goal.returns-then-not-is_used
returns-then-not-is_used g c = facts.free_p c.self.view_is c.self.invariant c.args.i (search rules)

pub used_bytes-requires : goal.used_bytes-requires
used_bytes-requires g c = facts.some_p c.self.view_is c.self.invariant c.args.i (sym c.is_used.ensures ∙ c.if-not-is_used.false)

pub returns : goal.returns
returns g c = sym c.used_bytes.ensures
