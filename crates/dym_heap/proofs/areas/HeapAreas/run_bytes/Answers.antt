use Rattle.std.proofs.Common.{◌∙◌}
use Rattle.dym_heap.proofs.LendingCalls as calls
use Rattle.dym_heap.proofs.areas.HeapAreas.run_bytes.Goals as goal

pub sized_area-requires-clause-within : goal.sized_area-requires-clause-within
sized_area-requires-clause-within g c = calls.within_h c.self.view_is c.self.invariant c.requires.area

pub run_bytes-requires-clause-within : goal.run_bytes-requires-clause-within
run_bytes-requires-clause-within g c = calls.run_fits (calls.area_h c.self.view_is c.self.invariant c.sized_area.ensures.area) c.args.from c.args.count c.requires.chunks

pub run_bytes-requires-clause-used : goal.run_bytes-requires-clause-used
run_bytes-requires-clause-used g c =
    let is = (calls.area_h c.self.view_is c.self.invariant c.sized_area.ensures.area) in
    calls.run_used is c.args.from c.args.count c.requires.chunks c.requires.used

pub returns : goal.returns
returns g c =
    let is = (calls.area_h c.self.view_is c.self.invariant c.sized_area.ensures.area) in
    c.run_bytes.ensures (calls.version_h c.self.view_is c.self.invariant c.sized_area.result.now c.sized_area.ensures.version ∙ c.requires.version)
    ∙ calls.run_a is c.args.from c.args.count c.requires.chunks
