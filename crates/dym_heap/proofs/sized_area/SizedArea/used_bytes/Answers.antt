use Rattle.std.proofs.Common.{Some, ap, ◌∙◌, arith}
use Rattle.dym_heap.specs.SizedAreas.{len_of}
use Rattle.dym_heap.specs.Lengths.{numbers_of}
use Rattle.dym_heap.proofs.PlaceFacts as facts
use Rattle.dym_heap.proofs.sized_area.SizedArea.used_bytes.Goals as goal

pub noted_len-requires : goal.noted_len-requires
noted_len-requires g c = facts.few_p c.self.view_is c.self.invariant (c.self.invariant.valid.used_below c.args.i (facts.set_p c.self.view_is c.self.invariant c.args.i c.requires))

pub bytes-requires-clause-used : goal.bytes-requires-clause-used
bytes-requires-clause-used g c = facts.set_p c.self.view_is c.self.invariant c.args.i c.requires

pub bytes-requires-clause-within : goal.bytes-requires-clause-within
bytes-requires-clause-within g c =
    let long = c.noted_len.ensures ∙ ap (λ e. len_of e (numbers_of c.self.inside.lengths) c.args.i) c.class.ensures in
    omega (arith, long, facts.len_fits_p c.self.view_is c.self.invariant c.args.i (facts.set_p c.self.view_is c.self.invariant c.args.i c.requires))

pub returns : goal.returns
returns g c =
    ap Some c.bytes.ensures
    ∙ facts.bytes_p c.self.view_is c.self.invariant c.args.i c.noted_len.result (facts.set_p c.self.view_is c.self.invariant c.args.i c.requires)
    (c.noted_len.ensures ∙ ap (λ e. len_of e (numbers_of c.self.inside.lengths) c.args.i) c.class.ensures)
