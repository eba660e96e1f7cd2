use Rattle.std.proofs.Common.{subst, sym, arith}
use Rattle.dym_pack.specs.Layouts.{IsLaid}
use Rattle.dym_pack.proofs.Laying.{AreEnded, laid_is, seen_as}
use Rattle.dym_pack.proofs.indexed_bytes.IndexedBytes.of.Goals as goal

pub invariant_of-result : goal.invariant_of-result
invariant_of-result c =
    let is : AreEnded c.args.bytes.items c.args.offsets.now = record { before = c.requires.end.0; ended = c.requires.end.1; small = λ k. omega (arith, c.type_inv.offsets k) } in
    subst IsLaid (sym c.in_ok-put_offsets.ensures) (laid_is c.args.bytes.items c.args.offsets.now is)

pub returns : goal.returns
returns c =
    let is : AreEnded c.args.bytes.items c.args.offsets.now = record { before = c.requires.end.0; ended = c.requires.end.1; small = λ k. omega (arith, c.type_inv.offsets k) } in
    seen_as c.args.bytes.items c.args.offsets.now c.put_offsets.new.out.items is c.in_ok-put_offsets.ensures
