use Rattle.std.proofs.Common.{◌≡◌, ap, ap₂, sym, ◌∙◌, arith}
use Rattle.dym_base.specs.Numbers.{per, exponent_of, index_of}
use Rattle.dym_base.specs.HeapStep.{key}
use Rattle.dym_base.proofs.Sizes.{exponent_of_number}
use Rattle.dym_undo.specs.Keys.{bit_of_class, stamp_bit}
use Rattle.dym_undo.proofs.stamps.stamp_bit.Goals as goal

pub returns : goal.returns
unfolding stamp_bit
returns c =
    let e : exponent_of (key c.args.handle) ≡ c.args.handle.exp = exponent_of_number c.args.handle.exp c.args.handle.index (omega arith) in
    let i : index_of (key c.args.handle) ≡ c.args.handle.index = omega arith in
    ap₂ bit_of_class (c.per_area-per.ensures ∙ ap per (sym e)) (sym i)
