use Rattle.std.proofs.Common.{length, get_or, ap, sym, ◌∙◌, arith}
use Rattle.dym_pack.proofs.Slices.{packed_least, first_byte}
use Rattle.dym_pack.proofs.record.Record.kind.Goals as goal

pub returns : goal.returns
returns c log rec same =
    c.kind_of.ensures log.version log.kind (ap (λ bytes. get_or bytes 0 0) (c.whole.ensures.same ∙ sym same) ∙ first_byte log)

pub bounds-whole-0 : goal.bounds-whole-0
bounds-whole-0 c =
    let log = c.whole.ensures.is.0 in
    let rec = c.whole.ensures.is.1 in
    let same = c.whole.ensures.is.2 ∙ c.whole.ensures.same in
    let long = ap length c.whole.ensures.is.2 in
    omega (arith, packed_least log)
