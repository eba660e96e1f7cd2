use Rattle.std.proofs.Common.{◌+◌, length, take, drop, ap, sym, ◌∙◌, arith}
use Rattle.dym_base.specs.Packed.{packed}
use Rattle.std.specs.Int.{w32, from_le_bytes}
use Rattle.dym_pack.proofs.Slices.{ordinal_read, use_fits}
use Rattle.dym_pack.proofs.record.Record.area_ordinal.Goals as goal

pub ordinal_in-requires : goal.ordinal_in-requires
ordinal_in-requires c =
    let log = c.whole.ensures.is.0 in
    let rec = c.whole.ensures.is.1 in
    let same = c.whole.ensures.is.2 ∙ c.whole.ensures.same in
    let long = ap length c.whole.ensures.is.2 in
    omega (arith, use_fits log c.args.k (c.requires log rec same), c.start.ensures.at log rec same)

pub returns : goal.returns
returns c log rec same =
    c.ordinal_in.ensures
    ∙ ap (λ bytes. from_le_bytes w32 (take 4 (drop (c.start.result + 1) bytes))) (c.whole.ensures.same ∙ sym same)
    ∙ ap (λ s. from_le_bytes w32 (take 4 (drop (s + 1) (packed log)))) (c.start.ensures.at log rec same)
    ∙ ordinal_read log rec c.args.k (c.requires log rec same)
