use Rattle.std.proofs.Common.{◌≡◌, length, get_or, ap, sym, ◌∙◌, arith}
use Rattle.dym_base.specs.Packed.{packed}
use Rattle.dym_pack.specs.Areas.{area_at}
use Rattle.dym_pack.proofs.Named.{area_is}
use Rattle.dym_pack.proofs.Slices.{exponent_read, use_fits}
use Rattle.dym_pack.proofs.record.Record.area_class.Goals as goal

pub bounds-bytes-start : goal.bounds-bytes-start
bounds-bytes-start c =
    let log = c.whole-bytes.ensures.is.0 in
    let rec = c.whole-bytes.ensures.is.1 in
    let same = c.whole-bytes.ensures.is.2 ∙ c.whole-bytes.ensures.same in
    let long = ap length c.whole-bytes.ensures.is.2 in
    omega (arith, use_fits log c.args.k (c.requires log rec same), c.start.ensures.at log rec same)

pub returns : goal.returns
returns c log rec same =
    ap (λ bytes. get_or bytes c.start.result 0) (c.whole-bytes.ensures.same ∙ sym same)
    ∙ ap (λ i. get_or (packed log) i 0) (c.start.ensures.at log rec same)
    ∙ exponent_read log c.args.k (c.requires log rec same)

pub invariant_of-result : goal.invariant_of-result
invariant_of-result c =
    let log = c.whole-bytes.ensures.is.0 in
    let rec = c.whole-bytes.ensures.is.1 in
    let same = c.whole-bytes.ensures.is.2 ∙ c.whole-bytes.ensures.same in
    let exp_is : get_or c.whole-bytes.result.now c.start.result 0 ≡ (area_at log.copy c.args.k).exponent
    = ap (λ bytes. get_or bytes c.start.result 0) (c.whole-bytes.ensures.same ∙ sym same)
    ∙ ap (λ i. get_or (packed log) i 0) (c.start.ensures.at log rec same)
    ∙ exponent_read log c.args.k (c.requires log rec same) in
    let is = area_is log.copy c.args.k (c.requires log rec same) in
    record { least = omega arith; most = omega arith }
