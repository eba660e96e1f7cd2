use Rattle.std.proofs.Common.{ap, sym, ◌∙◌, arith}
use Rattle.dym_base.specs.Numbers.{per}
use Rattle.dym_pack.specs.Areas.{logged}
use Rattle.dym_pack.proofs.Named.{few_chunks}
use Rattle.dym_pack.proofs.Chunks.{body_most, body_len_counted, count_of_area_is}
use Rattle.dym_pack.proofs.Logs.{lent}
use Rattle.dym_pack.proofs.area_bytes.body_len.Goals as goal

pub count_below-requires : goal.count_below-requires
count_below-requires g c =
    let few = few_chunks (g.A.Areas.meaning c.args.areas.now).live c.args.k c.requires.area in
    omega (arith, c.per_area.ensures ∙ ap per c.requires.exp)

pub overflow_mul-result : goal.overflow_mul-result
overflow_mul-result g c =
    let log = logged (g.A.Areas.meaning c.args.areas.now) c.args.kind 0 in
    let ok = lent (g.A.Areas.meaning c.args.areas.now) c.args.kind 0 c.requires.packable in
    let value = body_len_counted log ok (sym c.version.ensures ∙ c.in-One.is) c.args.k c.requires.area _ _ _ (c.count_below.ensures.counted ∙ count_of_area_is log c.args.k c.bits_to_pack-bits.result.now c.bits_to_pack-bits.ensures c.per_area.result (c.per_area.ensures ∙ ap per c.requires.exp)) c.size.ensures c.requires.exp in
    omega (arith, body_most log ok c.args.k c.requires.area)

pub returns-in-One-clause-value : goal.returns-in-One-clause-value
returns-in-One-clause-value g c =
    let log = logged (g.A.Areas.meaning c.args.areas.now) c.args.kind 0 in
    let ok = lent (g.A.Areas.meaning c.args.areas.now) c.args.kind 0 c.requires.packable in
    body_len_counted log ok (sym c.version.ensures ∙ c.in-One.is) c.args.k c.requires.area _ _ _ (c.count_below.ensures.counted ∙ count_of_area_is log c.args.k c.bits_to_pack-bits.result.now c.bits_to_pack-bits.ensures c.per_area.result (c.per_area.ensures ∙ ap per c.requires.exp)) c.size.ensures c.requires.exp

pub returns-in-One-clause-few : goal.returns-in-One-clause-few
returns-in-One-clause-few g c =
    let log = logged (g.A.Areas.meaning c.args.areas.now) c.args.kind 0 in
    let ok = lent (g.A.Areas.meaning c.args.areas.now) c.args.kind 0 c.requires.packable in
    omega (arith, returns-in-One-clause-value g c, body_most log ok c.args.k c.requires.area)

pub returns-in-Two-clause-few : goal.returns-in-Two-clause-few
returns-in-Two-clause-few g c =
    let m = g.A.Areas.meaning c.args.areas.now in
    let log = logged m c.args.kind 0 in
    let most = body_most log (lent m c.args.kind 0 c.requires.packable) c.args.k c.requires.area in
    omega (arith, c.chunks_len.ensures)
