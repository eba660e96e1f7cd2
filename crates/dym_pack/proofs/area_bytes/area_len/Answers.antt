use Rattle.std.proofs.Common.{arith}
use Rattle.dym_pack.specs.Areas.{logged}
use Rattle.dym_pack.proofs.Fronts.{area_len_is}
use Rattle.dym_pack.proofs.area_bytes.area_len.Goals as goal

pub returns-clause-value : goal.returns-clause-value
returns-clause-value g c =
    let long = area_len_is (logged (g.A.Areas.meaning c.args.areas.now) c.args.kind 0) c.args.k in
    omega (arith, c.head_len.ensures.value, c.body_len.ensures.value)
