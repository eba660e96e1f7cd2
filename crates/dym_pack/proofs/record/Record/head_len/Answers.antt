use Rattle.std.proofs.Common.{◌≡◌, ◌/◌, max, ap, sym, ◌∙◌, arith}
use Rattle.dym_base.specs.Numbers.{per}
use Rattle.dym_pack.specs.Areas.{chunks_of}
use Rattle.dym_pack.proofs.Heads.{head_len, maps_len_full, maps_len_inc}
use Rattle.dym_pack.proofs.record.Record.head_len.Goals as goal

pub returns-in-Full-clause-is : goal.returns-in-Full-clause-is
returns-in-Full-clause-is c log rec same =
    let map_is : c.map_bytes-map.result ≡ max 1 (chunks_of log.copy c.args.k / 8) = c.map_bytes-map.ensures.value ∙ ap (λ e. max 1 (per e / 8)) (c.area_class.ensures log rec same) in
    omega (arith, head_len log c.args.k, maps_len_full log c.args.k (sym (c.kind.ensures log rec same) ∙ c.in-Full.is))

pub returns-in-Inc-clause-is : goal.returns-in-Inc-clause-is
returns-in-Inc-clause-is c log rec same =
    let map_is : c.map_bytes-map.result ≡ max 1 (chunks_of log.copy c.args.k / 8) = c.map_bytes-map.ensures.value ∙ ap (λ e. max 1 (per e / 8)) (c.area_class.ensures log rec same) in
    omega (arith, head_len log c.args.k, maps_len_inc log c.args.k (sym (c.kind.ensures log rec same) ∙ c.in-Inc.is))
