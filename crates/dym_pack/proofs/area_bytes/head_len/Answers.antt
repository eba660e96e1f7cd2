use Rattle.std.proofs.Common.{arith}
use Rattle.dym_base.specs.Numbers.{per}
use Rattle.std.proofs.Common.{◌≡◌, ◌/◌, max, ap, ◌∙◌}
use Rattle.dym_pack.specs.Areas.{logged, chunks_of}
use Rattle.dym_pack.proofs.Heads.{head_len, maps_len_full, maps_len_inc}
use Rattle.dym_pack.proofs.area_bytes.head_len.Goals as goal

pub returns-in-Full-clause-value : goal.returns-in-Full-clause-value
returns-in-Full-clause-value g c =
    let m = g.A.Areas.meaning c.args.areas.now in
    let log = logged m c.args.kind 0 in
    let map : c.map_bytes-map.result ≡ max 1 (chunks_of m.live c.args.k / 8) = c.map_bytes-map.ensures.value ∙ ap (λ e. max 1 (per e / 8)) c.requires.exp in
    omega (arith, head_len log c.args.k, maps_len_full log c.args.k c.in-Full.is)

pub returns-in-Inc-clause-value : goal.returns-in-Inc-clause-value
returns-in-Inc-clause-value g c =
    let m = g.A.Areas.meaning c.args.areas.now in
    let log = logged m c.args.kind 0 in
    let map : c.map_bytes-map.result ≡ max 1 (chunks_of m.live c.args.k / 8) = c.map_bytes-map.ensures.value ∙ ap (λ e. max 1 (per e / 8)) c.requires.exp in
    omega (arith, head_len log c.args.k, maps_len_inc log c.args.k c.in-Inc.is)
