use Rattle.std.proofs.Common.{◌≡◌, ◌+◌, ◌-◌, ◌/◌, ◌≤◌, max, length, take, drop, ap, sym, ◌∙◌, arith}
use Rattle.dym_base.specs.Numbers.{per}
use Rattle.dym_base.specs.Packed.{packed}
use Rattle.dym_pack.specs.Areas.{chunks_of}
use Rattle.std.proofs.lemmas.List.{length-take}
use Rattle.dym_pack.proofs.Slices.{use_fits, use_read}
use Rattle.dym_pack.proofs.record.Record.use_map.Goals as goal

pub slice_bounds-result-end : goal.slice_bounds-result-end
slice_bounds-result-end c =
    let log = c.whole-bytes.ensures.is.0 in
    let rec = c.whole-bytes.ensures.is.1 in
    let same = c.whole-bytes.ensures.is.2 ∙ c.whole-bytes.ensures.same in
    let long = ap length c.whole-bytes.ensures.is.2 in
    let map_is : c.map_bytes-map.result ≡ max 1 (chunks_of log.copy c.args.k / 8) = c.map_bytes-map.ensures.value ∙ ap (λ e. max 1 (per e / 8)) (c.area_class.ensures log rec same) in
    let short : c.start-at.result + 5 + c.map_bytes-map.result ≤ length c.whole-bytes.result.now = omega (arith, use_fits log c.args.k (c.requires log rec same), c.start-at.ensures.at log rec same) in
    short

pub returns-clause-is : goal.returns-clause-is
returns-clause-is c log rec same =
    let map_is : c.map_bytes-map.result ≡ max 1 (chunks_of log.copy c.args.k / 8) = c.map_bytes-map.ensures.value ∙ ap (λ e. max 1 (per e / 8)) (c.area_class.ensures log rec same) in
    let n_is : c.start-at.result + 5 + c.map_bytes-map.result - (c.start-at.result + 5) ≡ c.map_bytes-map.result = omega arith in
    ap (λ n. take n (drop (c.start-at.result + 5) c.whole-bytes.result.now)) n_is
    ∙ ap (λ bytes. take c.map_bytes-map.result (drop (c.start-at.result + 5) bytes)) (c.whole-bytes.ensures.same ∙ sym same)
    ∙ ap (λ s. take c.map_bytes-map.result (drop (s + 5) (packed log))) (c.start-at.ensures.at log rec same)
    ∙ use_read log c.args.k c.map_bytes-map.result (c.requires log rec same) map_is

pub returns-clause-few : goal.returns-clause-few
returns-clause-few c =
    omega (arith, length-take (c.start-at.result + 5 + c.map_bytes-map.result - (c.start-at.result + 5)) (drop (c.start-at.result + 5) c.whole-bytes.result.now), c.map_bytes-map.ensures.few)
