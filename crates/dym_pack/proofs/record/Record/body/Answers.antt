use Rattle.std.proofs.Common.{◌≡◌, ◌+◌, ◌-◌, ◌≤◌, length, take, drop, ap, sym, ◌∙◌, arith}
use Rattle.dym_base.specs.Packed.{packed}
use Rattle.dym_pack.specs.Offsets.{start_of}
use Rattle.dym_pack.specs.Offsets.{area_head}
use Rattle.dym_pack.proofs.Slices.{area_ends, body_read}
use Rattle.dym_pack.proofs.record.Record.body.Goals as goal

pub returns : goal.returns
returns c log rec same =
    let packs = c.requires log rec same in
    let ends = area_ends log c.args.k packs in
    let from = c.start.ensures.at log rec same in
    let to = c.start-2.ensures.at log rec same in
    let head = c.head_len.ensures.is log rec same in
    let at : c.start.result + c.head_len.result ≡ start_of log c.args.k + length (area_head log c.args.k) = omega arith in
    let n = c.start-2.result - (c.start.result + c.head_len.result) in
    ap (λ bytes. take n (drop (c.start.result + c.head_len.result) bytes)) (c.whole-bytes.ensures.same ∙ sym same)
    ∙ ap (λ a. take n (drop a (packed log))) at
    ∙ body_read log c.args.k n packs (omega arith)

pub slice_bounds-result-count : goal.slice_bounds-result-count
slice_bounds-result-count c =
    let log = c.whole-bytes.ensures.is.0 in
    let rec = c.whole-bytes.ensures.is.1 in
    let same = c.whole-bytes.ensures.is.2 ∙ c.whole-bytes.ensures.same in
    let long = ap length c.whole-bytes.ensures.is.2 in
    let packs = c.requires log rec same in
    let ends = area_ends log c.args.k packs in
    let from = c.start.ensures.at log rec same in
    let to = c.start-2.ensures.at log rec same in
    let head = c.head_len.ensures.is log rec same in
    omega arith

pub slice_bounds-result-start : goal.slice_bounds-result-start
slice_bounds-result-start c =
    let log = c.whole-bytes.ensures.is.0 in
    let rec = c.whole-bytes.ensures.is.1 in
    let same = c.whole-bytes.ensures.is.2 ∙ c.whole-bytes.ensures.same in
    let long = ap length c.whole-bytes.ensures.is.2 in
    let packs = c.requires log rec same in
    let ends = area_ends log c.args.k packs in
    let from = c.start.ensures.at log rec same in
    let to = c.start-2.ensures.at log rec same in
    let head = c.head_len.ensures.is log rec same in
    let short : c.start.result + c.head_len.result ≤ c.start-2.result = omega arith in
    short
