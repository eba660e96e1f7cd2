use Rattle.std.proofs.Common.{List}
use Rattle.std.proofs.Common.{ℕ, ◌+◌, ◌-◌, ◌/◌, ◌%◌, ◌≤◌, length, drop, get_or, nat_eq, ap, sym, ◌∙◌, arith}
use Rattle.dym_base.specs.Packed.{packed}
use Rattle.dym_pack.specs.Areas.{area_at, chunks_of, is_used_at}
use Rattle.std.specs.Int.{bit_at}
use Rattle.std.proofs.lemmas.List.{take_rest, length-take, length-drop}
use Rattle.dym_pack.proofs.Slices.{use_fits, use_at}
use Rattle.dym_pack.proofs.Bitmaps.{test_of_bitmap}
use Rattle.dym_pack.proofs.Named.{area_is}
use Rattle.dym_pack.proofs.Unique.{per_room}
use Rattle.dym_pack.proofs.record.Record.is_used.Goals as goal

pub is_bit-requires : goal.is_bit-requires
is_bit-requires c =
    let log = c.whole-bytes.ensures.is.0 in
    let rec = c.whole-bytes.ensures.is.1 in
    let same = c.whole-bytes.ensures.is.2 ∙ c.whole-bytes.ensures.same in
    let long = ap length c.whole-bytes.ensures.is.2 in
    let within = c.requires.area log rec same in
    let inside = c.requires.chunk log rec same in
    let is = area_is log.copy c.args.k within in
    let room = per_room (area_at log.copy c.args.k).exponent is.least is.most in
    let at = c.start.result + 5 in
    omega (arith, use_fits log c.args.k within, c.start.ensures.at log rec same, length-take (length c.whole-bytes.result.now - at) (drop at c.whole-bytes.result.now), length-drop at c.whole-bytes.result.now)

pub returns : goal.returns
returns c log rec same =
    let within = c.requires.area log rec same in
    let inside = c.requires.chunk log rec same in
    let is = area_is log.copy c.args.k within in
    let room = per_room (area_at log.copy c.args.k).exponent is.least is.most in
    let at = c.start.result + 5 in
    let test = λ (bytes : List ℕ). nat_eq (bit_at (get_or bytes (c.args.i / 8) 0) (c.args.i % 8)) 1 in
    c.is_bit.ensures
    ∙ ap test (take_rest c.whole-bytes.result.now at)
    ∙ ap (λ bytes. test (drop at bytes)) (c.whole-bytes.ensures.same ∙ sym same)
    ∙ ap (λ s. test (drop (s + 5) (packed log))) (c.start.ensures.at log rec same)
    ∙ ap (λ n. nat_eq (bit_at n (c.args.i % 8)) 1) (use_at log c.args.k (c.args.i / 8) within (omega arith))
    ∙ test_of_bitmap (chunks_of log.copy c.args.k) (is_used_at log.copy c.args.k) c.args.i inside (omega arith)

pub slice_bounds-is_bit-count : goal.slice_bounds-is_bit-count
slice_bounds-is_bit-count c =
    let log = c.whole-bytes.ensures.is.0 in
    let rec = c.whole-bytes.ensures.is.1 in
    let same = c.whole-bytes.ensures.is.2 ∙ c.whole-bytes.ensures.same in
    let long = ap length c.whole-bytes.ensures.is.2 in
    let short : c.start.result + 5 ≤ length c.whole-bytes.result.now = omega (arith, use_fits log c.args.k (c.requires.area log rec same), c.start.ensures.at log rec same) in
    short

pub slice_bounds-is_bit-start : goal.slice_bounds-is_bit-start
slice_bounds-is_bit-start c =
    let log = c.whole-bytes.ensures.is.0 in
    let rec = c.whole-bytes.ensures.is.1 in
    let same = c.whole-bytes.ensures.is.2 ∙ c.whole-bytes.ensures.same in
    let long = ap length c.whole-bytes.ensures.is.2 in
    let short : c.start.result + 5 ≤ length c.whole-bytes.result.now = omega (arith, use_fits log c.args.k (c.requires.area log rec same), c.start.ensures.at log rec same) in
    short
