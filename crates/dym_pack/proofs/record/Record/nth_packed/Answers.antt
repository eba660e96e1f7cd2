use Rattle.std.proofs.Common.{◌≡◌, ◌+◌, ◌-◌, ◌*◌, ◌≤◌, length, take, drop, ap, sym, subst, ◌∙◌, arith}
use Rattle.dym_base.specs.Numbers.{size}
use Rattle.dym_pack.specs.Areas.{area_at, bytes_at}
use Rattle.dym_pack.specs.ParsedAreas.{IsNth}
use Rattle.dym_pack.proofs.Chunks.{packable, before_chunk, nth_room_one, nth_read_one, nth_two}
use Rattle.dym_pack.proofs.record.Record.nth_packed.Goals as goal

pub slice_bounds-result-end : goal.slice_bounds-result-end
slice_bounds-result-end c =
    let log = c.requires.is.0 in
    let rec = c.requires.is.1 in
    let same = c.requires.is.2 in
    let one = sym (c.version.ensures log rec same) ∙ c.in-One.is in
    let size_is : c.size-size.result ≡ size (area_at log.copy c.args.k).exponent = c.size-size.ensures ∙ ap size (c.area_class.ensures log rec same) in
    let at_is : c.args.n * c.size-size.result ≡ length (before_chunk log c.args.k c.args.i) * size (area_at log.copy c.args.k).exponent = ap (λ n. n * c.size-size.result) (c.requires.count log rec same) ∙ ap (λ s. length (before_chunk log c.args.k c.args.i) * s) size_is in
    let room = nth_room_one log (packable log rec) one c.args.k (c.requires.area log rec same) c.args.i (c.requires.chunk log rec same) (c.requires.packs log rec same) in
    let short : c.args.n * c.size-size.result + c.size-size.result ≤ length c.body-body.result.now = omega (arith, ap length (c.body-body.ensures log rec same)) in
    short

pub chunk_after-requires : goal.chunk_after-requires
chunk_after-requires c =
    let log = c.requires.is.0 in
    let rec = c.requires.is.1 in
    let same = c.requires.is.2 in
    let two = sym (c.version.ensures log rec same) ∙ c.in-Two.is in
    (bytes_at log.copy c.args.k c.args.i, subst (λ bytes. IsNth bytes c.args.n (bytes_at log.copy c.args.k c.args.i)) (sym (c.body-body.ensures log rec same)) (nth_two log (packable log rec) two c.args.k c.args.i c.args.n (c.requires.area log rec same) (c.requires.chunk log rec same) (c.requires.packs log rec same) (c.requires.count log rec same)))

pub returns-in-One : goal.returns-in-One
returns-in-One c log rec same =
    let one = sym (c.version.ensures log rec same) ∙ c.in-One.is in
    let size_is : c.size-size.result ≡ size (area_at log.copy c.args.k).exponent = c.size-size.ensures ∙ ap size (c.area_class.ensures log rec same) in
    let at_is : c.args.n * c.size-size.result ≡ length (before_chunk log c.args.k c.args.i) * size (area_at log.copy c.args.k).exponent = ap (λ n. n * c.size-size.result) (c.requires.count log rec same) ∙ ap (λ s. length (before_chunk log c.args.k c.args.i) * s) size_is in
    let at = c.args.n * c.size-size.result in
    let len = at + c.size-size.result - at in
    let len_is : len ≡ size (area_at log.copy c.args.k).exponent = omega arith in
    ap (λ bytes. take len (drop at bytes)) (c.body-body.ensures log rec same)
    ∙ nth_read_one log (packable log rec) one c.args.k (c.requires.area log rec same) c.args.i (c.requires.chunk log rec same) (c.requires.packs log rec same) at len at_is len_is

pub returns-in-Two : goal.returns-in-Two
returns-in-Two c log rec same =
    let two = sym (c.version.ensures log rec same) ∙ c.in-Two.is in
    c.chunk_after.ensures (bytes_at log.copy c.args.k c.args.i)
    (subst (λ bytes. IsNth bytes c.args.n (bytes_at log.copy c.args.k c.args.i)) (sym (c.body-body.ensures log rec same)) (nth_two log (packable log rec) two c.args.k c.args.i c.args.n (c.requires.area log rec same) (c.requires.chunk log rec same) (c.requires.packs log rec same) (c.requires.count log rec same)))
