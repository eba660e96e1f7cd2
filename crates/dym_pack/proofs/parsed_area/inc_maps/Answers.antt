use Rattle.std.proofs.Common.{rules, ◌*◌, ◌≤◌, take, sym, subst, ap, ◌∙◌, arith, max, ◌/◌, nat_lt, Some}
use Rattle.std.proofs.lemmas.Bool.{true≢false}
use Rattle.dym_pack.specs.Contents.{IsMaps}
use Rattle.dym_base.specs.Numbers.{per}
use Rattle.dym_base.specs.Packed.{bitmap}
use Rattle.dym_base.specs.declared.command.Kind.TheVariants.{Inc}
use Rattle.dym_bits.specs.Bits.{bit_in, set_count}
use Rattle.dym_pack.proofs.Named.{most_per}
use Rattle.dym_pack.proofs.Bitmaps.{length_bitmap}
use Rattle.dym_pack.proofs.Unique.{per_room}
use Rattle.dym_pack.proofs.MapsRead.{inc_is, used_first, touched_next, none_outside, maps_room, maps_one, made}
use Rattle.dym_pack.proofs.parsed_area.inc_maps.Goals as goal

pub returns-then-bytes-map-clause-only : goal.returns-then-bytes-map-clause-only
returns-then-bytes-map-clause-only c parsed is =
    absurd (omega (arith, maps_room Inc c.args.class.exp c.args.map c.args.bytes.now parsed c.requires.map is, length_bitmap (per c.args.class.exp) is.touched, c.requires.map))

pub bits_in-requires-clause-most : goal.bits_in-requires-clause-most
bits_in-requires-clause-most c = omega (arith, most_per c.args.class.exp c.args.class.least)

pub bits_in-requires-clause-room : goal.bits_in-requires-clause-room
bits_in-requires-clause-room c = subst (λ n. n ≤ 8 * max 1 (n / 8)) (sym c.per_area-chunks.ensures) (per_room c.args.class.exp c.args.class.least c.args.class.most)

pub bits_in-requires-2-clause-most : goal.bits_in-requires-2-clause-most
bits_in-requires-2-clause-most c = omega (arith, most_per c.args.class.exp c.args.class.least)

pub bits_in-requires-2-clause-room : goal.bits_in-requires-2-clause-room
bits_in-requires-2-clause-room c = subst (λ n. n ≤ 8 * max 1 (n / 8)) (sym c.per_area-chunks.ensures) (per_room c.args.class.exp c.args.class.least c.args.class.most)

pub returns-in_err-used-clause-only : goal.returns-in_err-used-clause-only
returns-in_err-used-clause-only c parsed is =
    let first = used_first Inc c.args.class.exp c.args.map c.args.bytes.now parsed c.requires.map is in
    absurd (true≢false (sym (c.in_err-used.ensures.only is.used (first ∙ ap (λ n. bitmap n is.used) (sym c.per_area-chunks.ensures)))))

pub returns-in_err-touched-clause-only : goal.returns-in_err-touched-clause-only
returns-in_err-touched-clause-only c parsed is =
    let next = touched_next c.args.class.exp c.args.map c.args.bytes.now parsed c.requires.map is in
    absurd (true≢false (sym (c.in_err-touched.ensures.only is.touched (ap (take c.args.map) c.rest_from.ensures ∙ next ∙ ap (λ n. bitmap n is.touched) (sym c.per_area-chunks.ensures)))))

pub returns-then-not-is_within-clause-only : goal.returns-then-not-is_within-clause-only
returns-then-not-is_within-clause-only c parsed is =
    let out = c.is_within.ensures.outside (search rules) in
    absurd (none_outside c.args.class.exp c.args.map out.0 c.args.bytes.now parsed c.in_ok-used.used c.in_ok-touched.touched c.args.class.least c.args.class.most c.requires.map is
    (c.in_ok-used.ensures.is ∙ ap (λ n. bitmap n (bit_in c.in_ok-used.used)) c.per_area-chunks.ensures)
    (ap (take c.args.map) (sym c.rest_from.ensures) ∙ c.in_ok-touched.ensures.is ∙ ap (λ n. bitmap n (bit_in c.in_ok-touched.touched)) c.per_area-chunks.ensures)
    (λ i past. c.in_ok-touched.ensures.clear i (omega arith))
    out.1 out.2)

pub count_below-requires : goal.count_below-requires
count_below-requires c = omega (arith, most_per c.args.class.exp c.args.class.least)

pub count_below-requires-2 : goal.count_below-requires-2
count_below-requires-2 c = omega (arith, most_per c.args.class.exp c.args.class.least)

inc : (c : goal.After-count_below-2) → IsMaps Inc c.args.class.exp c.args.bytes.now (made (nat_lt 0 c.count_below.result) c.count_below-2.result (2 * c.args.map))
inc c =
    inc_is c.args.class.exp c.args.map c.count_below-2.result c.count_below.result c.args.bytes.now c.in_ok-used.used c.in_ok-touched.touched c.requires.map (omega arith)
    (c.in_ok-used.ensures.is ∙ ap (λ n. bitmap n (bit_in c.in_ok-used.used)) c.per_area-chunks.ensures)
    (ap (take c.args.map) (sym c.rest_from.ensures) ∙ c.in_ok-touched.ensures.is ∙ ap (λ n. bitmap n (bit_in c.in_ok-touched.touched)) c.per_area-chunks.ensures)
    (c.is_within.ensures.within (search rules))
    (c.count_below.ensures.counted ∙ ap (λ n. set_count (take n c.in_ok-used.used)) c.per_area-chunks.ensures)
    (c.count_below-2.ensures.counted ∙ ap (λ n. set_count (take n c.in_ok-touched.touched)) c.per_area-chunks.ensures)

pub returns-clause-is : goal.returns-clause-is
returns-clause-is c = inc c

pub returns-clause-only : goal.returns-clause-only
returns-clause-only c parsed is = ap Some (maps_one Inc c.args.class.exp c.args.bytes.now _ parsed c.args.class.least c.args.class.most (inc c) is)
