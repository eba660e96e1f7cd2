use Rattle.std.proofs.Common.{◌*◌, ◌≤◌, take, sym, subst, ap, ◌∙◌, arith, max, ◌/◌, nat_lt, Some}
use Rattle.std.proofs.lemmas.Bool.{true≢false}
use Rattle.dym_pack.specs.Contents.{IsMaps}
use Rattle.dym_base.specs.Packed.{bitmap}
use Rattle.dym_base.specs.declared.command.Kind.TheVariants.{Full}
use Rattle.dym_bits.specs.Bits.{bit_in, set_count}
use Rattle.dym_pack.proofs.Named.{most_per}
use Rattle.dym_pack.proofs.Unique.{per_room}
use Rattle.dym_pack.proofs.MapsRead.{full_is, used_first, maps_room, maps_one, made}
use Rattle.dym_pack.proofs.parsed_area.full_maps.Goals as goal

pub returns-then-bytes-map-clause-only : goal.returns-then-bytes-map-clause-only
returns-then-bytes-map-clause-only c parsed is = absurd (omega (arith, maps_room Full c.args.class.exp c.args.map c.args.bytes.now parsed c.requires.map is))

pub bits_in-requires-clause-most : goal.bits_in-requires-clause-most
bits_in-requires-clause-most c = omega (arith, most_per c.args.class.exp c.args.class.least)

pub bits_in-requires-clause-room : goal.bits_in-requires-clause-room
bits_in-requires-clause-room c = subst (λ n. n ≤ 8 * max 1 (n / 8)) (sym c.per_area-chunks.ensures) (per_room c.args.class.exp c.args.class.least c.args.class.most)

pub returns-in_err-used-clause-only : goal.returns-in_err-used-clause-only
returns-in_err-used-clause-only c parsed is =
    let first = used_first Full c.args.class.exp c.args.map c.args.bytes.now parsed c.requires.map is in
    absurd (true≢false (sym (c.in_err-used.ensures.only is.used (first ∙ ap (λ n. bitmap n is.used) (sym c.per_area-chunks.ensures)))))

pub count_below-packed-requires : goal.count_below-packed-requires
count_below-packed-requires c = omega (arith, most_per c.args.class.exp c.args.class.least)

full : (c : goal.After-count_below-packed) → IsMaps Full c.args.class.exp c.args.bytes.now (made (nat_lt 0 c.count_below-packed.result) c.count_below-packed.result c.args.map)
full c =
    full_is c.args.class.exp c.args.map c.count_below-packed.result c.args.bytes.now c.in_ok-used.used c.requires.map (omega arith)
    (c.in_ok-used.ensures.is ∙ ap (λ n. bitmap n (bit_in c.in_ok-used.used)) c.per_area-chunks.ensures)
    (c.count_below-packed.ensures.counted ∙ ap (λ n. set_count (take n c.in_ok-used.used)) c.per_area-chunks.ensures)

pub returns-clause-is : goal.returns-clause-is
returns-clause-is c = full c

pub returns-clause-only : goal.returns-clause-only
returns-clause-only c parsed is = ap Some (maps_one Full c.args.class.exp c.args.bytes.now _ parsed c.args.class.least c.args.class.most (full c) is)
