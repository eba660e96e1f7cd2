use Rattle.std.proofs.Common.{rules, [], ap, sym, ◌∙◌}
use Rattle.dym_bits.specs.Bits.{bit_in, bits_of_bytes}
use Rattle.dym_ckpt.proofs.Based.{based_by_bits, based_by_itself, bare_chunk, bare_there, area_there, named_is}
use Rattle.dym_ckpt.proofs.Coverings.{none_in}
use Rattle.dym_ckpt.proofs.record_order.area_is_based.Goals as goal

pub returns-then-are_covered-clause-is : goal.returns-then-are_covered-clause-is
returns-then-are_covered-clause-is c _ b is_b from_b log is from =
    based_by_itself b log c.args.k (bits_of_bytes c.use_bytes-used.result.now) (bits_of_bytes c.bytes-packed.result) (bits_of_bytes [])
    (c.use_bytes-used.ensures.bits log is from)
    (λ i. ap (λ bits. bit_in bits i) c.bytes-packed.ensures.bits ∙ c.packed_bits.ensures log is from i)
    none_in (c.are_covered.ensures.covered c.if-are_covered.true)

pub returns-in_err-place-clause-fails : goal.returns-in_err-place-clause-fails
returns-in_err-place-clause-fails c _ b is_b from_b log is from based =
    let bare = c.are_covered.ensures.bare c.if-are_covered.false in
    let chunk = bare_chunk b log c.args.k bare.0 (bits_of_bytes c.use_bytes-used.result.now) (bits_of_bytes c.bytes-packed.result)
    (c.use_bytes-used.ensures.bits log is from)
    (λ i. ap (λ bits. bit_in bits i) c.bytes-packed.ensures.bits ∙ c.packed_bits.ensures log is from i)
    bare.1 bare.2 based in
    let there = area_there b log is_b is c.args.k bare.0 (c.requires.area log is from) chunk.0 chunk.1 in
    let name = named_is log.copy c.args.k c.area-exp.result.exp c.area-exp.result.ordinal (c.area-exp.ensures.exp log is from) (c.area-exp.ensures.ordinal log is from) in
    c.in_err-place.ensures.none (search rules) b is_b from_b there.0 there.1 (there.2 ∙ sym name)

pub returns-then-are_covered-2-clause-is : goal.returns-then-are_covered-2-clause-is
returns-then-are_covered-2-clause-is c _ b is_b from_b log is from =
    let name = named_is log.copy c.args.k c.area-exp.result.exp c.area-exp.result.ordinal (c.area-exp.ensures.exp log is from) (c.area-exp.ensures.ordinal log is from) in
    let place = c.in_ok-place.ensures.is b is_b from_b in
    based_by_bits b log c.args.k c.in_ok-place.place (bits_of_bytes c.use_bytes-used.result.now) (bits_of_bytes c.bytes-packed.result) (bits_of_bytes c.use_bytes.result.now)
    (c.use_bytes-used.ensures.bits log is from)
    (λ i. ap (λ bits. bit_in bits i) c.bytes-packed.ensures.bits ∙ c.packed_bits.ensures log is from i)
    (c.use_bytes.ensures.bits b is_b from_b)
    (place.1 ∙ name) (c.are_covered-2.ensures.covered c.if-are_covered-2.true)

pub returns-else-are_covered-2-clause-fails : goal.returns-else-are_covered-2-clause-fails
returns-else-are_covered-2-clause-fails c _ b is_b from_b log is from based =
    let name = named_is log.copy c.args.k c.area-exp.result.exp c.area-exp.result.ordinal (c.area-exp.ensures.exp log is from) (c.area-exp.ensures.ordinal log is from) in
    let place = c.in_ok-place.ensures.is b is_b from_b in
    let bare = c.are_covered-2.ensures.bare c.if-are_covered-2.false in
    bare_there b log c.args.k c.in_ok-place.place bare.0 (bits_of_bytes c.use_bytes-used.result.now) (bits_of_bytes c.bytes-packed.result) (bits_of_bytes c.use_bytes.result.now)
    (c.use_bytes-used.ensures.bits log is from)
    (λ i. ap (λ bits. bit_in bits i) c.bytes-packed.ensures.bits ∙ c.packed_bits.ensures log is from i)
    (c.use_bytes.ensures.bits b is_b from_b)
    (place.1 ∙ name) bare.1 bare.2 bare.3 based
