use Rattle.std.proofs.Common.{length, ap, arith}
use Rattle.dym_pack.specs.Areas.{logged}
use Rattle.dym_pack.proofs.Named.{few_chunks}
use Rattle.dym_pack.proofs.Chunks.{limit_clear, next_packed, none_packed, next_smaller, packed_len_most, body_most, step_len_two}
use Rattle.dym_pack.proofs.Logs.{lent}
use Rattle.dym_pack.proofs.area_bytes.chunks_len.Goals as goal

pub next_set_within-requires-clause-within : goal.next_set_within-requires-clause-within
next_set_within-requires-clause-within g c = omega (arith, c.loop-i.invariant.within, c.chunk_count-chunks.ensures)

pub next_set_within-requires-clause-limit : goal.next_set_within-requires-clause-limit
next_set_within-requires-clause-limit g c =
    let few = few_chunks (g.A.Areas.meaning c.args.areas.now).live c.args.k c.requires.area in
    omega (arith, c.chunk_count-chunks.ensures)

pub next_set_within-requires-clause-clear : goal.next_set_within-requires-clause-clear
next_set_within-requires-clause-clear g c =
    limit_clear (logged (g.A.Areas.meaning c.args.areas.now) c.args.kind 0) c.args.k c.args.bits.now c.requires.bits c.chunk_count-chunks.result c.chunk_count-chunks.ensures

pub overflow_add-len : goal.overflow_add-len
overflow_add-len g c =
    let m = g.A.Areas.meaning c.args.areas.now in
    let log = logged m c.args.kind 0 in
    let next = next_packed log c.args.k c.args.bits.now c.requires.bits c.loop-i.from c.in-Some.i c.in-Some.ensures in
    let most = packed_len_most log (lent m c.args.kind 0 c.requires.packable) c.args.k c.in-Some.i c.requires.area next.0 next.1 in
    omega (arith, c.chunk_len.ensures)

pub overflow_add-len-in-Some : goal.overflow_add-len-in-Some
overflow_add-len-in-Some g c =
    let m = g.A.Areas.meaning c.args.areas.now in
    let log = logged m c.args.kind 0 in
    let next = next_packed log c.args.k c.args.bits.now c.requires.bits c.loop-i.from c.in-Some.i c.in-Some.ensures in
    let long = step_len_two log c.requires.version c.args.k c.loop-i.from c.in-Some.i next.2 in
    let most = body_most log (lent m c.args.kind 0 c.requires.packable) c.args.k c.requires.area in
    omega (arith, c.chunk_len.ensures, c.loop-i.invariant.so_far)

pub loop-i-smaller : goal.loop-i-smaller
loop-i-smaller g c =
    next_smaller (logged (g.A.Areas.meaning c.args.areas.now) c.args.kind 0) c.args.k c.args.bits.now c.requires.bits c.requires.area c.loop-i.from c.in-Some.i c.in-Some.ensures

pub loop-i-preserved : goal.loop-i-preserved
loop-i-preserved g c =
    let m = g.A.Areas.meaning c.args.areas.now in
    let log = logged m c.args.kind 0 in
    let next = next_packed log c.args.k c.args.bits.now c.requires.bits c.loop-i.from c.in-Some.i c.in-Some.ensures in
    let long = step_len_two log c.requires.version c.args.k c.loop-i.from c.in-Some.i next.2 in
    record {
      within = omega (arith, next.0);
      so_far = omega (arith, c.chunk_len.ensures, c.loop-i.invariant.so_far);
    }

pub returns : goal.returns
returns g c =
    let m = g.A.Areas.meaning c.args.areas.now in
    let log = logged m c.args.kind 0 in
    let left = ap length (none_packed log c.args.k c.args.bits.now c.requires.bits c.loop-i.from c.in_default.ensures) in
    omega (arith, c.loop-i.invariant.so_far)
