use Rattle.std.proofs.Common.{◌+◌, ◌++◌, length, ap, sym, ◌∙◌, arith}
use Rattle.dym_base.specs.Packed.{packed_chunk}
use Rattle.dym_base.specs.declared.command.Version.TheVariants.{Two}
use Rattle.dym_pack.specs.Areas.{logged}
use Rattle.dym_pack.specs.ParsedAreas.{body_from}
use Rattle.dym_pack.proofs.Named.{few_chunks}
use Rattle.dym_pack.proofs.Chunks.{limit_clear, next_packed, none_packed, next_smaller, packed_len_most, chunk_bytes, chunk_bytes_two}
use Rattle.dym_pack.proofs.Logs.{lent}
use Rattle.dym_pack.proofs.Written.{put_more, put_all}
use Rattle.dym_pack.proofs.area_bytes.put_chunks.Goals as goal

pub next_set_within-requires-clause-within : goal.next_set_within-requires-clause-within
next_set_within-requires-clause-within g c = omega (arith, c.loop-i.invariant.within, c.chunk_count-chunks.ensures)

pub next_set_within-requires-clause-limit : goal.next_set_within-requires-clause-limit
next_set_within-requires-clause-limit g c =
    let few = few_chunks (g.A.Areas.meaning c.args.areas.now).live c.args.k c.requires.area in
    omega (arith, c.chunk_count-chunks.ensures)

pub next_set_within-requires-clause-clear : goal.next_set_within-requires-clause-clear
next_set_within-requires-clause-clear g c =
    limit_clear (logged (g.A.Areas.meaning c.args.areas.now) c.args.kind 0) c.args.k c.args.bits.now c.requires.bits c.chunk_count-chunks.result c.chunk_count-chunks.ensures

pub put_chunk-requires : goal.put_chunk-requires
put_chunk-requires g c =
    let m = g.A.Areas.meaning c.args.areas.now in
    let log = logged m c.args.kind 0 in
    let next = next_packed log c.args.k c.args.bits.now c.requires.bits c.loop-i.from c.in-Some.i c.in-Some.ensures in
    omega (arith, ap length c.chunk_bytes.ensures, packed_len_most log (lent m c.args.kind 0 c.requires.packable) c.args.k c.in-Some.i c.requires.area next.0 next.1)

pub loop-i-smaller : goal.loop-i-smaller
loop-i-smaller g c =
    next_smaller (logged (g.A.Areas.meaning c.args.areas.now) c.args.kind 0) c.args.k c.args.bits.now c.requires.bits c.requires.area c.loop-i.from c.in-Some.i c.in-Some.ensures

pub loop-i-preserved : goal.loop-i-preserved
loop-i-preserved g c =
    let m = g.A.Areas.meaning c.args.areas.now in
    let log = logged m c.args.kind 0 in
    let next = next_packed log c.args.k c.args.bits.now c.requires.bits c.loop-i.from c.in-Some.i c.in-Some.ensures in
    record {
      within = omega (arith, next.0);
      so_far = put_more c.loop-i.out.items c.put_chunk.new.out.items (chunk_bytes log c.args.k c.in-Some.i) (body_from log c.args.k (c.in-Some.i + 1)) (body_from log c.args.k c.loop-i.from) c.args.out.now.items (body_from log c.args.k 0)
          (c.in_ok-put_chunk.ensures ∙ ap (λ bytes. c.loop-i.out.items ++ packed_chunk Two bytes) c.chunk_bytes.ensures ∙ ap (λ bytes. c.loop-i.out.items ++ bytes) (sym (chunk_bytes_two log c.requires.version c.args.k c.in-Some.i)))
          next.2 c.loop-i.invariant.so_far;
    }

pub returns : goal.returns
returns g c =
    let log = logged (g.A.Areas.meaning c.args.areas.now) c.args.kind 0 in
    put_all c.loop-i.out.items (body_from log c.args.k c.loop-i.from) c.args.out.now.items (body_from log c.args.k 0) (none_packed log c.args.k c.args.bits.now c.requires.bits c.loop-i.from c.in_default.ensures) c.loop-i.invariant.so_far
