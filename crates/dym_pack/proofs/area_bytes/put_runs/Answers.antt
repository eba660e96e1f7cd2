use Rattle.std.proofs.Common.{◌≡◌, ◌-◌, ◌<◌, ◌++◌, ap, sym, ◌∙◌, arith}
use Rattle.std.specs.List.{flat_map, range_with_len}
use Rattle.dym_pack.specs.Areas.{logged}
use Rattle.dym_pack.specs.ParsedAreas.{body_from}
use Rattle.dym_pack.proofs.Named.{few_chunks}
use Rattle.dym_pack.proofs.Chunks.{limit_clear, next_packed, none_packed, packs_used, chunk_bytes, chunk_bytes_one, run_end_all, run_packed}
use Rattle.dym_pack.proofs.Logs.{lent}
use Rattle.dym_pack.proofs.Written.{put_more, put_all}
use Rattle.dym_pack.proofs.area_bytes.put_runs.Goals as goal

pub next_set_within-requires-clause-within : goal.next_set_within-requires-clause-within
next_set_within-requires-clause-within g c = omega (arith, c.loop-first.invariant.within, c.chunk_count-chunks.ensures)

pub next_set_within-requires-clause-limit : goal.next_set_within-requires-clause-limit
next_set_within-requires-clause-limit g c =
    let few = few_chunks (g.A.Areas.meaning c.args.areas.now).live c.args.k c.requires.area in
    omega (arith, c.chunk_count-chunks.ensures)

pub next_set_within-requires-clause-clear : goal.next_set_within-requires-clause-clear
next_set_within-requires-clause-clear g c =
    limit_clear (logged (g.A.Areas.meaning c.args.areas.now) c.args.kind 0) c.args.k c.args.bits.now c.requires.bits c.chunk_count-chunks.result c.chunk_count-chunks.ensures

pub run_end-end-requires-clause-within : goal.run_end-end-requires-clause-within
run_end-end-requires-clause-within g c =
    let m = g.A.Areas.meaning c.args.areas.now in
    let log = logged m c.args.kind 0 in
    let few = few_chunks m.live c.args.k c.requires.area in
    let first = next_packed log c.args.k c.args.bits.now c.requires.bits c.loop-first.from c.in-Some.first c.in-Some.ensures in
    omega (arith, first.0)

pub run_bytes-requires-clause-chunks : goal.run_bytes-requires-clause-chunks
run_bytes-requires-clause-chunks g c =
    let log = logged (g.A.Areas.meaning c.args.areas.now) c.args.kind 0 in
    let run = run_end_all log c.args.k c.args.bits.now c.requires.bits c.in-Some.first c.run_end-end.result c.run_end-end.ensures.after c.run_end-end.ensures.run in
    omega (arith, run.within, run.after)

pub run_bytes-requires-clause-used : goal.run_bytes-requires-clause-used
run_bytes-requires-clause-used g c i low high =
    let m = g.A.Areas.meaning c.args.areas.now in
    let log = logged m c.args.kind 0 in
    let ok = lent m c.args.kind 0 c.requires.packable in
    let run = run_end_all log c.args.k c.args.bits.now c.requires.bits c.in-Some.first c.run_end-end.result c.run_end-end.ensures.after c.run_end-end.ensures.run in
    packs_used log ok c.args.k i (run.packed i low (omega (arith, run.after)))

pub loop-first-smaller : goal.loop-first-smaller
loop-first-smaller g c =
    let m = g.A.Areas.meaning c.args.areas.now in
    let log = logged m c.args.kind 0 in
    let few = few_chunks m.live c.args.k c.requires.area in
    let run = run_end_all log c.args.k c.args.bits.now c.requires.bits c.in-Some.first c.run_end-end.result c.run_end-end.ensures.after c.run_end-end.ensures.run in
    let at_least = c.in-Some.ensures.at_least in
    let less : 2048 - c.run_end-end.result < 2048 - c.loop-first.from = omega (arith, run.within, run.after) in
    less

pub loop-first-preserved : goal.loop-first-preserved
loop-first-preserved g c =
    let log = logged (g.A.Areas.meaning c.args.areas.now) c.args.kind 0 in
    let run = run_end_all log c.args.k c.args.bits.now c.requires.bits c.in-Some.first c.run_end-end.result c.run_end-end.ensures.after c.run_end-end.ensures.run in
    let count = c.run_end-end.result - c.in-Some.first in
    let part = flat_map (chunk_bytes log c.args.k) (range_with_len c.in-Some.first count) in
    let split = run_packed log c.args.k c.args.bits.now c.requires.bits c.loop-first.from c.in-Some.first c.run_end-end.result c.in-Some.ensures run in
    let lent : c.run_bytes.result.now ≡ part = c.run_bytes.ensures ∙ ap (λ f. flat_map f (range_with_len c.in-Some.first count)) (sym (chunk_bytes_one log c.requires.version c.args.k)) in
    record {
      within = run.within;
      so_far = put_more c.loop-first.out.items c.extend_from_slice.new.self.items part (body_from log c.args.k c.run_end-end.result) (body_from log c.args.k c.loop-first.from) c.args.out.now.items (body_from log c.args.k 0)
          (c.in_ok-extend_from_slice.ensures.items ∙ ap (λ bytes. c.loop-first.out.items ++ bytes) lent) split c.loop-first.invariant.so_far;
    }

pub returns : goal.returns
returns g c =
    let log = logged (g.A.Areas.meaning c.args.areas.now) c.args.kind 0 in
    put_all c.loop-first.out.items (body_from log c.args.k c.loop-first.from) c.args.out.now.items (body_from log c.args.k 0) (none_packed log c.args.k c.args.bits.now c.requires.bits c.loop-first.from c.in_default.ensures) c.loop-first.invariant.so_far
