use Rattle.std.proofs.Common.{◌<◌, ◌≤◌, ◌^◌, subst, arith}
use Rattle.dym_undo_object.specs.Places.{IsPlace, place_start}
use Rattle.dym_undo_object.proofs.Ranges.{alone}
use Rattle.dym_undo_object.proofs.touches.only_chunk.Goals as goal

pub returns-clause-only : goal.returns-clause-only
returns-clause-only c k =
    let h = c.args.heap.now in
    let chunk = c.in-Some.h in
    let small : chunk.index < 2 ^ 32 = search in
    alone h chunk c.args.from c.args.end c.requires small (omega (arith, c.if-end-from.false)) c.in-Some.ensures.found c.in-Some.ensures.only
    (λ e i place before. (let next : c.chunk_end.result ≤ place_start h.quota e i
    = subst (λ q. IsPlace q e i → c.args.from < place_start q e i → c.chunk_end.result ≤ place_start q e i) c.quota.ensures (c.chunk_end.ensures.none e i) place before in
    omega (arith, next, c.if-chunk_end-end.false))) k
