use Rattle.std.proofs.Common.{◌+◌, ◌≤◌, vec_len, arith, sym, subst}
use Rattle.std.specs.FinMap.{entries}
use Rattle.dym_base.specs.HeapStep.{key}
use Rattle.dym_heap.specs.Replies.{after_key}
use Rattle.dym_heap.proofs.Sums.{chunk_fits}
use Rattle.dym_view.specs.Copies.{entries_of}
use Rattle.dym_view.proofs.Entries.{Chunks, IsMet, met_none, met_more, met_all}
use Rattle.dym_view.proofs.Tables.{sorted, stands_for}
use Rattle.dym_view.proofs.Walks.{rank, rank_step, rank_few, small_index, count_within}
use Rattle.dym_view.proofs.commit_copy.copy_heap.Goals as goal

pub push-requires-clause-small : goal.push-requires-clause-small
push-requires-clause-small c = chunk_fits c.args.heap.now (key c.in-Some.h) c.in-Some-bytes.bytes.now c.requires c.in-Some-bytes.ensures

pub loop-h-init : goal.loop-h-init
loop-h-init c =
    let live = c.args.heap.now.state.live in
    record {
      table = c.new-copied.ensures.table;
      met = subst (λ (es : Chunks). IsMet (entries live) es 0) (sym c.new-copied.ensures.empty) (met_none live);
      count = omega (arith, c.new-copied.ensures.count);
      few = omega (arith, c.new-copied.ensures.count);
      total = omega (arith, c.new-copied.ensures.total);
    }

pub loop-h-smaller : goal.loop-h-smaller
loop-h-smaller c =
    let live = c.args.heap.now.state.live in
    let k = key c.in-Some.h in
    let met = met_more live (entries_of c.loop-h.copied) (entries_of c.push.new.self) (after_key c.loop-h.last) _ k c.in-Some-bytes.bytes.now
    c.in_ok-push.ensures.entries c.number.ensures c.loop-h.invariant.met c.in-Some.ensures.at_least c.in-Some-bytes.ensures c.in-Some.ensures.least in
    omega (arith, count_within (entries live) c.push.new.self (k + 1) met, c.in_ok-push.ensures.count)

pub loop-h-preserved : goal.loop-h-preserved
loop-h-preserved c =
    let live = c.args.heap.now.state.live in
    let k = key c.in-Some.h in
    let inv = c.loop-h.invariant in
    let pushed = c.in_ok-push.ensures in
    let met = met_more live (entries_of c.loop-h.copied) (entries_of c.push.new.self) (after_key c.loop-h.last) _ k c.in-Some-bytes.bytes.now
    pushed.entries c.number.ensures inv.met c.in-Some.ensures.at_least c.in-Some-bytes.ensures c.in-Some.ensures.least in
    let index = small_index c.args.heap.now k c.requires c.in-Some.ensures.is_live in
    let more = rank_step (after_key c.loop-h.last) k c.in-Some.ensures.at_least index in
    let most = rank_few k (c.requires.most_class k c.in-Some.ensures.is_live) index in
    let counted : vec_len c.push.new.self.chunk_ranges ≤ rank (k + 1) = omega (arith, more, inv.count, pushed.count) in
    record {
      table = pushed.table;
      met = met;
      count = counted;
      few = omega (arith, counted, most);
      total = omega (arith, pushed.total, pushed.count, inv.total);
    }

pub returns-clause-whole : goal.returns-clause-whole
returns-clause-whole c =
    let live = c.args.heap.now.state.live in
    let inv = c.loop-h.invariant in
    let all = met_all live (entries_of c.loop-h.copied) (after_key c.loop-h.last) inv.met c.in_default.ensures in
    record { table = inv.table; sorted = sorted c.loop-h.copied live all; few = omega (arith, inv.few, c.loop-h.copied.chunk_ranges.ok.0) }

pub returns-clause-copy : goal.returns-clause-copy
returns-clause-copy c =
    let live = c.args.heap.now.state.live in
    stands_for c.loop-h.copied live (met_all live (entries_of c.loop-h.copied) (after_key c.loop-h.last) c.loop-h.invariant.met c.in_default.ensures)
