-- Of the live chunks those after the last one are not yet counted.
use Rattle.std.proofs.Common.{◌≡◌, ℕ, ◌+◌, ◌/◌, ◌^◌, ◌≤◌, length, ap, sym, ◌∙◌, arith, None}
use Rattle.std.specs.FinMap.{len, len-entries}
use Rattle.dym_base.specs.HeapStep.{key}
use Rattle.dym_heap.specs.Replies.{after_key, IsNextLive}
use Rattle.dym_report.proofs.EntriesInOrder.{entries_from_start}
use Rattle.dym_report.proofs.LiveWalk.{left_after, walk_ends, walk_shortens, walk_falls}
use Rattle.dym_report.proofs.object_report.live_chunks.Goals as goal

small_key : (k : ℕ) → k / 2 ^ 32 ≤ 16 → k + 1 ≤ 2 ^ 37
small_key k within = omega (arith, within)

pub loop-handle-init : goal.loop-handle-init
loop-handle-init g c =
    let all : length (left_after c.args.heap.now.state.live None) ≡ len c.args.heap.now.state.live =
    ap length (entries_from_start c.args.heap.now.state.live) ∙ sym (len-entries c.args.heap.now.state.live) in
    record { count = omega (arith, all); few = omega arith; small = omega arith }

pub loop-handle-smaller : goal.loop-handle-smaller
loop-handle-smaller g c = walk_falls c.args.heap.now.state.live c.loop-handle.last c.in-Some.handle c.in-Some.ensures

pub loop-handle-preserved : goal.loop-handle-preserved
loop-handle-preserved g c =
    let next : IsNextLive c.args.heap.now.state.live (after_key c.loop-handle.last) (key c.in-Some.handle) = c.in-Some.ensures in
    let shorter = walk_shortens c.args.heap.now.state.live c.loop-handle.last c.in-Some.handle next in
    let few : c.loop-handle.chunks + 1 ≤ key c.in-Some.handle + 1 = omega (arith, next.at_least, c.loop-handle.invariant.few) in
    record {
      count = omega (arith, shorter, c.loop-handle.invariant.count);
      few = few;
      small = omega
          (arith, few, small_key (key c.in-Some.handle) (c.requires.sound.most_class (key c.in-Some.handle) next.is_live));
    }

pub returns-clause-few : goal.returns-clause-few
returns-clause-few g c = c.loop-handle.invariant.small

pub returns-clause-counted : goal.returns-clause-counted
returns-clause-counted g c =
    let none = ap length (walk_ends c.args.heap.now.state.live c.loop-handle.last c.in_default.ensures) in
    omega (arith, none, c.loop-handle.invariant.count)
