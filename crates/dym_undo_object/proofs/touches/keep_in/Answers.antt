use Rattle.std.proofs.Common.{◌≤◌, ◌<◌, ◌∙◌, refl, subst, arith}
use Rattle.dym_base.specs.Numbers.{exponent_of, index_of}
use Rattle.dym_undo.specs.UndoLogs.{IsKept}
use Rattle.dym_undo_object.specs.Places.{IsPlace, place_start}
use Rattle.dym_undo_object.proofs.Ranges.{walk, none_yet, place_of}
use Rattle.dym_undo_object.proofs.touches.keep_in.Goals as goal

pub loop-at-init : goal.loop-at-init
loop-at-init c = record {
  logs = refl;
  belongs = c.requires.belongs;
  kept = λ k has. none_yet c.args.heap.now c.args.from k (IsKept c.args.undo.now k) has;
  low = omega arith;
  high = c.requires.ordered;
}

pub loop-at-preserved : goal.loop-at-preserved
loop-at-preserved c =
    let h = c.args.heap.now in
    let up = c.chunk_end.ensures.further in
    let is = c.min-at.ensures in
    let test = c.loop-at-test.true in
    let low = c.loop-at.invariant.low in
    let high = c.loop-at.invariant.high in
    record {
      logs = c.keep_at.ensures.logs ∙ c.loop-at.invariant.logs;
      belongs = c.keep_at.ensures.belongs;
      kept = λ k has.
          walk h c.args.from c.loop-at.at c.min-at.result k (IsKept c.keep_at.new.undo k) (λ seen. c.keep_at.ensures.before k (c.loop-at.invariant.kept k seen))
          (c.keep_at.ensures.kept k)
          (λ live before. (let next : c.chunk_end.result ≤ place_start h.quota (exponent_of k) (index_of k)
          = subst (λ q. IsPlace q (exponent_of k) (index_of k) → c.loop-at.at < place_start q (exponent_of k) (index_of k) → c.chunk_end.result ≤ place_start q
          (exponent_of k) (index_of k)) c.quota-quota.ensures
          (c.chunk_end.ensures.none (exponent_of k) (index_of k)) (place_of h k c.requires.sound live) before in omega (arith, is, next))) has;
      low = omega (arith, low, is, up, test);
      high = omega (arith, is);
    }
