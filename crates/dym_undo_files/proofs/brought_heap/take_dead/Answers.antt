use Rattle.std.proofs.Common.{arith, refl, ◌∙◌}
use Rattle.dym_base.specs.HeapStep.{key}
use Rattle.dym_heap.specs.Replies.{after_key}
use Rattle.dym_undo.specs.HeapUndo.{itself, along}
use Rattle.dym_undo_files.proofs.Bringing.{small_key, checked_next, checked_all}
use Rattle.dym_undo_files.proofs.brought_heap.take_dead.Goals as goal

pub loop-h-init : goal.loop-h-init
loop-h-init g c = record { checked = λ q lt has. absurd (omega (arith, lt)); kept = c.requires.kept; logs = refl; rest = itself c.args.heap.now }

pub loop-h-smaller : goal.loop-h-smaller
loop-h-smaller g c =
    let most = small_key (key c.in-Some.h) (c.loop-h.invariant.kept.sound.most_class (key c.in-Some.h) c.in-Some.ensures.is_live) in
    let next = c.in-Some.ensures.at_least in
    omega (arith, most, next)

pub loop-h-preserved : goal.loop-h-preserved
loop-h-preserved g c =
    let inv = c.loop-h.invariant in
    record {
      checked = checked_next c.loop-h.heap.state.live c.args.other.now.state.live c.take_if_dead.new.heap.state.live (after_key c.loop-h.last)
          (key c.in-Some.h) inv.checked c.in-Some.ensures.least c.take_if_dead.ensures.live;
      kept = c.take_if_dead.ensures.kept;
      logs = c.take_if_dead.ensures.logs ∙ inv.logs;
      rest = along c.args.heap.now c.loop-h.heap c.take_if_dead.new.heap inv.rest c.take_if_dead.ensures.rest;
    }

pub returns-clause-among : goal.returns-clause-among
returns-clause-among g c = checked_all c.loop-h.heap.state.live c.args.other.now.state.live (after_key c.loop-h.last) c.loop-h.invariant.checked c.in_default.ensures
