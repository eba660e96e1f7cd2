use Rattle.std.proofs.Common.{arith, sym, ap, subst, ◌∙◌}
use Rattle.dym_base.specs.HeapStep.{key}
use Rattle.dym_base.specs.Heaps.{Live, HeapState}
use Rattle.dym_heap.specs.Meaning.{HeapMeaning}
use Rattle.dym_heap.specs.Replies.{after_key}
use Rattle.dym_undo_files.proofs.Bringing.{small_key}
use Rattle.dym_undo_files.proofs.Differing.{ArePassed, none_passed, passed_more, passed_state}
use Rattle.dym_undo_files.proofs.chunk_bytes.touch_differing.Goals as goal

pub loop-h-init : goal.loop-h-init
loop-h-init c =
    let live = c.args.heap.now.state.live in
    record {
      passed = subst (λ (h : HeapMeaning). ArePassed c.args.before.now.state.live h.state 0) (sym c.touch_all.ensures.touched)
          (none_passed c.args.before.now.state.live live);
      lives = ap (λ (h : HeapMeaning). h.state.live) c.touch_all.ensures.touched;
      same = c.touch_all.ensures.touched ∙ ap (λ (s : HeapState). record c.args.heap.now { state = s })
          (sym (ap (λ (h : HeapMeaning). h.state) c.touch_all.ensures.touched));
      sound = c.touch_all.ensures.sound;
    }

pub loop-h-smaller : goal.loop-h-smaller
loop-h-smaller c =
    let most = small_key (key c.in-Some.h) (c.loop-h.invariant.sound.most_class (key c.in-Some.h) c.in-Some.ensures.is_live) in
    let next = c.in-Some.ensures.at_least in
    omega (arith, most, next)

pub loop-h-preserved : goal.loop-h-preserved
loop-h-preserved c =
    let k = key c.in-Some.h in
    let before = c.args.before.now.state.live in
    let s = c.loop-h.heap.state in
    let inv = c.loop-h.invariant in
    let after = c.forget_same.ensures.after in
    let state = ap (λ (h : HeapMeaning). h.state) after in
    let passed = passed_more before s (after_key c.loop-h.last) k inv.passed c.in-Some.ensures.at_least c.in-Some.ensures.is_live c.in-Some.ensures.least
    c.forget_same.new.heap.state state in
    record {
      passed = passed.0;
      lives = passed.1 ∙ inv.lives;
      same = after ∙ ap (λ (x : HeapState). record c.loop-h.heap { state = x }) (sym state)
          ∙ ap (λ (h : HeapMeaning). record h { state = c.forget_same.new.heap.state }) inv.same;
      sound = c.forget_same.ensures.sound inv.sound;
    }

pub returns-clause-touched : goal.returns-clause-touched
returns-clause-touched c =
    let inv = c.loop-h.invariant in
    let s = c.loop-h.heap.state in
    let before = c.args.before.now.state.live in
    inv.same ∙ ap (λ (x : HeapState). record c.args.heap.now { state = x })
    (passed_state before s (after_key c.loop-h.last) inv.passed c.in_default.ensures
    ∙ ap (λ (l : Live). record { live = l; touched = Rattle.dym_undo_files.specs.TakenAgain.differing before l }) inv.lives)
