use Rattle.std.proofs.Common.{◌≡◌, ℕ, ◌+◌, cond, ap, sym, ◌∙◌, add-zero, arith}
use Rattle.std.proofs.lemmas.Bool.{cond-true, cond-false}
use Rattle.dym_report.specs.Summary.{is_refusal}
use Rattle.dymelor_top.proofs.CommandFacts.{none_behind, ran_counted}
use Rattle.dymelor_top.proofs.SummaryFacts.{refusing_ran, refusing_all}
use Rattle.dymelor_top.proofs.summary.refusals.Goals as goal
use Rattle.dymelor_top.proofs.summary.refusals.Goals.{then-is_refusal, else-is_refusal}

pub loop-k-preserved : goal.loop-k-preserved
loop-k-preserved c =
    let old = c.loop-k.refused in
    let more = c.if-is_refusal.refused in
    let refusal = is_refusal c.run.new.runner.reply in
    let counts : more ≡ old + cond refusal 1 0 =
    elim c.if-is_refusal.branch [
      | then-is_refusal w ↦ w.refused-is ∙ ap (λ n. old + n) (sym (cond-true {A = ℕ} refusal 1 0 (sym c.is_refusal.ensures ∙ w.if-is_refusal.true)))
      | else-is_refusal w ↦ w.refused-is ∙ sym (add-zero old) ∙ ap (λ n. old + n)
          (sym (cond-false {A = ℕ} refusal 1 0 (sym c.is_refusal.ensures ∙ w.if-is_refusal.false)))
    ] in
    record {
      refusing = refusing_ran c.args.commands.now c.loop-k.k c.args.turn.now.object c.loop-k.turn.object c.run.new.runner.object c.run.new.runner.reply old more
          (omega (arith, c.loop-k-test.true, c.len-k-end.ensures.length)) c.loop-k.invariant.refusing c.in_ok-run.ensures.does counts;
      within = elim c.if-is_refusal.branch
          [ then-is_refusal w ↦ omega (arith, w.refused-is, c.loop-k.invariant.within) | else-is_refusal w ↦ omega (arith, w.refused-is, c.loop-k.invariant.within) ];
      count = ran_counted c.args.commands.now c.loop-k.k c.loop-k.turn.object c.run.new.runner.object c.run.new.runner.reply
          (omega (arith, c.loop-k-test.true, c.len-k-end.ensures.length)) c.in_ok-run.ensures.does c.loop-k.invariant.count;
    }

pub returns-clause-counted : goal.returns-clause-counted
returns-clause-counted c =
    let none = none_behind c.args.commands.now c.loop-k.k (omega (arith, c.loop-k-test.false, c.len-k-end.ensures.length)) in
    (refusing_all c.args.turn.now.object c.loop-k.turn.object c.args.commands.now _ c.loop-k.refused c.loop-k.invariant.refusing none).0

pub returns-clause-state : goal.returns-clause-state
returns-clause-state c =
    let none = none_behind c.args.commands.now c.loop-k.k (omega (arith, c.loop-k-test.false, c.len-k-end.ensures.length)) in
    (refusing_all c.args.turn.now.object c.loop-k.turn.object c.args.commands.now _ c.loop-k.refused c.loop-k.invariant.refusing none).1
