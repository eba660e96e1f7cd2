use Rattle.std.proofs.Common.{◌≡◌, None, Some, option_map, sym, ap, subst}
use Rattle.dym_base.specs.declared.bad_kind.BadKind.TheVariants as bad
use Rattle.dymelor_top.specs.Answers.{Answer, named_answer}
use Rattle.dymelor_top.specs.Calls.{AnswersRead}
use Rattle.dymelor_top.specs.Checkpoints.{own_named}
use Rattle.dymelor_top.proofs.Answered.{told_fault}
use Rattle.dymelor_top.proofs.SavedFacts.{named_is, named_runs, named_named}
use Rattle.dymelor_top.proofs.save_order.answer_saved.Goals as goal

pub save_part-requires-clause-runnable : goal.save_part-requires-clause-runnable
save_part-requires-clause-runnable g c =
    let made = c.requires.made in
    named_runs c.args.script.now made.0 c.args.name.now _ _ (Some c.in-Some.part.now) made.1 c.deref.ensures.value c.part_named.ensures
    (ap (option_map (λ part. part.now)) c.in-Some.is)

pub save_part-requires-clause-named : goal.save_part-requires-clause-named
save_part-requires-clause-named g c =
    let made = c.requires.made in
    named_named c.args.script.now made.0 c.args.name.now _ _ (Some c.in-Some.part.now) made.1 c.deref.ensures.value c.part_named.ensures
    (ap (option_map (λ part. part.now)) c.in-Some.is)

pub returns-in-Some : goal.returns-in-Some
returns-in-Some g c s are =
    let is = named_is c.args.script.now s c.args.name.now _ _ (Some c.in-Some.part.now) are c.deref.ensures.value c.part_named.ensures
    (ap (option_map (λ part. part.now)) c.in-Some.is) in
    subst (λ (y : Answer). AnswersRead (λ x. x ≡ y) (g.W.Sink.output c.args.sink.now) (g.W.Sink.output c.save_part.new.sink) c.save_part.result) (sym is)
    c.save_part.ensures

pub returns-in-None : goal.returns-in-None
returns-in-None g c s are =
    let is = named_is c.args.script.now s c.args.name.now _ _ None are c.deref.ensures.value c.part_named.ensures (ap (option_map (λ part. part.now)) c.in-None.is) in
    told_fault (λ x. x ≡ named_answer s.version (own_named c.args.name.now s)) (g.W.Sink.output c.args.sink.now) 0 bad.Undeclared (sym is)
