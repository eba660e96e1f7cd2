use Rattle.std.proofs.Common.{◌≡◌, [], length, ap, subst, ◌∙◌, arith}
use Rattle.std.proofs.lemmas.Bool.Decides.{nat_tests}
use Rattle.std.proofs.lemmas.List.{nil_from_length}
use Rattle.dym_base.specs.Lines.{lines_of}
use Rattle.dym_trace.specs.Machine.{core_of, Does}
use Rattle.dym_trace.specs.Verdict.{LineStep, IsNoStep}
use Rattle.dym_trace.proofs.Runs.{reach_more, next_line, bad_line, good_lines}
use Rattle.dym_trace.proofs.verdict.check_trace.Goals as goal

pub returns-then-not-branch : goal.returns-then-not-branch
returns-then-not-branch c =
    let line = next_line (lines_of c.args.bytes.now) c.loop-rest.events c.first_line.result.0.now (lines_of c.first_line.result.1.now) (c.loop-rest.invariant.rest ∙ c.first_line.ensures.lines) in
    let none : IsNoStep c.first_line.result.0.now (core_of c.loop-rest.machine) =
    subst (Does (LineStep c.first_line.result.0.now) c.loop-rest.machine c.takes.new.machine) c.if-not-branch.true c.in_ok-takes.ensures.does in
    bad_line (lines_of c.args.bytes.now) c.loop-rest.events c.first_line.result.0.now (core_of c.loop-rest.machine) line.0 line.1 c.loop-rest.invariant.reached none

pub loop-rest-preserved : goal.loop-rest-preserved
loop-rest-preserved c =
    let line = next_line (lines_of c.args.bytes.now) c.loop-rest.events c.first_line.result.0.now (lines_of c.first_line.result.1.now) (c.loop-rest.invariant.rest ∙ c.first_line.ensures.lines) in
    let step : LineStep c.first_line.result.0.now (core_of c.loop-rest.machine) (core_of c.takes.new.machine) =
    subst (Does (LineStep c.first_line.result.0.now) c.loop-rest.machine c.takes.new.machine) c.if-not-branch.false c.in_ok-takes.ensures.does in
    let shorter = c.first_line.ensures.shorter in
    let count = c.loop-rest.invariant.count in
    let within = line.0 in
    record {
      sound = c.in_ok-takes.ensures.sound c.if-not-branch.false;
      reached = reach_more (lines_of c.args.bytes.now) c.loop-rest.events c.first_line.result.0.now (core_of c.loop-rest.machine) (core_of c.takes.new.machine) line.0 line.1 c.loop-rest.invariant.reached step;
      rest = line.2;
      within = omega arith;
      count = omega arith;
    }

pub returns : goal.returns
returns c =
    let empty : length c.loop-rest.rest.now ≡ 0 = grind (arith, nat_tests) in
    let none : c.loop-rest.rest.now ≡ [] = nil_from_length c.loop-rest.rest.now empty in
    good_lines (lines_of c.args.bytes.now) c.loop-rest.events (core_of c.loop-rest.machine) c.loop-rest.invariant.within (c.loop-rest.invariant.rest ∙ ap lines_of none) c.loop-rest.invariant.reached
