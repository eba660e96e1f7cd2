use Rattle.dym_trace.proofs.Takes.{line_does, still_sound}
use Rattle.dym_trace.proofs.verdict.takes.Goals as goal

pub returns-in-Some-clause-does : goal.returns-in-Some-clause-does
returns-in-Some-clause-does c = line_does c.one_reading.ensures c.args.line.now c.in-Some.event c.in-Some.ensures c.args.machine.now c.step.new.self c.step.result c.step.ensures

pub returns-in-Some-clause-sound : goal.returns-in-Some-clause-sound
returns-in-Some-clause-sound c = still_sound c.each_step_keeps_facts.ensures c.in-Some.event c.args.machine.now c.step.new.self c.step.result c.requires c.step.ensures
