use Rattle.std.proofs.Common.{◌<◌, ◌≤◌, arith}
use Rattle.std.proofs.lemmas.Bool.Decides.{nat_tests}
use Rattle.dym_trace.specs.Machine.{core_of}
use Rattle.dym_trace.proofs.Held.{listed_in_range, range_of_listed}
use Rattle.dym_trace.proofs.machine.Machine.is_listed.Goals as goal

pub returns-then-self-held : goal.returns-then-self-held
returns-then-self-held c = (
  λ yes. let below : c.args.held < c.args.self.now.next = grind (arith, nat_tests) in
      listed_in_range (core_of c.args.self.now) c.requires.held.0 c.args.held c.requires.sound.facts c.requires.held.1 c.if-self-held.true below,
  λ listed. let range = range_of_listed (core_of c.args.self.now) c.args.held c.requires.sound.facts listed in grind (arith, nat_tests),
)

pub returns-else-self-held : goal.returns-else-self-held
returns-else-self-held c = (
  λ yes. absurd (let from : c.args.self.now.root ≤ c.args.held = grind (arith, nat_tests) in let below = c.if-self-held.false in omega arith),
  λ listed. absurd (let range = range_of_listed (core_of c.args.self.now) c.args.held c.requires.sound.facts listed in let below = c.if-self-held.false in omega arith),
)
