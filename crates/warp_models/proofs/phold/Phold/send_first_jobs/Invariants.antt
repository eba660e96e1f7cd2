-- So many jobs are sent, and so many numbers drawn.
use Rattle.std.proofs.Common.{◌≡◌, ◌++◌}
use Rattle.warp_models.specs.Phold as definition
use Rattle.warp_models.specs.Random as numbers
use Rattle.warp_models.proofs.phold.Phold.send_first_jobs.Given as goal

abbrev pub invariant-loop-job : goal.invariant-loop-job
invariant-loop-job l = record {
  sent : l.out.items ≡ l.fn.out.items ++ definition.first_jobs l.self.options l.process l.job;
  random : l.random ≡ numbers.after_draws (numbers.mixed (numbers.seeded l.self.options.seed l.process)) l.job;
}
