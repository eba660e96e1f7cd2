use Rattle.std.proofs.Common.{◌++◌, map, sym, ap, subst, ◌∙◌}
use Rattle.dym_pool.specs.BoxedJobs.{job_of}
use Rattle.dym_pool.specs.Jobs.{EveryJobBack}
use Rattle.dym_pool.proofs.Carrying.{numbered_carried, back_carried}
use Rattle.dym_pool.proofs.pool.run_jobs.Goals as goal

pub run_with-ran-requires-clause-numbered : goal.run_with-ran-requires-clause-numbered
run_with-ran-requires-clause-numbered g c κs within =
    numbered_carried job_of g.J.Job.number_of g.J.Job.left_of g.J.Job.origin_of c.box_all.new.carried.items c.args.jobs.items c.box_all.ensures.carried c.requires.numbered

pub returns-in-Ok-ran-clause-back : goal.returns-in-Ok-ran-clause-back
returns-in-Ok-ran-clause-back g c =
    let same = c.give_back.ensures ∙ ap (λ l. l ++ map job_of c.run_with-ran.new.jobs.items) c.box_all.ensures.emptied in
    subst (EveryJobBack g.J.Job.number_of g.J.Job.left_of g.J.Job.origin_of c.args.jobs.items) (sym same)
    (back_carried job_of g.J.Job.number_of g.J.Job.left_of g.J.Job.origin_of c.box_all.new.carried.items c.run_with-ran.new.jobs.items c.args.jobs.items c.box_all.ensures.carried c.in-Ok-ran.ensures.back)
