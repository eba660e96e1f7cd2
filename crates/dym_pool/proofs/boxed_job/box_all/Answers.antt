use Rattle.std.proofs.Common.{rules, ◌≡◌, ◌++◌, [], length, map, reverse, sym, ap, ◌∙◌}
use Rattle.std.proofs.lemmas.List.{take_at}
use Rattle.dym_pool.specs.BoxedJobs.{job_of}
use Rattle.dym_pool.proofs.Carrying.{map_reverse}
use Rattle.dym_pool.proofs.boxed_job.box_all.Goals as goal

pub returns-clause-carried : goal.returns-clause-carried
returns-clause-carried g c =
    let value = c.as_mut_slice.ensures.value in
    let none : c.loop-job.jobs.items ≡ [] = search rules in
    ap (map (job_of {J = g.row.J.Denot})) (take_at c.reverse.new.self _ c.loop-job.carried.len (c.reverse.ensures.len ∙ ap length value ∙ sym c.loop-job.carried.ok.0) ∙ c.reverse.ensures.after ∙ ap reverse value)
    ∙ map_reverse job_of c.loop-job.carried.items
    ∙ ap (λ l. l ++ reverse (map job_of c.loop-job.carried.items)) (sym none)
    ∙ c.loop-job.invariant.0
