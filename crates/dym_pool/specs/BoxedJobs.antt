-- A job that the pool carries.
use Rattle.dym_pool.specs.declared.boxed_job.BoxedJob.{BoxedJob}

-- the job itself
abbrev pub job_of : {J : Type 0} → BoxedJob J → J
job_of carried = carried.job.value
