-- PHOLD: jobs hop among processes. A process that a job comes to changes its state, and sends the job on after a random delay, to itself or
-- to another process.
use Rattle.std.specs.Prelude.{ℕ, zero, suc, ◌+◌, ◌-◌, ◌*◌, ◌%◌, ◌^◌, ◌<◌, ◌≤◌, nat_lt, cond, ◌==◌, false, bit_xor, List, [], ◌∷◌, ◌++◌, replicate}
use Rattle.warp_base.specs.declared.event.Event.{Event}
use Rattle.warp_base.specs.declared.event.Draft.{Draft}
use Rattle.warp_base.specs.Histories.{Behaviour}
use Rattle.warp_models.specs.declared.phold.PholdOptions.{PholdOptions}
use Rattle.warp_models.specs.PholdStates.{PholdContents}
use Rattle.warp_models.specs.Random.{mixed, next, seeded, drawn, after_draws}
use Rattle.warp_models.specs.Sends.{in_time}

-- there is a process, delays are spread, a share is at most all, and no more of a state changes than there is
abbrev pub IsSensible : PholdOptions → Type 0
IsSensible o = (0 < o.processes) × (0 < o.mean) × (o.remote ≤ 1000) × (o.changed ≤ o.numbers)

-- a job of this number, as it is sent
abbrev pub hop : ℕ → ℕ → ℕ → Draft ℕ
hop time receiver job = record { time = time; priority = 0; receiver = receiver; kind = 0; payload = job }

-- the jobs that a process has at the start, each sent to itself after a random delay
abbrev pub first_jobs : PholdOptions → ℕ → ℕ → List (Draft ℕ)
first_jobs o p zero = []
first_jobs o p (suc job) =
    first_jobs o p job ++ hop (1 + drawn (after_draws (mixed (seeded o.seed p)) job) (2 * o.mean)) (p % o.processes) job ∷ []

-- what the draws for a hop begin with: it depends on the state, the time and the job
abbrev pub hop_seed : PholdContents → Event ℕ → ℕ
hop_seed s e = (mixed (bit_xor s.random e.time) + e.payload) % 2 ^ 64

-- the process that a job goes to: where there are others, one of them as often as the options say, each as likely
abbrev pub receiver : PholdOptions → ℕ → ℕ → ℕ
receiver o p random =
    cond (o.processes == 1) (p % o.processes)
    (cond (nat_lt (drawn random 1000) o.remote) ((p + 1 + drawn (next random) (o.processes - 1)) % o.processes) (p % o.processes))

-- the generator's number after that choice
abbrev pub after_receiver : PholdOptions → ℕ → ℕ
after_receiver o random =
    cond (o.processes == 1) random (cond (nat_lt (drawn random 1000) o.remote) (next (next random)) (next random))

-- turns of arithmetic, in place of a model that has something to compute
unfoldable pub worked : ℕ → ℕ → ℕ
worked from zero = from
worked from (suc k) = mixed ((worked from k + k) % 2 ^ 64)

-- numbers of which those before the place `count` are changed by a job; the first has the place k
abbrev pub changed : ℕ → ℕ → ℕ → List ℕ → List ℕ
changed job count k [] = []
changed job count k (x ∷ xs) = cond (nat_lt k count) ((x * 5 + job + k) % 2 ^ 64) x ∷ changed job count (k + 1) xs

abbrev pub phold : PholdOptions → Behaviour ℕ PholdContents
phold o = record {
  start = λ p. record { random = seeded o.seed p; events = 0; worked = 0; numbers = replicate o.numbers 0 };
  firsts = λ p. cond (nat_lt p o.processes) (first_jobs o p o.jobs) [];
  after = λ p s e. record {
    random = next (after_receiver o (hop_seed s e));
    events = (s.events + 1) % 2 ^ 64;
    worked = worked s.worked o.work;
    numbers = changed e.payload o.changed 0 s.numbers;
  };
  drafts = λ p s e.
      let random = after_receiver o (hop_seed s e) in
      in_time (hop (e.time + (1 + o.lookahead + drawn random (2 * o.mean))) (receiver o p (hop_seed s e)) e.payload);
  faulty = λ s. false;
}
