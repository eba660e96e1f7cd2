-- M/M/1 queues in a ring: a job that a station has served goes to the next one.
use Rattle.std.specs.Prelude.{ℕ, ◌+◌, ◌-◌, ◌%◌, ◌^◌, ◌<◌, nat_lt, cond, ◌==◌, List, [], ◌++◌}
use Rattle.warp_base.specs.declared.event.Draft.{Draft}
use Rattle.warp_base.specs.Histories.{Behaviour}
use Rattle.warp_models.specs.declared.queues.RingOptions.{RingOptions}
use Rattle.warp_models.specs.declared.queues.Station.{Station}
use Rattle.warp_models.specs.Random.{mixed, next, seeded, memoryless}
use Rattle.warp_models.specs.Sends.{in_time}

-- there is a station
abbrev pub IsSensible : RingOptions → Type 0
IsSensible o = 0 < o.stations

-- a job comes to a station (kind 0), or has been served there (kind 1)
abbrev pub arrival : RingOptions → ℕ → ℕ → Draft (Unit {0})
arrival o p now = record { time = now + (1 + o.travel); priority = 0; receiver = (p % o.stations + 1) % o.stations; kind = 0; payload = tt }

abbrev pub departure : RingOptions → ℕ → ℕ → ℕ → Draft (Unit {0})
departure o p random now = record { time = now + (1 + memoryless o.half_life (mixed random)); priority = 0; receiver = p % o.stations; kind = 1; payload = tt }

-- a station that isn't busy begins with the job that comes
abbrev pub sent_at_arrival : RingOptions → ℕ → Station → ℕ → List (Draft (Unit {0}))
sent_at_arrival o p s now = cond (s.waiting == 0) (in_time (departure o p (next s.random) now)) []

-- a job that was served goes on, and the station begins with the next one that waits
abbrev pub sent_at_departure : RingOptions → ℕ → Station → ℕ → List (Draft (Unit {0}))
sent_at_departure o p s now =
    in_time (arrival o p now) ++ cond (nat_lt 1 s.waiting) (in_time (departure o p (next s.random) now)) []

-- `waiting` counts the job that is being served, too; more of them than there is room for are a fault
abbrev pub ring : RingOptions → Behaviour (Unit {0}) Station
ring o = record {
  start = λ p. record { random = next (seeded o.seed p); waiting = o.jobs; served = 0 };
  firsts = λ p. cond (nat_lt p o.stations) (cond (nat_lt 0 o.jobs) (in_time (departure o p (next (seeded o.seed p)) 0)) []) [];
  after = λ p s e. cond (e.kind == 0) (record { random = next s.random; waiting = (s.waiting + 1) % 2 ^ 64; served = s.served }) (record { random = next s.random; waiting = s.waiting - 1; served = (s.served + 1) % 2 ^ 64 });
  drafts = λ p s e. cond (e.kind == 0) (sent_at_arrival o p s e.time) (sent_at_departure o p s e.time);
  faulty = λ s. nat_lt o.room s.waiting;
}
