use Rattle.std.proofs.Common.{◌≡◌, ◌+◌, ◌≤◌, length, map, sum_by, vec_len, vec_capacity, All}
use Rattle.dym_base.specs.Origins.{shared}
use Rattle.dym_quota.specs.Berths.{IsIdleBerth}
use Rattle.dym_wave.specs.Waves.{tables_of}
use Rattle.dym_wave.specs.Works.{WorkMeaning}
use Rattle.dym_wave.proofs.open_wave.Wave.close.Given as goal

abbrev pub invariant-loop-work : goal.invariant-loop-work
invariant-loop-work g l = record {
  idle : All (IsIdleBerth l.queue.name) l.berths.items;
  of_queue : All (λ (w : WorkMeaning). w.origin.object.supply ≡ shared l.queue.name) l.works.items;
  all : sum_by (λ b. b.quota) l.berths.items + sum_by (λ (w : WorkMeaning). w.origin.object.quota) l.works.items ≡ length l.queue.stocked;
  tables : map (λ (w : WorkMeaning). w.origin.object.keep) l.works.items ≡ tables_of l.sweepers.items;
  room : vec_len l.berths + vec_len l.works ≤ vec_capacity l.berths;
}

abbrev pub decreases-loop-work : goal.decreases-loop-work
decreases-loop-work g l = vec_len l.works
