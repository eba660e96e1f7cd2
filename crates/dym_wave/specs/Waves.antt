-- A wave: works that run side by side over one queue of segments, while a pruner sweeps their log tables.
use Rattle.std.specs.Prelude.{◌≡◌, ℕ, ◌<◌, List, All, length, map, slice_index_or, sum_by}
use Rattle.dym_base.specs.Origins.{Origin, shared}
use Rattle.dym_pool.specs.Jobs.{EveryJobBack, Numbered}
use Rattle.dym_prune.specs.Sweeps.{Pruned}
use Rattle.dym_quota.specs.QueueShape.{QueueShape}
use Rattle.dym_slots.specs.Meanings.{SweeperMeaning}
use Rattle.dym_wave.specs.Works.{OriginMeaning, WorkMeaning, number_of, left_of, origin_of}

-- the supplies of all works have one origin
abbrev pub OfOneQueue : List WorkMeaning → Type 0
OfOneQueue works = (queue : Origin) × All (λ (w : WorkMeaning). w.origin.object.supply ≡ queue) works

-- the log tables of sweepers, in order
abbrev pub tables_of : List SweeperMeaning → List Origin
tables_of sweepers = map (λ (s : SweeperMeaning). shared s.table) sweepers

-- there are as many sweepers as works, and sweeper k belongs to the log table that the keep of work k has its records in
abbrev pub AreSweptBy : List WorkMeaning → List SweeperMeaning → Type 0
AreSweptBy works sweepers = map (λ (w : WorkMeaning). w.origin.object.keep) works ≡ tables_of sweepers

-- works may be run as a wave: their numbers are 0, 1, 2 and so on, they are of one queue, and these sweepers sweep their log tables
pub record IsReady (works : List WorkMeaning) (sweepers : List SweeperMeaning) : Type 0 where
  pub numbered : Numbered number_of works
  pub queue : OfOneQueue works
  pub tables : AreSweptBy works sweepers

-- the sweepers are of the same log tables, one by one
pub record SameTables (old new : List SweeperMeaning) : Type 0 where
  pub same : length new ≡ length old
  pub tables : (k : ℕ) (d : SweeperMeaning) → k < length old → (slice_index_or new k d).table ≡ (slice_index_or old k d).table

-- what a wave promises: every work is back once, in order, with its origin, and has ended; each sweeper still belongs to the log
-- table of its work, and ended a sweep or more; the answer is how many records they took back, or the greatest u64 where there
-- are more
pub record WavePromise (works after : List WorkMeaning) (sweepers swept : List SweeperMeaning) (taken : ℕ) : Type 0 where
  pub back : EveryJobBack number_of left_of origin_of works after
  pub tables : AreSweptBy after swept
  pub sweeps : Pruned sweepers swept taken

-- works that come from there are of this queue, have all quotas that it was opened for and the numbers 0, 1, 2 and so on, and
-- are swept by these
pub record AreOfWave (queue : QueueShape) (sweepers : List SweeperMeaning) (origins : List OriginMeaning) : Type 0 where
  pub supplies : All (λ (o : OriginMeaning). o.object.supply ≡ shared queue.name) origins
  pub quotas : sum_by (λ (o : OriginMeaning). o.object.quota) origins ≡ length queue.stocked
  pub numbers : (k : ℕ) (d : OriginMeaning) → k < length origins → (slice_index_or origins k d).number ≡ k
  pub tables : map (λ (o : OriginMeaning). o.object.keep) origins ≡ tables_of sweepers
