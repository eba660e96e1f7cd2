-- What a pruner's sweeps do to its sweepers.
use Rattle.std.specs.Prelude.{◌≡◌, ℕ, ◌+◌, ◌*◌, ◌-◌, ◌^◌, ◌<◌, ◌≤◌, min, List, length, slice_index_or, sum_by}
use Rattle.dym_base.specs.declared.limits.TheConstants.{LOG_SLOTS}
use Rattle.dym_slots.specs.Meanings.{SweeperMeaning, IsSweptTo}

-- a sweeper that ended one sweep or more: it belongs to the same log table, began more rounds, and no slot has a record at rest
-- below the root that it read last, which is no lower than the one before, nor than one that it knew of
pub record Swept (old new : SweeperMeaning) : Type 0 where
  pub table : new.table ≡ old.table
  pub rounds : old.rounds < new.rounds
  pub clean : new.clean ≡ LOG_SLOTS
  pub rises : old.root_seen ≤ new.root_seen
  pub least_root : new.least_root ≡ old.least_root
  pub swept : IsSweptTo old.least_root new

-- how many records sweepers took back
abbrev pub taken_by : List SweeperMeaning → ℕ
taken_by sweepers = sum_by (λ (s : SweeperMeaning). s.taken_back) sweepers

-- so many records, or the greatest u64 where there are more
abbrev pub counted_to : ℕ → ℕ
counted_to n = min n (2 ^ 64 - 1)

-- each sweeper ended a sweep, and the answer is the sum of what their sweeps answered
pub record Pruned (old new : List SweeperMeaning) (answer : ℕ) : Type 0 where
  pub same : length new ≡ length old
  pub swept : (k : ℕ) (d : SweeperMeaning) → k < length old → Swept (slice_index_or old k d) (slice_index_or new k d)
  pub grown : taken_by old ≤ taken_by new
  pub answer_is : answer ≡ counted_to (taken_by new - taken_by old)

-- each sweeper began one round
abbrev pub OneRound : List SweeperMeaning → List SweeperMeaning → Type 0
OneRound old new = (k : ℕ) (d : SweeperMeaning) → k < length old → (slice_index_or new k d).rounds ≡ (slice_index_or old k d).rounds + 1

-- how many rounds each sweeper began: after each round but the last, two listens found that nobody had asked, and after the last one at
-- most one did, as the listen that found its word was the last. The numbers are how often the end that listens had found nothing, before
-- and after
pub record CountsRounds (old new : List SweeperMeaning) (before after : ℕ) : Type 0 where
  pub rounds_most : (k : ℕ) (d : SweeperMeaning) → k < length old → 2 * (slice_index_or new k d).rounds + before ≤ 2 * (slice_index_or old k d).rounds + 2 + after
  pub rounds_least : (k : ℕ) (d : SweeperMeaning) → k < length old → 2 * (slice_index_or old k d).rounds + after + 1 ≤ 2 * (slice_index_or new k d).rounds + before
