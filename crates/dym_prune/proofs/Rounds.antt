-- What a round did so far, and what rounds one after another did.
use Rattle.std.specs.Prelude.{◌≡◌, ℕ, ◌+◌, ◌*◌, ◌-◌, ◌<◌, ◌≤◌, List, length, slice_index_or}
use Rattle.dym_slots.specs.Meanings.{SweeperMeaning}
use Rattle.dym_prune.specs.Sweeps.{Swept, taken_by, counted_to}

-- the first i sweepers ended a sweep, and the others are as they were
pub record SweptTo (i : ℕ) (old now : List SweeperMeaning) (answer : ℕ) : Type 0 where
  pub same : length now ≡ length old
  pub swept : (k : ℕ) (d : SweeperMeaning) → k < i → Swept (slice_index_or old k d) (slice_index_or now k d)
  pub once : (k : ℕ) (d : SweeperMeaning) → k < i → (slice_index_or now k d).rounds ≡ (slice_index_or old k d).rounds + 1
  pub rest : (k : ℕ) (d : SweeperMeaning) → i ≤ k → slice_index_or now k d ≡ slice_index_or old k d
  pub grown : taken_by old ≤ taken_by now
  pub answer_is : answer ≡ counted_to (taken_by now - taken_by old)

-- rounds so far, maybe none: each sweeper is of its table and began no fewer rounds
pub record RoundsTo (old now : List SweeperMeaning) (total : ℕ) : Type 0 where
  pub same : length now ≡ length old
  pub table : (k : ℕ) (d : SweeperMeaning) → k < length old → (slice_index_or now k d).table ≡ (slice_index_or old k d).table
  pub rounds : (k : ℕ) (d : SweeperMeaning) → k < length old → (slice_index_or old k d).rounds ≤ (slice_index_or now k d).rounds
  pub rises : (k : ℕ) (d : SweeperMeaning) → k < length old → (slice_index_or old k d).root_seen ≤ (slice_index_or now k d).root_seen
  pub least_root : (k : ℕ) (d : SweeperMeaning) → k < length old → (slice_index_or now k d).least_root ≡ (slice_index_or old k d).least_root
  pub grown : taken_by old ≤ taken_by now
  pub total_is : total ≡ counted_to (taken_by now - taken_by old)

-- so far two listens found nothing after each round
abbrev pub TwoAfterEach : List SweeperMeaning → List SweeperMeaning → ℕ → ℕ → Type 0
TwoAfterEach old now before after =
    (k : ℕ) (d : SweeperMeaning) → k < length old → 2 * (slice_index_or now k d).rounds + before ≡ 2 * (slice_index_or old k d).rounds + after
