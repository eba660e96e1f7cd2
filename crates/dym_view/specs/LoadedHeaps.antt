-- What records bring into a heap that has the handles of their last, one after the other.
use Rattle.std.specs.Prelude.{◌≡◌, ℕ, if◌then◌else◌, List, Option, None}
use Rattle.std.specs.FinMap.{get, contains_key}
use Rattle.dym_base.specs.Heaps.{Live}
use Rattle.dym_base.specs.Packed.{Logged}
use Rattle.dym_base.specs.StandsFor.{or_else, newest_packed}

-- the bytes of the chunk of number k after logs were loaded in their order: where it is live, those of the newest that packs it
abbrev pub all_loaded_at : List Logged → Live → ℕ → Option (List ℕ)
all_loaded_at logs live k = if contains_key live k then or_else (newest_packed logs k) (get live k) else None

abbrev pub AreLoaded : List Logged → Live → Live → Type 0
AreLoaded logs old new = (k : ℕ) → get new k ≡ all_loaded_at logs old k
