-- The header of a file, as it is read.
use Rattle.std.specs.Prelude.{◌≡◌, ℕ, ◌+◌, ◌<◌, ◌≤◌, List, ◌∷◌, ◌++◌, length}
use Rattle.std.specs.Int.{w32, to_le_bytes}
use Rattle.dym_base.specs.Files.{FileHead, version_number}
use Rattle.dym_base.specs.declared.limits.TheConstants.{MOST_QUOTA, MOST_RECORDS, MOST_DEPTH, MOST_KEPT_LOGS}
use Rattle.dym_ckpt.specs.declared.header.Header.{Header}

-- what a header says
abbrev pub header_meaning : Header → FileHead
header_meaning h = record { name = h.name; quota = h.quota; version = h.version; count = h.count; depth = h.depth }

-- the numbers of a header are such as a file can have
pub record AreWithin (quota count depth : ℕ) : Type 0 where
  pub some_quota : 1 ≤ quota
  pub within : quota ≤ MOST_QUOTA
  pub few : count ≤ MOST_RECORDS
  pub shallow : depth ≤ MOST_DEPTH
  pub kept : count ≤ depth + MOST_KEPT_LOGS
  pub none : count ≡ 0 → depth ≡ 0
  pub some : 0 < count → depth < count

-- ---- the bytes of a header from each part on, with what is behind the header

abbrev pub from_depth : FileHead → List ℕ → List ℕ
from_depth h left = h.depth ∷ left

abbrev pub from_count : FileHead → List ℕ → List ℕ
from_count h left = to_le_bytes w32 h.count ++ from_depth h left

abbrev pub from_version : FileHead → List ℕ → List ℕ
from_version h left = version_number h.version ∷ from_count h left

abbrev pub from_quota : FileHead → List ℕ → List ℕ
from_quota h left = to_le_bytes w32 h.quota ++ from_version h left

abbrev pub from_name : FileHead → List ℕ → List ℕ
from_name h left = length h.name ∷ h.name ++ from_quota h left
