-- The room that a log takes: for whatever can be changed until the next one.
use Rattle.std.specs.Prelude.{⊤, ℕ, zero, suc, ◌+◌, ◌*◌, ◌≤◌, List, [], ◌∷◌, take, if◌then◌else◌}
use Rattle.std.specs.FinMap.{get}
use Rattle.dym_base.specs.Heaps.{Live}
use Rattle.dym_base.specs.Numbers.{per, number}
use Rattle.dym_base.specs.Objects.{LogEntry}
use Rattle.dym_undo.specs.Changes.{Change, bytes_of, is_noted, noted_bytes}

-- the weights of the chunks of class e and indices below n that aren't among the changes
unfoldable pub pending_of : (ℕ → ℕ) → List Change → ℕ → ℕ → ℕ
pending_of weight cs e zero = 0
pending_of weight cs e (suc i) = (if is_noted (number e i) cs then 0 else weight (number e i)) + pending_of weight cs e i

-- of the first n classes, within a quota
unfoldable pub pending_in : (ℕ → ℕ) → List Change → ℕ → ℕ → ℕ
pending_in weight cs quota zero = 0
pending_in weight cs quota (suc n) = pending_of weight cs (n + 5) (quota * per (n + 5)) + pending_in weight cs quota n

-- the weights of the chunks that can be live within a quota and aren't among the changes
unfoldable pub pending : (ℕ → ℕ) → List Change → ℕ → ℕ
pending weight cs quota = pending_in weight cs quota 12

abbrev pub one : ℕ → ℕ
one k = 1

abbrev pub length_at : Live → ℕ → ℕ
length_at live k = bytes_of (get live k)

-- the bytes of all chunks
abbrev pub all_bytes : Live → ℕ → ℕ
all_bytes live quota = pending (length_at live) [] quota

-- the handles that can be live within a quota
abbrev pub all_handles : ℕ → ℕ
all_handles quota = quota * 4095

-- behind each log there is the room that it made sure of: for so many heads and so many bytes in all
abbrev pub HasRoomAtEach : ℕ → ℕ → ℕ → List ℕ → List Change → List LogEntry → Type 0
HasRoomAtEach quota heads bytes [] cs logs = ⊤
HasRoomAtEach quota heads bytes (p ∷ ps) cs [] = ⊤
HasRoomAtEach quota heads bytes (p ∷ ps) cs (e ∷ es) =
    (p + all_handles quota ≤ heads) × (noted_bytes (take p cs) + all_bytes e.copy quota ≤ bytes) × HasRoomAtEach quota heads bytes ps cs es
