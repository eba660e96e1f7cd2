-- The records of a keep, which is seen as the owner of log slots is (`dym_slots`).
use Rattle.std.specs.Prelude.{ℕ, List, map}
use Rattle.dym_slots.specs.Meanings.{Numbered}

-- the bytes of the records
abbrev pub bytes_of : List Numbered → List (List ℕ)
bytes_of records = map (λ (r : Numbered). r.bytes) records
