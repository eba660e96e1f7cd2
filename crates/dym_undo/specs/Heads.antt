-- How changes are stored: heads in order, and the bytes of those that were live, one after the other.
use Rattle.std.specs.Prelude.{ℕ, ◌+◌, List, [], ◌∷◌, take, drop, Option, None, Some}
use Rattle.dym_base.specs.HeapStep.{key}
use Rattle.dym_undo.specs.Changes.{Change}
use Rattle.dym_undo.specs.declared.head.Head.{Head}

abbrev pub len_of : Option ℕ → ℕ
len_of None = 0
len_of (Some n) = n

abbrev pub before_of : Option ℕ → List ℕ → Option (List ℕ)
before_of None bytes = None
before_of (Some n) bytes = Some (take n bytes)

-- the change of a head, whose bytes begin here
abbrev pub change_of : Head → List ℕ → Change
change_of h bytes = record { key = key h.handle; before = before_of h.len bytes }

-- the changes of these heads, whose bytes begin here
abbrev pub changes_of : List Head → List ℕ → List Change
changes_of [] bytes = []
changes_of (h ∷ hs) bytes = change_of h bytes ∷ changes_of hs (drop (len_of h.len) bytes)

-- how many bytes belong to heads
abbrev pub bytes_in : List Head → ℕ
bytes_in [] = 0
bytes_in (h ∷ hs) = len_of h.len + bytes_in hs
