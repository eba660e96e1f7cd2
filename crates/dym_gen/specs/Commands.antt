-- The commands of a made script.
use Rattle.std.specs.Prelude.{ℕ, ◌-◌, ◌%◌, Bool, not, ◌&&◌, ◌==◌, if◌then◌else◌, List, [], ◌∷◌, ◌++◌, codes, decimal, slice_index_or, Option, None, Some}
use Rattle.dym_gen.specs.Draws.{Part, word, number, size, next, below, text_from, state_after}

-- the commands that a draw below 10 chooses among
abbrev pub drawn_commands : List (List Part)
drawn_commands =
    (word (codes "malloc ") ∷ number 200 ∷ [])
    ∷ (word (codes "calloc ") ∷ number 4 ∷ word (codes " ") ∷ number 100 ∷ [])
    ∷ (word (codes "free ") ∷ size ∷ word (codes ":") ∷ number 4 ∷ [])
    ∷ (word (codes "write ") ∷ size ∷ word (codes ":") ∷ number 4 ∷ word (codes " ") ∷ number 40 ∷ word (codes " 01ff") ∷ [])
    ∷ (word (codes "fill ") ∷ size ∷ word (codes ":") ∷ number 4 ∷ word (codes " ") ∷ number 40 ∷ word (codes " ") ∷ number 20 ∷ word (codes " ") ∷ number 256 ∷ [])
    ∷ (word (codes "link ") ∷ size ∷ word (codes ":") ∷ number 4 ∷ word (codes " ") ∷ number 40 ∷ word (codes " ") ∷ size ∷ word (codes ":") ∷ number 4 ∷ [])
    ∷ (word (codes "follow ") ∷ size ∷ word (codes ":") ∷ number 4 ∷ word (codes " ") ∷ number 40 ∷ [])
    ∷ (word (codes "read ") ∷ size ∷ word (codes ":") ∷ number 4 ∷ word (codes " 0 16") ∷ [])
    ∷ (word (codes "realloc ") ∷ size ∷ word (codes ":") ∷ number 4 ∷ word (codes " ") ∷ number 200 ∷ [])
    ∷ (word (codes "sum ") ∷ size ∷ word (codes ":") ∷ number 4 ∷ [])
    ∷ []

abbrev pub drawn_command : ℕ → List Part
drawn_command c = slice_index_or drawn_commands c []

-- whether an object restores and prunes
abbrev pub goes_back : ℕ → Bool
goes_back object = not (object % 4 == 3)

-- command j of an object, where it is chosen without a draw: the first rule that fits
abbrev pub fixed_command : ℕ → ℕ → Option (List ℕ)
fixed_command object j =
    if j == 0 then Some (codes "malloc 40")
    else (if j == 1 then Some (codes "malloc 65536")
    else (if j % 32 == 22 && goes_back object then Some (codes "restore " ++ decimal (j - 8))
    else (if j % 32 == 30 && goes_back object then Some (codes "prune " ++ decimal (j - 16))
    else (if j % 32 == 2 then Some (codes "log " ++ decimal j)
    else (if j % 4 == 2 then Some (codes "ilog " ++ decimal j)
    else None)))))

-- the text of a command, and the state after it. One that isn't fixed is drawn
abbrev pub command_text : Option (List ℕ) → ℕ → List ℕ
command_text (Some text) x = text
command_text None x = text_from (next x) (drawn_command (below 10 (next x)))

abbrev pub command_state : Option (List ℕ) → ℕ → ℕ
command_state (Some text) x = x
command_state None x = state_after (next x) (drawn_command (below 10 (next x)))
