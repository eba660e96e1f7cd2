-- Bytes as hexadecimal text.
use Rattle.std.specs.Prelude.{ℕ, ◌==◌, ◌&&◌, if◌then◌else◌, List, [], ◌∷◌, length, codes}
use Rattle.hex.specs.Hex.{encode_lower}

-- two lower-case digits for each byte, and `-` for no bytes
abbrev pub hex_text : List ℕ → List ℕ
hex_text [] = codes "-"
hex_text (b ∷ bs) = encode_lower (b ∷ bs)

-- the bytes without the zero bytes at their end
abbrev pub trimmed : List ℕ → List ℕ
trimmed [] = []
trimmed (b ∷ bs) = if b == 0 && length (trimmed bs) == 0 then [] else b ∷ trimmed bs
