-- Names of simulation objects.
use Rattle.std.specs.Prelude.{ℕ, Bool, not, ◌&&◌, ◌||◌, ◌==◌, nat_le, List, length, codes}
use Rattle.std.specs.List.{list_all}
use Rattle.std.specs.Char.{is_ascii_alphanumeric}
use Rattle.std.specs.Str.{bytes_eq}
use Rattle.dym_base.specs.declared.limits.TheConstants.{MOST_NAME_BYTES}

-- A-Z a-z 0-9 _
abbrev pub is_name_byte : ℕ → Bool
is_name_byte b = is_ascii_alphanumeric b || b == 95

-- 1 to 32 such characters, and not the word that declares an object
abbrev pub is_name : List ℕ → Bool
is_name bytes = nat_le 1 (length bytes) && nat_le (length bytes) MOST_NAME_BYTES && list_all is_name_byte bytes && not (bytes_eq bytes (codes "object"))
