-- What single words stand for.
use Rattle.std.specs.Prelude.{ℕ, ◌+◌, ◌-◌, ◌^◌, Bool, not, ◌&&◌, ◌==◌, nat_le, nat_lt, if◌then◌else◌, List, length, take, drop, codes, Option, None, Some}
use Rattle.std.specs.List.{list_all, prefix_len}
use Rattle.std.specs.Char.{is_ascii_digit}
use Rattle.std.specs.Str.{bytes_eq}
use Rattle.std.specs.Str.Parse.{digits_value}
use Rattle.dym_base.specs.declared.handle.Handle.{Handle}

-- 1 to 20 digits. Leading zeros are allowed
abbrev pub is_digits : List ℕ → Bool
is_digits word = nat_le 1 (length word) && nat_le (length word) 20 && list_all is_ascii_digit word

-- the number that a word writes, where it writes one and that is at most this
unfoldable pub number_to : ℕ → List ℕ → Option ℕ
number_to most word =
    if is_digits word && nat_le (digits_value 10 word) most then Some (digits_value 10 word) else None

-- the class exponent of a chunk size, which is spelled so
unfoldable pub exponent_of : List ℕ → Option ℕ
exponent_of word =
    if bytes_eq word (codes "32") then Some 5
    else if bytes_eq word (codes "64") then Some 6
    else if bytes_eq word (codes "128") then Some 7
    else if bytes_eq word (codes "256") then Some 8
    else if bytes_eq word (codes "512") then Some 9
    else if bytes_eq word (codes "1024") then Some 10
    else if bytes_eq word (codes "2048") then Some 11
    else if bytes_eq word (codes "4096") then Some 12
    else if bytes_eq word (codes "8192") then Some 13
    else if bytes_eq word (codes "16384") then Some 14
    else if bytes_eq word (codes "32768") then Some 15
    else if bytes_eq word (codes "65536") then Some 16
    else None

-- the handle of a class exponent and an index, where there are both
abbrev pub handle_from : Option ℕ → Option ℕ → Option Handle
handle_from None index = None
handle_from (Some exp) None = None
handle_from (Some exp) (Some index) = Some (record { exp = exp; index = index })

-- how many bytes stand before the first colon
abbrev pub colon_at : List ℕ → ℕ
colon_at word = prefix_len (λ byte. not (byte == 58)) word

-- the handle that a word names: a chunk size, a colon, and an index below 2 ^ 32
unfoldable pub handle_of : List ℕ → Option Handle
handle_of word =
    if nat_lt (colon_at word) (length word)
    then handle_from (exponent_of (take (colon_at word) word)) (number_to (2 ^ 32 - 1) (drop (colon_at word + 1) word))
    else None

-- a handle that isn't nil
abbrev pub some_handle : Option Handle → Option (Option Handle)
some_handle None = None
some_handle (Some h) = Some (Some h)

-- a handle, or the word for nil
unfoldable pub handle_or_nil_of : List ℕ → Option (Option Handle)
handle_or_nil_of word = if bytes_eq word (codes "nil") then Some None else some_handle (handle_of word)
