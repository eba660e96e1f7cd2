-- Options among the words of an order: a name, which begins with two dashes, and its values, which don't.
use Rattle.std.specs.Prelude.{ℕ, ◌+◌, Bool, true, false, not, ◌&&◌, ◌||◌, nat_eq, nat_le, List, [], ◌∷◌, drop, codes, count_by, position, take_while, Option, None, Some}
use Rattle.std.specs.List.{list_all, list_any, starts_with}
use Rattle.std.specs.Option.{option_map}
use Rattle.std.specs.Str.{bytes_eq}
use Rattle.dym_words.specs.Numbers.{number_within}

-- the word names an option
abbrev pub is_option : List ℕ → Bool
is_option w = starts_with nat_eq w (codes "--")

-- the word is this text
abbrev pub is_text : List ℕ → List ℕ → Bool
is_text text w = bytes_eq w text

-- no value stands before the first option
abbrev pub begins_with_option : List (List ℕ) → Bool
begins_with_option [] = true
begins_with_option (w ∷ ws) = is_option w

-- each option is one of these
abbrev pub are_known : List (List ℕ) → List (List ℕ) → Bool
are_known names ws = list_all (λ w. not (is_option w) || list_any (λ name. is_text name w) names) ws

-- each of these options is given at most once
abbrev pub are_single : List (List ℕ) → List (List ℕ) → Bool
are_single names ws = list_all (λ name. nat_le (count_by (is_text name) ws) 1) names

-- the words are options of these names, each at most once, with their values
abbrev pub are_options : List (List ℕ) → List (List ℕ) → Bool
are_options names ws = begins_with_option ws && are_known names ws && are_single names ws

-- the values of an option: the words after its name, up to the next option. None where it isn't given
abbrev pub values_of : List ℕ → List (List ℕ) → Option (List (List ℕ))
values_of name ws = option_map (λ i. take_while (λ v. not (is_option v)) (drop (i + 1) ws)) (position (is_text name) ws)

-- an option without values: whether it is given
abbrev pub flag_of : Option (List (List ℕ)) → Option Bool
flag_of None = Some false
flag_of (Some []) = Some true
flag_of (Some (v ∷ vs)) = None

-- an option whose value is a number from 1 to `high`: the number, or the default where the option isn't given
abbrev pub number_or : ℕ → ℕ → Option (List (List ℕ)) → Option ℕ
number_or high default None = Some default
number_or high default (Some []) = None
number_or high default (Some (v ∷ [])) = number_within 1 high v
number_or high default (Some (v ∷ w ∷ ws)) = None
