-- Lines in the usual spelling.
use Rattle.std.proofs.Common.{◌≡◌, ℕ, suc, ◌+◌, ◌-◌, ◌^◌, ◌≤◌, ◌==◌, Bool, true, false, not, ◌&&◌, List, [], ◌∷◌, ◌++◌, length, take, drop, filter, codes, Some, None, Ok, if◌then◌else◌, nat_le, nat_lt, refl, sym, ap, subst, ◌∙◌, arith, append-nil, append_assoc, drop-cons, take-append-drop, length-append}
use Rattle.std.proofs.Math.Seq.{take-append_seam, drop-append-add}
use Rattle.std.proofs.lemmas.Slice.Eq.{HasBytesAt}
use Rattle.std.proofs.lemmas.List.Folds.{list_all-append}
use Rattle.std.proofs.lemmas.Bool.Decides.{nat_tests}
use Rattle.std.specs.List.{list_all, slice_split}
use Rattle.std.specs.Char.{is_ascii_digit}
use Rattle.std.specs.Str.{bytes_eq}
use Rattle.std.specs.Cmp.Lexicographic.{bytes_decides}
use Rattle.std.specs.Str.Parse.{digits_value}
use Rattle.hex.specs.Hex.{is_hex_digit}
use Rattle.dym_base.specs.declared.handle.Handle.{Handle}
use Rattle.dym_script.specs.declared.verb.Verb.{Verb}
use Rattle.dym_script.specs.declared.verb.Verb.TheVariants as verb
use Rattle.dym_commands.specs.declared.request.Request.{Request}
use Rattle.dym_base.specs.Lines.{lines_of}
use Rattle.dym_script.specs.Lines.{words_of, is_space, is_word, is_printable}
use Rattle.dym_commands.specs.Requests.{asks}
use Rattle.dym_commands.specs.Hexes.{hex_of, IsAtFront}
use Rattle.dym_script.specs.Words.{is_digits, number_to, exponent_of, colon_at, handle_of, handle_or_nil_of}
use Rattle.dym_script.specs.Table.{Operand, Value, Values, value_of, row, verb_of}
use Rattle.dym_script.specs.Quick.{is_bare, is_bare_word, spelled, Counts, Sizes, Begins, Spells, Demands}
use Rattle.dym_script.proofs.WordCuts.{both_true, take_rest}
use Rattle.dym_script.proofs.Rows.{command_good}

pub no_more : (b : Bool) → not b ≡ true → b ≡ false
no_more true is = absurd (cc)
no_more false is = refl

-- a list passes a weaker test
pub all_weaker : (p q : ℕ → Bool) → ((c : ℕ) → p c ≡ true → q c ≡ true) → (xs : List ℕ) → list_all p xs ≡ true → list_all q xs ≡ true
all_weaker p q weaker [] all = refl
all_weaker p q weaker (x ∷ xs) all = let two = both_true (p x) (list_all p xs) all in rw (weaker x two.0, all_weaker p q weaker xs two.1) refl

-- a byte of a word is no space, and may stand in a line
no_space : (x : ℕ) → is_bare x ≡ true → (x == 32) ≡ false
no_space x bare = grind (arith, nat_tests)

bare_printable : (x : ℕ) → is_bare x ≡ true → is_printable x ≡ true
bare_printable x bare = grind (arith, nat_tests)

-- a word's bytes join the first piece of what follows
split_word : (word rest piece : List ℕ) (pieces : List (List ℕ)) → list_all is_bare word ≡ true → slice_split is_space rest ≡ piece ∷ pieces
    → slice_split is_space (word ++ rest) ≡ (word ++ piece) ∷ pieces
split_word [] rest piece pieces bare split = split
split_word (x ∷ xs) rest piece pieces bare split =
    let two = both_true (is_bare x) (list_all is_bare xs) bare in
    rw (no_space x two.0, split_word xs rest piece pieces two.1 split) refl

split_spelled : (words : List (List ℕ)) → list_all is_bare_word words ≡ true → slice_split is_space (spelled words) ≡ [] ∷ words
split_spelled [] bare = refl
split_spelled (word ∷ words) bare =
    let two = both_true (is_bare_word word) (list_all is_bare_word words) bare in
    let good = both_true (is_word word) (list_all is_bare word) two.0 in
    ap (λ ps. [] ∷ ps) (split_word word (spelled words) [] words good.1 (split_spelled words two.1) ∙ ap (λ w. w ∷ words) (append-nil word))

words_stay : (words : List (List ℕ)) → list_all is_bare_word words ≡ true → filter is_word words ≡ words
words_stay [] bare = refl
words_stay (word ∷ words) bare =
    let two = both_true (is_bare_word word) (list_all is_bare_word words) bare in
    let good = both_true (is_word word) (list_all is_bare word) two.0 in
    rw (good.0, words_stay words two.1) refl

-- the words of a line in the usual spelling
pub words_of_spelled : (name : List ℕ) (words : List (List ℕ)) → is_bare_word name ≡ true → list_all is_bare_word words ≡ true
    → words_of (name ++ spelled words) ≡ name ∷ words
unfolding words_of
words_of_spelled name words named bare =
    let good = both_true (is_word name) (list_all is_bare name) named in
    ap (filter is_word) (split_word name (spelled words) [] words good.1 (split_spelled words bare) ∙ ap (λ w. w ∷ words) (append-nil name))
    ∙ rw (good.0, words_stay words bare) refl

word_printable : (word : List ℕ) → is_bare_word word ≡ true → list_all is_printable word ≡ true
word_printable word bare = all_weaker is_bare is_printable bare_printable word (both_true (is_word word) (list_all is_bare word) bare).1

words_printable : (words : List (List ℕ)) → list_all is_bare_word words ≡ true → list_all is_printable (spelled words) ≡ true
words_printable [] bare = refl
words_printable (word ∷ words) bare =
    let two = both_true (is_bare_word word) (list_all is_bare_word words) bare in
    list_all-append is_printable word (spelled words) ∙ rw (word_printable word two.0, words_printable words two.1) refl

-- a line in the usual spelling has only bytes that may stand in a line
pub line_printable : (name : List ℕ) (words : List (List ℕ)) → is_bare_word name ≡ true → list_all is_bare_word words ≡ true
    → list_all is_printable (name ++ spelled words) ≡ true
line_printable name words named bare = list_all-append is_printable name (spelled words) ∙ rw (word_printable name named, words_printable words bare) refl

-- a line end may not
no_end : (x : ℕ) → is_printable x ≡ true → (x == 10) ≡ false
no_end x printable = grind (arith, nat_tests)

-- the first line of a text
pub lines_of_front : (line after : List ℕ) → list_all is_printable line ≡ true → lines_of (line ++ 10 ∷ after) ≡ line ∷ lines_of after
lines_of_front [] after printable = refl
lines_of_front (x ∷ xs) after printable =
    let two = both_true (is_printable x) (list_all is_printable xs) printable in
    rw (no_end x two.0, lines_of_front xs after two.1) refl

-- a line end, and no words before it
pub spells_end : (text after : List ℕ) → text ≡ 10 ∷ after → Spells [] text tt after
spells_end text after is = record {
  words = [];
  is = is;
  bare = refl;
  count = refl;
  reads = refl;
}

-- one word more at the front
pub spells_more : (operand : Operand) (operands : List Operand) (text rest after : List ℕ) (value : Value operand) (values : Values operands)
    → Begins (value_of operand) text value rest → Spells operands rest values after → Spells (operand ∷ operands) text (value, values) after
spells_more operand operands text rest after value values begins spells = record {
  words = begins.word ∷ spells.words;
  is = begins.is ∙ ap (λ t. 32 ∷ t) (ap (λ t. begins.word ++ t) spells.is ∙ sym (append_assoc begins.word (spelled spells.words) (10 ∷ after)));
  bare = rw (begins.bare, spells.bare) refl;
  count = ap suc spells.count;
  reads = rw (begins.reads, spells.reads) refl;
}

-- each verb has the word of its row, which is a word
verb_of_row : (v : Verb) → (verb_of (row v).word ≡ Some v) × (is_bare_word (row v).word ≡ true)
unfolding verb_of
verb_of_row verb.Malloc = (refl, refl)
verb_of_row verb.Calloc = (refl, refl)
verb_of_row verb.Realloc = (refl, refl)
verb_of_row verb.Free = (refl, refl)
verb_of_row verb.Write = (refl, refl)
verb_of_row verb.Fill = (refl, refl)
verb_of_row verb.Read = (refl, refl)
verb_of_row verb.Link = (refl, refl)
verb_of_row verb.Follow = (refl, refl)
verb_of_row verb.Sum = (refl, refl)
verb_of_row verb.Log = (refl, refl)
verb_of_row verb.Ilog = (refl, refl)
verb_of_row verb.Restore = (refl, refl)
verb_of_row verb.Prune = (refl, refl)
verb_of_row verb.Logs = (refl, refl)

starts_at : (text front : List ℕ) (i : ℕ) → i + length front ≤ length text → HasBytesAt text i front → drop i text ≡ front ++ drop (i + length front) text
starts_at text [] i inside has = ap (λ n. drop n text) (omega arith)
starts_at text (c ∷ front) i inside has =
    drop-cons text i 0 (omega arith) ∙ ap (λ x. x ∷ drop (suc i) text) has.0
    ∙ ap (λ t. c ∷ t) (starts_at text front (suc i) (omega arith) has.1 ∙ ap (λ n. front ++ drop n text) (omega arith))

-- these bytes stand at the front of a text
pub starts : (text front rest : List ℕ) → length front ≤ length text → HasBytesAt text 0 front
    → rest ≡ take (length text - length front) (drop (length front) text) → text ≡ front ++ rest
starts text front rest inside has is = starts_at text front 0 (omega arith) has
    ∙ ap (λ t. front ++ t) (ap (λ n. drop n text) (omega arith) ∙ sym (is ∙ take_rest (length front) text))

-- a verb in the usual spelling asks what the values of its words make
pub demands : (v : Verb) (text rest after : List ℕ) (asked : Request (List ℕ)) (values : Values (row v).operands) → text ≡ 32 ∷ (row v).word ++ rest
    → Spells (row v).operands rest values after → (row v).make values ≡ asks asked → Demands text asked after
demands v text rest after asked values at spells makes = record {
  verb = v;
  word = (row v).word;
  words = spells.words;
  is = at ∙ ap (λ t. 32 ∷ t) (ap (λ t. (row v).word ++ t) spells.is ∙ sym (append_assoc (row v).word (spelled spells.words) (10 ∷ after)));
  bare = rw ((verb_of_row v).1, spells.bare) refl;
  named = (verb_of_row v).0;
  makes = command_good v spells.words values spells.count spells.reads ∙ ap (λ c. Ok c) makes;
}

digit_bare : (c : ℕ) → is_ascii_digit c ≡ true → is_bare c ≡ true
digit_bare c digit = grind (arith, nat_tests)

pub digits_bare : (word : List ℕ) → is_digits word ≡ true → is_bare_word word ≡ true
digits_bare [] good = absurd (cc)
digits_bare (c ∷ cs) good = all_weaker is_ascii_digit is_bare digit_bare (c ∷ cs)
    (both_true (nat_le 1 (length (c ∷ cs)) && nat_le (length (c ∷ cs)) 20) (list_all is_ascii_digit (c ∷ cs)) good).1

-- a number that a word writes
number_good : (most value : ℕ) (word : List ℕ) → Some value ≡ number_to most word → (is_digits word ≡ true) × (digits_value 10 word ≡ value)
unfolding number_to
number_good most value word is = elim (is_digits word) as (λ b. is_digits word ≡ b
    → Some value ≡ (if b && nat_le (digits_value 10 word) most then Some (digits_value 10 word) else None)
    → (is_digits word ≡ true) × (digits_value 10 word ≡ value)) [
      | true ↦ λ good. elim (nat_le (digits_value 10 word) most) as (λ b. Some value ≡ (if b then Some (digits_value 10 word) else None)
          → (is_digits word ≡ true) × (digits_value 10 word ≡ value)) [
            | true ↦ λ same. (good, cc)
            | false ↦ λ clash. absurd (cc)
          ]
      | false ↦ λ other clash. absurd (cc)
    ] refl is

-- a word at the front of a text that writes a number
pub counts_word : (text word rest : List ℕ) (most n value : ℕ) → word ≡ take n text → rest ≡ drop n text → Some value ≡ number_to most word → Counts text value rest
counts_word text word rest most n value front back is =
    let good = number_good most value word is in
    record {
      digits = word;
      is = sym (take-append-drop n text) ∙ (λ i. sym front i ++ sym back i);
      good = good.0;
      value = good.1;
    }

-- digits are a number where it isn't too great
pub number_read : (most value : ℕ) (word : List ℕ) → is_digits word ≡ true → digits_value 10 word ≡ value → value ≤ most → number_to most word ≡ Some value
unfolding number_to
number_read most value word good is small =
    let fits : nat_le value most ≡ true = grind (arith, nat_tests) in
    rw (good, is, fits) refl

pub begins_number : (most : ℕ) (text digits rest : List ℕ) (value : ℕ) → text ≡ 32 ∷ digits → Counts digits value rest → value ≤ most
    → Begins (number_to most) text value rest
begins_number most text digits rest value at counts small = record {
  word = counts.digits;
  is = at ∙ ap (λ t. 32 ∷ t) counts.is;
  bare = digits_bare counts.digits counts.good;
  reads = number_read most value counts.digits counts.good counts.value small;
}

colon_after : (size rest : List ℕ) → list_all (λ b. not (b == 58)) size ≡ true → colon_at (size ++ 58 ∷ rest) ≡ length size
colon_after [] rest whole = refl
colon_after (x ∷ xs) rest whole =
    let two = both_true (not (x == 58)) (list_all (λ b. not (b == 58)) xs) whole in
    rw (no_more (x == 58) two.0) (ap (λ n. 1 + n) (colon_after xs rest two.1) ∙ omega arith)

handle_read : (size digits : List ℕ) (exp index : ℕ) → list_all (λ b. not (b == 58)) size ≡ true → exponent_of size ≡ Some exp
    → number_to (2 ^ 32 - 1) digits ≡ Some index → handle_of (size ++ 58 ∷ digits) ≡ Some (record { exp = exp; index = index })
unfolding handle_of
handle_read size digits exp index whole is number =
    let inside : nat_lt (length size) (length (size ++ 58 ∷ digits)) ≡ true = grind (arith, nat_tests, length-append size (58 ∷ digits)) in
    rw (colon_after size digits whole, inside, take-append_seam size (58 ∷ digits), is, drop-append-add size (58 ∷ digits) 1, number) refl

bare_front : (xs ys : List ℕ) → list_all is_bare xs ≡ true → list_all is_bare ys ≡ true → list_all is_bare (xs ++ 58 ∷ ys) ≡ true
bare_front xs ys one two = list_all-append is_bare xs (58 ∷ ys) ∙ rw (one, two) refl

word_front : (xs ys : List ℕ) → list_all is_bare (xs ++ 58 ∷ ys) ≡ true → is_bare_word (xs ++ 58 ∷ ys) ≡ true
word_front [] ys bare = bare
word_front (x ∷ xs) ys bare = bare

pub begins_handle : (text after digits rest : List ℕ) (exp index : ℕ) → text ≡ 32 ∷ after → Sizes after exp digits → Counts digits index rest
    → index ≤ 2 ^ 32 - 1 → Begins handle_of text (record { exp = exp; index = index }) rest
begins_handle text after digits rest exp index at sizes counts small =
    let bare = digits_bare counts.digits counts.good in
    let joined : after ≡ (sizes.size ++ 58 ∷ counts.digits) ++ rest = sizes.is ∙ ap (λ t. sizes.size ++ 58 ∷ t) counts.is
    ∙ sym (append_assoc sizes.size (58 ∷ counts.digits) rest) in
    record {
      word = sizes.size ++ 58 ∷ counts.digits;
      is = at ∙ ap (λ t. 32 ∷ t) joined;
      bare = word_front sizes.size counts.digits
          (bare_front sizes.size counts.digits sizes.bare (both_true (is_word counts.digits) (list_all is_bare counts.digits) bare).1);
      reads = handle_read sizes.size counts.digits exp index sizes.whole sizes.value (number_read (2 ^ 32 - 1) index counts.digits counts.good counts.value small);
    }

-- a chunk size and its colon at the front of a text
pub sizes_front : (text size rest : List ℕ) (exp : ℕ) → text ≡ (size ++ 58 ∷ []) ++ rest → list_all is_bare size ≡ true
    → list_all (λ b. not (b == 58)) size ≡ true → exponent_of size ≡ Some exp → Sizes text exp rest
sizes_front text size rest exp at bare whole value = record {
  size = size;
  is = at ∙ append_assoc size (58 ∷ []) rest;
  bare = bare;
  whole = whole;
  value = value;
}

nil_no_size : (word : List ℕ) → bytes_eq word (codes "nil") ≡ true → handle_of word ≡ None
unfolding handle_of
nil_no_size word is = subst (λ w. handle_of w ≡ None) (sym ((bytes_decides word (codes "nil")).0 is)) refl

-- a handle where a handle or nil may stand
pub begins_some : (text rest : List ℕ) (h : Handle) → Begins handle_of text h rest → Begins handle_or_nil_of text (Some h) rest
unfolding handle_or_nil_of
begins_some text rest h begins =
    let other : bytes_eq begins.word (codes "nil") ≡ false = elim (bytes_eq begins.word (codes "nil")) as (λ b. bytes_eq begins.word (codes "nil") ≡ b → b ≡ false) [
      | true ↦ λ same. let none = nil_no_size begins.word same in absurd (cc)
      | false ↦ λ _. refl
    ] refl in
    record {
      word = begins.word;
      is = begins.is;
      bare = begins.bare;
      reads = rw (other, begins.reads) refl;
    }

-- the word for nil
pub begins_nil : (text rest : List ℕ) → text ≡ 32 ∷ codes "nil" ++ rest → Begins handle_or_nil_of text None rest
unfolding handle_or_nil_of
begins_nil text rest at = record {
  word = codes "nil";
  is = at;
  bare = refl;
  reads = refl;
}

hex_bare : (c : ℕ) → is_hex_digit c ≡ true → is_bare c ≡ true
hex_bare c digit = grind (arith, nat_tests)

bare_long : (word : List ℕ) → 2 ≤ length word → list_all is_bare word ≡ true → is_bare_word word ≡ true
bare_long [] long bare = absurd (omega arith)
bare_long (x ∷ xs) long bare = bare

pub begins_hex : (text more bytes rest : List ℕ) → text ≡ 32 ∷ more → IsAtFront more bytes rest → Begins hex_of text bytes rest
begins_hex text more bytes rest at front = record {
  word = front.word;
  is = at ∙ ap (λ t. 32 ∷ t) front.is;
  bare = bare_long front.word front.some (all_weaker is_hex_digit is_bare hex_bare front.word front.digits);
  reads = front.writes;
}
