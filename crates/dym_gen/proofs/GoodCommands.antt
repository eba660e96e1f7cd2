-- Each command of a made script is good: a verb, and a word for each of its operands.
use Rattle.std.proofs.Common.{◌≡◌, ℕ, zero, suc, ◌-◌, ◌^◌, ◌<◌, ◌≤◌, true, false, List, [], ◌∷◌, ◌++◌, length, codes, Some, None, refl, sym, ap, ◌∙◌, arith, append_assoc, append-nil}
use Rattle.std.specs.Prelude.{decimal}
use Rattle.std.specs.List.{list_all}
use Rattle.std.specs.Str.{bytes_eq}
use Rattle.std.specs.Cmp.Lexicographic.{bytes_decides}
use Rattle.hex.specs.Hex.{decode_pairs}
use Rattle.dym_base.specs.declared.handle.Handle.{Handle}
use Rattle.dym_script.specs.declared.verb.Verb.{Verb}
use Rattle.dym_script.specs.declared.verb.Verb.TheVariants as verb
use Rattle.dym_script.specs.Words.{number_to, handle_of, handle_or_nil_of}
use Rattle.dym_script.specs.Table.{Operand, Num, Num32, OneHandle, HandleOrNil, Byte, ReadLen, Hex, Value, Values, value_of, values_of, row}
use Rattle.dym_script.specs.Quick.{is_bare_word, spelled}
use Rattle.dym_commands.specs.Hexes.{hex_of}
use Rattle.dym_gen.specs.Draws.{next, below, size_at, text_from}
use Rattle.dym_gen.specs.Commands.{drawn_command, fixed_command, command_text}
use Rattle.dym_gen.proofs.Sizes.{below_lt}
use Rattle.dym_gen.proofs.FixedCommands.{each_fixed}
use Rattle.dym_gen.proofs.GoodWords.{decimal_bare, decimal_read, IsSize, size_read, chunk, chunk_bare, chunk_read}

-- the word is one for the operand
pub record Fills (operand : Operand) (word : List ℕ) : Type 0 where
  pub value : Value operand
  pub reads : value_of operand word ≡ Some value
  pub bare : is_bare_word word ≡ true

-- each word is one for its operand
pub record FillAll (operands : List Operand) (words : List (List ℕ)) : Type 0 where
  pub values : Values operands
  pub reads : values_of operands words ≡ Some values
  pub count : length words ≡ length operands
  pub bare : list_all is_bare_word words ≡ true

no_operands : FillAll [] []
no_operands = record { values = tt; reads = refl; count = refl; bare = refl }

one_more : (operand : Operand) (operands : List Operand) (first : List ℕ) (words : List (List ℕ)) → Fills operand first → FillAll operands words
    → FillAll (operand ∷ operands) (first ∷ words)
one_more operand operands first words one all = record {
  values = (one.value, all.values);
  reads = rw (one.reads, all.reads) refl;
  count = ap suc all.count;
  bare = rw (one.bare, all.bare) refl;
}

-- the text is a verb and words for its operands, in the usual spelling
pub record IsCommand (text : List ℕ) : Type 0 where
  pub verb : Verb
  pub words : List (List ℕ)
  pub is : 32 ∷ text ≡ spelled ((row verb).word ∷ words)
  pub fill : FillAll (row verb).operands words

-- Words for operands

number_fills : (n : ℕ) → n < 1000000 → Fills Num (decimal n)
number_fills n small = record { value = n; reads = decimal_read (2 ^ 64 - 1) n small (omega arith); bare = decimal_bare n small }

num32_fills : (n : ℕ) → n < 1000 → Fills Num32 (decimal n)
num32_fills n small = record { value = n; reads = decimal_read (2 ^ 32 - 1) n (omega arith) (omega arith); bare = decimal_bare n (omega arith) }

byte_fills : (n : ℕ) → n < 256 → Fills Byte (decimal n)
byte_fills n small = record { value = n; reads = decimal_read 255 n (omega arith) (omega arith); bare = decimal_bare n (omega arith) }

chunk_fills : (size : List ℕ) (n : ℕ) → IsSize size → n < 1000 → Fills OneHandle (chunk size n)
chunk_fills size n is small = record { value = record { exp = is.exp; index = n }; reads = chunk_read size n is (omega arith); bare = chunk_bare size n is (omega arith) }

nil_no_chunk : handle_of (codes "nil") ≡ None
unfolding handle_of
nil_no_chunk = refl

-- a handle where a handle or nil may stand
some_read : (word : List ℕ) (h : Handle) → handle_of word ≡ Some h → handle_or_nil_of word ≡ Some (Some h)
unfolding handle_or_nil_of
some_read word h is =
    let other : bytes_eq word (codes "nil") ≡ false = elim (bytes_eq word (codes "nil")) as (λ b. bytes_eq word (codes "nil") ≡ b → b ≡ false) [
      | true ↦ λ same.
          let none : handle_of word ≡ None = ap handle_of ((bytes_decides word (codes "nil")).0 same) ∙ nil_no_chunk in
          absurd (cc)
      | false ↦ λ _. refl
    ] refl in
    rw (other, is) refl

some_fills : (size : List ℕ) (n : ℕ) → IsSize size → n < 1000 → Fills HandleOrNil (chunk size n)
some_fills size n is small = record {
  value = Some (record { exp = is.exp; index = n });
  reads = some_read (chunk size n) (record { exp = is.exp; index = n }) (chunk_read size n is (omega arith));
  bare = chunk_bare size n is (omega arith);
}

nought_fills : Fills Num32 (codes "0")
unfolding number_to
nought_fills = record { value = 0; reads = refl; bare = refl }

sixteen_fills : Fills ReadLen (codes "16")
unfolding number_to
sixteen_fills = record { value = 16; reads = refl; bare = refl }

hex_fills : Fills Hex (codes "01ff")
unfolding hex_of decode_pairs
hex_fills = record { value = 1 ∷ 255 ∷ []; reads = refl; bare = refl }

-- Commands that are drawn

-- a chunk and what stands behind it
chunk_text : (size : List ℕ) (index : ℕ) (rest : List ℕ) → size ++ 58 ∷ (decimal index ++ rest) ≡ chunk size index ++ rest
chunk_text size index rest = sym (append_assoc size (58 ∷ decimal index) rest)

-- the chunk whose size and index are the next two numbers drawn
abbrev drawn_size : ℕ → List ℕ
drawn_size x = decimal (size_at (next x))

abbrev drawn_index : ℕ → ℕ
drawn_index x = below 4 (next (next x))

abbrev drawn_chunk : ℕ → List ℕ
drawn_chunk x = chunk (drawn_size x) (drawn_index x)

size_drawn : (x : ℕ) → IsSize (drawn_size x)
size_drawn x = size_read (below 4 (next x)) (below_lt 4 (next x) (omega arith))

index_drawn : (x : ℕ) → drawn_index x < 1000
index_drawn x = omega (arith, below_lt 4 (next (next x)) (omega arith))

chunk_drawn : (x : ℕ) → Fills OneHandle (drawn_chunk x)
chunk_drawn x = chunk_fills (drawn_size x) (drawn_index x) (size_drawn x) (index_drawn x)

some_drawn : (x : ℕ) → Fills HandleOrNil (drawn_chunk x)
some_drawn x = some_fills (drawn_size x) (drawn_index x) (size_drawn x) (index_drawn x)

-- a number drawn below a limit
number_drawn : (limit x : ℕ) → 0 < limit → limit ≤ 1000 → Fills Num (decimal (below limit x))
number_drawn limit x some most = let lt : below limit x < limit = below_lt limit x some in number_fills (below limit x) (omega arith)

at_drawn : (x : ℕ) → Fills Num32 (decimal (below 40 x))
at_drawn x = let lt : below 40 x < 40 = below_lt 40 x (omega arith) in num32_fills (below 40 x) (omega arith)

-- words behind the first, which is a chunk
spelled_chunk : (x : ℕ) (words : List (List ℕ)) → 32 ∷ (drawn_size x ++ 58 ∷ (decimal (drawn_index x) ++ spelled words)) ≡ spelled (drawn_chunk x ∷ words)
spelled_chunk x words = ap (λ t. 32 ∷ t) (chunk_text (drawn_size x) (drawn_index x) (spelled words))

is_malloc : (x : ℕ) → IsCommand (text_from x (drawn_command 0))
is_malloc x = record {
  verb = verb.Malloc;
  words = decimal (below 200 (next x)) ∷ [];
  is = refl;
  fill = one_more Num [] _ [] (number_drawn 200 (next x) (omega arith) (omega arith)) no_operands;
}

is_calloc : (x : ℕ) → IsCommand (text_from x (drawn_command 1))
is_calloc x =
    let last = decimal (below 100 (next (next x))) ∷ [] in
    record {
      verb = verb.Calloc;
      words = decimal (below 4 (next x)) ∷ last;
      is = refl;
      fill = one_more Num (Num ∷ []) _ last (number_drawn 4 (next x) (omega arith) (omega arith))
          (one_more Num [] _ [] (number_drawn 100 (next (next x)) (omega arith) (omega arith)) no_operands);
    }

is_free : (x : ℕ) → IsCommand (text_from x (drawn_command 2))
is_free x = record {
  verb = verb.Free;
  words = drawn_chunk x ∷ [];
  is = ap (λ t. codes " free" ++ t) (spelled_chunk x []);
  fill = one_more HandleOrNil [] _ [] (some_drawn x) no_operands;
}

is_write : (x : ℕ) → IsCommand (text_from x (drawn_command 3))
is_write x =
    let at = below 40 (next (next (next x))) in
    record {
      verb = verb.Write;
      words = drawn_chunk x ∷ decimal at ∷ codes "01ff" ∷ [];
      is = ap (λ t. codes " write" ++ t) (spelled_chunk x (decimal at ∷ codes "01ff" ∷ []));
      fill = one_more OneHandle (Num32 ∷ Hex ∷ []) _ _ (chunk_drawn x)
          (one_more Num32 (Hex ∷ []) _ _ (at_drawn (next (next (next x)))) (one_more Hex [] _ [] hex_fills no_operands));
    }

is_fill : (x : ℕ) → IsCommand (text_from x (drawn_command 4))
is_fill x =
    let y = next (next (next x)) in
    let lt : below 20 (next y) < 20 = below_lt 20 (next y) (omega arith) in
    let words = decimal (below 40 y) ∷ decimal (below 20 (next y)) ∷ decimal (below 256 (next (next y))) ∷ [] in
    record {
      verb = verb.Fill;
      words = drawn_chunk x ∷ words;
      is = ap (λ t. codes " fill" ++ t) (spelled_chunk x words);
      fill = one_more OneHandle (Num32 ∷ Num32 ∷ Byte ∷ []) _ _ (chunk_drawn x) (one_more Num32 (Num32 ∷ Byte ∷ []) _ _ (at_drawn y)
          (one_more Num32 (Byte ∷ []) _ _ (num32_fills (below 20 (next y)) (omega arith))
          (one_more Byte [] _ [] (byte_fills (below 256 (next (next y))) (below_lt 256 (next (next y)) (omega arith))) no_operands)));
    }

is_link : (x : ℕ) → IsCommand (text_from x (drawn_command 5))
is_link x =
    let y = next (next (next x)) in
    record {
      verb = verb.Link;
      words = drawn_chunk x ∷ decimal (below 40 y) ∷ drawn_chunk y ∷ [];
      is = ap (λ t. codes " link " ++ (drawn_size x ++ 58 ∷ (decimal (drawn_index x) ++ 32 ∷ (decimal (below 40 y) ++ t)))) (spelled_chunk y [])
          ∙ ap (λ t. codes " link" ++ t) (spelled_chunk x (decimal (below 40 y) ∷ drawn_chunk y ∷ []));
      fill = one_more OneHandle (Num32 ∷ HandleOrNil ∷ []) _ _ (chunk_drawn x)
          (one_more Num32 (HandleOrNil ∷ []) _ _ (at_drawn y) (one_more HandleOrNil [] _ [] (some_drawn y) no_operands));
    }

is_follow : (x : ℕ) → IsCommand (text_from x (drawn_command 6))
is_follow x =
    let y = next (next (next x)) in
    record {
      verb = verb.Follow;
      words = drawn_chunk x ∷ decimal (below 40 y) ∷ [];
      is = ap (λ t. codes " follow" ++ t) (spelled_chunk x (decimal (below 40 y) ∷ []));
      fill = one_more OneHandle (Num32 ∷ []) _ _ (chunk_drawn x) (one_more Num32 [] _ [] (at_drawn y) no_operands);
    }

is_read : (x : ℕ) → IsCommand (text_from x (drawn_command 7))
is_read x = record {
  verb = verb.Read;
  words = drawn_chunk x ∷ codes "0" ∷ codes "16" ∷ [];
  is = ap (λ t. codes " read" ++ t) (spelled_chunk x (codes "0" ∷ codes "16" ∷ []));
  fill = one_more OneHandle (Num32 ∷ ReadLen ∷ []) _ _ (chunk_drawn x)
      (one_more Num32 (ReadLen ∷ []) _ _ nought_fills (one_more ReadLen [] _ [] sixteen_fills no_operands));
}

is_realloc : (x : ℕ) → IsCommand (text_from x (drawn_command 8))
is_realloc x =
    let y = next (next (next x)) in
    record {
      verb = verb.Realloc;
      words = drawn_chunk x ∷ decimal (below 200 y) ∷ [];
      is = ap (λ t. codes " realloc" ++ t) (spelled_chunk x (decimal (below 200 y) ∷ []));
      fill = one_more HandleOrNil (Num ∷ []) _ _ (some_drawn x) (one_more Num [] _ [] (number_drawn 200 y (omega arith) (omega arith)) no_operands);
    }

is_sum : (x : ℕ) → IsCommand (text_from x (drawn_command 9))
is_sum x = record {
  verb = verb.Sum;
  words = drawn_chunk x ∷ [];
  is = ap (λ t. codes " sum" ++ t) (spelled_chunk x []);
  fill = one_more OneHandle [] _ [] (chunk_drawn x) no_operands;
}

is_drawn : (c x : ℕ) → c < 10 → IsCommand (text_from x (drawn_command c))
is_drawn zero x small = is_malloc x
is_drawn (suc zero) x small = is_calloc x
is_drawn (suc (suc zero)) x small = is_free x
is_drawn (suc (suc (suc zero))) x small = is_write x
is_drawn (suc (suc (suc (suc zero)))) x small = is_fill x
is_drawn (suc (suc (suc (suc (suc zero))))) x small = is_link x
is_drawn (suc (suc (suc (suc (suc (suc zero)))))) x small = is_follow x
is_drawn (suc (suc (suc (suc (suc (suc (suc zero))))))) x small = is_read x
is_drawn (suc (suc (suc (suc (suc (suc (suc (suc zero)))))))) x small = is_realloc x
is_drawn (suc (suc (suc (suc (suc (suc (suc (suc (suc zero))))))))) x small = is_sum x
is_drawn (suc (suc (suc (suc (suc (suc (suc (suc (suc (suc c)))))))))) x small = absurd (omega arith)

drawn : (x : ℕ) → IsCommand (command_text None x)
drawn x = is_drawn (below 10 (next x)) (next x) (below_lt 10 (next x) (omega arith))

-- Commands that are chosen without a draw

-- a verb and a number
named : (v : Verb) (n : ℕ) → (row v).operands ≡ Num ∷ [] → n < 1000000 → IsCommand ((row v).word ++ 32 ∷ decimal n)
named v n operands small = record {
  verb = v;
  words = decimal n ∷ [];
  is = ap (λ t. 32 ∷ (row v).word ++ 32 ∷ t) (sym (append-nil (decimal n)));
  fill = rw operands (one_more Num [] (decimal n) [] (number_fills n small) no_operands);
}

forty : Fills Num (codes "40")
unfolding number_to
forty = record { value = 40; reads = refl; bare = refl }

segment : Fills Num (codes "65536")
unfolding number_to
segment = record { value = 65536; reads = refl; bare = refl }

is_first : IsCommand (codes "malloc 40")
is_first = record { verb = verb.Malloc; words = codes "40" ∷ []; is = refl; fill = one_more Num [] _ [] forty no_operands }

is_second : IsCommand (codes "malloc 65536")
is_second = record { verb = verb.Malloc; words = codes "65536" ∷ []; is = refl; fill = one_more Num [] _ [] segment no_operands }

-- each command that an object gets
pub each_command : (object j x : ℕ) → j < 1000000 → IsCommand (command_text (fixed_command object j) x)
each_command object j x small =
    each_fixed IsCommand object j x is_first is_second (named verb.Restore (j - 8) refl (omega arith)) (named verb.Prune (j - 16) refl (omega arith))
    (named verb.Log j refl small) (named verb.Ilog j refl small) (drawn x)
