-- How long the lines of a made script are.
use Rattle.std.proofs.Common.{ℕ, zero, suc, ◌+◌, ◌*◌, ◌-◌, ◌/◌, ◌%◌, ◌^◌, ◌<◌, ◌≤◌, List, [], ◌∷◌, ◌++◌, length, arith, rules, length-append}
use Rattle.std.specs.Prelude.{decimal, codes, flat_map, None}
use Rattle.std.specs.List.{range_with_len}
use Rattle.std.proofs.Math.Nat.{div-le_self}
use Rattle.std.proofs.lemmas.Fmt.{length-decimal-le}
use Rattle.dym_gen.specs.Draws.{Part, word, number, size, next, below, size_at, text_from}
use Rattle.dym_gen.specs.Commands.{drawn_command, fixed_command, command_text}
use Rattle.dym_gen.specs.Scripts.{object_line, command_line, line_state, command_lines, object_lines, generated}
use Rattle.dym_gen.proofs.Sizes.{below_lt, size_lt}
use Rattle.dym_gen.proofs.FixedCommands.{each_fixed}

decimal_3 : (n : ℕ) → n < 1000 → length (decimal n) ≤ 3
decimal_3 n h = length-decimal-le 3 n (omega arith) (omega arith) (omega arith)

decimal_4 : (n : ℕ) → n < 10000 → length (decimal n) ≤ 4
decimal_4 n h = length-decimal-le 4 n (omega arith) (omega arith) (omega arith)

decimal_6 : (n : ℕ) → n < 1000000 → length (decimal n) ≤ 6
decimal_6 n h = length-decimal-le 6 n (omega arith) (omega arith) (omega arith)

-- the bytes that a part takes at most
abbrev room : List Part → ℕ
room [] = 0
room (word t ∷ ps) = length t + room ps
room (number m ∷ ps) = 3 + room ps
room (size ∷ ps) = 3 + room ps

-- the numbers are drawn below at most 1000
abbrev AreSmall : List Part → Type 0
AreSmall [] = Unit {0}
AreSmall (word t ∷ ps) = AreSmall ps
AreSmall (number m ∷ ps) = (0 < m) × (m ≤ 1000) × AreSmall ps
AreSmall (size ∷ ps) = AreSmall ps

text_from-le : (x : ℕ) (ps : List Part) → AreSmall ps → length (text_from x ps) ≤ room ps
text_from-le x [] small = omega arith
text_from-le x (word t ∷ ps) small = omega (arith, length-append t (text_from x ps), text_from-le x ps small)
text_from-le x (number m ∷ ps) small =
    let lt : below m (next x) < m = below_lt m (next x) small.0 in
    let le : m ≤ 1000 = small.1 in
    omega (arith, length-append (decimal (below m (next x))) (text_from (next x) ps), decimal_3 (below m (next x)) (omega arith), text_from-le (next x) ps small.2)
text_from-le x (size ∷ ps) small =
    let lt : size_at (next x) < 257 = size_lt (below 4 (next x)) (below_lt 4 (next x) (omega arith)) in
    omega (arith, length-append (decimal (size_at (next x))) (text_from (next x) ps), decimal_3 (size_at (next x)) (omega arith), text_from-le (next x) ps small)

-- the commands that are drawn draw small numbers, and take at most 24 bytes
drawn_short : (c : ℕ) → AreSmall (drawn_command c) × (room (drawn_command c) ≤ 24)
drawn_short zero = (search rules, omega arith)
drawn_short (suc zero) = (search rules, omega arith)
drawn_short (suc (suc zero)) = (search rules, omega arith)
drawn_short (suc (suc (suc zero))) = (search rules, omega arith)
drawn_short (suc (suc (suc (suc zero)))) = (search rules, omega arith)
drawn_short (suc (suc (suc (suc (suc zero))))) = (search rules, omega arith)
drawn_short (suc (suc (suc (suc (suc (suc zero)))))) = (search rules, omega arith)
drawn_short (suc (suc (suc (suc (suc (suc (suc zero))))))) = (search rules, omega arith)
drawn_short (suc (suc (suc (suc (suc (suc (suc (suc zero)))))))) = (search rules, omega arith)
drawn_short (suc (suc (suc (suc (suc (suc (suc (suc (suc zero))))))))) = (search rules, omega arith)
drawn_short (suc (suc (suc (suc (suc (suc (suc (suc (suc (suc c)))))))))) = (tt, omega arith)

drawn_le : (x : ℕ) → length (command_text None x) ≤ 24
drawn_le x =
    let short = drawn_short (below 10 (next x)) in
    omega (arith, text_from-le (next x) (drawn_command (below 10 (next x))) short.0, short.1)

-- a word and a number
named_le : (name : List ℕ) (n : ℕ) → length name ≤ 8 → n < 1000000 → length (name ++ decimal n) ≤ 24
named_le name n short small = omega (arith, length-append name (decimal n), decimal_6 n small)

-- a command takes at most 24 bytes
command_le : (object j x : ℕ) → j < 1000000 → length (command_text (fixed_command object j) x) ≤ 24
command_le object j x small =
    each_fixed (λ text. length text ≤ 24) object j x (omega arith) (omega arith) (named_le (codes "restore ") (j - 8) (omega arith) (omega arith))
    (named_le (codes "prune ") (j - 16) (omega arith) (omega arith)) (named_le (codes "log ") j (omega arith) small) (named_le (codes "ilog ") j (omega arith) small)
    (drawn_le x)

pub object_line-le : (object : ℕ) → object < 4096 → length (object_line object) ≤ 32
object_line-le object small =
    let modulo : object % 4 < 4 = omega arith in
    simp length-append (omega (arith, decimal_4 object (omega arith), decimal_3 (1 + 3 * (object % 4)) (omega arith)))

pub command_line-le : (objects k x : ℕ) → 0 < objects → objects ≤ 4096 → k < 200000 → length (command_line objects k x) ≤ 32
command_line-le objects k x some few small =
    let modulo : k % objects < objects = omega arith in
    let quotient = div-le_self k objects in
    simp length-append (omega (arith, decimal_4 (k % objects) (omega arith), command_le (k % objects) (k / objects) x (omega arith)))

command_lines-le : (objects n k x : ℕ) → 0 < objects → objects ≤ 4096 → k + n ≤ 200000 → length (command_lines objects n k x) ≤ 32 * n
command_lines-le objects zero k x some few small = omega arith
command_lines-le objects (suc n) k x some few small =
    omega (
      arith,
      length-append (command_line objects k x) (command_lines objects n (k + 1) (line_state objects k x)),
      command_line-le objects k x some few (omega arith),
      command_lines-le objects n (k + 1) (line_state objects k x) some few (omega arith),
    )

object_lines-le : (n k : ℕ) → k + n ≤ 4096 → length (flat_map object_line (range_with_len k n)) ≤ 32 * n
object_lines-le zero k small = omega arith
object_lines-le (suc n) k small =
    omega (
      arith,
      length-append (object_line k) (flat_map object_line (range_with_len (k + 1) n)),
      object_line-le k (omega arith),
      object_lines-le n (k + 1) (omega arith),
    )

pub generated-lt : (seed objects commands : ℕ) → 0 < objects → objects ≤ 4096 → commands ≤ 200000 → length (generated seed objects commands) < 6600000
unfolding generated
generated-lt seed objects commands some few short =
    omega (
      arith,
      length-append (object_lines objects) (command_lines objects commands 0 (seed % 2 ^ 31)),
      object_lines-le objects 0 (omega arith),
      command_lines-le objects commands 0 (seed % 2 ^ 31) some few (omega arith),
    )
