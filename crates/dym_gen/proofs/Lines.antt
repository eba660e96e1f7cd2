-- The lines of a made script, one after the other.
use Rattle.std.proofs.Common.{◌≡◌, ℕ, zero, suc, ◌+◌, ◌-◌, ◌≤◌, List, ◌++◌, ap, sym, ◌∙◌, append_assoc, append-nil, arith}
use Rattle.std.specs.Prelude.{flat_map}
use Rattle.std.specs.List.{range_with_len}
use Rattle.dym_gen.specs.Scripts.{object_line, command_line, line_state, command_lines}

-- the declarations of m objects and of the n behind them
abbrev declarations : ℕ → ℕ → List ℕ
declarations first n = flat_map object_line (range_with_len first n)

pub objects_joined : (m n first : ℕ) → declarations first (m + n) ≡ declarations first m ++ declarations (first + m) n
objects_joined zero n first =
    let none : 0 + n ≡ n = omega arith in
    let same : first ≡ first + 0 = omega arith in
    ap (declarations first) none ∙ ap (λ k. declarations k n) same
objects_joined (suc m) n first =
    let count : suc m + n ≡ suc (m + n) = omega arith in
    let next : first + 1 + m ≡ first + suc m = omega arith in
    ap (declarations first) count ∙ ap (λ l. object_line first ++ l) (objects_joined m n (first + 1))
    ∙ sym (append_assoc (object_line first) (declarations (first + 1) m) (declarations (first + 1 + m) n))
    ∙ ap (λ k. declarations first (suc m) ++ declarations k n) next

pub objects_more : (first i : ℕ) → declarations first (i + 1) ≡ declarations first i ++ object_line (first + i)
objects_more first i = objects_joined i 1 first ∙ ap (λ l. declarations first i ++ l) (append-nil (object_line (first + i)))

-- where a text is the next of them, what is left is that text and the others
pub objects_left : (objects first count : ℕ) (text : List ℕ) → first + count ≤ objects → text ≡ declarations first count
    → declarations first (objects - first) ≡ text ++ declarations (first + count) (objects - (first + count))
objects_left objects first count text within put =
    let left : objects - first ≡ count + (objects - (first + count)) = omega arith in
    ap (declarations first) left ∙ objects_joined count (objects - (first + count)) first
    ∙ ap (λ l. l ++ declarations (first + count) (objects - (first + count))) (sym put)

-- of the lines of commands those of a front stand in `front`: line k is put behind it
pub commands_more : (objects first start i n k x y : ℕ) (front new : List ℕ)
    → command_lines objects (i + (n + 1)) first start ≡ front ++ command_lines objects (n + 1) k x
    → new ≡ front ++ command_line objects k x → y ≡ line_state objects k x
    → command_lines objects (i + 1 + n) first start ≡ new ++ command_lines objects n (k + 1) y
commands_more objects first start i n k x y front new before put state =
    let count : i + 1 + n ≡ i + (n + 1) = omega arith in
    let after = command_lines objects n (k + 1) (line_state objects k x) in
    let more : n + 1 ≡ suc n = omega arith in
    ap (λ m. command_lines objects m first start) count ∙ before ∙ ap (λ m. front ++ command_lines objects m k x) more
    ∙ sym (append_assoc front (command_line objects k x) after)
    ∙ ap (λ l. l ++ after) (sym put) ∙ ap (λ s. new ++ command_lines objects n (k + 1) s) (sym state)

-- the same of the lines of commands
pub commands_left : (objects commands first count x y : ℕ) (text : List ℕ) → first + count ≤ commands
    → ((n : ℕ) → command_lines objects (count + n) first x ≡ text ++ command_lines objects n (first + count) y)
    → command_lines objects (commands - first) first x ≡ text ++ command_lines objects (commands - (first + count)) (first + count) y
commands_left objects commands first count x y text within put =
    let left : commands - first ≡ count + (commands - (first + count)) = omega arith in
    ap (λ n. command_lines objects n first x) left ∙ put (commands - (first + count))
