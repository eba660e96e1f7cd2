-- The bytes that a call copies out of a longer list.
use Rattle.std.proofs.Common.{◌≡◌, ℕ, ◌+◌, ◌≤◌, List, ◌++◌, length, take, drop, arith, sym, ap, ◌∙◌, take-append-drop, length-drop}
use Rattle.std.proofs.lemmas.List.{length-take-le, take-append-le, take-take, drop-drop}

-- n bytes of a list from place i on stand in the front of a buffer, and what is left begins behind them
pub copied_front : (bytes got out : List ℕ) (i n : ℕ) → i + n ≤ length bytes → got ≡ take n (drop i bytes)
    → drop i bytes ≡ take n (got ++ drop n out) ++ drop (i + n) bytes
copied_front bytes got out i n within is =
    let rest = drop i bytes in
    let enough : n ≤ length rest = omega (arith, length-drop i bytes) in
    let long : n ≤ length got = omega (arith, ap length is, length-take-le n rest enough) in
    let front : take n (got ++ drop n out) ≡ take n rest =
    take-append-le n got (drop n out) long ∙ ap (take n) is ∙ take-take n n rest (omega arith) in
    sym (take-append-drop n rest) ∙ ap (λ l. l ++ drop n rest) (sym front) ∙ ap (λ l. take n (got ++ drop n out) ++ l) (drop-drop n i bytes)
