use Rattle.std.proofs.Common.{◌≡◌, ℕ, ◌+◌, ◌-◌, ◌<◌, ◌==◌, true, List, inr, length, take, drop, get_or, arith, sym, ap, ◌∙◌, length-drop}
use Rattle.std.proofs.lemmas.List.{get_or-drop, take_all}
use Rattle.dym_script.specs.Pieces.{IsEnded}
use Rattle.dym_script.proofs.PiecesRead.{ended_before}
use Rattle.dym_script.proofs.read_ahead.line_end.Goals as goal

-- up to a line end behind so many bytes a text is ended
ended_behind : (text : List ℕ) (from n : ℕ) → from < length text → n < length (take (length text - from) (drop from text))
    → (get_or (take (length text - from) (drop from text)) n 0 == 10) ≡ true → IsEnded (take (from + n + 1) text)
ended_behind text from n within inside here =
    let all : take (length text - from) (drop from text) ≡ drop from text = take_all (length text - from) (drop from text) (omega (arith, length-drop from text)) in
    let small : n < length (drop from text) = omega (arith, inside, ap length all) in
    ended_before text (from + n) (omega (arith, small, length-drop from text))
    (ap (λ b. b == 10) (sym (ap (λ t. get_or t n 0) all ∙ get_or-drop from text n 0)) ∙ here)

pub returns-in-Some-clause-ended : goal.returns-in-Some-clause-ended
returns-in-Some-clause-ended c = inr (ended_behind c.args.text.now c.args.from c.in-Some.end c.requires c.in-Some.ensures.0.high c.in-Some.ensures.1)
