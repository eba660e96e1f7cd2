-- Fronts of a page of which a part was written.
use Rattle.std.proofs.Common.{ℕ, ◌≡◌, ◌+◌, ◌≤◌, List, ◌++◌, length, take, ap, sym, ◌∙◌, arith}
use Rattle.std.proofs.lemmas.List.{take-take, length-take-le}
use Rattle.std.proofs.Math.Seq.{take-append-add}

-- of a text that was put behind a front only a front may be kept
pub shorter_text : (page new text : List ℕ) (end len : ℕ) → end + length text ≤ length page → len ≤ length text → take (end + length text) new ≡ take end page ++ text → take (end + len) new ≡ take end page ++ take len text
shorter_text page new text end len room short put =
    let front = take end page in
    let at : length front ≡ end = length-take-le end page (omega arith) in
    let whole : take (end + len) new ≡ take (end + len) (front ++ text) = sym (take-take (end + len) (end + length text) new (omega arith)) ∙ ap (take (end + len)) put in
    whole ∙ ap (λ n. take (n + len) (front ++ text)) (sym at) ∙ take-append-add front text len
