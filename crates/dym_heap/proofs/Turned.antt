-- An area that was moved to the end of all areas, and then taken from there.
use Rattle.std.proofs.Common.{◌≡◌, ℕ, suc, ◌+◌, ◌<◌, List, [], ◌∷◌, ◌++◌, length, get_or, take, drop, sym, ap, ◌∙◌, arith, length-append, length-take-le}
use Rattle.std.specs.List.{remove}
use Rattle.std.proofs.lemmas.List.{drop-drop, append_assoc, length-drop, get_or-append-add, get_or-take, get_or-drop}
use Rattle.std.proofs.Math.Seq.{take-append_seam, get_or-append_seam}

pub record TakenOut {A : Type 0} (xs rest : List A) (x : A) (k : ℕ) : Type 0 where
  pub items : rest ≡ remove xs k
  pub value : x ≡ get_or xs k x

pub taken_out : {A : Type 0} (xs ys rest : List A) (x : A) (k : ℕ) → k < length xs → ys ≡ take k xs ++ (drop 1 (drop k xs) ++ take 1 (drop k xs)) → ys ≡ rest ++ x ∷ [] → TakenOut xs rest x k
taken_out {A} xs ys rest x k within turned split =
    let last : List A = take 1 (drop k xs) in
    let tail : drop 1 (drop k xs) ≡ drop (suc k) xs = drop-drop 1 k xs ∙ (let n : k + 1 ≡ suc k = omega arith in ap (λ n. drop n xs) n) in
    let all : ys ≡ remove xs k ++ last = turned ∙ ap (λ t. take k xs ++ (t ++ last)) tail ∙ sym (append_assoc (take k xs) (drop (suc k) xs) last) in
    let one : length last ≡ 1 = length-take-le 1 (drop k xs) (omega (arith, length-drop k xs, within)) in
    let here : length ys ≡ length (remove xs k) + length last = ap (λ (l : List A). length l) all ∙ length-append (remove xs k) last in
    let there : length ys ≡ length rest + 1 = ap (λ (l : List A). length l) split ∙ length-append rest (x ∷ []) in
    let same : length rest ≡ length (remove xs k) = omega (arith, here, there, one) in
    let at : length rest ≡ length (remove xs k) + 0 = omega (arith, same) in
    let first : k + 0 ≡ k = omega arith in
    record {
      items = sym (take-append_seam rest (x ∷ [])) ∙ ap (take (length rest)) (sym split ∙ all) ∙ ap (λ n. take n (remove xs k ++ last)) same ∙ take-append_seam (remove xs k) last;
      value =
          sym (get_or-append_seam rest x [] x) ∙ ap (λ l. get_or l (length rest) x) (sym split ∙ all) ∙ ap (λ n. get_or (remove xs k ++ last) n x) at
          ∙ get_or-append-add (remove xs k) last 0 x ∙ get_or-take 1 (drop k xs) 0 x (omega arith) ∙ get_or-drop k xs 0 x ∙ ap (λ n. get_or xs n x) first;
    }
