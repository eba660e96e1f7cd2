-- One byte, written again and again.
use Rattle.std.proofs.Common.{◌≡◌, ℕ, zero, suc, ◌+◌, ◌<◌, ◌≤◌, true, Option, Some, None, List, [], ◌∷◌, ◌++◌, length, get_or, take, drop, replicate, refl, sym, ap, subst, ◌∙◌, arith, MatchOption, length-take, length-append, append_assoc, get_or-set_same}
use Rattle.std.proofs.lemmas.List.{set-set, take-replicate, length-drop, length-replicate, replicate-append-replicate, take_at, drop_at, drop-drop}
use Rattle.dym_base.specs.HeapStep.{splice}
use Rattle.dym_heap.specs.Shelves.{FitsIn}
use Rattle.dym_heap.specs.SizedAreas.{SizedAreaMeaning, IsSizedArea, area_with_chunk, IsRepeated}
use Rattle.dym_heap.proofs.Sizes.{size_fits, size_most}

-- a piece of a block of equal bytes
pub piece : (block : List ℕ) (n : ℕ) → IsRepeated block → n ≤ length block → take n block ≡ replicate n (get_or block 0 0)
piece block n is fits = ap (take n) is.same ∙ take-replicate n (length block) (get_or block 0 0) fits

pub length-splice : (at : ℕ) (new old : List ℕ) → at + length new ≤ length old → length (splice at new old) ≡ length old
length-splice at new old fits = omega (arith, length-append (take at old ++ new) (drop (at + length new) old), length-append (take at old) new, length-take at old, length-drop (at + length new) old)

-- bytes that follow on bytes
pub splice-splice : (at : ℕ) (xs ys old : List ℕ) → at + (length xs + length ys) ≤ length old → splice (at + length xs) ys (splice at xs old) ≡ splice at (xs ++ ys) old
splice-splice at xs ys old fits =
    let front : List ℕ = take at old ++ xs in
    let rest : List ℕ = drop (at + length xs) old in
    let long : length front ≡ at + length xs = omega (arith, length-append (take at old) xs, length-take at old) in
    let head : take (at + length xs) (front ++ rest) ≡ front = take_at front rest (at + length xs) long in
    let tail : drop (at + length xs + length ys) (front ++ rest) ≡ drop (at + length (xs ++ ys)) old =
    sym (drop-drop (length ys) (at + length xs) (front ++ rest)) ∙ ap (drop (length ys)) (drop_at front rest (at + length xs) long) ∙ drop-drop (length ys) (at + length xs) old
    ∙ (let e : at + length xs + length ys ≡ at + length (xs ++ ys) = omega (arith, length-append xs ys) in ap (λ n. drop n old) e) in
    ap (λ zs. zs ++ ys ++ drop (at + length xs + length ys) (front ++ rest)) head ∙ ap (λ zs. front ++ ys ++ zs) tail
    ∙ ap (λ zs. zs ++ drop (at + length (xs ++ ys)) old) (append_assoc (take at old) xs ys)

pub splice-more : (at n m b : ℕ) (old : List ℕ) → at + (n + m) ≤ length old → splice (at + n) (replicate m b) (splice at (replicate n b) old) ≡ splice at (replicate (n + m) b) old
splice-more at n m b old fits =
    let xs : List ℕ = replicate n b in
    let ys : List ℕ = replicate m b in
    let long : length xs ≡ n = length-replicate {A = ℕ} n b in
    let long' : length ys ≡ m = length-replicate {A = ℕ} m b in
    ap (λ k. splice (at + k) ys (splice at xs old)) (sym long) ∙ splice-splice at xs ys old (omega arith) ∙ ap (λ zs. splice at zs old) (replicate-append-replicate n m b)

-- what a loop that fills keeps
abbrev pub FilledSo : SizedAreaMeaning → SizedAreaMeaning → ℕ → ℕ → ℕ → ℕ → Type 0
FilledSo p q i at n b = MatchOption (get_or p.chunks i None) ⊥ (λ old. q ≡ area_with_chunk p i (Some (splice at (replicate n b) old)) true)

-- what is there after some pieces
chunk_now : (p q : SizedAreaMeaning) (i : ℕ) (x : List ℕ) → i < length p.chunks → q ≡ area_with_chunk p i (Some x) true → get_or q.chunks i None ≡ Some x
chunk_now p q i x l is = ap (λ (z : SizedAreaMeaning). get_or z.chunks i None) is ∙ get_or-set_same p.chunks i (Some x) None l

inside : (cs : List (Option (List ℕ))) (i : ℕ) (old : List ℕ) → get_or cs i None ≡ Some old → i < length cs
inside [] i old e = absurd cc
inside (c ∷ cs) zero old e = omega arith
inside (c ∷ cs) (suc i) old e = let l = inside cs i old e in omega arith

pub fits_next : (p q : SizedAreaMeaning) (i at n m len b : ℕ) → FitsIn (get_or p.chunks i None) (at + len) → FilledSo p q i at n b → n + m ≤ len → FitsIn (get_or q.chunks i None) (at + n + m)
fits_next p q i at n m len b fits gives within =
    elim (get_or p.chunks i None) as (λ o. get_or p.chunks i None ≡ o → FitsIn o (at + len) → MatchOption o ⊥ (λ old. q ≡ area_with_chunk p i (Some (splice at (replicate n b) old)) true) → FitsIn (get_or q.chunks i None) (at + n + m)) [
      | None ↦ λ e f h. absurd f
      | Some old ↦ λ e f h.
          let now = chunk_now p q i (splice at (replicate n b) old) (inside p.chunks i old e) h in
          subst (λ o. FitsIn o (at + n + m)) (sym now) (omega (arith, length-splice at (replicate n b) old (omega (arith, length-replicate {A = ℕ} n b))))
    ] refl fits gives

pub fill_next : (p q r : SizedAreaMeaning) (i at n m len : ℕ) (block ys : List ℕ) → IsRepeated block → m ≤ length block → ys ≡ take m block → FitsIn (get_or p.chunks i None) (at + len) → n + m ≤ len → FilledSo p q i at n (get_or block 0 0)
    → MatchOption (get_or q.chunks i None) ⊥ (λ old. r ≡ area_with_chunk q i (Some (splice (at + n) ys old)) true) → FilledSo p r i at (n + m) (get_or block 0 0)
fill_next p q r i at n m len block ys is less same fits within before gives =
    let b : ℕ = get_or block 0 0 in
    let more : ys ≡ replicate m b = same ∙ piece block m is less in
    elim (get_or p.chunks i None) as (λ o. get_or p.chunks i None ≡ o → FitsIn o (at + len) → MatchOption o ⊥ (λ old. q ≡ area_with_chunk p i (Some (splice at (replicate n b) old)) true) → MatchOption o ⊥ (λ old. r ≡ area_with_chunk p i (Some (splice at (replicate (n + m) b) old)) true)) [
      | None ↦ λ e f h. absurd f
      | Some old ↦ λ e f h.
          let now = chunk_now p q i (splice at (replicate n b) old) (inside p.chunks i old e) h in
          let step : r ≡ area_with_chunk q i (Some (splice (at + n) ys (splice at (replicate n b) old))) true = subst (λ o. MatchOption o ⊥ (λ old. r ≡ area_with_chunk q i (Some (splice (at + n) ys old)) true)) now gives in
          step ∙ ap (λ zs. area_with_chunk q i (Some (splice (at + n) zs (splice at (replicate n b) old))) true) more
          ∙ ap (λ zs. area_with_chunk q i (Some zs) true) (splice-more at n m b old (omega arith))
          ∙ ap (λ z. area_with_chunk z i (Some (splice at (replicate (n + m) b) old)) true) h
          ∙ (λ j. record p { chunks = set-set p.chunks i (Some (splice at (replicate n b) old)) (Some (splice at (replicate (n + m) b) old)) j; touched = set-set p.touched i true true j })
    ] refl fits before

pub fits_small : (p : SizedAreaMeaning) (i n : ℕ) → IsSizedArea p → FitsIn (get_or p.chunks i None) n → n ≤ 65536
fits_small p i n is fits =
    elim (get_or p.chunks i None) as (λ o. get_or p.chunks i None ≡ o → FitsIn o n → n ≤ 65536) [
      | None ↦ λ e f. absurd f
      | Some old ↦ λ e f. (let s = size_fits p.version p.exponent (length old) (is.sized i old e) in let m = size_most p.exponent is.most in omega arith)
    ] refl fits
