-- A list with zeros behind it: longer by zeros of its own, read, and written.
use Rattle.std.proofs.Common.{◌≡◌, ℕ, ◌+◌, ◌-◌, ◌<◌, ◌≤◌, List, [], ◌∷◌, ◌++◌, length, take, drop, replicate, sym, ap, ◌∙◌, arith, length-append, append_assoc}
use Rattle.std.proofs.lemmas.List.{length-replicate, length-take-le, length-drop, take-append-le, take-append-drop, drop-append-le, take-replicate, replicate-append-replicate, drop_at, take_at, drop-drop}
use borrow.Rule.Slice.PartMut.{post_of}
use Rattle.dym_region.specs.Content.{zeros_behind, part_of, with_part}

-- where nothing was used all bytes are zero
pub none_used : (n m : ℕ) (xs : List ℕ) → xs ≡ [] → n ≡ m → zeros_behind n xs ≡ replicate m 0
unfolding zeros_behind
none_used n m xs none same =
    let all : n - 0 ≡ m = omega (arith, same) in
    ap (λ ys. ys ++ replicate (n - length ys) 0) none ∙ ap (λ k. replicate k 0) all

-- one zero more changes nothing
pub one_more_zero : (n : ℕ) (xs : List ℕ) → length xs < n → zeros_behind n (xs ++ 0 ∷ []) ≡ zeros_behind n xs
unfolding zeros_behind
one_more_zero n xs room =
    let rest = n - length (xs ++ 0 ∷ []) in
    let left : 1 + rest ≡ n - length xs = omega (arith, length-append xs (0 ∷ []), room) in
    append_assoc xs (0 ∷ []) (replicate rest 0) ∙ ap (λ ys. xs ++ ys) (replicate-append-replicate 1 rest 0 ∙ ap (λ k. replicate k 0) left)

-- ---- a part

-- the zeros in two pieces
cut_zeros : (m n k : ℕ) → m + n ≡ k → replicate {A = ℕ} k 0 ≡ replicate m 0 ++ replicate n 0
cut_zeros m n k sum = sym (replicate-append-replicate m n 0 ∙ ap (λ j. replicate j 0) sum)

many : (at len : ℕ) → at + len - at ≡ len
many at len = omega arith

pub length-part_of : (xs : List ℕ) (at len : ℕ) → at + len ≤ length xs → length (part_of xs at len) ≡ len
length-part_of xs at len within = length-take-le (at + len - at) (drop at xs) (omega (arith, within, length-drop at xs)) ∙ many at len

-- of what was used
pub part_within : (n : ℕ) (xs : List ℕ) (at len : ℕ) → at + len ≤ length xs → part_of (zeros_behind n xs) at len ≡ part_of xs at len
unfolding zeros_behind
part_within n xs at len within =
    let rest = replicate {A = ℕ} (n - length xs) 0 in
    ap (take (at + len - at)) (drop-append-le at xs rest (omega (arith, within)))
    ∙ take-append-le (at + len - at) (drop at xs) rest (omega (arith, within, length-drop at xs))

-- that ends behind it
pub part_across : (n : ℕ) (xs : List ℕ) (at len : ℕ) → at ≤ length xs → length xs ≤ at + len → at + len ≤ n → part_of (zeros_behind n xs) at len ≡ drop at xs ++ replicate (at + len - length xs) 0
unfolding zeros_behind
part_across n xs at len begins ends fits =
    let here = at + len - length xs in
    let behind = n - (at + len) in
    let shown : length (drop at xs ++ replicate here 0) ≡ at + len - at
    = omega (arith, length-append (drop at xs) (replicate here 0), length-drop at xs, length-replicate {A = ℕ} here 0, begins, ends) in
    ap (take (at + len - at)) (drop-append-le at xs (replicate (n - length xs) 0) begins
    ∙ ap (λ ys. drop at xs ++ ys) (cut_zeros here behind (n - length xs) (omega (arith, ends, fits)))
    ∙ sym (append_assoc (drop at xs) (replicate here 0) (replicate behind 0)))
    ∙ take_at (drop at xs ++ replicate here 0) (replicate behind 0) (at + len - at) shown

-- that begins behind it
pub part_past : (n : ℕ) (xs : List ℕ) (at len : ℕ) → length xs ≤ at → at + len ≤ n → part_of (zeros_behind n xs) at len ≡ replicate len 0
unfolding zeros_behind
part_past n xs at len begins fits =
    let before = at - length xs in
    let there : length (xs ++ replicate before 0) ≡ at = omega (arith, length-append xs (replicate before 0), length-replicate {A = ℕ} before 0, begins) in
    ap (λ ys. take (at + len - at) (drop at (xs ++ ys))) (cut_zeros before (n - at) (n - length xs) (omega (arith, begins, fits)))
    ∙ ap (λ ys. take (at + len - at) (drop at ys)) (sym (append_assoc xs (replicate before 0) (replicate (n - at) 0)))
    ∙ ap (take (at + len - at)) (drop_at (xs ++ replicate before 0) (replicate (n - at) 0) at there)
    ∙ ap (λ k. take k (replicate (n - at) 0)) (many at len)
    ∙ take-replicate len (n - at) 0 (omega (arith, fits))

-- ---- written over

-- by what is there
pub with_same : (xs : List ℕ) (at : ℕ) (ys : List ℕ) → part_of xs at (length ys) ≡ ys → with_part xs at ys ≡ xs
with_same xs at ys same =
    let n = length ys in
    ap (λ zs. take at xs ++ (zs ++ drop (at + n) xs)) (sym same ∙ ap (λ k. take k (drop at xs)) (many at n))
    ∙ ap (λ zs. take at xs ++ (take n (drop at xs) ++ zs)) (sym (drop-drop n at xs))
    ∙ ap (λ zs. take at xs ++ zs) (take-append-drop n (drop at xs))
    ∙ take-append-drop at xs

pub length-with_part : (xs : List ℕ) (at : ℕ) (ys : List ℕ) → at + length ys ≤ length xs → length (with_part xs at ys) ≡ length xs
length-with_part xs at ys within =
    let k = length ys in
    let back : List ℕ = drop (at + k) xs in
    omega (arith, length-append (take at xs) (ys ++ back), length-append ys back, length-take-le at xs (omega (arith, within)), length-drop (at + k) xs, within)

-- within what was used
pub with_within : (n : ℕ) (xs : List ℕ) (at : ℕ) (ys : List ℕ) → at + length ys ≤ length xs → zeros_behind n (with_part xs at ys) ≡ with_part (zeros_behind n xs) at ys
unfolding zeros_behind
with_within n xs at ys within =
    let k = length ys in
    let rest = replicate {A = ℕ} (n - length xs) 0 in
    let back : List ℕ = drop (at + k) xs in
    ap (λ j. with_part xs at ys ++ replicate (n - j) 0) (length-with_part xs at ys within)
    ∙ append_assoc (take at xs) (ys ++ back) rest
    ∙ ap (λ zs. take at xs ++ zs) (append_assoc ys back rest)
    ∙ ap (λ zs. take at xs ++ (ys ++ zs)) (sym (drop-append-le (at + k) xs rest within))
    ∙ ap (λ zs. zs ++ (ys ++ drop (at + k) (xs ++ rest))) (sym (take-append-le at xs rest (omega (arith, within))))

-- by zeros where nothing was used
pub with_zeros_past : (n : ℕ) (xs : List ℕ) (at len : ℕ) → length xs ≤ at → at + len ≤ n → with_part (zeros_behind n xs) at (replicate len 0) ≡ zeros_behind n xs
with_zeros_past n xs at len begins fits =
    with_same (zeros_behind n xs) at (replicate len 0) (ap (part_of (zeros_behind n xs) at) (length-replicate len 0) ∙ part_past n xs at len begins fits)

-- what a vector holds once bytes were put into a part of it
pub put_in : (lent xs ys more : List ℕ) (at n len : ℕ) → lent ≡ xs → len ≡ length xs → length ys ≡ n → at + n ≤ length xs → take len (take at lent ++ (ys ++ post_of at (at + n - at) lent) ++ more) ≡ with_part xs at ys
put_in lent xs ys more at n len same long counted within =
    let put = take at lent ++ (ys ++ post_of at (at + n - at) lent) in
    let is : put ≡ with_part xs at ys
    = ap (λ zs. take at zs ++ (ys ++ post_of at (at + n - at) zs)) same
    ∙ ap (λ k. take at xs ++ (ys ++ drop k (drop at xs))) (many at n ∙ sym counted)
    ∙ ap (λ zs. take at xs ++ (ys ++ zs)) (drop-drop (length ys) at xs) in
    take_at put more len (ap length is ∙ length-with_part xs at ys (omega (arith, within, counted)) ∙ sym long) ∙ is
