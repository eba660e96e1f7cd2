-- The chunks of an area as those that its record packs, in their order, and others.
use Rattle.std.proofs.Common.{◌≡◌, ℕ, zero, suc, ◌+◌, ◌<◌, ◌≤◌, Bool, true, false, cond, List, [], ◌∷◌, ◌++◌, length, map, take, get_or, refl, sym, ap, ◌∙◌, arith, inl, inr}
use Rattle.std.specs.List.{flat_map, filter, range_with_len}
use Rattle.std.proofs.lemmas.List.{length-append, append-nil, map-append, take_more, take_all}
use Rattle.std.proofs.lemmas.Bool.{cases_Bool, cases_eq, cond-true, cond-false}
use Rattle.dym_pack.specs.Contents.{picked}
use Rattle.dym_pack.proofs.Ranges.{filter_split}

one_of : (p : ℕ → Bool) (n : ℕ) → filter p (range_with_len (0 + n) 1) ≡ cond (p n) (n ∷ []) []
one_of p n = (let here : 0 + n ≡ n = omega arith in ap (λ m. filter p (range_with_len m 1)) here)

picked_more : (p : ℕ → Bool) (n : ℕ) → picked (suc n) p ≡ picked n p ++ cond (p n) (n ∷ []) []
picked_more p n =
    let more : suc n ≡ n + 1 = omega arith in
    ap (λ m. filter p (range_with_len 0 m)) more ∙ filter_split p 0 n 1 ∙ ap (λ xs. picked n p ++ xs) (one_of p n)

pub picked_yes : (p : ℕ → Bool) (n : ℕ) → p n ≡ true → picked (suc n) p ≡ picked n p ++ n ∷ []
picked_yes p n hit = picked_more p n ∙ ap (λ xs. picked n p ++ xs) (cond-true (p n) _ _ hit)

pub picked_no : (p : ℕ → Bool) (n : ℕ) → p n ≡ false → picked (suc n) p ≡ picked n p
picked_no p n miss = picked_more p n ∙ ap (λ xs. picked n p ++ xs) (cond-false (p n) _ _ miss) ∙ append-nil (picked n p)

-- a picked one has fewer before it than there are
pub rank_less : (p : ℕ → Bool) (n i : ℕ) → i < n → p i ≡ true → length (picked i p) < length (picked n p)
rank_less p zero i below hit = absurd (omega arith)
rank_less p (suc n) i below hit =
    elim (cases_eq i n) [
      | inl same ↦ (
          let at : p n ≡ true = sym (ap p same) ∙ hit in
          let before = ap (λ m. length (picked m p)) same in
          omega (arith, ap length (picked_yes p n at), length-append (picked n p) (n ∷ [])))
      | inr other ↦ (
          let before = rank_less p n i (omega arith) hit in
          elim (cases_Bool (p n)) [
            | inl at ↦ omega (arith, ap length (picked_yes p n at), length-append (picked n p) (n ∷ []))
            | inr not ↦ omega (arith, ap length (picked_no p n not))
          ])
    ]

-- chunk i: where it is picked, the one of the list that has as many before it, and else another
abbrev pub chunk_by : (ℕ → Bool) → List (List ℕ) → List ℕ → ℕ → List ℕ
chunk_by p chunks other i = cond (p i) (get_or chunks (length (picked i p)) []) other

pub chunks_ranked : (p : ℕ → Bool) (chunks : List (List ℕ)) (other : List ℕ) (n : ℕ) → length (picked n p) ≤ length chunks → map (chunk_by p chunks other) (picked n p) ≡ take (length (picked n p)) chunks
chunks_ranked p chunks other zero room = refl
chunks_ranked p chunks other (suc n) room =
    let f = chunk_by p chunks other in
    elim (cases_Bool (p n)) [
      | inl hit ↦ (
          let more = picked_yes p n hit in
          let count : length (picked (suc n) p) ≡ length (picked n p) + 1 = ap length more ∙ length-append (picked n p) (n ∷ []) in
          let before = chunks_ranked p chunks other n (omega arith) in
          ap (map f) more
          ∙ map-append f (picked n p) (n ∷ [])
          ∙ ap (λ xs. xs ++ f n ∷ []) before
          ∙ ap (λ x. take (length (picked n p)) chunks ++ x ∷ []) (cond-true (p n) _ _ hit)
          ∙ sym (take_more chunks (length (picked n p)) [] (omega arith))
          ∙ ap (λ k. take k chunks) (sym count))
      | inr miss ↦ (
          let same = picked_no p n miss in
          let before = chunks_ranked p chunks other n (omega (arith, ap length same)) in
          ap (map f) same ∙ before ∙ ap (λ xs. take (length xs) chunks) (sym same))
    ]

flat_map_map : (f : List ℕ → List ℕ) (g : ℕ → List ℕ) (xs : List ℕ) → flat_map f (map g xs) ≡ flat_map (λ x. f (g x)) xs
flat_map_map f g [] = refl
flat_map_map f g (x ∷ xs) = ap (λ ys. f (g x) ++ ys) (flat_map_map f g xs)

-- the chunks that are picked are those of the list
pub chunks_picked : (f : List ℕ → List ℕ) (p : ℕ → Bool) (chunks : List (List ℕ)) (other : List ℕ) (n : ℕ) → length chunks ≡ length (picked n p) → flat_map (λ i. f (chunk_by p chunks other i)) (picked n p) ≡ flat_map f chunks
chunks_picked f p chunks other n count =
    sym (flat_map_map f (chunk_by p chunks other) (picked n p))
    ∙ ap (flat_map f) (chunks_ranked p chunks other n (omega arith) ∙ take_all (length (picked n p)) chunks (omega arith))

pub chunks_of_picked : (f : List ℕ → List ℕ) (g : ℕ → List ℕ) (xs : List ℕ) → flat_map f (map g xs) ≡ flat_map (λ x. f (g x)) xs
chunks_of_picked f g xs = flat_map_map f g xs
