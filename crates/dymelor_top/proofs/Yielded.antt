-- A list that a loop goes over by value: what it had so far, and what is left.
use Rattle.std.proofs.Common.{◌≡◌, ℕ, List, [], ◌∷◌, ◌++◌, flat_map, sym, ap, subst, ◌∙◌, append_assoc, append-nil}
use Rattle.std.proofs.lemmas.Grind.{flat_map-append}
use Rattle.dym_io.specs.Sink.{Output, Appended, AppendedFront}
use Rattle.dym_io.specs.Laws.{appended_both, front_after, front_within}

-- one item more was taken
pub one_more : {X : Type 0} → (all before rest others : List X) (x : X) → all ≡ before ++ rest → rest ≡ x ∷ others → all ≡ (before ++ x ∷ []) ++ others
one_more all before rest others x whole cut = whole ∙ ap (λ l. before ++ l) cut ∙ sym (append_assoc before (x ∷ []) others)

-- the texts of those that were taken are written, and that of one more
pub text_more : {X : Type 0} → (f : X → List ℕ) (before : List X) (x : X) (a b c : Output) → Appended a b (flat_map f before) → Appended b c (f x)
    → Appended a c (flat_map f (before ++ x ∷ []))
text_more f before x a b c p q =
    subst (Appended a c) (sym (flat_map-append f before (x ∷ []) ∙ ap (λ l. flat_map f before ++ l) (append-nil (f x))))
    (appended_both a b c (flat_map f before) (f x) p q)

-- or a front of it
pub text_front : {X : Type 0} → (f : X → List ℕ) (all before rest others : List X) (x : X) (a b c : Output) → all ≡ before ++ rest → rest ≡ x ∷ others
    → Appended a b (flat_map f before) → AppendedFront b c (f x) → AppendedFront a c (flat_map f all)
text_front f all before rest others x a b c whole cut p q =
    let texts : flat_map f all ≡ flat_map f before ++ (f x ++ flat_map f others) =
    ap (flat_map f) (whole ∙ ap (λ l. before ++ l) cut) ∙ flat_map-append f before (x ∷ others) in
    subst (AppendedFront a c) (sym texts) (front_after a b c (flat_map f before) (f x ++ flat_map f others) p (front_within b c (f x) (flat_map f others) q))
