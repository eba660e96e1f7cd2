-- Lists of equal length, one after the other.
use Rattle.std.proofs.Common.{◌≡◌, ℕ, zero, suc, ◌+◌, ◌-◌, ◌*◌, ◌<◌, List, [], ◌∷◌, ◌++◌, length, get_or, ap, ◌∙◌, arith, length-append, suc-mul}
use Rattle.std.specs.List.{flat_map}
use Rattle.std.proofs.lemmas.List.{get_or_append_left, get_or-append_right}

module _ {P X : Type 0} (f : P → List X) (n : ℕ) where
  -- each of the lists has n elements
  abbrev pub Even : List P → Type 0
  Even ps = (k : ℕ) (d : P) → k < length ps → length (f (get_or ps k d)) ≡ n

  even_tail : (p : P) (ps : List P) → Even (p ∷ ps) → Even ps
  even_tail p ps even k d l = even (suc k) d (omega arith)

  even_head : (p : P) (ps : List P) → Even (p ∷ ps) → length (f p) ≡ n
  even_head p ps even = even 0 p (omega arith)

  pub length-flat : (ps : List P) → Even ps → length (flat_map f ps) ≡ length ps * n
  length-flat [] even = omega arith
  length-flat (p ∷ ps) even =
      let first = even_head p ps even in
      let rest = length-flat ps (even_tail p ps even) in
      omega (arith, length-append (f p) (flat_map f ps), suc-mul (length ps) n)

  pub get_or-flat : (ps : List P) (o j : ℕ) (e : P) (d : X) → Even ps → o < length ps → j < n → get_or (flat_map f ps) (o * n + j) d ≡ get_or (f (get_or ps o e)) j d
  get_or-flat [] o j e d even l within = absurd (omega arith)
  get_or-flat (p ∷ ps) zero j e d even l within =
      let first = even_head p ps even in
      (let z : zero * n + j ≡ j = omega arith in ap (λ k. get_or (f p ++ flat_map f ps) k d) z) ∙ get_or_append_left (f p) (flat_map f ps) d j (omega arith)
  get_or-flat (p ∷ ps) (suc o) j e d even l within =
      let first = even_head p ps even in
      get_or-append_right (f p) (flat_map f ps) n (suc o * n + j) d first (omega (arith, suc-mul o n))
      ∙ (let z : suc o * n + j - n ≡ o * n + j = omega (arith, suc-mul o n) in ap (λ k. get_or (flat_map f ps) k d) z)
      ∙ get_or-flat ps o j e d (even_tail p ps even) (omega arith) within
