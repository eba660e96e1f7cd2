-- Each step keeps the rule of loans.
use Rattle.std.proofs.Common.{◌≡◌, ◌≢◌, ◌≤◌, ℕ, zero, suc, ◌+◌, true, false, true≢false, List, [], ◌∷◌, ◌++◌, length, set, sym, refl, ap, ◌∙◌, subst, ⊎_elim, arith, length-append}
use mathlib.Core.Option.{some, some-ne-none}
use lib.ListN.{get_elem?}
use Rattle.crossbeam_queue.specs.Fifo.{Pushes, Pops, Forks}
use Rattle.crossbeam_queue.proofs.Lists.{at_set, at_snoc}
use Rattle.warp_threads.specs.declared.exchange.Holding.{Holding}
use Rattle.warp_threads.specs.Loans.{holding, Fits, IsLent}

module _ {P : Type 0} where
  -- a new element can stand at the end alone
  at_end : (views : List (Holding P)) (a b : Holding P) (place : ℕ) → get_elem? views place ≢ some b → get_elem? (views ++ a ∷ []) place ≡ some b → place ≡ length views
  at_end [] a b zero n e = refl
  at_end [] a b (suc place) n e = absurd (some-ne-none b (sym e))
  at_end (x ∷ xs) a b zero n e = absurd (n e)
  at_end (x ∷ xs) a b (suc place) n e = ap suc (at_end xs a b place n e)

  -- a fact of each pass and its place
  abbrev Each : (ℕ → Holding P → Type 0) → List (Holding P) → Type 0
  Each F views = (place : ℕ) (v : Holding P) → get_elem? views place ≡ some v → F place v

  each_set : (F : ℕ → Holding P → Type 0) (views : List (Holding P)) (place : ℕ) (w : Holding P) → F place w → ((j : ℕ) (u : Holding P) → j ≢ place → get_elem? views j ≡ some u → F j u) → Each F (set views place w)
  each_set F views place w mine others j u e = ⊎_elim (λ (x : (j ≡ place) × (w ≡ u)). subst (λ (y : ℕ × Holding P). F y.0 y.1) (λ i. (sym x.0 i, x.1 i)) mine)
      (λ (x : (j ≢ place) × (get_elem? views j ≡ some u)). others j u x.0 x.1) (at_set views place j w u e)

  lent_none : (held items : List P) (x : P) → [] ≡ held ++ items → x ∷ [] ≡ held ++ (items ++ x ∷ [])
  lent_none [] [] x e = refl
  lent_none [] (y ∷ ys) x e = cc
  lent_none (h ∷ hs) items x e = cc

  give_one : (lent held items : List P) (x : P) → held ≡ x ∷ [] → lent ≡ held ++ items → length lent ≤ 1 → lent ≡ items ++ x ∷ []
  give_one lent held [] x is e le = e ∙ ap (λ (l : List P). l ++ []) is
  give_one lent held (y ∷ ys) x is e le =
      let long : length lent ≡ suc (suc (length ys)) = ap length (e ∙ ap (λ (l : List P). l ++ y ∷ ys) is) in absurd (omega (arith, long, le))

  collect_one : (lent held items : List P) (x : P) → lent ≡ held ++ x ∷ items → length lent ≤ 1 → ([] ≡ held ++ items) × (lent ≡ x ∷ [])
  collect_one lent [] [] x e le = (refl, e)
  collect_one lent [] (y ∷ ys) x e le = let long : length lent ≡ suc (suc (length ys)) = ap length e in absurd (omega (arith, long, le))
  collect_one lent (h ∷ hs) items x e le =
      let long : length lent ≡ suc (length (hs ++ x ∷ items)) = ap length e in
      let rest : length (hs ++ x ∷ items) ≡ length hs + suc (length items) = length-append hs (x ∷ items) in absurd (omega (arith, long, rest, le))

  pub begins : IsLent {P = P} [] (holding true true [] [] ∷ [])
  begins = (
    0,
    0,
    [],
    [],
    refl,
    omega arith,
    each_set (Fits 0 0 [] []) (holding true true [] [] ∷ []) 0 (holding true true [] []) ((λ _. (refl, refl)), λ _. (refl, refl)) (λ j u other e. absurd (other (at_end [] _ u j (λ x. some-ne-none u (sym x)) e))),
  )

  pub lends : (n place : ℕ) (v : Holding P) (x : P) → v.lends ≡ true → v.lent ≡ [] → Pushes IsLent n place v x (λ w. w ≡ holding v.lends v.borrows (x ∷ []) v.held)
  lends n place v x may none items views _ h at = let w : Holding P = holding v.lends v.borrows (x ∷ []) v.held in let mine = h.6 place v at in let lent : List P = x ∷ [] in (
    w,
    (
      h.0,
      h.1,
      lent,
      h.3,
      lent_none h.3 items x (sym none ∙ (mine.0 may).1 ∙ h.4),
      omega arith,
      each_set (Fits h.0 h.1 lent h.3) views place w ((λ _. ((mine.0 may).0, refl)), mine.1) (λ j u other e. ((λ p. absurd (other (((h.6 j u e).0 p).0 ∙ sym (mine.0 may).0))), (h.6 j u e).1)),
    ),
    refl,
  )

  pub returns : (n place : ℕ) (v : Holding P) (x : P) → v.borrows ≡ true → v.held ≡ x ∷ [] → Pushes IsLent n place v x (λ w. w ≡ holding v.lends v.borrows v.lent [])
  returns n place v x may has items views _ h at = let w : Holding P = holding v.lends v.borrows v.lent [] in let mine = h.6 place v at in (
    w,
    (
      h.0,
      h.1,
      h.2,
      [],
      give_one h.2 h.3 items x (sym (mine.1 may).1 ∙ has) h.4 h.5,
      h.5,
      each_set (Fits h.0 h.1 h.2 []) views place w (mine.0, λ _. ((mine.1 may).0, refl)) (λ j u other e. ((h.6 j u e).0, λ p. absurd (other (((h.6 j u e).1 p).0 ∙ sym (mine.1 may).0)))),
    ),
    refl,
  )

  pub collects : (place : ℕ) (v : Holding P) → v.lends ≡ true → Pops IsLent place v (λ x w. (w ≡ holding v.lends v.borrows [] v.held) × (v.lent ≡ x ∷ []))
  collects place v may x items views h at = let w : Holding P = holding v.lends v.borrows [] v.held in let mine = h.6 place v at in let one = collect_one h.2 h.3 items x h.4 h.5 in (
    w,
    (
      h.0,
      h.1,
      [],
      h.3,
      one.0,
      omega arith,
      each_set (Fits h.0 h.1 [] h.3) views place w ((λ _. ((mine.0 may).0, refl)), mine.1) (λ j u other e. ((λ p. absurd (other (((h.6 j u e).0 p).0 ∙ sym (mine.0 may).0))), (h.6 j u e).1)),
    ),
    (refl, (mine.0 may).1 ∙ one.1),
  )

  pub borrows : (place : ℕ) (v : Holding P) → v.borrows ≡ true → v.held ≡ [] → Pops IsLent place v (λ x w. w ≡ holding v.lends v.borrows v.lent (x ∷ []))
  borrows place v may none x items views h at = let w : Holding P = holding v.lends v.borrows v.lent (x ∷ []) in let mine = h.6 place v at in let held : List P = x ∷ [] in (
    w,
    (
      h.0,
      h.1,
      h.2,
      held,
      h.4 ∙ ap (λ (l : List P). l ++ x ∷ items) (sym (mine.1 may).1 ∙ none),
      h.5,
      each_set (Fits h.0 h.1 h.2 held) views place w (mine.0, λ _. ((mine.1 may).0, refl)) (λ j u other e. ((h.6 j u e).0, λ p. absurd (other (((h.6 j u e).1 p).0 ∙ sym (mine.1 may).0)))),
    ),
    refl,
  )

  pub forks : (place : ℕ) (v : Holding P) → v.lends ≡ true → v.borrows ≡ true → Forks IsLent place v (holding true false v.lent []) (holding false true [] v.held)
  forks place v a b items views h at = let l : Holding P = holding true false v.lent [] in let r : Holding P = holding false true [] v.held in let mine = h.6 place v at in let vs : List (Holding P) = set views place l in
      let Old : ℕ → Holding P → Type 0 = λ j u. (u.lends ≡ true → (j ≡ h.0) × (u.lent ≡ h.2)) × (u.borrows ≢ true) in
      let old : Each Old vs = each_set Old views place l ((λ _. mine.0 a), λ p. true≢false (sym p)) (λ j u other e. ((h.6 j u e).0, λ p. other (((h.6 j u e).1 p).0 ∙ sym (mine.1 b).0))) in (
        h.0,
        length vs,
        h.2,
        h.3,
        h.4,
        h.5,
        λ j u e. ⊎_elim (λ x. ((old j u x).0, λ p. absurd ((old j u x).1 p)))
            (λ (is : r ≡ u). ((λ p. absurd (true≢false (sym (ap (λ (y : Holding P). y.lends) is ∙ p)))), λ p. (at_end vs r u j (λ x. (old j u x).1 p) e, ap (λ (y : Holding P). y.held) (sym is) ∙ (mine.1 b).1))) (at_snoc vs r u j e),
      )
