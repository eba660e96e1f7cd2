-- Lists that are related element by element, and loops that go through them.
use Rattle.std.proofs.Common.{◌≡◌, ◌≢◌, ℕ, zero, suc, ◌+◌, ◌-◌, ◌<◌, ◌≤◌, inl, inr, List, [], ◌∷◌, ◌++◌, map, All, length, reverse, set, get_or, sym, refl, ap, ◌∙◌, subst, arith, append_assoc, length-set, get_or-set_same, get_or-set_other}
use Rattle.std.specs.List.{AllZip}
use Rattle.std.proofs.lemmas.Bool.{cases_eq}
use Rattle.std.proofs.lemmas.List.{get_or_default, reverse-append, reverse-reverse, map-append, length-map, get_or-map, get_or-reverse, length-reverse}

module _ {A B : Type 0} (R : A → B → Type 0) where
  pub zip-length : (xs : List A) (ys : List B) → AllZip R xs ys → length ys ≡ length xs
  zip-length [] [] h = refl
  zip-length (x ∷ xs) (y ∷ ys) h = ap suc (zip-length xs ys h.1)
  zip-length _ _ h = absurd h

  pub zip-at : (xs : List A) (ys : List B) (k : ℕ) (d : A) (e : B) → AllZip R xs ys → k < length xs → R (get_or xs k d) (get_or ys k e)
  zip-at [] ys k d e h l = absurd (omega arith)
  zip-at (x ∷ xs) [] k d e h l = absurd h
  zip-at (x ∷ xs) (y ∷ ys) zero d e h l = h.0
  zip-at (x ∷ xs) (y ∷ ys) (suc k) d e h l = zip-at xs ys k d e h.1 (omega arith)

  pub zip-append : (xs xs' : List A) (ys ys' : List B) → AllZip R xs ys → AllZip R xs' ys' → AllZip R (xs ++ xs') (ys ++ ys')
  zip-append [] xs' [] ys' h h' = h'
  zip-append (x ∷ xs) xs' (y ∷ ys) ys' h h' = (h.0, zip-append xs xs' ys ys' h.1 h')
  zip-append _ xs' _ ys' h h' = absurd h

  pub zip-reverse : (xs : List A) (ys : List B) → AllZip R xs ys → AllZip R (reverse xs) (reverse ys)
  zip-reverse [] [] h = tt
  zip-reverse (x ∷ xs) (y ∷ ys) h =
      let both : AllZip R (reverse xs ++ x ∷ []) (reverse ys ++ y ∷ []) = zip-append (reverse xs) (x ∷ []) (reverse ys) (y ∷ []) (zip-reverse xs ys h.1) (h.0, tt) in
      subst (λ (l : List A). AllZip R l (reverse (y ∷ ys))) (sym (reverse-append (x ∷ []) xs)) (subst (λ (l : List B). AllZip R (reverse xs ++ x ∷ []) l) (sym (reverse-append (y ∷ []) ys)) both)
  zip-reverse _ _ h = absurd h

module _ {A : Type 0} (R : A → A → Type 0) where
  pub zip-from : (xs ys : List A) → length ys ≡ length xs → ((k : ℕ) (d : A) → k < length xs → R (get_or xs k d) (get_or ys k d)) → AllZip R xs ys
  zip-from [] [] e each = tt
  zip-from (x ∷ xs) (y ∷ ys) e each = (each 0 x (omega arith), zip-from xs ys (omega arith) (λ k d l. each (suc k) d (omega arith)))
  zip-from _ _ e each = absurd (omega arith)

  pub zip-refl : ((x : A) → R x x) → (xs : List A) → AllZip R xs xs
  zip-refl same [] = tt
  zip-refl same (x ∷ xs) = (same x, zip-refl same xs)

  -- one element of the second list is written
  pub zip-set : (xs ys : List A) (i : ℕ) (y d : A) → AllZip R xs ys → R (get_or xs i d) y → AllZip R xs (set ys i y)
  zip-set [] [] i y d h r = h
  zip-set (a ∷ us) (b ∷ bs) zero y d h r = (r, h.1)
  zip-set (a ∷ us) (b ∷ bs) (suc i) y d h r = (h.0, zip-set us bs i y d h.1 r)
  zip-set _ _ i y d h r = absurd h

module _ {A B C : Type 0} (R : A → B → Type 0) (S : B → C → Type 0) (T : A → C → Type 0) where
  pub zip-trans : (xs : List A) (ys : List B) (zs : List C) → ((x : A) (y : B) (z : C) → R x y → S y z → T x z) → AllZip R xs ys → AllZip S ys zs → AllZip T xs zs
  zip-trans [] [] [] go h k = tt
  zip-trans [] [] (z ∷ zs) go h k = absurd k
  zip-trans (x ∷ xs) (y ∷ ys) [] go h k = absurd k
  zip-trans (x ∷ xs) (y ∷ ys) (z ∷ zs) go h k = (go x y z h.0 k.0, zip-trans xs ys zs go h.1 k.1)
  zip-trans _ _ zs go h k = absurd h

module _ {A B C : Type 0} (R : A → B → Type 0) (S : A → C → Type 0) (T : B → C → Type 0) where
  pub zip-under : (xs : List A) (ys : List B) (zs : List C) → ((x : A) (y : B) (z : C) → R x y → S x z → T y z) → AllZip R xs ys → AllZip S xs zs → AllZip T ys zs
  zip-under [] [] [] go h k = tt
  zip-under [] [] (z ∷ zs) go h k = absurd k
  zip-under (x ∷ xs) (y ∷ ys) [] go h k = absurd k
  zip-under (x ∷ xs) (y ∷ ys) (z ∷ zs) go h k = (go x y z h.0 k.0, zip-under xs ys zs go h.1 k.1)
  zip-under _ _ zs go h k = absurd h

-- an element in the middle of the second list
pub zip-mid : {A B : Type 0} (R : A → B → Type 0) (xs : List A) (ys : List B) (y : B) (zs : List B) → AllZip R xs (ys ++ y ∷ zs) → (length ys < length xs) × ((d : A) → R (get_or xs (length ys) d) y)
zip-mid R [] [] y zs h = absurd h
zip-mid R [] (b ∷ bs) y zs h = absurd h
zip-mid R (a ∷ us) [] y zs h = (omega arith, λ d. h.0)
zip-mid R (a ∷ us) (b ∷ bs) y zs h = let r = zip-mid R us bs y zs h.1 in (omega (arith, r.0), r.1)

-- the last of the second list becomes the last of the first
pub moved_over : {W A : Type 0} (f : W → A) (ws ws' : List W) (w : W) (xs ys : List A) (x : A) (all : List A) → ws' ≡ ws ++ w ∷ [] → xs ≡ ys ++ x ∷ [] → f w ≡ x → map f ws ++ reverse xs ≡ all → map f ws' ++ reverse ys ≡ all
moved_over {W} {A} f ws ws' w xs ys x all new old same h =
    let left : map f ws' ≡ map f ws ++ x ∷ [] = ap (map f) new ∙ map-append f ws (w ∷ []) ∙ ap {B = List A} (λ z. map f ws ++ z ∷ []) same in
    let right : reverse xs ≡ x ∷ reverse ys = ap reverse old ∙ reverse-append ys (x ∷ []) in
    ap {B = List A} (λ l. l ++ reverse ys) left ∙ append_assoc (map f ws) (x ∷ []) (reverse ys) ∙ sym (ap {B = List A} (λ l. map f ws ++ l) right) ∙ h

-- what holds of each element of the first list holds of what it is related to
pub zip-all : {A B : Type 0} (R : A → B → Type 0) (P : A → Type 0) (Q : B → Type 0) (xs : List A) (ys : List B) → ((x : A) (y : B) → R x y → P x → Q y) → AllZip R xs ys → All P xs → (k : ℕ) (d : B) → k < length ys → Q (get_or ys k d)
zip-all R P Q [] [] go h p k d l = absurd (omega arith)
zip-all R P Q (x ∷ xs) (y ∷ ys) go h p zero d l = go x y h.0 (p 0 x (omega arith))
zip-all R P Q (x ∷ xs) (y ∷ ys) go h p (suc k) d l = zip-all R P Q xs ys go h.1 (λ j e m. p (suc j) e (omega arith)) k d (omega arith)
zip-all R P Q _ _ go h p k d l = absurd h

module _ {A : Type 0} (C : A → A → Type 0) where
  -- a place was written, and another one may be as it was
  at_set : (xs ys : List A) (i : ℕ) (y d : A) → i < length xs → length ys ≡ length xs → C (get_or xs i d) y → (k : ℕ) (e : A) → (k ≢ i → C (get_or xs k e) (get_or ys k e))
      → C (get_or xs k e) (get_or (set ys i y) k e)
  at_set xs ys i y d l same it k e other = elim (cases_eq k i) [
    | inl is ↦
        let here = get_or-set_same ys i y e (omega (arith, same)) in
        subst (λ (n : ℕ). C (get_or xs n e) (get_or (set ys i y) n e)) (sym is) (subst (C (get_or xs i e)) (sym here) (subst (λ (z : A). C z y) (get_or_default xs i d e l) it))
    | inr apart ↦ subst (C (get_or xs k e)) (sym (get_or-set_other ys i k y e apart)) (other apart)
  ]

  -- the first i elements were changed, and no other
  pub record Through (i : ℕ) (before after : List A) : Type 0 where
    pub len : length after ≡ length before
    pub done : (k : ℕ) (d : A) → k < i → C (get_or before k d) (get_or after k d)
    pub rest : (k : ℕ) (d : A) → i ≤ k → get_or after k d ≡ get_or before k d

  pub through_none : (xs : List A) → Through 0 xs xs
  through_none xs = record { len = refl; done = λ k d l. absurd (omega arith); rest = λ k d l. refl }

  pub through_more : (i : ℕ) (xs ys : List A) (y d : A) → i < length xs → Through i xs ys → C (get_or xs i d) y → Through (i + 1) xs (set ys i y)
  through_more i xs ys y d l t it = record {
    len = length-set ys i y ∙ t.len;
    done = λ k e m. at_set xs ys i y d l t.len it k e (λ no. t.done k e (omega arith));
    rest = λ k e m. let no : k ≢ i = λ (q : k ≡ i). omega arith in get_or-set_other ys i k y e no ∙ t.rest k e (omega arith);
  }

  pub through_all : (i : ℕ) (xs ys : List A) → length xs ≤ i → Through i xs ys → AllZip C xs ys
  through_all i xs ys l t = zip-from C xs ys t.len (λ k d m. t.done k d (omega arith))

  -- the elements from i on were changed, and no other
  pub record Back (i : ℕ) (before after : List A) : Type 0 where
    pub len : length after ≡ length before
    pub done : (k : ℕ) (d : A) → i ≤ k → k < length before → C (get_or before k d) (get_or after k d)
    pub rest : (k : ℕ) (d : A) → k < i → get_or after k d ≡ get_or before k d

  pub back_none : (i : ℕ) (xs : List A) → length xs ≤ i → Back i xs xs
  back_none i xs h = record { len = refl; done = λ k d l m. absurd (omega arith); rest = λ k d l. refl }

  pub back_more : (i : ℕ) (xs ys : List A) (y d : A) → i < length xs → Back (i + 1) xs ys → C (get_or xs i d) y → Back i xs (set ys i y)
  back_more i xs ys y d l t it = record {
    len = length-set ys i y ∙ t.len;
    done = λ k e m n. at_set xs ys i y d l t.len it k e (λ no. t.done k e (omega arith) n);
    rest = λ k e m. let no : k ≢ i = λ (q : k ≡ i). omega arith in get_or-set_other ys i k y e no ∙ t.rest k e (omega arith);
  }

  pub back_all : (xs ys : List A) → Back 0 xs ys → AllZip C xs ys
  back_all xs ys t = zip-from C xs ys t.len (λ k d m. t.done k d (omega arith) m)

module _ {W H : Type 0} (f : W → H) where
  zip-map : (R : H → H → Type 0) (ws vs : List W) → AllZip (λ w v. R (f w) (f v)) ws vs → AllZip R (map f ws) (map f vs)
  zip-map R [] [] h = tt
  zip-map R (w ∷ ws) (v ∷ vs) h = (h.0, zip-map R ws vs h.1)
  zip-map R _ _ h = absurd h

  -- what went over turned round and was kept in each place comes back as it was kept
  pub kept_round : (R : H → H → Type 0) (ws vs : List W) (old new : List H) → map f ws ≡ reverse old → new ≡ reverse (map f vs) → length vs ≡ length ws
      → ((k : ℕ) (d : W) → k < length ws → R (f (get_or ws k d)) (f (get_or vs k d))) → AllZip R old new
  kept_round R ws vs old new gone back same each =
      let there = zip-reverse R (map f ws) (map f vs) (zip-map R ws vs (zip-from (λ w v. R (f w) (f v)) ws vs same each)) in
      subst (λ (l : List H). AllZip R old l) (sym back) (subst (λ (l : List H). AllZip R l (reverse (map f vs))) (ap reverse gone ∙ reverse-reverse old) there)

  -- what holds of each that went over holds there
  pub all_round : (P : H → Type 0) (ws : List W) (old : List H) → map f ws ≡ reverse old → All P old → (k : ℕ) (d : W) → k < length ws → P (f (get_or ws k d))
  all_round P ws old gone all k d l =
      let long : length ws ≡ length old = sym (length-map ws f) ∙ ap length gone ∙ length-reverse old in
      let here : f (get_or ws k d) ≡ get_or old (length old - 1 - k) (f d) = sym (get_or-map f ws k d (f d) l) ∙ ap (λ (xs : List H). get_or xs k (f d)) gone ∙ get_or-reverse old k (f d) (omega arith) in
      subst P (sym here) (all (length old - 1 - k) (f d) (omega arith))
