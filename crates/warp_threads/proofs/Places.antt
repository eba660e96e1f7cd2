-- Lists that a loop goes through: what stands before its place, at it and behind it.
use Rattle.std.proofs.Common.{◌≡◌, ℕ, zero, suc, ◌+◌, ◌<◌, ◌≤◌, List, [], ◌∷◌, ◌++◌, map, All, length, take, drop, set, get_or, sym, refl, ap, ◌∙◌, subst, arith, length-append, append_assoc, append-nil}
use Rattle.std.proofs.Math.Seq.{drop-cons, take-length}
use Rattle.std.specs.List.{AllZip, zip}
use Rattle.warp_threads.specs.Rounds.{AllMayAdvance, AllAdvanced, one_each}

module _ {A : Type 0} where
  -- what stands behind a front, and the same with another value there
  pub at_mid : (front tail : List A) (x d : A) → get_or (front ++ x ∷ tail) (length front) d ≡ x
  at_mid [] tail x d = refl
  at_mid (y ∷ front) tail x d = at_mid front tail x d

  pub set_mid : (front tail : List A) (x y : A) → set (front ++ x ∷ tail) (length front) y ≡ front ++ y ∷ tail
  set_mid [] tail x y = refl
  set_mid (z ∷ front) tail x y = ap (λ (l : List A). z ∷ l) (set_mid front tail x y)

  -- the last place of a front that is taken
  pub at_taken : (xs tail : List A) (n : ℕ) (d : A) → n < length xs → get_or (take (suc n) xs ++ tail) n d ≡ get_or xs n d
  at_taken [] tail n d l = absurd (omega arith)
  at_taken (x ∷ xs) tail zero d l = refl
  at_taken (x ∷ xs) tail (suc n) d l = at_taken xs tail n d (omega arith)

  pub set_taken : (xs tail : List A) (n : ℕ) (v : A) → n < length xs → set (take (suc n) xs ++ tail) n v ≡ take n xs ++ v ∷ tail
  set_taken [] tail n v l = absurd (omega arith)
  set_taken (x ∷ xs) tail zero v l = refl
  set_taken (x ∷ xs) tail (suc n) v l = ap (λ (l : List A). x ∷ l) (set_taken xs tail n v (omega arith))

  -- a rest that is not over has a first element
  pub first_of : (rest : List A) → 0 < length rest → (x : A) × (tail : List A) × (rest ≡ x ∷ tail)
  first_of [] l = absurd (omega arith)
  first_of (x ∷ tail) l = (x, tail, refl)

  pub none_of : (rest : List A) → length rest ≡ 0 → rest ≡ []
  none_of [] e = refl
  none_of (x ∷ tail) e = absurd (omega arith)

module _ {A B : Type 0} where
  -- the pair at a place
  pub zip_at : (xs : List A) (front tail : List B) (x : A) (y : B) (d : A × B) → length front < length xs → get_or xs (length front) x ≡ x
      → (length front < length (zip xs (front ++ y ∷ tail))) × (get_or (zip xs (front ++ y ∷ tail)) (length front) d ≡ (x, y))
  zip_at [] front tail x y d l e = absurd (omega arith)
  zip_at (a ∷ xs) [] tail x y d l e = (omega arith, ap (λ (z : A). (z, y)) e)
  zip_at (a ∷ xs) (b ∷ front) tail x y d l e = let r = zip_at xs front tail x y d (omega arith) e in (omega (arith, r.0), r.1)

  -- pairs of a front and of what stands behind it
  pub zip_append : (xs : List A) (front tail : List B) → length front ≤ length xs → zip xs (front ++ tail) ≡ zip xs front ++ zip (drop (length front) xs) tail
  zip_append [] [] tail l = refl
  zip_append [] (b ∷ front) tail l = absurd (omega arith)
  zip_append (a ∷ xs) [] tail l = refl
  zip_append (a ∷ xs) (b ∷ front) tail l = ap (λ (z : List (A × B)). (a, b) ∷ z) (zip_append xs front tail (omega arith))

  pub zip_nil : (xs : List A) → zip {X = B} xs [] ≡ []
  zip_nil [] = refl
  zip_nil (a ∷ xs) = refl

  pub zip_snoc : (xs : List A) (front : List B) (x : A) (y : B) → length front < length xs → get_or xs (length front) x ≡ x → zip xs (front ++ y ∷ []) ≡ zip xs front ++ (x, y) ∷ []
  zip_snoc [] front x y l e = absurd (omega arith)
  zip_snoc (a ∷ xs) [] x y l e = ap (λ (z : List (A × B)). (a, y) ∷ z) (zip_nil xs) ∙ ap (λ (z : A). (z, y) ∷ []) e
  zip_snoc (a ∷ xs) (b ∷ front) x y l e = ap (λ (z : List (A × B)). (a, b) ∷ z) (zip_snoc xs front x y (omega arith) e)

  pub all_zip_append : (R : A → B → Type 0) (xs xs' : List A) (ys ys' : List B) → AllZip R xs ys → AllZip R xs' ys' → AllZip R (xs ++ xs') (ys ++ ys')
  all_zip_append R [] xs' [] ys' h h' = h'
  all_zip_append R (x ∷ xs) xs' (y ∷ ys) ys' h h' = (h.0, all_zip_append R xs xs' ys ys' h.1 h')
  all_zip_append R _ xs' _ ys' h h' = absurd h

-- the lane at a place may be advanced by the order for that place
module _ {O L : Type 0} (may : O → L → Type 0) (orders : List O) where
  pub may_at : (lanes front tail : List L) (lane : L) (order : O) (n : ℕ) → lanes ≡ front ++ lane ∷ tail → n ≡ length front → n < length orders → order ≡ get_or orders n order → AllMayAdvance may orders lanes → may order lane
  may_at lanes front tail lane order n split at few is ready =
      let here : get_or orders (length front) order ≡ order = sym (subst (λ (m : ℕ). order ≡ get_or orders m order) at is) in
      let found = zip_at orders front tail order lane (order, lane) (omega arith) here in
      let whole : AllMayAdvance may orders (front ++ lane ∷ tail) = subst (λ (l : List L). AllMayAdvance may orders l) split ready in
      subst (λ (x : O × L). may x.0 x.1) found.1 (whole (length front) (order, lane) found.0)

-- lanes of which those from a place on are lent
module _ {O L : Type 0} (orders : List O) (lenders0 : List (List (O × L))) (lanes0 : List L) where
  pub record LentFrom (place : ℕ) (lenders : List (List (O × L))) (count : ℕ) (lanes : List L) : Type 0 where
    pub lent : List L
    pub split : lanes0 ≡ lanes ++ lent
    pub with_threads : lenders ≡ take place lenders0 ++ one_each (zip (drop count orders) lent)

  pub lent_none : (place count : ℕ) → place ≡ length lenders0 → LentFrom place lenders0 count lanes0
  lent_none place count e = record {
    lent = [];
    split = sym (append-nil lanes0);
    with_threads = sym (ap {B = List (List (O × L))} (λ l. take place lenders0 ++ one_each l) (zip_nil (drop count orders)) ∙ append-nil (take place lenders0) ∙ ap {B = List (List (O × L))} (λ n. take n lenders0) e ∙ take-length lenders0);
  }

  module _ (place next : ℕ) (falls : place ≡ suc next) (lenders : List (List (O × L))) (count : ℕ) (lanes : List L) (so_far : LentFrom place lenders count lanes) (there : next < length lenders0) where
    here : lenders ≡ take (suc next) lenders0 ++ one_each (zip (drop count orders) so_far.lent)
    here = subst (λ (m : ℕ). lenders ≡ take m lenders0 ++ one_each (zip (drop count orders) so_far.lent)) falls so_far.with_threads

    pub lent_idle : (x : List (O × L)) → x ≡ get_or lenders next x → All (λ z. z ≡ []) lenders0 → x ≡ []
    lent_idle x is idle = is ∙ ap (λ (l : List (List (O × L))). get_or l next x) here ∙ at_taken lenders0 (one_each (zip (drop count orders) so_far.lent)) next x there ∙ idle next x there

    module _ (front : List L) (lane : L) (fewer : ℕ) (order : O) (last : lanes ≡ front ++ lane ∷ []) (falls' : count ≡ suc fewer) (few : fewer < length orders) (is : order ≡ get_or orders fewer order) where
      pub lent_split : lanes0 ≡ front ++ lane ∷ so_far.lent
      lent_split = so_far.split ∙ ap (λ (l : List L). l ++ so_far.lent) last ∙ append_assoc front (lane ∷ []) so_far.lent

      pub lent_more : (value : List (O × L)) → value ≡ (order, lane) ∷ [] → LentFrom next (set lenders next value) fewer front
      lent_more value given = record {
        lent = lane ∷ so_far.lent;
        split = lent_split;
        with_threads =
            let tail : List (List (O × L)) = one_each (zip (drop count orders) so_far.lent) in
            let put : set lenders next value ≡ take next lenders0 ++ value ∷ tail = ap (λ (l : List (List (O × L))). set l next value) here ∙ set_taken lenders0 tail next value there in
            let rest : drop fewer orders ≡ order ∷ drop count orders = drop-cons orders fewer order few ∙ ap (λ (z : O). z ∷ drop (suc fewer) orders) (sym is) ∙ ap (λ (m : ℕ). order ∷ drop m orders) (sym falls') in
            let all : one_each (zip (drop fewer orders) (lane ∷ so_far.lent)) ≡ ((order, lane) ∷ []) ∷ tail = ap {B = List (List (O × L))} (λ (l : List O). one_each (zip l (lane ∷ so_far.lent))) rest in
            put ∙ ap {B = List (List (O × L))} (λ (z : List (O × L)). take next lenders0 ++ z ∷ tail) given ∙ sym (ap {B = List (List (O × L))} (λ l. take next lenders0 ++ l) all);
      }

-- lanes of which those up to a place are advanced
module _ {O L : Type 0} (advances : O → L → L → Type 0) (orders : List O) (was : List L) where
  pub record AdvancedUpTo (place : ℕ) (now : List L) : Type 0 where
    pub before : List L
    pub after : List L
    pub rest : List L
    pub was_is : was ≡ before ++ rest
    pub now_is : now ≡ after ++ rest
    pub before_len : length before ≡ place
    pub after_len : length after ≡ place
    pub advanced : AllAdvanced advances orders before after

  pub advanced_none : AdvancedUpTo 0 was
  advanced_none = record {
    before = [];
    after = [];
    rest = was;
    was_is = refl;
    now_is = refl;
    before_len = refl;
    after_len = refl;
    advanced = subst (λ (l : List (O × L)). AllZip (λ x lane. advances x.0 x.1 lane) l []) (sym (zip_nil orders)) tt;
  }

  pub advanced_all : (place : ℕ) (now : List L) → AdvancedUpTo place now → length was ≤ place → AllAdvanced advances orders was now
  advanced_all place now so_far over =
      let none : so_far.rest ≡ [] = none_of so_far.rest (omega (arith, ap length so_far.was_is, length-append so_far.before so_far.rest, so_far.before_len)) in
      let was' : was ≡ so_far.before = so_far.was_is ∙ ap (λ (l : List L). so_far.before ++ l) none ∙ append-nil so_far.before in
      let now' : now ≡ so_far.after = so_far.now_is ∙ ap (λ (l : List L). so_far.after ++ l) none ∙ append-nil so_far.after in
      subst (λ (l : List L). AllAdvanced advances orders l now) (sym was') (subst (λ (l : List L). AllAdvanced advances orders so_far.before l) (sym now') so_far.advanced)

  module _ (place : ℕ) (now : List L) (so_far : AdvancedUpTo place now) (there : place < length was) (few : length was ≤ length orders) (order : O) (lane : L) (order_is : order ≡ get_or orders place order) (lane_is : lane ≡ get_or now place lane) where
    next : (x : L) × (tail : List L) × (so_far.rest ≡ x ∷ tail)
    next = first_of so_far.rest (omega (arith, ap length so_far.was_is, length-append so_far.before so_far.rest, so_far.before_len))

    same : lane ≡ next.0
    same =
        lane_is ∙ ap (λ (l : List L). get_or l place lane) (so_far.now_is ∙ ap (λ (l : List L). so_far.after ++ l) next.2) ∙ ap (λ (m : ℕ). get_or (so_far.after ++ next.0 ∷ next.1) m lane) (sym so_far.after_len)
        ∙ at_mid so_far.after next.1 next.0 lane

    rest_is : so_far.rest ≡ lane ∷ next.1
    rest_is = next.2 ∙ ap (λ (x : L). x ∷ next.1) (sym same)

    was_split : was ≡ so_far.before ++ lane ∷ next.1
    was_split = so_far.was_is ∙ ap (λ (l : List L). so_far.before ++ l) rest_is

    pub advanced_may : (may : O → L → Type 0) → AllMayAdvance may orders was → may order lane
    advanced_may may ready = may_at may orders was so_far.before next.1 lane order place was_split (sym so_far.before_len) (omega arith) order_is ready

    pub advanced_more : (new : L) → advances order lane new → AdvancedUpTo (place + 1) (set now place new)
    advanced_more new it = record {
      before = so_far.before ++ lane ∷ [];
      after = so_far.after ++ new ∷ [];
      rest = next.1;
      was_is = was_split ∙ sym (append_assoc so_far.before (lane ∷ []) next.1);
      now_is =
          ap (λ (l : List L). set l place new) (so_far.now_is ∙ ap (λ (l : List L). so_far.after ++ l) rest_is) ∙ ap (λ (m : ℕ). set (so_far.after ++ lane ∷ next.1) m new) (sym so_far.after_len)
          ∙ set_mid so_far.after next.1 lane new ∙ sym (append_assoc so_far.after (new ∷ []) next.1);
      before_len = omega (arith, length-append so_far.before (lane ∷ []), so_far.before_len);
      after_len = omega (arith, length-append so_far.after (new ∷ []), so_far.after_len);
      advanced =
          let short : length so_far.before < length orders = omega (arith, so_far.before_len) in
          let at : get_or orders (length so_far.before) order ≡ order = ap (λ (m : ℕ). get_or orders m order) so_far.before_len ∙ sym order_is in
          subst (λ (l : List (O × L)). AllZip (λ x b. advances x.0 x.1 b) l (so_far.after ++ new ∷ [])) (sym (zip_snoc orders so_far.before order lane short at))
          (all_zip_append (λ x b. advances x.0 x.1 b) (zip orders so_far.before) ((order, lane) ∷ []) so_far.after (new ∷ []) so_far.advanced (it, tt));
    }

-- lanes of which those up to a place are back
module _ {O L : Type 0} (advances : O → L → L → Type 0) (lent : List (O × L)) (lanes0 : List L) where
  pub record BackUpTo (place : ℕ) (lenders : List (List (O × L))) (lanes : List L) : Type 0 where
    pub done : List (O × L)
    pub rest : List (O × L)
    pub back : List L
    pub split : lent ≡ done ++ rest
    pub done_len : length done ≡ place
    pub with_threads : lenders ≡ map (λ _. []) done ++ one_each rest
    pub lanes_are : lanes ≡ lanes0 ++ back
    pub advanced : AllZip (λ x lane. advances x.0 x.1 lane) done back

  pub back_none : (lenders : List (List (O × L))) → lenders ≡ one_each lent → BackUpTo 0 lenders lanes0
  back_none lenders e = record { done = []; rest = lent; back = []; split = refl; done_len = refl; with_threads = e; lanes_are = sym (append-nil lanes0); advanced = tt }

  length-nones : (xs : List (O × L)) → length (map {B = List (O × L)} (λ _. []) xs) ≡ length xs
  length-nones [] = refl
  length-nones (x ∷ xs) = ap suc (length-nones xs)

  nones : (xs : List (O × L)) → All (λ (z : List (O × L)). z ≡ []) (map (λ _. []) xs)
  nones [] k d l = absurd (omega arith)
  nones (x ∷ xs) zero d l = refl
  nones (x ∷ xs) (suc k) d l = nones xs k d (omega arith)

  nones-snoc : (xs : List (O × L)) (x : O × L) → map {B = List (O × L)} (λ _. []) (xs ++ x ∷ []) ≡ map (λ _. []) xs ++ [] ∷ []
  nones-snoc [] x = refl
  nones-snoc (y ∷ xs) x = ap (λ (l : List (List (O × L))). [] ∷ l) (nones-snoc xs x)

  length-one_each : (xs : List (O × L)) → length (one_each xs) ≡ length xs
  length-one_each [] = refl
  length-one_each (x ∷ xs) = ap suc (length-one_each xs)

  module _ (place : ℕ) (lenders : List (List (O × L))) (lanes : List L) (so_far : BackUpTo place lenders lanes) where
    left : length lenders ≡ place + length so_far.rest
    left = ap length so_far.with_threads ∙ length-append (map (λ _. []) so_far.done) (one_each so_far.rest) ∙ ap (λ (n : ℕ). n + length (one_each so_far.rest)) (length-nones so_far.done ∙ so_far.done_len) ∙ ap (λ (n : ℕ). place + n) (length-one_each so_far.rest)

    none_left : length lenders ≤ place → so_far.rest ≡ []
    none_left over = none_of so_far.rest (omega (arith, left))

    pub back_all : length lenders ≤ place → (back : List L) × (lanes ≡ lanes0 ++ back) × AllZip (λ x lane. advances x.0 x.1 lane) lent back
    back_all over =
        let whole : lent ≡ so_far.done = so_far.split ∙ ap (λ (l : List (O × L)). so_far.done ++ l) (none_left over) ∙ append-nil so_far.done in
        (so_far.back, so_far.lanes_are, subst (λ (l : List (O × L)). AllZip (λ x lane. advances x.0 x.1 lane) l so_far.back) (sym whole) so_far.advanced)

    pub back_idle : length lenders ≤ place → All (λ z. z ≡ []) lenders
    back_idle over =
        let e : lenders ≡ map (λ _. []) so_far.done = so_far.with_threads ∙ ap (λ (l : List (O × L)). map (λ _. []) so_far.done ++ one_each l) (none_left over) ∙ append-nil (map (λ _. []) so_far.done) in
        subst (All (λ (z : List (O × L)). z ≡ [])) (sym e) (nones so_far.done)

    module _ (there : place < length lenders) (x : List (O × L)) (is : x ≡ get_or lenders place x) where
      pub first_left : (p : O × L) × (tail : List (O × L)) × (so_far.rest ≡ p ∷ tail)
      first_left = first_of so_far.rest (omega (arith, left))

      lenders_are : lenders ≡ map (λ _. []) so_far.done ++ (first_left.0 ∷ []) ∷ one_each first_left.1
      lenders_are = so_far.with_threads ∙ ap (λ (l : List (O × L)). map (λ _. []) so_far.done ++ one_each l) first_left.2

      at : length (map {B = List (O × L)} (λ _. []) so_far.done) ≡ place
      at = length-nones so_far.done ∙ so_far.done_len

      pub back_one : x ≡ first_left.0 ∷ []
      back_one = is ∙ ap (λ (l : List (List (O × L))). get_or l place x) lenders_are ∙ ap (λ (m : ℕ). get_or (map (λ _. []) so_far.done ++ (first_left.0 ∷ []) ∷ one_each first_left.1) m x) (sym at) ∙ at_mid (map (λ _. []) so_far.done) (one_each first_left.1) (first_left.0 ∷ []) x

      pub back_lent : (p : O × L) × (x ≡ p ∷ [])
      back_lent = (first_left.0, back_one)

      pub back_more : (p : O × L) (lane : L) (after : List (O × L)) (now : List L) → x ≡ p ∷ [] → advances p.0 p.1 lane → after ≡ [] → now ≡ lanes ++ lane ∷ [] → BackUpTo (place + 1) (set lenders place after) now
      back_more p lane after now given it none pushed =
          let same : first_left.0 ≡ p = cc (back_one, given) in
          let threads : set lenders place after ≡ map (λ _. []) (so_far.done ++ first_left.0 ∷ []) ++ one_each first_left.1 =
          ap (λ (l : List (List (O × L))). set l place after) lenders_are ∙ ap (λ (m : ℕ). set (map (λ _. []) so_far.done ++ (first_left.0 ∷ []) ∷ one_each first_left.1) m after) (sym at)
          ∙ set_mid (map (λ _. []) so_far.done) (one_each first_left.1) (first_left.0 ∷ []) after
          ∙ ap (λ (z : List (O × L)). map (λ _. []) so_far.done ++ z ∷ one_each first_left.1) none
          ∙ sym (append_assoc (map (λ _. []) so_far.done) ([] ∷ []) (one_each first_left.1))
          ∙ ap (λ (l : List (List (O × L))). l ++ one_each first_left.1) (sym (nones-snoc so_far.done first_left.0)) in
          record {
            done = so_far.done ++ first_left.0 ∷ [];
            rest = first_left.1;
            back = so_far.back ++ lane ∷ [];
            split = so_far.split ∙ ap (λ (l : List (O × L)). so_far.done ++ l) first_left.2 ∙ sym (append_assoc so_far.done (first_left.0 ∷ []) first_left.1);
            done_len = omega (arith, length-append so_far.done (first_left.0 ∷ []), so_far.done_len);
            with_threads = threads;
            lanes_are = pushed ∙ ap (λ (l : List L). l ++ lane ∷ []) so_far.lanes_are ∙ append_assoc lanes0 so_far.back (lane ∷ []);
            advanced = all_zip_append (λ q b. advances q.0 q.1 b) so_far.done (first_left.0 ∷ []) so_far.back (lane ∷ []) so_far.advanced (subst (λ (q : O × L). advances q.0 q.1 lane) (sym same) it, tt);
          }

-- lanes before others may be advanced by the first orders
pub may_front : {O L : Type 0} (may : O → L → Type 0) (orders : List O) (kept lent : List L) → AllMayAdvance may orders (kept ++ lent) → AllMayAdvance may orders kept
may_front may [] kept lent ready k d l = absurd (omega arith)
may_front may (o ∷ orders) [] lent ready k d l = absurd (omega arith)
may_front may (o ∷ orders) (x ∷ kept) lent ready zero d l = ready 0 d (omega arith)
may_front may (o ∷ orders) (x ∷ kept) lent ready (suc k) d l = may_front may orders kept lent (λ j e m. ready (suc j) e (omega arith)) k d (omega arith)

-- a round, of the three steps
pub round_of : {O L : Type 0} (advances : O → L → L → Type 0) (orders : List O) (old kept lent kept' back new : List L) (n : ℕ) → n ≡ length kept → old ≡ kept ++ lent → length kept ≤ length orders → AllAdvanced advances orders kept kept'
    → new ≡ kept' ++ back → AllZip (λ x lane. advances x.0 x.1 lane) (zip (drop n orders) lent) back → AllAdvanced advances orders old new
round_of {O} {L} advances orders old kept lent kept' back new n at split few here joined there =
    let R : O × L → L → Type 0 = λ x lane. advances x.0 x.1 lane in
    let behind : AllZip R (zip (drop (length kept) orders) lent) back = subst (λ (m : ℕ). AllZip R (zip (drop m orders) lent) back) at there in
    let all : AllZip R (zip orders (kept ++ lent)) (kept' ++ back) =
    subst (λ (l : List (O × L)). AllZip R l (kept' ++ back)) (sym (zip_append orders kept lent few)) (all_zip_append R (zip orders kept) (zip (drop (length kept) orders) lent) kept' back here behind) in
    subst (λ (l : List L). AllAdvanced advances orders l new) (sym split) (subst (λ (l : List L). AllAdvanced advances orders (kept ++ lent) l) (sym joined) all)
