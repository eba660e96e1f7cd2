-- The jobs of all shares are those of the list that was dealt.
use Rattle.std.proofs.Common.{◌≡◌, ℕ, zero, suc, ◌+◌, ◌-◌, ◌<◌, ◌≤◌, inl, inr, Option, Some, None, List, [], ◌∷◌, ◌++◌, All, map, length, replicate, reverse, get_or, sym, refl, ap, ◌∙◌, subst, arith}
use Rattle.std.proofs.lemmas.List.{get_or-map, map-append, length-map, length-replicate, reverse-append, reverse-reverse, same_lists}
use Rattle.std.proofs.lemmas.Option.{none-some}
use Rattle.std.proofs.lemmas.List.Elements.{All-append}
use Rattle.std.specs.List.{flat_map}
use Rattle.std.specs.declared.boxed.Box.{Box}
use Rattle.std.specs.declared.alloc.Global.{Global}
use Rattle.dym_pool.specs.Jobs.{boxed_labels, unboxed, AllBoxedEnded, Numbered, EveryJobBack}
use Rattle.std.specs.List.{AllZip}
use Rattle.dym_pool.specs.Deques.{HasAll}
use Rattle.dym_pool.specs.Holdings.{Holding, IsFinished}
use Rattle.dym_pool.specs.Shares.{Has, SameElements, placed, standing, NumbersBelow, Gathered, ResultsEnded}
use Rattle.dym_pool.proofs.Carrying.{map_reverse}
use Rattle.dym_pool.proofs.Elements.{has-left, has-right, has-split}
use Rattle.dym_pool.proofs.Places.{placed-append, placed-length, placed-right, placed-there, all-standing, Right}

module _ {X A : Type 0} (f : X → List A) where
  pub has-flat : (xs : List X) (i : ℕ) (d : X) (x : A) → i < length xs → Has (f (get_or xs i d)) x → Has (flat_map f xs) x
  has-flat [] i d x l h = absurd (omega arith)
  has-flat (y ∷ ys) zero d x l h = has-left (f y) (flat_map f ys) x h
  has-flat (y ∷ ys) (suc i) d x l h = has-right (f y) (flat_map f ys) x (has-flat ys i d x (omega arith) h)

module _ {A C : Type 0} (h : A → C) where
  pub has-at : (xs : List A) (k : ℕ) (d : A) → k < length xs → Has (map h xs) (h (get_or xs k d))
  has-at [] k d l = absurd (omega arith)
  has-at (y ∷ ys) zero d l = inl refl
  has-at (y ∷ ys) (suc k) d l = inr (has-at ys k d (omega arith))

  pub map-each : (P : ℕ → C → Type 0) (xs : List A) (n : ℕ) → n ≤ length xs → ((k : ℕ) (d : A) → k < n → P k (h (get_or xs k d))) → (k : ℕ) (d : C) → k < n → P k (get_or (map h xs) k d)
  map-each P [] n some each k d l = absurd (omega arith)
  map-each P (y ∷ ys) n some each zero d l = each 0 y l
  map-each P (y ∷ ys) n some each (suc k) d l = map-each (λ j. P (suc j)) ys (n - 1) (omega arith) (λ j e m. each (suc j) e (omega arith)) k d (omega arith)

module _ {A : Type 0} where
  element_at : (xs : List A) (k : ℕ) → k < length xs → (x : A) × ((d : A) → get_or xs k d ≡ x)
  element_at [] k l = absurd (omega arith)
  element_at (y ∷ ys) zero l = (y, λ d. refl)
  element_at (y ∷ ys) (suc k) l = element_at ys k (omega arith)

none_there : {B : Type 0} (n k : ℕ) (b : B) → get_or (replicate n None) k None ≡ Some b → ⊥
none_there zero k b e = absurd (none-some b e)
none_there (suc n) zero b e = absurd (none-some b e)
none_there (suc n) (suc k) b e = none_there n k b e

module _ {A : Type 0} where
  pub has-here : (xs : List A) (k : ℕ) (d : A) → k < length xs → Has xs (get_or xs k d)
  has-here [] k d l = absurd (omega arith)
  has-here (y ∷ ys) zero d l = inl refl
  has-here (y ∷ ys) (suc k) d l = inr (has-here ys k d (omega arith))

module _ {J O : Type 0} (number left : J → ℕ) (origin : J → O) where
  abbrev label : Box J Global → ℕ × O
  label b = (number b.value, origin b.value)

  abbrev boxed_number : Box J Global → ℕ
  boxed_number b = number b.value

  -- boxes with these labels fit
  pub boxes_fit : (bs : List (Box J Global)) (labels : List (ℕ × O)) (n : ℕ) → boxed_labels number origin bs ≡ labels → All (λ x. x.0 < n) labels → All (λ b. number b.value < n) bs
  boxes_fit bs labels n is all k d l =
      let there = subst (All (λ (x : ℕ × O). x.0 < n)) (sym is) all k (label d) (omega (arith, length-map bs label)) in
      subst (λ (x : ℕ × O). x.0 < n) (get_or-map label bs k d (label d) l) there

  -- one share's boxes more
  pub places_more : (labels hand : List (ℕ × O)) (before between after : List (Option (Box J Global))) (bs : List (Box J Global)) → ResultsEnded number left origin labels before between
      → boxed_labels number origin bs ≡ hand → AllBoxedEnded left bs → after ≡ placed boxed_number bs between → ResultsEnded number left origin (labels ++ hand) before after
  places_more labels hand before between after bs p is ended then = (
    p.0 ++ bs,
    map-append label p.0 bs ∙ ap {B = List (ℕ × O)} (λ l. l ++ boxed_labels number origin bs) p.1 ∙ ap {B = List (ℕ × O)} (λ l. labels ++ l) is,
    All-append (λ b. left b.value ≡ 0) p.0 bs p.2 ended,
    then ∙ ap (placed boxed_number bs) p.3 ∙ sym (placed-append boxed_number p.0 bs before),
  )

  number_of_label : (bs : List (Box J Global)) (k : ℕ) (o : O) → Has (boxed_labels number origin bs) (k, o) → Has (map (λ b. number b.value) bs) k
  number_of_label [] k o h = h
  number_of_label (b ∷ bs) k o h = elim h [
    | inl e ↦ inl (ap (λ (p : ℕ × O). p.0) e)
    | inr t ↦ inr (number_of_label bs k o t)
  ]

  pub gathered : (bs : List (Box J Global)) (all : List (ℕ × O)) (n : ℕ) → boxed_labels number origin bs ≡ all → NumbersBelow n all → AllBoxedEnded left bs
      → Gathered number left origin n all (unboxed (standing (placed boxed_number bs (replicate n None))))
  gathered bs all n same names ended =
      let nothing : Option (Box J Global) = None in
      let Fits : Box J Global → Type 0 = λ b. Has all (label b) × (left b.value ≡ 0) in
      let slots = placed boxed_number bs (replicate n None) in
      let fits : All Fits bs = λ k d l. (subst (λ (ls : List (ℕ × O)). Has ls (label (get_or bs k d))) same (has-at label bs k d l), ended k d l) in
      let right : Right boxed_number Fits slots = placed-right boxed_number Fits bs (replicate n None) fits (λ k b e. absurd (none_there n k b e)) in
      let long : length slots ≡ n = placed-length boxed_number bs (replicate n None) ∙ length-replicate n None in
      let there : (k : ℕ) → k < length slots → (b : Box J Global) × (get_or slots k None ≡ Some b) × ((number b.value ≡ k) × Fits b) = λ k l.
      let named = names.1 k (omega (arith, long)) in
      let t = placed-there boxed_number bs (replicate n None) k (omega (arith, long, length-replicate n nothing)) (inl (number_of_label bs k named.0 (subst (λ (ls : List (ℕ × O)). Has ls (k, named.0)) (sym same) named.1))) in
      (t.0, t.1, right k t.0 t.1) in
      let stand = all-standing (λ k b. (number b.value ≡ k) × Fits b) slots there in (
        length-map (standing slots) (λ b. b.value) ∙ stand.0 ∙ long,
        map-each (λ (b : Box J Global). b.value) (λ k j. (number j ≡ k) × Has all (number j, origin j) × (left j ≡ 0)) (standing slots) n (omega (arith, stand.0, long))
            (λ k d l. let it = stand.1 k d (omega (arith, long)) in (it.0, it.1.0, it.1.1)),
      )

module _ {O : Type 0} where
  -- each share has all its jobs, so all shares have all
  pub all_finished : (dealt finished : List (Holding O)) → AllZip IsFinished dealt finished → HasAll (flat_map (λ s. s.list) dealt) (flat_map (λ s. s.hand) finished)
  all_finished [] [] h = record { within = λ x h. h; each = λ x h. absurd h }
  all_finished [] (y ∷ ys) h = absurd h
  all_finished (x ∷ xs) [] h = absurd h
  all_finished (x ∷ xs) (y ∷ ys) h =
      let rest = all_finished xs ys h.1 in
      let lists = flat_map (λ (s : Holding O). s.list) xs in
      let hands = flat_map (λ (s : Holding O). s.hand) ys in
      let same : y.list ≡ x.list = h.0.list in
      record {
        within = λ z t.
            elim (has-split y.hand hands z t) [
              | inl a ↦ has-left x.list lists z (subst (λ (l : List (ℕ × O)). Has l z) same (h.0.all.within z a))
              | inr b ↦ has-right x.list lists z (rest.within z b)
            ];
        each = λ z t.
            elim (has-split x.list lists z t) [
              | inl a ↦ let r = h.0.all.each z (subst (λ (l : List (ℕ × O)). Has l z) (sym same) a) in (r.0, has-left y.hand hands (z.0, r.0) r.1)
              | inr b ↦ let r = rest.each z b in (r.0, has-right y.hand hands (z.0, r.0) r.1)
            ];
      }

  pub names_ended : (n : ℕ) (dealt ended : List (ℕ × O)) → HasAll dealt ended → NumbersBelow n dealt → NumbersBelow n ended
  names_ended n dealt ended has names = ((λ x h. names.0 x (has.within x h)), λ k l. let it = names.1 k l in has.each (k, it.0) it.1)

  pub gathered_dealt : {J : Type 0} (number left : J → ℕ) (origin : J → O) (n : ℕ) (dealt ended : List (ℕ × O)) (jobs : List J) → HasAll dealt ended → Gathered number left origin n ended jobs → Gathered number left origin n dealt jobs
  gathered_dealt number left origin n dealt ended jobs has g = (g.0, λ k d l. let it = g.1 k d l in (it.0, has.within _ it.1, it.2))

module _ {A : Type 0} where
  has-reversed : (xs : List A) (x : A) → Has (reverse xs) x → Has xs x
  has-reversed [] x h = h
  has-reversed (y ∷ ys) x h =
      elim (has-split (reverse ys) (y ∷ []) x (subst (λ (zs : List A). Has zs x) (reverse-append (y ∷ []) ys) h)) [
        | inl t ↦ inr (has-reversed ys x t)
        | inr t ↦ elim t [
          | inl e ↦ inl e
          | inr z ↦ absurd z
        ]
      ]

  pub has-reverse : (xs : List A) (x : A) → Has xs x → Has (reverse xs) x
  has-reverse xs x h = has-reversed (reverse xs) x (subst (λ (zs : List A). Has zs x) (sym (reverse-reverse xs)) h)

module _ {J O : Type 0} (number left : J → ℕ) (origin : J → O) where
  abbrev label_of : J → ℕ × O
  label_of j = (number j, origin j)

  -- what has a label of the list has the number of its place
  placed_label : (jobs : List J) (m : ℕ) → ((k : ℕ) (d : J) → k < length jobs → number (get_or jobs k d) ≡ m + k) → (x : ℕ × O) → Has (map label_of jobs) x → (k : ℕ) × (k < length jobs) × ((d : J) → label_of (get_or jobs k d) ≡ x) × (x.0 ≡ m + k)
  placed_label [] m each x h = absurd h
  placed_label (j ∷ jobs) m each x h =
      elim h [
        | inl e ↦ (0, omega arith, (λ d. e), sym (ap (λ (p : ℕ × O). p.0) e) ∙ each 0 j (omega arith))
        | inr t ↦ let r = placed_label jobs (m + 1) (λ k d l. let e = each (suc k) d (omega arith) in omega arith) x t in
            (suc r.0, omega (arith, r.1), r.2, omega (arith, r.3))
      ]

  labels_unboxed : (boxes : List (Box J Global)) → map label_of (unboxed boxes) ≡ boxed_labels number origin boxes
  labels_unboxed [] = refl
  labels_unboxed (b ∷ bs) = ap {B = List (ℕ × O)} (λ l. label_of b.value ∷ l) (labels_unboxed bs)

  packed_labels : (jobs : List J) (boxes : List (Box J Global)) → unboxed boxes ≡ reverse jobs → boxed_labels number origin boxes ≡ reverse (map label_of jobs)
  packed_labels jobs boxes packed = sym (labels_unboxed boxes) ∙ ap (map label_of) packed ∙ map_reverse label_of jobs

  pub numbers_below : (jobs : List J) (boxes : List (Box J Global)) (dealt : List (ℕ × O)) → Numbered number jobs → unboxed boxes ≡ reverse jobs → SameElements dealt (boxed_labels number origin boxes) → NumbersBelow (length jobs) dealt
  numbers_below jobs boxes dealt numbered packed same =
      let is = packed_labels jobs boxes packed in (
        (λ x h.
            let r = placed_label jobs 0 (λ k d l. let e = numbered k d l in omega arith) x (has-reversed (map label_of jobs) x (subst (λ (l : List (ℕ × O)). Has l x) is (same.1 x h))) in
            omega (arith, r.1, r.3)),
        (λ k l.
            let it = element_at jobs k l in
            let e : number it.0 ≡ k = ap number (sym (it.1 it.0)) ∙ numbered k it.0 l in
            let there : Has (map label_of jobs) (label_of it.0) = subst (λ (y : J). Has (map label_of jobs) (label_of y)) (it.1 it.0) (has-at label_of jobs k it.0 l) in (
              origin it.0,
              same.0 (k, origin it.0)
                  (subst (λ (l : List (ℕ × O)). Has l (k, origin it.0)) (sym is) (has-reverse (map label_of jobs) (k, origin it.0) (subst (λ (n : ℕ). Has (map label_of jobs) (n, origin it.0)) e there))),
            )),
      )

  pub every_job_back : (jobs after : List J) (boxes : List (Box J Global)) (dealt : List (ℕ × O)) → Numbered number jobs → unboxed boxes ≡ reverse jobs → SameElements dealt (boxed_labels number origin boxes)
      → Gathered number left origin (length jobs) dealt after → EveryJobBack number left origin jobs after
  every_job_back jobs after boxes dealt numbered packed same g =
      let is = packed_labels jobs boxes packed in (
        same_lists (map label_of after) (map label_of jobs) (length-map after label_of ∙ g.0 ∙ sym (length-map jobs label_of))
            (λ k d l.
            let m : k < length jobs = omega (arith, g.0, length-map after label_of) in
            let it = element_at after k (omega (arith, g.0)) in
            let a = get_or after k it.0 in
            let r = placed_label jobs 0 (λ k d l. let e = numbered k d l in omega arith) (label_of a) (has-reversed (map label_of jobs) (label_of a) (subst (λ (l : List (ℕ × O)). Has l (label_of a)) is (same.1 (label_of a) (g.1 k it.0 m).1))) in
            let here : r.0 ≡ k = let n = (g.1 k it.0 m).0 in omega (arith, r.3) in
            get_or-map label_of after k it.0 d (omega (arith, g.0)) ∙ sym (r.2 it.0) ∙ ap (λ (n : ℕ). label_of (get_or jobs n it.0)) here ∙ sym (get_or-map label_of jobs k it.0 d m)),
        (λ k d l. (g.1 k d (omega (arith, g.0))).2),
      )

pub taken_back : {J : Type 0} (old new : List J) (whole final : List (Option (Box J Global))) → new ≡ old ++ unboxed (standing whole) → old ≡ [] → whole ≡ final → new ≡ unboxed (standing final)
taken_back {J} old new whole final is none same = is ∙ ap {B = List J} (λ l. l ++ unboxed (standing whole)) none ∙ ap (λ (s : List (Option (Box J Global))). unboxed (standing s)) same

-- what is said of numbers and of gathered jobs holds of equal lists
pub numbers_stay : {O : Type 0} (n m : ℕ) (dealt final : List (ℕ × O)) → n ≡ m → final ≡ dealt → NumbersBelow m dealt → NumbersBelow n final
numbers_stay {O} n m dealt final e same h = subst (λ (k : ℕ). NumbersBelow k final) (sym e) (subst (λ (l : List (ℕ × O)). NumbersBelow m l) (sym same) h)

pub gathered_stays : {J O : Type 0} (number left : J → ℕ) (origin : J → O) (n m : ℕ) (dealt final : List (ℕ × O)) (jobs : List J) → n ≡ m → final ≡ dealt → Gathered number left origin n final jobs → Gathered number left origin m dealt jobs
gathered_stays {J} {O} number left origin n m dealt final jobs e same h =
    subst (λ (k : ℕ). Gathered number left origin k dealt jobs) e (subst (λ (l : List (ℕ × O)). Gathered number left origin n l jobs) same h)
