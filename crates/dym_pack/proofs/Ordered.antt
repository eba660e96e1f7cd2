-- Areas whose exponents and ordinals rise without a gap.
use Rattle.std.proofs.Common.{◌≡◌, ℕ, zero, suc, ◌+◌, ◌<◌, ◌≤◌, ◌⊎◌, Bool, true, cond, ◌==◌, List, [], ◌∷◌, ◌++◌, length, map, refl, sym, ap, subst, ◌∙◌, arith, inl, inr}
use Rattle.std.specs.List.{flat_map, range_with_len}
use Rattle.std.proofs.lemmas.Bool.{cases_eq, cases_lt, cond-true, cond-false, eq-eqb, ne_eqb}
use Rattle.dym_base.specs.Numbers.{per}
use Rattle.dym_pack.specs.Areas.{AreaName}
use Rattle.dym_pack.specs.Contents.{Content, has_some, Follows, AreOrdered}
use Rattle.dym_pack.proofs.Named.{named}

-- a is one of these areas
abbrev pub In : Content → List Content → Type 0
In a [] = ⊥
In a (b ∷ others) = (a ≡ b) ⊎ In a others

-- the name of an area
abbrev pub name_of : Content → AreaName
name_of a = named a.exponent a.ordinal

-- how many of these areas are of class e
abbrev pub of_class : ℕ → List Content → ℕ
of_class e [] = 0
of_class e (a ∷ others) = cond (a.exponent == e) (suc (of_class e others)) (of_class e others)

class_here : (e : ℕ) (a : Content) (others : List Content) → a.exponent ≡ e → of_class e (a ∷ others) ≡ suc (of_class e others)
class_here e a others is = cond-true (a.exponent == e) _ _ (eq-eqb a.exponent e is)

class_other : (e : ℕ) (a : Content) (others : List Content) → (a.exponent ≡ e → ⊥) → of_class e (a ∷ others) ≡ of_class e others
class_other e a others isnt = cond-false (a.exponent == e) _ _ (ne_eqb a.exponent e isnt)

rises : (exponent next : ℕ) (used : Bool) (a : Content) → Follows exponent next used a.exponent a.ordinal → exponent ≤ a.exponent
rises exponent next used a is = elim is [ inl same ↦ omega (arith, same.0) | inr above ↦ omega (arith, above.0) ]

-- whether a chunk of the area is used
abbrev some_used : Content → Bool
some_used a = has_some (per a.exponent) a.used

-- what follows is of the class or of a higher one, from the next ordinal on
pub later : (exponent next : ℕ) (used : Bool) (cs : List Content) → AreOrdered exponent next used cs → (b : Content) → In b cs → (exponent < b.exponent) ⊎ ((b.exponent ≡ exponent) × (next ≤ b.ordinal))
later exponent next used [] are b inside = absurd inside
later exponent next used (a ∷ others) are b (inl here) = elim are.0 [
  | inl same ↦ inr (ap (λ (x : Content). x.exponent) here ∙ same.0, (let at : b.ordinal ≡ next = ap (λ (x : Content). x.ordinal) here ∙ same.1 in omega arith))
  | inr higher ↦ inl (let at : b.exponent ≡ a.exponent = ap (λ (x : Content). x.exponent) here in omega (arith, higher.0))
]
later exponent next used (a ∷ others) are b (inr there) =
    let rest = later a.exponent (a.ordinal + 1) (some_used a) others are.1 b there in
    elim are.0 [
      | inl same ↦ elim rest [
        | inl higher ↦ inl (omega (arith, same.0))
        | inr at ↦ inr (at.0 ∙ same.0, omega (arith, same.1, at.1))
      ]
      | inr higher ↦ elim rest [
        | inl more ↦ inl (omega (arith, higher.0))
        | inr at ↦ inl (omega (arith, higher.0, at.0))
      ]
    ]

-- no area of a class below
pub none_below : (exponent next : ℕ) (used : Bool) (cs : List Content) → AreOrdered exponent next used cs → (e : ℕ) → e < exponent → of_class e cs ≡ 0
none_below exponent next used [] are e below = refl
none_below exponent next used (a ∷ others) are e below =
    let least = rises exponent next used a are.0 in
    class_other e a others (λ same. omega arith) ∙ none_below a.exponent (a.ordinal + 1) (some_used a) others are.1 e (omega arith)

-- the names of those of class e
abbrev pub row_of : List Content → ℕ → List AreaName
row_of cs e = map (named e) (range_with_len 0 (of_class e cs))

rows_same : (d from : ℕ) (cs bs : List Content) → ((e : ℕ) → from ≤ e → of_class e cs ≡ of_class e bs) → flat_map (row_of cs) (range_with_len from d) ≡ flat_map (row_of bs) (range_with_len from d)
rows_same zero from cs bs same = refl
rows_same (suc d) from cs bs same =
    ap (λ n. map (named from) (range_with_len 0 n) ++ flat_map (row_of cs) (range_with_len (from + 1) d)) (same from (omega arith))
    ∙ ap (λ xs. row_of bs from ++ xs) (rows_same d (from + 1) cs bs (λ e past. same e (omega arith)))

rows_none : (d from : ℕ) → flat_map (row_of []) (range_with_len from d) ≡ []
rows_none zero from = refl
rows_none (suc d) from = rows_none d (from + 1)

abbrev pub AreSmall : List Content → Type 0
AreSmall cs = (a : Content) → In a cs → a.exponent ≤ 16

-- the areas of a class from one ordinal on, and those of d higher classes
abbrev named_from : ℕ → ℕ → ℕ → List Content → List AreaName
named_from d exponent next cs = map (named exponent) (range_with_len next (of_class exponent cs)) ++ flat_map (row_of cs) (range_with_len (exponent + 1) d)

-- the names, where those of the higher classes are known
names_step : (d exponent : ℕ) → ((cs : List Content) → AreOrdered (exponent + 1) 0 true cs → AreSmall cs → (cs ≡ [] → ⊥) → map name_of cs ≡ flat_map (row_of cs) (range_with_len (exponent + 1) d)) → (cs : List Content) (next : ℕ) (used : Bool) → AreOrdered exponent next used cs → AreSmall cs → map name_of cs ≡ named_from d exponent next cs
names_step d exponent higher [] next used are most = sym (rows_none d (exponent + 1))
names_step d exponent higher (a ∷ others) next used are most =
    let tail = flat_map (row_of (a ∷ others)) (range_with_len (exponent + 1) d) in
    elim are.0 [
      | inl same ↦ (
          let ordered = subst (λ o. AreOrdered exponent (o + 1) (some_used a) others) same.1 (subst (λ e. AreOrdered e (a.ordinal + 1) (some_used a) others) same.0 are.1) in
          let rest = names_step d exponent higher others (next + 1) (some_used a) ordered (λ b inside. most b (inr inside)) in
          let rows = rows_same d (exponent + 1) others (a ∷ others) (λ e past. sym (class_other e a others (λ is. omega (arith, same.0)))) in
          let first : name_of a ≡ named exponent next = ap (λ e. named e a.ordinal) same.0 ∙ ap (named exponent) same.1 in
          ap (λ x. x ∷ map name_of others) first
          ∙ ap (λ xs. named exponent next ∷ xs) (rest ∙ ap (λ xs. map (named exponent) (range_with_len (next + 1) (of_class exponent others)) ++ xs) rows)
          ∙ sym (ap (λ n. map (named exponent) (range_with_len next n) ++ tail) (class_here exponent a others same.0)))
      | inr above ↦ (
          let gone : of_class exponent (a ∷ others) ≡ 0
          = class_other exponent a others (λ is. omega (arith, above.0)) ∙ none_below a.exponent (a.ordinal + 1) (some_used a) others are.1 exponent (above.0) in
          let follows : Follows (exponent + 1) 0 true a.exponent a.ordinal = elim (cases_eq a.exponent (exponent + 1)) [
            | inl is ↦ inl (is, above.2)
            | inr isnt ↦ inr (omega (arith, above.0), refl, above.2)
          ] in
          higher (a ∷ others) (follows, are.1) most (λ is. some_not_none a others is)
          ∙ sym (ap (λ n. map (named exponent) (range_with_len next n) ++ tail) gone))
    ]
  where
    some_not_none : (a : Content) (others : List Content) → a ∷ others ≡ [] → ⊥
    some_not_none a others is = (let long = ap length is in omega arith)

pub names_are : (d exponent next : ℕ) (used : Bool) (cs : List Content) → exponent + d ≡ 16 → AreOrdered exponent next used cs → AreSmall cs → map name_of cs ≡ named_from d exponent next cs
names_are zero exponent next used cs all are most = names_step zero exponent (λ bs ordered low some. absurd (none_left exponent bs ordered low some (omega arith))) cs next used are most
  where
    none_left : (exponent : ℕ) (bs : List Content) → AreOrdered (exponent + 1) 0 true bs → AreSmall bs → (bs ≡ [] → ⊥) → exponent ≡ 16 → ⊥
    none_left exponent [] ordered low some top = some refl
    none_left exponent (b ∷ bs) ordered low some top =
        let most : b.exponent ≤ 16 = low b (inl refl) in
        elim ordered.0 [ inl same ↦ omega (arith, same.0) | inr above ↦ omega (arith, above.0) ]
names_are (suc d) exponent next used cs all are most =
    names_step (suc d) exponent (λ bs ordered low some. names_are d (exponent + 1) 0 true bs (omega arith) ordered low) cs next used are most

-- ---- how far the ordinals of a class go

abbrev base : ℕ → ℕ → ℕ → ℕ
base e exponent next = cond (e == exponent) next 0

base_here : (e exponent next : ℕ) → e ≡ exponent → base e exponent next ≡ next
base_here e exponent next is = cond-true (e == exponent) _ _ (eq-eqb e exponent is)

base_other : (e exponent next : ℕ) → (e ≡ exponent → ⊥) → base e exponent next ≡ 0
base_other e exponent next isnt = cond-false (e == exponent) _ _ (ne_eqb e exponent isnt)

-- where class e stands after an area
after : (exponent next : ℕ) (used : Bool) (a : Content) (others : List Content) → Follows exponent next used a.exponent a.ordinal → (e : ℕ) → exponent ≤ e → a.exponent ≤ e → base e a.exponent (a.ordinal + 1) + of_class e others ≡ base e exponent next + of_class e (a ∷ others)
after exponent next used a others is e low at =
    elim (cases_eq a.exponent e) [
      | inl here ↦ elim is [
        | inl same ↦ omega (arith, base_here e a.exponent (a.ordinal + 1) (sym here), base_here e exponent next (sym here ∙ same.0), same.1, class_here e a others here)
        | inr above ↦ omega (arith, base_here e a.exponent (a.ordinal + 1) (sym here), base_other e exponent next (λ x. omega (arith, above.0)), above.2, class_here e a others here)
      ]
      | inr there ↦ (
          let gone = base_other e a.exponent (a.ordinal + 1) (λ x. there (sym x)) in
          let too = base_other e exponent next (λ x. higher_apart exponent next used a is e at there x) in
          omega (arith, class_other e a others there))
    ]
  where
    higher_apart : (exponent next : ℕ) (used : Bool) (a : Content) → Follows exponent next used a.exponent a.ordinal → (e : ℕ) → a.exponent ≤ e → (a.exponent ≡ e → ⊥) → e ≡ exponent → ⊥
    higher_apart exponent next used a is e at there x = elim is [ inl same ↦ there (same.0 ∙ sym x) | inr above ↦ omega (arith, above.0) ]

pub ordinals_below : (exponent next : ℕ) (used : Bool) (cs : List Content) → AreOrdered exponent next used cs → (b : Content) → In b cs → b.ordinal < base b.exponent exponent next + of_class b.exponent cs
ordinals_below exponent next used [] are b inside = absurd inside
ordinals_below exponent next used (a ∷ others) are b (inl here) =
    let e : b.exponent ≡ a.exponent = ap (λ (x : Content). x.exponent) here in
    let o : b.ordinal ≡ a.ordinal = ap (λ (x : Content). x.ordinal) here in
    let all = after exponent next used a others are.0 b.exponent (omega (arith, rises exponent next used a are.0)) (omega arith) in
    omega (arith, all, base_here b.exponent a.exponent (a.ordinal + 1) e)
ordinals_below exponent next used (a ∷ others) are b (inr there) =
    let rest = ordinals_below a.exponent (a.ordinal + 1) (some_used a) others are.1 b there in
    let at : a.exponent ≤ b.exponent = elim (later a.exponent (a.ordinal + 1) (some_used a) others are.1 b there) [ inl above ↦ omega arith | inr same ↦ omega (arith, same.0) ] in
    omega (arith, rest, after exponent next used a others are.0 b.exponent (omega (arith, rises exponent next used a are.0)) at)

-- the last area of a class has a used chunk
pub record LastOf (e count : ℕ) (cs : List Content) : Type 0 where
  pub area : Content
  pub there : In area cs
  pub class : area.exponent ≡ e
  pub some : has_some (per area.exponent) area.used ≡ true
  pub last : area.ordinal + 1 ≡ count

pub last_used : (exponent next : ℕ) (used : Bool) (cs : List Content) → AreOrdered exponent next used cs → (e : ℕ) → 1 ≤ of_class e cs → LastOf e (base e exponent next + of_class e cs) cs
last_used exponent next used [] are e some = absurd (omega arith)
last_used exponent next used (a ∷ others) are e some =
    elim (cases_eq (of_class e others) 0) [
      | inl none ↦ elim (cases_eq a.exponent e) [
        | inl here ↦ record {
          area = a;
          there = inl refl;
          class = here;
          some = last_some others e none a.exponent (a.ordinal + 1) (some_used a) are.1 here;
          last = (let all = after exponent next used a others are.0 e (omega (arith, rises exponent next used a are.0)) (omega arith) in omega (arith, base_here e a.exponent (a.ordinal + 1) (sym here)));
        }
        | inr isnt ↦ absurd (omega (arith, class_other e a others isnt))
      ]
      | inr more ↦ (
          let at : a.exponent ≤ e = class_high others e a.exponent (a.ordinal + 1) (some_used a) are.1 more in
          let rest = last_used a.exponent (a.ordinal + 1) (some_used a) others are.1 e (omega arith) in
          let all = after exponent next used a others are.0 e (omega (arith, rises exponent next used a are.0)) at in
          record { area = rest.area; there = inr rest.there; class = rest.class; some = rest.some; last = rest.last ∙ all })
    ]
  where
    class_high : (others : List Content) (e exponent next : ℕ) (used : Bool) → AreOrdered exponent next used others → (of_class e others ≡ 0 → ⊥) → exponent ≤ e
    class_high others e exponent next used are more = elim (cases_lt e exponent) [ inl below ↦ absurd (more (none_below exponent next used others are e below)) | inr past ↦ past ]

    last_some : (others : List Content) (e : ℕ) → of_class e others ≡ 0 → (exponent next : ℕ) (used : Bool) → AreOrdered exponent next used others → exponent ≡ e → used ≡ true
    last_some [] e none exponent next used are here = are
    last_some (b ∷ bs) e none exponent next used are here = elim are.0 [
      | inl same ↦ absurd (omega (arith, class_here e b bs (same.0 ∙ here)))
      | inr above ↦ above.1
    ]
