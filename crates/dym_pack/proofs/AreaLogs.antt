-- A log that has given areas, and the areas that a log has.
use Rattle.std.proofs.Common.{◌≡◌, ℕ, zero, suc, ◌+◌, ◌-◌, ◌*◌, ◌/◌, ◌%◌, ◌^◌, ◌<◌, ◌≤◌, ◌⊎◌, Bool, true, false, cond, ◌&&◌, ◌||◌, ◌==◌, take, drop, le_refl, Option, Some, None, is_some, unwrap_or, List, [], ◌∷◌, ◌++◌, length, map, refl, sym, ap, subst, ◌∙◌, arith, inl, inr}
use Rattle.std.specs.List.{flat_map, filter, range_with_len, list_any, AllByRecursion}
use Rattle.std.specs.Ordering.{nat_cmp}
use Rattle.std.specs.FinMap as map
use Rattle.std.specs.FinSet as set
use Rattle.std.proofs.lemmas.Bool.{cases_Bool, cases_eq, cond-true, cond-false, true≢false, eq-eqb, eqb-true, and_parts}
use Rattle.std.proofs.lemmas.Option.{same_Some}
use Rattle.std.proofs.lemmas.List.{length-map, append-nil, length-append, take-map}
use Rattle.std.proofs.lemmas.Nat.{pow_pos, div-add-mod', div-mul-add}
use Rattle.dym_base.specs.Numbers.{per, number, exponent_of, index_of, classes}
use Rattle.dym_base.specs.Heaps.{Live, areas, held}
use Rattle.dym_base.specs.Laws.{IsLengthOf, IsWellSized}
use Rattle.dym_base.specs.Packed.{Logged, touched_bits, packs_by, packed_chunk, packed}
use Rattle.dym_base.specs.LawfulLists.{IsLogOf}
use Rattle.dym_base.specs.declared.limits.TheConstants.{MOST_QUOTA}
use Rattle.dym_base.specs.declared.command.Version.{Version}
use Rattle.dym_base.specs.declared.command.Kind.{Kind}
use Rattle.dym_base.specs.declared.command.Kind.TheVariants.{Full, Inc}
use Rattle.dym_base.proofs.Heaps.{areas_below}
use Rattle.dym_base.proofs.Sizes.{exponent_of_number}
use Rattle.dym_pack.specs.Areas.{area_list}
use Rattle.dym_pack.specs.Offsets.{name_bytes, header, area_bytes, front, start_of, starts_of}
use Rattle.dym_pack.specs.Contents.{Content, IsContent, picks, has_some, content_body, content_bytes, contents_bytes, head_bytes, starts_from, AreOrdered, HaveOffsets}
use Rattle.dym_pack.proofs.Bitmaps.{bitmap_same}
use Rattle.dym_pack.proofs.Fronts.{packed_is}
use Rattle.dym_pack.proofs.Named.{named, row, area_list_is, length_areas, index_small, most_per}
use Rattle.dym_pack.proofs.Ranges.{filter_same}
use Rattle.dym_pack.proofs.Made.{values_below, values_get, marks_below, marks_has}
use Rattle.dym_pack.proofs.Seen.{use_part, touched_part, content_parts, picks_used}
use Rattle.dym_pack.proofs.Unique.{area_parts, found_bits, body_of, packs_of}
use mathlib.Core.Path.{fun_ext}
use Rattle.dym_pack.proofs.Ordered.{In, name_of, row_of, of_class, later, names_are, ordinals_below, last_used}

in_each : (P : Content → Type 0) (cs : List Content) → AllByRecursion P cs → (a : Content) → In a cs → P a
in_each P [] each a inside = absurd inside
in_each P (b ∷ cs) each a (inl here) = subst P (sym here) each.0
in_each P (b ∷ cs) each a (inr there) = in_each P cs each.1 a there

-- ---- the numbers of an area's chunks

abbrev num : Content → ℕ → ℕ
num a i = number a.exponent (a.ordinal * per a.exponent + i)

record IsSmall (a : Content) : Type 0 where
  least : 5 ≤ a.exponent
  most : a.exponent ≤ 16
  few : a.ordinal < 1024

index_of_small : (e n : ℕ) → n < 2 ^ 32 → index_of (number e n) ≡ n
index_of_small e n small = omega arith

module _ (a : Content) (is : IsSmall a) (i : ℕ) (inside : i < per a.exponent) where
  num_small : a.ordinal * per a.exponent + i < 2 ^ 32
  num_small = index_small a.ordinal (per a.exponent) i is.few (most_per a.exponent is.least) inside

  num_exponent : exponent_of (num a i) ≡ a.exponent
  num_exponent = exponent_of_number a.exponent (a.ordinal * per a.exponent + i) num_small

  num_index : index_of (num a i) ≡ a.ordinal * per a.exponent + i
  num_index = index_of_small a.exponent (a.ordinal * per a.exponent + i) num_small

  num_area : index_of (num a i) / per a.exponent ≡ a.ordinal
  num_area = ap (λ n. n / per a.exponent) num_index ∙ div-mul-add a.ordinal (per a.exponent) i inside

  num_place : index_of (num a i) % per a.exponent ≡ i
  num_place =
      let n = index_of (num a i) in
      let sum : n / per a.exponent * per a.exponent + n % per a.exponent ≡ n = div-add-mod' n (per a.exponent) in
      let whole : n / per a.exponent * per a.exponent ≡ a.ordinal * per a.exponent = ap (λ q. q * per a.exponent) num_area in
      omega (arith, num_index)

-- ---- what the areas say of a number

abbrev is_at : Content → ℕ → Bool
is_at a k = exponent_of k == a.exponent && index_of k / per a.exponent == a.ordinal

abbrev value_in : Content → ℕ → Option (List ℕ)
value_in a i = cond (a.used i) (Some (a.chunk i)) None

abbrev value_of : List Content → ℕ → Option (List ℕ)
value_of [] k = None
value_of (a ∷ cs) k = cond (is_at a k) (value_in a (index_of k % per a.exponent)) (value_of cs k)

abbrev mark_of : List Content → ℕ → Bool
mark_of [] k = false
mark_of (a ∷ cs) k = cond (is_at a k) (a.touched (index_of k % per a.exponent)) (mark_of cs k)

at_own : (a : Content) → IsSmall a → (i : ℕ) → i < per a.exponent → is_at a (num a i) ≡ true
at_own a is i inside = both (exponent_of (num a i) == a.exponent) _ (eq-eqb _ _ (num_exponent a is i inside)) (eq-eqb _ _ (num_area a is i inside))
  where
    both : (x y : Bool) → x ≡ true → y ≡ true → (x && y) ≡ true
    both true true xs ys = refl
    both true false xs ys = ys
    both false y xs ys = xs

at_parts : (a : Content) (k : ℕ) → is_at a k ≡ true → (exponent_of k ≡ a.exponent) × (index_of k / per a.exponent ≡ a.ordinal)
at_parts a k is =
    let parts = and_parts (exponent_of k == a.exponent) (index_of k / per a.exponent == a.ordinal) is in
    (eqb-true _ _ parts.0, eqb-true _ _ parts.1)

at_other : (a b : Content) → IsSmall b → (i : ℕ) → i < per b.exponent → (a.exponent < b.exponent) ⊎ ((b.exponent ≡ a.exponent) × (a.ordinal + 1 ≤ b.ordinal)) → is_at a (num b i) ≡ false
at_other a b is i inside apart =
    elim (cases_Bool (is_at a (num b i))) [
      | inl yes_at ↦ (
          let parts = at_parts a (num b i) yes_at in
          let class : b.exponent ≡ a.exponent = sym (num_exponent b is i inside) ∙ parts.0 in
          let offset : b.ordinal ≡ a.ordinal = sym (num_area b is i inside) ∙ ap (λ e. index_of (num b i) / per e) class ∙ parts.1 in
          absurd (elim apart [ inl above ↦ omega arith | inr more ↦ omega (arith, more.1) ]))
      | inr not_at ↦ not_at
    ]

-- at the number of a chunk of one of the areas they say what that area says
record Says (cs : List Content) (b : Content) (i : ℕ) : Type 0 where
  value : value_of cs (num b i) ≡ value_in b i
  mark : mark_of cs (num b i) ≡ b.touched i

says : (exponent next : ℕ) (used : Bool) (cs : List Content) → AreOrdered exponent next used cs → ((a : Content) → In a cs → IsSmall a) → (b : Content) → In b cs → (i : ℕ) → i < per b.exponent → Says cs b i
says exponent next used [] are small b inside i below = absurd inside
says exponent next used (a ∷ cs) are small b (inl here) i below =
    subst (λ x. Says (a ∷ cs) x i) (sym here) (
    let is = small a (inl refl) in
    let own : i < per a.exponent = subst (λ (x : Content). i < per x.exponent) here below in
    record {
      value = cond-true (is_at a (num a i)) _ _ (at_own a is i own) ∙ ap (value_in a) (num_place a is i own);
      mark = cond-true (is_at a (num a i)) _ _ (at_own a is i own) ∙ ap a.touched (num_place a is i own);
    })
says exponent next used (a ∷ cs) are small b (inr there) i below =
    let rest = says a.exponent (a.ordinal + 1) (has_some (per a.exponent) a.used) cs are.1 (λ x inside. small x (inr inside)) b there i below in
    let apart = later a.exponent (a.ordinal + 1) (has_some (per a.exponent) a.used) cs are.1 b there in
    let other = at_other a b (small b (inr there)) i below apart in
    record {
      value = cond-false (is_at a (num b i)) _ _ other ∙ rest.value;
      mark = cond-false (is_at a (num b i)) _ _ other ∙ rest.mark;
    }

-- where they have a value, one of them has it
record Found (cs : List Content) (k : ℕ) (x : List ℕ) : Type 0 where
  area : Content
  there : In area cs
  at : is_at area k ≡ true
  used : area.used (index_of k % per area.exponent) ≡ true
  is : area.chunk (index_of k % per area.exponent) ≡ x

found : (cs : List Content) (k : ℕ) (x : List ℕ) → value_of cs k ≡ Some x → Found cs k x
found [] k x is = absurd (true≢false (sym (ap is_some is)))
found (a ∷ cs) k x is =
    elim (cases_Bool (is_at a k)) [
      | inl at ↦ (
          let i = index_of k % per a.exponent in
          let here : value_in a i ≡ Some x = sym (cond-true (is_at a k) _ _ at) ∙ is in
          elim (cases_Bool (a.used i)) [
            | inl used ↦ record { area = a; there = inl refl; at = at; used = used; is = same_Some (a.chunk i) x (sym (cond-true (a.used i) _ _ used) ∙ here) }
            | inr unused ↦ absurd (true≢false (sym (ap is_some (sym (cond-false (a.used i) _ _ unused) ∙ here))))
          ])
      | inr off ↦ (
          let rest = found cs k x (sym (cond-false (is_at a k) _ _ off) ∙ is) in
          record { area = rest.area; there = inr rest.there; at = rest.at; used = rest.used; is = rest.is })
    ]

-- what is marked has a value
marked : (v : Version) (cs : List Content) (k : ℕ) → AllByRecursion (IsContent v) cs → mark_of cs k ≡ true → is_some (value_of cs k) ≡ true
marked v [] k each is = absurd (true≢false (sym is))
marked v (a ∷ cs) k each is =
    elim (cases_Bool (is_at a k)) [
      | inl at ↦ (
          let i = index_of k % per a.exponent in
          let mark : a.touched i ≡ true = sym (cond-true (is_at a k) _ _ at) ∙ is in
          let used : a.used i ≡ true = each.0.touched i (place_below a k) mark in
          ap is_some (cond-true (is_at a k) _ _ at ∙ cond-true (a.used i) _ _ used))
      | inr off ↦ ap is_some (cond-false (is_at a k) _ _ off) ∙ marked v cs k each.1 (sym (cond-false (is_at a k) _ _ off) ∙ is)
    ]
  where
    place_below : (a : Content) (k : ℕ) → index_of k % per a.exponent < per a.exponent
    place_below a k = (let some : 1 ≤ per a.exponent = pow_pos (16 - a.exponent) in omega arith)

-- no area is past the last class
none_far : (cs : List Content) → ((a : Content) → In a cs → a.exponent ≤ 16) → (k : ℕ) → 17 * 2 ^ 32 ≤ k → (value_of cs k ≡ None) × (mark_of cs k ≡ false)
none_far [] most k far = (refl, refl)
none_far (a ∷ cs) most k far =
    let low : a.exponent ≤ 16 = most a (inl refl) in
    let off : is_at a k ≡ false = elim (cases_Bool (is_at a k)) [
      | inl at ↦ absurd (let class = (at_parts a k at).0 in omega arith)
      | inr off ↦ off
    ] in
    let rest = none_far cs (λ b inside. most b (inr inside)) k far in
    (cond-false (is_at a k) _ _ off ∙ rest.0, cond-false (is_at a k) _ _ off ∙ rest.1)

-- ---- the log of some areas

-- areas of a record, with what follows from their number
pub record AreGood (v : Version) (cs : List Content) : Type 0 where
  pub each : AllByRecursion (IsContent v) cs
  pub ordered : AreOrdered 5 0 true cs
  pub few : length cs ≤ 1024

class_few : (e : ℕ) (cs : List Content) → of_class e cs ≤ length cs
class_few e [] = omega arith
class_few e (a ∷ cs) = elim (a.exponent == e) as (λ b. cond b (suc (of_class e cs)) (of_class e cs) ≤ suc (length cs)) [
  | true ↦ omega (arith, class_few e cs)
  | false ↦ omega (arith, class_few e cs)
]

none_or_none : (b : Bool) → cond {A = ℕ} b 0 0 ≡ 0
none_or_none true = refl
none_or_none false = refl

past_all : ℕ
past_all = 17 * 2 ^ 32

pub copy_of : List Content → Live
copy_of cs = values_below past_all (value_of cs)

pub found_of : List Content → set.FinSet nat_cmp
found_of cs = marks_below past_all (mark_of cs)

abbrev pub log_of : Version → Kind → ℕ → List Content → Logged
log_of v kind time cs = record { version = v; kind = kind; time = time; copy = copy_of cs; found = found_of cs }

any_in_range : (p : ℕ → Bool) (n from : ℕ) → list_any p (range_with_len from n) ≡ true → (i : ℕ) × (i < from + n) × (p i ≡ true)
any_in_range p zero from is = absurd (true≢false (sym is))
any_in_range p (suc n) from is =
    elim (cases_Bool (p from)) [
      | inl here ↦ (from, omega arith, here)
      | inr there ↦ (let rest = any_in_range p n (from + 1) (later_any (p from) _ there is) in (rest.0, omega (arith, rest.1), rest.2))
    ]
  where
    later_any : (x y : Bool) → x ≡ false → (x || y) ≡ true → y ≡ true
    later_any true y no_x is = absurd (true≢false no_x)
    later_any false y no_x is = is

rows_eq : (live : Live) (cs : List Content) → ((e : ℕ) → areas live e ≡ of_class e cs) → (es : List ℕ) → flat_map (row live) es ≡ flat_map (row_of cs) es
rows_eq live cs same [] = refl
rows_eq live cs same (e ∷ es) = ap (λ n. map (named e) (range_with_len 0 n) ++ flat_map (row live) es) (same e) ∙ ap (λ xs. row_of cs e ++ xs) (rows_eq live cs same es)

some_value : (b : Bool) (x : List ℕ) → is_some (cond b (Some x) None) ≡ b
some_value true x = refl
some_value false x = refl

touched_same : (kind : Kind) (n : ℕ) (f g : ℕ → Bool) → ((i : ℕ) → i < n → f i ≡ g i) → touched_bits kind n f ≡ touched_bits kind n g
touched_same Full n f g same = refl
touched_same Inc n f g same = bitmap_same n f g same

flat_picked : (p : ℕ → Bool) (f g : ℕ → List ℕ) (n from : ℕ) → ((i : ℕ) → from ≤ i → i < from + n → p i ≡ true → f i ≡ g i) → flat_map f (filter p (range_with_len from n)) ≡ flat_map g (filter p (range_with_len from n))
flat_picked p f g zero from same = refl
flat_picked p f g (suc n) from same =
    let rest = flat_picked p f g n (from + 1) (λ i low high. same i (omega arith) (omega arith)) in
    let tail = filter p (range_with_len (from + 1) n) in
    elim (p from) as (λ b. p from ≡ b → flat_map f (cond b (from ∷ tail) tail) ≡ flat_map g (cond b (from ∷ tail) tail)) [
      | true ↦ λ hit. (λ i. same from (omega arith) (omega arith) hit i ++ rest i)
      | false ↦ λ miss. rest
    ] refl

areas_flat : (v : Version) (kind : Kind) (log : Logged) (cs : List Content) → ((a : Content) → In a cs → area_bytes log (name_of a) ≡ content_bytes v kind a) → flat_map (area_bytes log) (map name_of cs) ≡ contents_bytes v kind cs
areas_flat v kind log [] same = refl
areas_flat v kind log (a ∷ cs) same =
    ap (λ ys. ys ++ flat_map (area_bytes log) (map name_of cs)) (same a (inl refl))
    ∙ ap (λ ys. content_bytes v kind a ++ ys) (areas_flat v kind log cs (λ b inside. same b (inr inside)))

in_take : (k : ℕ) (cs : List Content) (a : Content) → In a (take k cs) → In a cs
in_take zero cs a inside = absurd inside
in_take (suc k) [] a inside = absurd inside
in_take (suc k) (b ∷ cs) a (inl here) = inl here
in_take (suc k) (b ∷ cs) a (inr there) = inr (in_take k cs a there)

shift : (f g : ℕ → ℕ) (n from : ℕ) → ((k : ℕ) → f (k + 1) ≡ g k) → map f (range_with_len (from + 1) n) ≡ map g (range_with_len from n)
shift f g zero from same = refl
shift f g (suc n) from same = ap (λ x. x ∷ map f (range_with_len (from + 1 + 1) n)) (same from) ∙ ap (λ xs. g from ∷ xs) (shift f g n (from + 1) same)

offsets : (v : Version) (kind : Kind) (cs : List Content) (p : ℕ) → map (λ k. p + length (contents_bytes v kind (take k cs))) (range_with_len 0 (length cs + 1)) ≡ starts_from v kind p cs
offsets v kind [] p = (let none : p + 0 ≡ p = omega arith in ap (λ q. q ∷ []) none)
offsets v kind (a ∷ cs) p =
    let la = length (content_bytes v kind a) in
    let f : ℕ → ℕ = λ k. p + length (contents_bytes v kind (take k (a ∷ cs))) in
    let g : ℕ → ℕ = λ k. p + la + length (contents_bytes v kind (take k cs)) in
    let more : suc (length cs) + 1 ≡ suc (length cs + 1) = omega arith in
    let none : p + 0 ≡ p = omega arith in
    let next : (k : ℕ) → f (k + 1) ≡ g k = λ k. (let one : k + 1 ≡ suc k = omega arith in ap f one ∙ omega (arith, length-append (content_bytes v kind a) (contents_bytes v kind (take k cs)))) in
    ap (λ m. map f (range_with_len 0 m)) more
    ∙ ap (λ q. q ∷ map f (range_with_len 1 (length cs + 1))) none
    ∙ ap (λ xs. p ∷ xs) (shift f g (length cs + 1) 0 next ∙ offsets v kind cs (p + la))

-- ---- areas of a record

module _ (v : Version) (cs : List Content) (good : AreGood v cs) where
  below_count : (a : Content) → In a cs → a.ordinal < of_class a.exponent cs
  below_count a inside = omega (arith, ordinals_below 5 0 true cs good.ordered a inside, none_or_none (a.exponent == 5))

  small_of : (a : Content) → In a cs → IsSmall a
  small_of a inside =
      let is = in_each (IsContent v) cs good.each a inside in
      record { least = is.least; most = is.most; few = omega (arith, below_count a inside, class_few a.exponent cs, good.few) }

  most_of : (a : Content) → In a cs → a.exponent ≤ 16
  most_of a inside = (in_each (IsContent v) cs good.each a inside).most

  copy_get : (k : ℕ) → map.get (copy_of cs) k ≡ value_of cs k
  unfolding copy_of past_all
  copy_get = values_get (17 * 2 ^ 32) (value_of cs) (λ q far. (none_far cs most_of q far).0)

  found_has : (k : ℕ) → set.contains (found_of cs) k ≡ mark_of cs k
  unfolding found_of past_all
  found_has = marks_has (17 * 2 ^ 32) (mark_of cs) (λ q far. (none_far cs most_of q far).1)

  copy_sized : IsWellSized v (copy_of cs)
  copy_sized k bytes has =
      let at = found cs k bytes (sym (copy_get k) ∙ has) in
      let parts = at_parts at.area k at.at in
      let is = in_each (IsContent v) cs good.each at.area at.there in
      let i = index_of k % per at.area.exponent in
      let below : i < per at.area.exponent = (let some : 1 ≤ per at.area.exponent = pow_pos (16 - at.area.exponent) in omega arith) in (
        omega (arith, parts.0, is.least),
        omega (arith, parts.0, is.most),
        subst (λ e. IsLengthOf v e (length bytes)) (sym parts.0) (subst (λ x. IsLengthOf v at.area.exponent (length x)) at.is (is.sized i below at.used)),
      )

  has_value : (k : ℕ) → map.contains_key (copy_of cs) k ≡ is_some (value_of cs k)
  has_value k = ap is_some (copy_get k)

  found_live : (k : ℕ) → set.contains (found_of cs) k ≡ true → map.contains_key (copy_of cs) k ≡ true
  found_live k mark = has_value k ∙ marked v cs k good.each (sym (found_has k) ∙ mark)

  -- the map has as many areas of a class as there are
  areas_are : (e : ℕ) → areas (copy_of cs) e ≡ of_class e cs
  areas_are e =
      let live = copy_of cs in
      let most : areas live e ≤ of_class e cs = (areas_below live e (of_class e cs)).1 (λ k has class.
      elim (value_of cs k) as (λ o. value_of cs k ≡ o → is_some o ≡ true → index_of k / per e < of_class e cs) [
        | Some x ↦ λ is some. (
            let at = found cs k x is in
            let parts = at_parts at.area k at.at in
            let e_is : at.area.exponent ≡ e = sym parts.0 ∙ class in
            let below = below_count at.area at.there in
            let offset : index_of k / per e ≡ at.area.ordinal = sym (ap (λ x. index_of k / per x) e_is) ∙ parts.1 in
            let count : of_class at.area.exponent cs ≡ of_class e cs = ap (λ x. of_class x cs) e_is in
            omega arith)
        | None ↦ λ is some. absurd (true≢false (sym some))
      ] refl (sym (has_value k) ∙ has)) in
      let least : of_class e cs ≤ areas live e = elim (cases_eq (of_class e cs) 0) [
        | inl none ↦ omega arith
        | inr some ↦ (
            let last = last_used 5 0 true cs good.ordered e (omega arith) in
            let a = last.area in
            let used = any_in_range a.used (per a.exponent) 0 last.some in
            let i = used.0 in
            let inside : i < per a.exponent = omega (arith, used.1) in
            let is = small_of a last.there in
            let value = (says 5 0 true cs good.ordered small_of a last.there i inside).value in
            let has : map.contains_key live (num a i) ≡ true = has_value (num a i) ∙ ap is_some (value ∙ cond-true (a.used i) _ _ used.2) in
            let below = (areas_below live e (areas live e)).0 (le_refl (areas live e)) (num a i) has (num_exponent a is i inside ∙ last.class) in
            let offset : index_of (num a i) / per e ≡ a.ordinal = sym (ap (λ x. index_of (num a i) / per x) last.class) ∙ num_area a is i inside in
            omega (arith, last.last, none_or_none (e == 5)))
      ] in
      omega arith

  names_of_copy : area_list (copy_of cs) ≡ map name_of cs
  names_of_copy =
      area_list_is (copy_of cs)
      ∙ rows_eq (copy_of cs) cs areas_are classes
      ∙ sym (names_are 11 5 0 true cs refl good.ordered most_of)

  held_of_copy : held (copy_of cs) ≡ length cs
  held_of_copy = sym (length_areas (copy_of cs)) ∙ ap length names_of_copy ∙ length-map cs name_of

  -- ---- their log

  module _ (kind : Kind) (time : ℕ) where
    abbrev log : Logged
    log = log_of v kind time cs

    pub log_recorded : (quota : ℕ) → time < 2 ^ 64 → length cs ≤ quota → IsLogOf v quota log
    log_recorded quota short within = record {
      recorded = record { sized = copy_sized; found_live = found_live; few = omega (arith, held_of_copy, good.few); time = short };
      version = refl;
      within = omega (arith, held_of_copy);
    }

    area_bytes_are : (a : Content) → In a cs → area_bytes log (name_of a) ≡ content_bytes v kind a
    area_bytes_are a inside =
        let x = name_of a in
        let n = per a.exponent in
        let is = in_each (IsContent v) cs good.each a inside in
        let say : (i : ℕ) → i < n → Says cs a i = says 5 0 true cs good.ordered small_of a inside in
        let used : (i : ℕ) → i < n → map.contains_key log.copy (num a i) ≡ a.used i
        = λ i below. has_value (num a i) ∙ ap is_some (say i below).value ∙ some_value (a.used i) (a.chunk i) in
        let touched : (i : ℕ) → i < n → set.contains log.found (num a i) ≡ a.touched i = λ i below. found_has (num a i) ∙ (say i below).mark in
        let packs : (i : ℕ) → i < n → packs_by kind log.copy log.found (num a i) ≡ picks kind a.used a.touched i
        = λ i below. elim kind as (λ d. packs_by d log.copy log.found (num a i) ≡ picks d a.used a.touched i) [ Full ↦ used i below | Inc ↦ touched i below ] in
        let bytes : (i : ℕ) → i < n → picks kind a.used a.touched i ≡ true → unwrap_or (map.get log.copy (num a i)) [] ≡ a.chunk i
        = λ i below hit.
        let live = picks_used kind a.used a.touched i (is.touched i below) hit in
        ap (λ o. unwrap_or o []) (copy_get (num a i) ∙ (say i below).value ∙ cond-true (a.used i) _ _ live) in
        let body : body_of log x ≡ content_body v kind a
        = ap (flat_map (λ i. packed_chunk v (unwrap_or (map.get log.copy (num a i)) []))) (filter_same (packs_of log x) (picks kind a.used a.touched) n 0 (λ j low high. packs j (omega arith)))
        ∙ flat_picked (picks kind a.used a.touched) (λ i. packed_chunk v (unwrap_or (map.get log.copy (num a i)) [])) (λ i. packed_chunk v (a.chunk i)) n 0 (λ i low high hit. ap (packed_chunk v) (bytes i (omega arith) hit)) in
        let all : area_bytes log x ++ [] ≡ content_bytes v kind a ++ []
        = area_parts log x []
        ∙ ap (λ ys. name_bytes a.exponent a.ordinal ++ (ys ++ (found_bits log x ++ (body_of log x ++ [])))) (bitmap_same n (λ i. map.contains_key log.copy (num a i)) a.used used)
        ∙ ap (λ ys. name_bytes a.exponent a.ordinal ++ (use_part a ++ (ys ++ (body_of log x ++ [])))) (touched_same kind n (λ i. set.contains log.found (num a i)) a.touched touched)
        ∙ ap (λ ys. name_bytes a.exponent a.ordinal ++ (use_part a ++ (touched_part kind a ++ (ys ++ [])))) body
        ∙ sym (content_parts v kind a []) in
        sym (append-nil (area_bytes log x)) ∙ all ∙ append-nil (content_bytes v kind a)

    pub log_bytes : packed log ≡ head_bytes v kind time (length cs) ++ contents_bytes v kind cs
    log_bytes =
        packed_is log
        ∙ ap (λ n. head_bytes v kind time n ++ flat_map (area_bytes log) (area_list log.copy)) held_of_copy
        ∙ ap (λ xs. head_bytes v kind time (length cs) ++ flat_map (area_bytes log) xs) names_of_copy
        ∙ ap (λ ys. head_bytes v kind time (length cs) ++ ys) (areas_flat v kind log cs area_bytes_are)

    start_is : (k : ℕ) → start_of log k ≡ 13 + length (contents_bytes v kind (take k cs))
    unfolding front
    start_is k =
        length-append (header log) (flat_map (area_bytes log) (take k (area_list log.copy)))
        ∙ ap (λ xs. 13 + length (flat_map (area_bytes log) xs)) (ap (take k) names_of_copy ∙ take-map name_of k cs)
        ∙ ap (λ ys. 13 + length ys) (areas_flat v kind log (take k cs) (λ a inside. area_bytes_are a (in_take k cs a inside)))

    pub log_starts : starts_of log ≡ starts_from v kind 13 cs
    unfolding starts_of
    log_starts =
        ap (λ (f : ℕ → ℕ). map f (range_with_len 0 (held (copy_of cs) + 1))) (fun_ext start_is)
        ∙ ap (λ n. map (λ k. 13 + length (contents_bytes v kind (take k cs))) (range_with_len 0 (n + 1))) held_of_copy
        ∙ offsets v kind cs 13

-- bytes with a good header and good areas are a record
pub record MadeRecord (v : Version) (quota : ℕ) (bytes starts : List ℕ) : Type 0 where
  pub log : Logged
  pub is : IsLogOf v quota log
  pub are : packed log ≡ bytes
  pub placed : starts ≡ starts_of log

pub made_record : (v : Version) (kind : Kind) (time quota count : ℕ) (bytes starts : List ℕ) → HaveOffsets v kind bytes count starts → time < 2 ^ 64 → count ≤ quota → count ≤ MOST_QUOTA → bytes ≡ head_bytes v kind time count ++ drop 13 bytes → MadeRecord v quota bytes starts
made_record v kind time quota count bytes starts is short within few headed =
    let cs = is.contents in
    let good : AreGood v cs = record { each = is.each; ordered = is.ordered; few = omega (arith, is.many) } in
    record {
      log = log_of v kind time cs;
      is = log_recorded v cs good kind time quota short (omega (arith, is.many));
      are = log_bytes v cs good kind time
          ∙ ap (λ n. head_bytes v kind time n ++ contents_bytes v kind cs) is.many
          ∙ ap (λ ys. head_bytes v kind time count ++ ys) (sym is.are)
          ∙ sym headed;
      placed = is.placed ∙ sym (log_starts v cs good kind time);
    }
