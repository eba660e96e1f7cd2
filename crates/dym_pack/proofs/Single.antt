-- No records stand for two maps.
use Rattle.std.proofs.Common.{◌≡◌, ℕ, zero, suc, ◌+◌, ◌-◌, ◌*◌, ◌/◌, ◌%◌, ◌<◌, ◌≤◌, inl, inr, Bool, true, false, cond, is_some, Option, Some, None, List, [], ◌∷◌, ◌++◌, map, unwrap_or, refl, sym, ap, subst, ◌∙◌, arith}
use Rattle.std.specs.List.{AllByRecursion, range_with_len, flat_map}
use Rattle.std.specs.FinMap.{get, contains_key}
use Rattle.std.proofs.lemmas.Bool.{cases_Bool, cases_lt, true≢false}
use Rattle.std.proofs.lemmas.Nat.{pow_pos, div-add-mod', mod_below}
use Rattle.dym_base.specs.Numbers.{per, number, exponent_of, index_of}
use Rattle.dym_base.specs.Heaps.{Live, areas}
use Rattle.dym_base.specs.Packed.{Logged, packs_by, packed}
use Rattle.dym_base.specs.Recorded.{IsRecorded}
use Rattle.dym_base.specs.StandsFor.{packed_by, or_else, newest_packed, UsesLast, LogsStandFor, StandsFor}
use Rattle.dym_base.proofs.Heaps.{areas_below}
use Rattle.dym_base.proofs.Standing.{stand_for_one}
use Rattle.dym_pack.specs.Areas.{AreaName, area_list}
use Rattle.dym_pack.proofs.Chunks.{packable}
use Rattle.dym_pack.proofs.Named.{named, row, area_list_is}
use Rattle.dym_pack.proofs.Tells.{packed_same}
use Rattle.dym_pack.proofs.Unique.{num, SameArea, alike}

-- ---- what is true of each area is true of that of each live chunk

left_part : (P : AreaName → Type 0) (xs ys : List AreaName) → AllByRecursion P (xs ++ ys) → AllByRecursion P xs
left_part P [] ys all = tt
left_part P (x ∷ xs) ys all = (all.0, left_part P xs ys all.1)

right_part : (P : AreaName → Type 0) (xs ys : List AreaName) → AllByRecursion P (xs ++ ys) → AllByRecursion P ys
right_part P [] ys all = all
right_part P (x ∷ xs) ys all = right_part P xs ys all.1

of_class : (P : AreaName → Type 0) (f : ℕ → List AreaName) (a n e : ℕ) → a ≤ e → e < a + n → AllByRecursion P (flat_map f (range_with_len a n)) → AllByRecursion P (f e)
of_class P f a zero e low high all = absurd (omega arith)
of_class P f a (suc n) e low high all =
    elim (cases_lt a e) [
      | inl later ↦ of_class P f (a + 1) n e (omega arith) (omega arith) (right_part P (f a) (flat_map f (range_with_len (a + 1) n)) all)
      | inr here ↦
          let same : a ≡ e = omega arith in
          subst (λ x. AllByRecursion P (f x)) same (left_part P (f a) (flat_map f (range_with_len (a + 1) n)) all)
    ]

in_row : (P : AreaName → Type 0) (e from n o : ℕ) → from ≤ o → o < from + n → AllByRecursion P (map (named e) (range_with_len from n)) → P (named e o)
in_row P e from zero o low high all = absurd (omega arith)
in_row P e from (suc n) o low high all =
    elim (cases_lt from o) [
      | inl later ↦ in_row P e (from + 1) n o (omega arith) (omega arith) all.1
      | inr here ↦
          let same : from ≡ o = omega arith in
          subst (λ x. P (named e x)) same all.0
    ]

in_list : (P : AreaName → Type 0) (live : Live) (e o : ℕ) → 5 ≤ e → e ≤ 16 → o < areas live e → AllByRecursion P (area_list live) → P (named e o)
in_list P live e o low high within all =
    in_row P e 0 (areas live e) o (omega arith) (omega arith)
    (of_class P (row live) 5 12 e low (omega arith) (subst (AllByRecursion P) (area_list_is live) all))

-- the area of a live chunk, and its index there
record Home (live : Live) (q : ℕ) : Type 0 where
  e : ℕ
  o : ℕ
  i : ℕ
  least : 5 ≤ e
  most : e ≤ 16
  within : o < areas live e
  inside : i < per e
  is : num (named e o) i ≡ q

home : (live : Live) (q : ℕ) → 5 ≤ exponent_of q → exponent_of q ≤ 16 → contains_key live q ≡ true → Home live q
home live q low high has =
    let e : ℕ = exponent_of q in
    let o : ℕ = index_of q / per e in
    let split : o * per e + index_of q % per e ≡ index_of q = div-add-mod' (index_of q) (per e) in
    let back : number e (index_of q) ≡ q = omega arith in
    record {
      e = e;
      o = o;
      i = index_of q % per e;
      least = low;
      most = high;
      within = (areas_below live e (areas live e)).0 (omega arith) q has refl;
      inside = mod_below (index_of q) (per e) (pow_pos (16 - e));
      is = ap (number e) split ∙ back;
    }

some_bytes : (o : Option (List ℕ)) → is_some o ≡ true → o ≡ Some (unwrap_or o [])
some_bytes None has = absurd (true≢false (sym has))
some_bytes (Some x) has = refl

home_in : (log : Logged) → IsRecorded log → (q : ℕ) → contains_key log.copy q ≡ true → Home log.copy q
home_in log is q has =
    let fits = is.sized q (unwrap_or (get log.copy q) []) (some_bytes (get log.copy q) has) in
    home log.copy q fits.0 fits.1 has

-- ---- two logs of the same bytes

module _ (a b : Logged) (ok : IsRecorded a) (also : IsRecorded b) (same : packed a ≡ packed b) where
  area : (q : ℕ) (h : Home a.copy q) → SameArea a b (named h.e h.o)
  area q h = in_list (SameArea a b) a.copy h.e h.o h.least h.most h.within (alike a b ok also same).each

  has_too : (q : ℕ) → contains_key a.copy q ≡ true → contains_key b.copy q ≡ true
  has_too q has =
      let h = home_in a ok q has in
      subst (λ k. contains_key b.copy k ≡ true) h.is
      (sym ((area q h).used h.i h.inside) ∙ ap (contains_key a.copy) h.is ∙ has)

  packs_too : (q : ℕ) → contains_key a.copy q ≡ true → packed_by a q ≡ packed_by b q
  packs_too q has =
      let h = home_in a ok q has in
      subst (λ k. packed_by a k ≡ packed_by b k) h.is
      (packed_same a b (packable a ok) (packable b also) (named h.e h.o) (area q h) h.i h.inside)

same_truth : (x y : Bool) → (x ≡ true → y ≡ true) → (y ≡ true → x ≡ true) → x ≡ y
same_truth true y to back = sym (to refl)
same_truth false true to back = back refl
same_truth false false to back = refl

none_there : (o : Option (List ℕ)) → is_some o ≡ false → o ≡ None
none_there None gone = refl
none_there (Some x) gone = absurd (true≢false gone)

both_none : (b : Bool) → cond {A = Option (List ℕ)} b None None ≡ None
both_none true = refl
both_none false = refl

packs_none : (log : Logged) (q : ℕ) → contains_key log.copy q ≡ false → packed_by log q ≡ None
packs_none log q gone =
    ap (λ o. cond (packs_by log.kind log.copy log.found q) o None) (none_there (get log.copy q) gone)
    ∙ both_none (packs_by log.kind log.copy log.found q)

has_same : (a b : Logged) → IsRecorded a → IsRecorded b → packed a ≡ packed b → (q : ℕ) → contains_key a.copy q ≡ contains_key b.copy q
has_same a b ok also same q = same_truth (contains_key a.copy q) (contains_key b.copy q) (has_too a b ok also same q) (has_too b a also ok (sym same) q)

packs_same : (a b : Logged) → IsRecorded a → IsRecorded b → packed a ≡ packed b → (q : ℕ) → packed_by a q ≡ packed_by b q
packs_same a b ok also same q =
    elim (cases_Bool (contains_key a.copy q)) [
      | inl has ↦ packs_too a b ok also same q has
      | inr gone ↦ packs_none a q gone ∙ sym (packs_none b q (sym (has_same a b ok also same q) ∙ gone))
    ]

-- ---- two lists of logs of the same records

heads : (a b : List ℕ) (xs ys : List (List ℕ)) → a ∷ xs ≡ b ∷ ys → a ≡ b
heads a b xs ys e = cc

tails : (a b : List ℕ) (xs ys : List (List ℕ)) → a ∷ xs ≡ b ∷ ys → xs ≡ ys
tails a b xs ys e = cc

newest_same : (xs ys : List Logged) → AllByRecursion IsRecorded xs → AllByRecursion IsRecorded ys → map packed xs ≡ map packed ys → (q : ℕ) → newest_packed xs q ≡ newest_packed ys q
newest_same [] [] oks alsos same q = refl
newest_same [] (b ∷ ys) oks alsos same q = cc
newest_same (a ∷ xs) [] oks alsos same q = cc
newest_same (a ∷ xs) (b ∷ ys) oks alsos same q =
    ap (λ o. or_else o (packed_by a q)) (newest_same xs ys oks.1 alsos.1 (tails (packed a) (packed b) (map packed xs) (map packed ys) same) q)
    ∙ ap (or_else (newest_packed ys q)) (packs_same a b oks.0 alsos.0 (heads (packed a) (packed b) (map packed xs) (map packed ys) same) q)

uses_same : (xs ys : List Logged) (copy : Live) → AllByRecursion IsRecorded xs → AllByRecursion IsRecorded ys → map packed xs ≡ map packed ys → UsesLast ys copy → UsesLast xs copy
uses_same [] [] copy oks alsos same uses = uses
uses_same [] (b ∷ ys) copy oks alsos same uses = cc
uses_same (a ∷ xs) [] copy oks alsos same uses = cc
uses_same (a ∷ []) (b ∷ []) copy oks alsos same uses = λ q. uses q ∙ sym (has_same a b oks.0 alsos.0 (heads (packed a) (packed b) [] [] same) q)
uses_same (a ∷ []) (b ∷ d ∷ ys) copy oks alsos same uses = cc
uses_same (a ∷ c ∷ xs) (b ∷ []) copy oks alsos same uses = cc
uses_same (a ∷ c ∷ xs) (b ∷ d ∷ ys) copy oks alsos same uses =
    uses_same (c ∷ xs) (d ∷ ys) copy oks.1 alsos.1 (tails (packed a) (packed b) (map packed (c ∷ xs)) (map packed (d ∷ ys)) same) uses

pub stand_single : (records : List (List ℕ)) (a b : Live) → StandsFor records a → StandsFor records b → a ≡ b
stand_single records a b sa sb =
    let same = sa.are ∙ sym sb.are in
    let also : LogsStandFor sa.logs b = record {
      chain = sa.stand.chain;
      handles = uses_same sa.logs sb.logs b sa.recorded sb.recorded same sb.stand.handles;
      bytes = λ q has. newest_same sa.logs sb.logs sa.recorded sb.recorded same q ∙ sb.stand.bytes q has;
    } in
    stand_for_one sa.logs a b sa.stand also
