-- Two logs that a record can hold and that have the same bytes say the same.
use Rattle.std.proofs.Common.{◌≡◌, ℕ, zero, suc, ◌+◌, ◌-◌, ◌*◌, ◌/◌, ◌^◌, ◌<◌, ◌≤◌, max, Bool, true, false, is_some, Some, None, unwrap_or, List, [], ◌∷◌, ◌++◌, length, map, take, drop, get_or, refl, sym, ap, subst, ◌∙◌, arith, inl, inr}
use Rattle.std.specs.Int.{w32, w64, to_le_bytes, from_le_bytes}
use Rattle.std.specs.List.{range_with_len, flat_map, filter, AllByRecursion}
use Rattle.std.specs.FinMap.{get, contains_key}
use Rattle.std.specs.FinSet.{contains}
use Rattle.std.proofs.lemmas.Bool.{true≢false, cases_eq, cases_lt, cases_Bool, cond-true, cond-false}
use Rattle.std.proofs.lemmas.List.{take_at, drop_at, append_assoc, append_cancel_right, length-append}
use Rattle.std.proofs.lemmas.Nat.{from_le_bytes-to_le_bytes_4, from_le_bytes-to_le_bytes_8, pow-add}
use Rattle.std.proofs.Math.Pow.{pow_mono}
use mathlib.Core.Path.{fun_ext}
use Rattle.dym_base.specs.Numbers.{per, number}
use Rattle.dym_base.specs.Heaps.{held}
use Rattle.dym_base.specs.Laws.{IsLengthOf}
use Rattle.dym_base.specs.Packed.{Logged, kind_byte, bitmap, touched_bits, packs_by, packed_chunk, packed_area, packed}
use Rattle.dym_base.specs.declared.command.Version.{Version}
use Rattle.dym_base.specs.declared.command.Version.TheVariants.{One, Two}
use Rattle.dym_base.specs.declared.command.Kind.{Kind}
use Rattle.dym_base.specs.declared.command.Kind.TheVariants.{Full, Inc}
use Rattle.dym_base.proofs.Heaps.{areas_held}
use Rattle.dym_base.proofs.Classes.{cls_class}
use Rattle.dym_base.proofs.Sizes.{exponent_of_number}
use Rattle.dym_pack.specs.Areas.{AreaName, area_list, IsPackable}
use Rattle.dym_base.specs.Recorded.{IsRecorded}
use Rattle.dym_pack.specs.Offsets.{header, area_bytes, front, start_of, starts_of}
use Rattle.dym_pack.proofs.Bitmaps.{length_bitmap, bitmap_tells}
use Rattle.dym_pack.proofs.Chunks.{parts, packable}
use Rattle.dym_pack.proofs.Fronts.{packed_is}
use Rattle.dym_pack.proofs.Named.{named, IsArea, each_area, area_list_is, length_areas, index_small, most_per}
use Rattle.dym_pack.proofs.Ranges.{filter_same}

-- ---- parts of the same bytes

pub split_same : (ps qs xs ys : List ℕ) → length ps ≡ length qs → ps ++ xs ≡ qs ++ ys → (ps ≡ qs) × (xs ≡ ys)
split_same ps qs xs ys long same = (
  sym (take_at ps xs (length ps) refl) ∙ ap (take (length ps)) same ∙ take_at qs ys (length ps) (sym long),
  sym (drop_at ps xs (length ps) refl) ∙ ap (drop (length ps)) same ∙ drop_at qs ys (length ps) (sym long),
)

kinds_same : (v w : Version) (d e : Kind) → kind_byte v d ≡ kind_byte w e → (v ≡ w) × (d ≡ e)
kinds_same One One Full Full is = (refl, refl)
kinds_same One One Full Inc is = absurd (omega arith)
kinds_same One Two Full Full is = absurd (omega arith)
kinds_same One Two Full Inc is = absurd (omega arith)
kinds_same One One Inc Full is = absurd (omega arith)
kinds_same One One Inc Inc is = (refl, refl)
kinds_same One Two Inc Full is = absurd (omega arith)
kinds_same One Two Inc Inc is = absurd (omega arith)
kinds_same Two One Full Full is = absurd (omega arith)
kinds_same Two One Full Inc is = absurd (omega arith)
kinds_same Two Two Full Full is = (refl, refl)
kinds_same Two Two Full Inc is = absurd (omega arith)
kinds_same Two One Inc Full is = absurd (omega arith)
kinds_same Two One Inc Inc is = absurd (omega arith)
kinds_same Two Two Inc Full is = absurd (omega arith)
kinds_same Two Two Inc Inc is = (refl, refl)

four_same : (n m : ℕ) → n < 2 ^ 32 → m < 2 ^ 32 → to_le_bytes w32 n ≡ to_le_bytes w32 m → n ≡ m
four_same n m small few same = sym (from_le_bytes-to_le_bytes_4 n small) ∙ ap (from_le_bytes w32) same ∙ from_le_bytes-to_le_bytes_4 m few

eight_same : (n m : ℕ) → n < 2 ^ 64 → m < 2 ^ 64 → to_le_bytes w64 n ≡ to_le_bytes w64 m → n ≡ m
eight_same n m small few same = sym (from_le_bytes-to_le_bytes_8 n small) ∙ ap (from_le_bytes w64) same ∙ from_le_bytes-to_le_bytes_8 m few

-- the chunks of a class have all the bits of their bitmap
pub per_room : (e : ℕ) → 5 ≤ e → e ≤ 16 → per e ≤ 8 * max 1 (per e / 8)
per_room e low high =
    elim (cases_lt e 14) [
      | inl large ↦ (
          let three : 16 - e ≡ 13 - e + 3 = omega arith in
          let eights : per e ≡ 2 ^ (13 - e) * 2 ^ 3 = ap (λ n. 2 ^ n) three ∙ pow-add 2 (13 - e) 3 in
          omega arith)
      | inr small ↦ (let few : per e ≤ 2 ^ 2 = pow_mono {i = 16 - e} {j = 2} (omega arith) in omega arith)
    ]

-- ---- one chunk

len_small : (e n : ℕ) → IsLengthOf Two e n → n < 2 ^ 32
len_small e n is =
    let found = cls_class n e is in
    let most : 2 ^ e ≤ 2 ^ 16 = pow_mono {i = e} {j = 16} found.1 in
    omega (arith, found.2)

chunk_same : (v : Version) (e : ℕ) (x y r t : List ℕ) → IsLengthOf v e (length x) → IsLengthOf v e (length y) → packed_chunk v x ++ r ≡ packed_chunk v y ++ t → (x ≡ y) × (r ≡ t)
chunk_same One e x y r t long short same = split_same x y r t (long ∙ sym short) same
chunk_same Two e x y r t long short same =
    let apart = split_same (to_le_bytes w32 (length x)) (to_le_bytes w32 (length y)) (x ++ r) (y ++ t) refl
    (sym (append_assoc (to_le_bytes w32 (length x)) x r) ∙ same ∙ append_assoc (to_le_bytes w32 (length y)) y t) in
    split_same x y r t (four_same (length x) (length y) (len_small e (length x) long) (len_small e (length y) short) apart.0) apart.1

-- ---- the chunks of an area

abbrev pub chunks : Version → (ℕ → Bool) → (ℕ → List ℕ) → ℕ → ℕ → List ℕ
chunks v p f from d = flat_map (λ i. packed_chunk v (f i)) (filter p (range_with_len from d))

chunks_yes : (v : Version) (p : ℕ → Bool) (f : ℕ → List ℕ) (from d : ℕ) (r : List ℕ) → p from ≡ true → chunks v p f from (suc d) ++ r ≡ packed_chunk v (f from) ++ (chunks v p f (from + 1) d ++ r)
chunks_yes v p f from d r here =
    ap (λ xs. flat_map (λ i. packed_chunk v (f i)) xs ++ r) (cond-true (p from) _ _ here)
    ∙ append_assoc (packed_chunk v (f from)) (chunks v p f (from + 1) d) r

chunks_no : (v : Version) (p : ℕ → Bool) (f : ℕ → List ℕ) (from d : ℕ) (r : List ℕ) → p from ≡ false → chunks v p f from (suc d) ++ r ≡ chunks v p f (from + 1) d ++ r
chunks_no v p f from d r there = ap (λ xs. flat_map (λ i. packed_chunk v (f i)) xs ++ r) (cond-false (p from) _ _ there)

body_same : (v : Version) (e : ℕ) (p : ℕ → Bool) (f g : ℕ → List ℕ) (d from : ℕ) (r t : List ℕ) → ((j : ℕ) → from ≤ j → j < from + d → p j ≡ true → IsLengthOf v e (length (f j)) × IsLengthOf v e (length (g j))) → chunks v p f from d ++ r ≡ chunks v p g from d ++ t → ((j : ℕ) → from ≤ j → j < from + d → p j ≡ true → f j ≡ g j) × (r ≡ t)
body_same v e p f g zero from r t lens same = (λ j l h is. absurd (omega arith), same)
body_same v e p f g (suc d) from r t lens same =
    elim (cases_Bool (p from)) [
      | inl here ↦ (
          let long = lens from (omega arith) (omega arith) here in
          let first = chunk_same v e (f from) (g from) (chunks v p f (from + 1) d ++ r) (chunks v p g (from + 1) d ++ t) long.0 long.1
          (sym (chunks_yes v p f from d r here) ∙ same ∙ chunks_yes v p g from d t here) in
          let rest = body_same v e p f g d (from + 1) r t (λ j l h. lens j (omega arith) (omega arith)) first.1 in (
            λ j l h is. elim (cases_eq j from) [
              | inl at ↦ ap f at ∙ first.0 ∙ ap g (sym at)
              | inr other ↦ rest.0 j (omega arith) (omega arith) is
            ],
            rest.1,
          ))
      | inr there ↦ (
          let rest = body_same v e p f g d (from + 1) r t (λ j l h. lens j (omega arith) (omega arith))
          (sym (chunks_no v p f from d r there) ∙ same ∙ chunks_no v p g from d t there) in (
            λ j l h is. elim (cases_eq j from) [
              | inl at ↦ absurd (true≢false (sym is ∙ ap p at ∙ there))
              | inr other ↦ rest.0 j (omega arith) (omega arith) is
            ],
            rest.1,
          ))
    ]

-- ---- one area

abbrev pub num : AreaName → ℕ → ℕ
num x i = number x.exponent (x.ordinal * per x.exponent + i)

abbrev pub bytes_of : Logged → AreaName → ℕ → List ℕ
bytes_of log x i = unwrap_or (get log.copy (num x i)) []

abbrev pub packs_of : Logged → AreaName → ℕ → Bool
packs_of log x i = packs_by log.kind log.copy log.found (num x i)

record IsSound (log : Logged) (x : AreaName) : Type 0 where
  least : 5 ≤ x.exponent
  most : x.exponent ≤ 16
  small : x.ordinal < 1024
  lens : (i : ℕ) → i < per x.exponent → packs_of log x i ≡ true → IsLengthOf log.version x.exponent (length (bytes_of log x i))

pub packs_has : (log : Logged) → IsPackable (parts log) → (n : ℕ) → packs_by log.kind log.copy log.found n ≡ true → contains_key log.copy n ≡ true
packs_has log ok n packs =
    elim log.kind as (λ d. packs_by d log.copy log.found n ≡ true → contains_key log.copy n ≡ true) [
      | Full ↦ λ h. h
      | Inc ↦ λ h. ok.touched_live n h
    ] packs

sound : (log : Logged) → IsPackable (parts log) → (x : AreaName) → IsArea log.copy x → IsSound log x
sound log ok x is =
    let few : x.ordinal < 1024 = omega (arith, is.there, areas_held log.copy x.exponent is.least is.most, ok.few) in
    record {
      least = is.least;
      most = is.most;
      small = few;
      lens = λ i inside packs. elim (get log.copy (num x i)) as (λ o. get log.copy (num x i) ≡ o → is_some o ≡ true → IsLengthOf log.version x.exponent (length (unwrap_or o []))) [
        | Some b ↦ λ at has. subst (λ e. IsLengthOf log.version e (length b)) (exponent_of_number x.exponent (x.ordinal * per x.exponent + i) (index_small x.ordinal (per x.exponent) i few (most_per x.exponent is.least) inside)) (ok.sized (num x i) b at).2
        | None ↦ λ at has. absurd (true≢false (sym has))
      ] refl (packs_has log ok (num x i) packs);
    }

abbrev pub SameUse : Logged → Logged → AreaName → Type 0
SameUse a b x = (i : ℕ) → i < per x.exponent → contains_key a.copy (num x i) ≡ contains_key b.copy (num x i)

-- what two logs say alike of an area
pub record SameArea (a b : Logged) (x : AreaName) : Type 0 where
  pub used : SameUse a b x
  pub packs : (i : ℕ) → i < per x.exponent → packs_of a x i ≡ packs_of b x i
  pub bytes : (i : ℕ) → i < per x.exponent → packs_of a x i ≡ true → bytes_of a x i ≡ bytes_of b x i
  pub whole : area_bytes a x ≡ area_bytes b x

abbrev pub used_bits : Logged → AreaName → List ℕ
used_bits log x = bitmap (per x.exponent) (λ i. contains_key log.copy (num x i))

abbrev pub found_bits : Logged → AreaName → List ℕ
found_bits log x = touched_bits log.kind (per x.exponent) (λ i. contains log.found (num x i))

abbrev pub body_of : Logged → AreaName → List ℕ
body_of log x = chunks log.version (packs_of log x) (bytes_of log x) 0 (per x.exponent)

-- what stands behind the name of an area, and behind its used bits
abbrev behind_used : Logged → AreaName → List ℕ → List ℕ
behind_used log x r = found_bits log x ++ (body_of log x ++ r)

abbrev pub behind_name : Logged → AreaName → List ℕ → List ℕ
behind_name log x r = used_bits log x ++ behind_used log x r

abbrev all_bytes : Logged → List AreaName → List ℕ
all_bytes log = flat_map (area_bytes log)

pub area_parts : (log : Logged) (x : AreaName) (r : List ℕ) → area_bytes log x ++ r ≡ x.exponent ∷ (to_le_bytes w32 x.ordinal ++ behind_name log x r)
unfolding packed_area
area_parts log x r =
    let name = to_le_bytes w32 x.ordinal in
    ap (λ ys. x.exponent ∷ ys)
    (append_assoc (name ++ used_bits log x ++ found_bits log x) (body_of log x) r
    ∙ append_assoc (name ++ used_bits log x) (found_bits log x) (body_of log x ++ r)
    ∙ append_assoc name (used_bits log x) (found_bits log x ++ (body_of log x ++ r)))

touched_long : (d : Kind) (n : ℕ) (f g : ℕ → Bool) → length (touched_bits d n f) ≡ length (touched_bits d n g)
touched_long Full n f g = refl
touched_long Inc n f g = length_bitmap n f ∙ sym (length_bitmap n g)

packs_same : (d : Kind) (a b : Logged) (x : AreaName) → per x.exponent ≤ 8 * max 1 (per x.exponent / 8) → (SameUse a b x) → touched_bits d (per x.exponent) (λ i. contains a.found (num x i)) ≡ touched_bits d (per x.exponent) (λ i. contains b.found (num x i)) → (i : ℕ) → i < per x.exponent → packs_by d a.copy a.found (num x i) ≡ packs_by d b.copy b.found (num x i)
packs_same Full a b x room used found i inside = used i inside
packs_same Inc a b x room used found i inside = bitmap_tells (per x.exponent) (λ j. contains a.found (num x j)) (λ j. contains b.found (num x j)) room found i inside

area_same_at : (a b : Logged) (x : AreaName) (r t : List ℕ) → a.version ≡ b.version → a.kind ≡ b.kind → IsSound a x → IsSound b x → area_bytes a x ++ r ≡ area_bytes b x ++ t → SameArea a b x × (r ≡ t)
area_same_at a b x r t version kind ok also same =
    let n = per x.exponent in
    let room = per_room x.exponent ok.least ok.most in
    let all = sym (area_parts a x r) ∙ same ∙ area_parts b x t in
    let named_off = split_same (x.exponent ∷ to_le_bytes w32 x.ordinal) (x.exponent ∷ to_le_bytes w32 x.ordinal) (behind_name a x r) (behind_name b x t) refl all in
    let used_off = split_same (used_bits a x) (used_bits b x) (behind_used a x r) (behind_used b x t) (length_bitmap n _ ∙ sym (length_bitmap n _)) named_off.1 in
    let found_b : found_bits b x ≡ touched_bits a.kind n (λ i. contains b.found (num x i)) = ap (λ d. touched_bits d n (λ i. contains b.found (num x i))) (sym kind) in
    let found_off = split_same (found_bits a x) (found_bits b x) (body_of a x ++ r) (body_of b x ++ t)
    (touched_long a.kind n (λ i. contains a.found (num x i)) (λ i. contains b.found (num x i)) ∙ ap length (sym found_b)) used_off.1 in
    let used : SameUse a b x = bitmap_tells n (λ i. contains_key a.copy (num x i)) (λ i. contains_key b.copy (num x i)) room used_off.0 in
    let packs : (i : ℕ) → i < n → packs_of a x i ≡ packs_of b x i
    = λ i inside. packs_same a.kind a b x room used (found_off.0 ∙ found_b) i inside ∙ ap (λ d. packs_by d b.copy b.found (num x i)) kind in
    let body_b : body_of b x ≡ chunks a.version (packs_of a x) (bytes_of b x) 0 n
    = ap (λ v. chunks v (packs_of b x) (bytes_of b x) 0 n) (sym version)
    ∙ ap (flat_map (λ i. packed_chunk a.version (bytes_of b x i))) (sym (filter_same (packs_of a x) (packs_of b x) n 0 (λ j l h. packs j (omega arith)))) in
    let body = body_same a.version x.exponent (packs_of a x) (bytes_of a x) (bytes_of b x) n 0 r t
    (λ j l h is. (ok.lens j (omega arith) is, subst (λ v. IsLengthOf v x.exponent (length (bytes_of b x j))) (sym version) (also.lens j (omega arith) (sym (packs j (omega arith)) ∙ is))))
    (found_off.1 ∙ ap (λ ys. ys ++ t) body_b) in (
      record {
        used = used;
        packs = packs;
        bytes = λ i inside is. body.0 i (omega arith) (omega arith) is;
        whole = append_cancel_right (area_bytes a x) (area_bytes b x) t (ap (λ ys. area_bytes a x ++ ys) (sym body.1) ∙ same);
      },
      body.1,
    )

name_same : (a b : Logged) (x y : AreaName) (r t : List ℕ) → IsSound a x → IsSound b y → area_bytes a x ++ r ≡ area_bytes b y ++ t → x ≡ y
name_same a b x y r t ok also same =
    let all = sym (area_parts a x r) ∙ same ∙ area_parts b y t in
    let first = split_same (x.exponent ∷ []) (y.exponent ∷ []) (to_le_bytes w32 x.ordinal ++ behind_name a x r) (to_le_bytes w32 y.ordinal ++ behind_name b y t) refl all in
    let class : x.exponent ≡ y.exponent = ap (λ es. get_or es 0 0) first.0 in
    let second = split_same (to_le_bytes w32 x.ordinal) (to_le_bytes w32 y.ordinal) (behind_name a x r) (behind_name b y t) refl first.1 in
    let ordinal : x.ordinal ≡ y.ordinal = four_same x.ordinal y.ordinal (omega (arith, ok.small)) (omega (arith, also.small)) second.0 in
    ap (λ e. named e x.ordinal) class ∙ ap (named y.exponent) ordinal

-- ---- all areas

areas_same : (a b : Logged) → a.version ≡ b.version → a.kind ≡ b.kind → (xs ys : List AreaName) → length xs ≡ length ys → AllByRecursion (IsSound a) xs → AllByRecursion (IsSound b) ys → all_bytes a xs ≡ all_bytes b ys → (xs ≡ ys) × AllByRecursion (SameArea a b) xs
areas_same a b version kind [] [] long ok also same = (refl, tt)
areas_same a b version kind [] (y ∷ ys) long ok also same = absurd (omega arith)
areas_same a b version kind (x ∷ xs) [] long ok also same = absurd (omega arith)
areas_same a b version kind (x ∷ xs) (y ∷ ys) long ok also same =
    let name = name_same a b x y (all_bytes a xs) (all_bytes b ys) ok.0 also.0 same in
    let here = area_same_at a b x (all_bytes a xs) (all_bytes b ys) version kind ok.0 (subst (IsSound b) (sym name) also.0) (same ∙ ap (λ z. area_bytes b z ++ all_bytes b ys) (sym name)) in
    let rest = areas_same a b version kind xs ys (omega arith) ok.1 also.1 here.1 in
    (ap (λ z. z ∷ xs) name ∙ ap (λ zs. y ∷ zs) rest.0, (here.0, rest.1))

each_sound : (log : Logged) → IsPackable (parts log) → (xs : List AreaName) → AllByRecursion (IsArea log.copy) xs → AllByRecursion (IsSound log) xs
each_sound log ok [] each = tt
each_sound log ok (x ∷ xs) each = (sound log ok x each.0, each_sound log ok xs each.1)

all_sound : (log : Logged) → IsPackable (parts log) → AllByRecursion (IsSound log) (area_list log.copy)
all_sound log ok = subst (AllByRecursion (IsSound log)) (sym (area_list_is log.copy)) (each_sound log ok _ (each_area log.copy))

-- what two logs of the same bytes say alike
pub record Alike (a b : Logged) : Type 0 where
  pub version : a.version ≡ b.version
  pub kind : a.kind ≡ b.kind
  pub time : a.time ≡ b.time
  pub held : held a.copy ≡ held b.copy
  pub names : area_list a.copy ≡ area_list b.copy
  pub each : AllByRecursion (SameArea a b) (area_list a.copy)

held_small : (log : Logged) → IsPackable (parts log) → held log.copy < 2 ^ 32
held_small log ok = omega (arith, ok.few)

pub alike : (a b : Logged) → IsRecorded a → IsRecorded b → packed a ≡ packed b → Alike a b
alike a b ok also same =
    let headed = split_same (header a) (header b) (all_bytes a (area_list a.copy)) (all_bytes b (area_list b.copy)) refl (sym (packed_is a) ∙ same ∙ packed_is b) in
    let first = split_same (kind_byte a.version a.kind ∷ []) (kind_byte b.version b.kind ∷ []) (to_le_bytes w64 a.time ++ to_le_bytes w32 (held a.copy)) (to_le_bytes w64 b.time ++ to_le_bytes w32 (held b.copy)) refl headed.0 in
    let kinds = kinds_same a.version b.version a.kind b.kind (ap (λ es. get_or es 0 0) first.0) in
    let second = split_same (to_le_bytes w64 a.time) (to_le_bytes w64 b.time) (to_le_bytes w32 (held a.copy)) (to_le_bytes w32 (held b.copy)) refl first.1 in
    let count = four_same (held a.copy) (held b.copy) (held_small a (packable a ok)) (held_small b (packable b also)) second.1 in
    let areas = areas_same a b kinds.0 kinds.1 (area_list a.copy) (area_list b.copy) (length_areas a.copy ∙ count ∙ sym (length_areas b.copy)) (all_sound a (packable a ok)) (all_sound b (packable b also)) headed.1 in
    record {
      version = kinds.0;
      kind = kinds.1;
      time = eight_same a.time b.time ok.time also.time second.0;
      held = count;
      names = areas.0;
      each = areas.1;
    }

-- ---- where the areas begin

flat_same : (a b : Logged) (xs : List AreaName) → AllByRecursion (SameArea a b) xs → (k : ℕ) → all_bytes a (take k xs) ≡ all_bytes b (take k xs)
flat_same a b xs each zero = refl
flat_same a b [] each (suc k) = refl
flat_same a b (x ∷ xs) each (suc k) =
    ap (λ ys. ys ++ all_bytes a (take k xs)) each.0.whole
    ∙ ap (λ ys. area_bytes b x ++ ys) (flat_same a b xs each.1 k)

front_long : (a b : Logged) → Alike a b → (k : ℕ) → start_of a k ≡ start_of b k
unfolding front
front_long a b is k =
    ap (λ ys. length (header a ++ ys)) (flat_same a b (area_list a.copy) is.each k ∙ ap (λ xs. all_bytes b (take k xs)) is.names)
    ∙ length-append (header a) (all_bytes b (take k (area_list b.copy)))
    ∙ sym (length-append (header b) (all_bytes b (take k (area_list b.copy))))

pub same_starts : (a b : Logged) → IsRecorded a → IsRecorded b → packed a ≡ packed b → starts_of a ≡ starts_of b
unfolding starts_of
same_starts a b ok also same =
    let is = alike a b ok also same in
    ap (λ (f : ℕ → ℕ). map f (range_with_len 0 (held a.copy + 1))) (fun_ext (front_long a b is))
    ∙ ap (λ n. map (start_of b) (range_with_len 0 (n + 1))) is.held
