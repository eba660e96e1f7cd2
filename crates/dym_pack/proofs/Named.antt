-- The areas of a map by their names.
use Rattle.std.proofs.Common.{◌≡◌, ℕ, zero, suc, ◌+◌, ◌-◌, ◌*◌, ◌^◌, ◌<◌, ◌≤◌, List, [], ◌∷◌, ◌++◌, length, map, refl, sym, ◌∙◌, ap, arith, sum_by, le_refl}
use Rattle.std.specs.List.{range_with_len, flat_map, AllByRecursion}
use Rattle.std.proofs.lemmas.List.Concat.{length-flat_map}
use Rattle.std.proofs.lemmas.List.FromFn.{length-map-range_with_len}
use Rattle.std.proofs.lemmas.List.Elements.{All-from_recursion}
use Rattle.std.proofs.lemmas.Nat.{row_fits, pow-add}
use mathlib.Core.Path.{fun_ext}
use Rattle.dym_base.specs.Numbers.{size, per, exponent_of, classes}
use Rattle.dym_base.specs.Heaps.{Live, areas, held}
use Rattle.dym_base.proofs.Heaps.{areas_held}
use Rattle.dym_base.proofs.Classwise.{held_sum}
use Rattle.dym_base.proofs.Sizes.{exponent_of_number}
use Rattle.std.proofs.Math.Pow.{pow_mono}
use Rattle.dym_pack.specs.Areas.{AreasMeaning, AreaName, area_list, area_at, chunks_of, chunk_number, IsPackable}

abbrev pub named : ℕ → ℕ → AreaName
named e o = record { exponent = e; ordinal = o }

-- the areas of one class
abbrev pub row : Live → ℕ → List AreaName
row live e = map (named e) (range_with_len 0 (areas live e))

pub area_list_is : (live : Live) → area_list live ≡ flat_map (row live) classes
unfolding area_list
area_list_is live = refl

pub length_areas : (live : Live) → length (area_list live) ≡ held live
length_areas live =
    ap length (area_list_is live)
    ∙ length-flat_map (row live) classes
    ∙ ap (λ (f : ℕ → ℕ). sum_by f classes) (fun_ext (λ e. length-map-range_with_len (named e) 0 (areas live e)))
    ∙ sym (held_sum live)

-- an area is of a class, and one of those of its class
pub record IsArea (live : Live) (a : AreaName) : Type 0 where
  pub least : 5 ≤ a.exponent
  pub most : a.exponent ≤ 16
  pub there : a.ordinal < areas live a.exponent

each_append : (P : AreaName → Type 0) (xs ys : List AreaName) → AllByRecursion P xs → AllByRecursion P ys → AllByRecursion P (xs ++ ys)
each_append P [] ys each others = others
each_append P (x ∷ xs) ys each others = (each.0, each_append P xs ys each.1 others)

each_row : (P : AreaName → Type 0) (e n from : ℕ) → ((o : ℕ) → from ≤ o → o < from + n → P (named e o)) → AllByRecursion P (map (named e) (range_with_len from n))
each_row P e zero from each = tt
each_row P e (suc n) from each = (each from (omega arith) (omega arith), each_row P e n (from + 1) (λ o l h. each o (omega arith) (omega arith)))

each_flat : (P : AreaName → Type 0) (Q : ℕ → Type 0) (f : ℕ → List AreaName) → ((e : ℕ) → Q e → AllByRecursion P (f e)) → (es : List ℕ) → AllByRecursion Q es → AllByRecursion P (flat_map f es)
each_flat P Q f each [] are = tt
each_flat P Q f each (e ∷ es) are = each_append P (f e) (flat_map f es) (each e are.0) (each_flat P Q f each es are.1)

abbrev IsClass : ℕ → Type 0
IsClass e = (5 ≤ e) × (e ≤ 16)

are_classes : AllByRecursion IsClass classes
are_classes = ((omega arith, omega arith), ((omega arith, omega arith), ((omega arith, omega arith), ((omega arith, omega arith), ((omega arith, omega arith), ((omega arith, omega arith), ((omega arith, omega arith), ((omega arith, omega arith), ((omega arith, omega arith), ((omega arith, omega arith), ((omega arith, omega arith), ((omega arith, omega arith), tt))))))))))))

pub each_area : (live : Live) → AllByRecursion (IsArea live) (flat_map (row live) classes)
each_area live =
    each_flat (IsArea live) IsClass (row live)
    (λ e is. each_row (IsArea live) e (areas live e) 0 (λ o l h. record { least = is.0; most = is.1; there = omega arith }))
    classes are_classes

pub area_is : (live : Live) (k : ℕ) → k < held live → IsArea live (area_at live k)
unfolding area_list
area_is live k within =
    All-from_recursion (IsArea live) (flat_map (row live) classes) (each_area live) k (named 5 0) (omega (arith, length_areas live, ap length (area_list_is live)))

-- ---- numbers of chunks

pub most_per : (e : ℕ) → 5 ≤ e → per e ≤ 2048
most_per e low = pow_mono {i = 16 - e} {j = 11} (omega arith)

pub few_chunks : (live : Live) (k : ℕ) → k < held live → chunks_of live k ≤ 2048
few_chunks live k within = most_per (area_at live k).exponent (area_is live k within).least

pub whole_area : (e : ℕ) → e ≤ 16 → per e * size e ≡ 65536
whole_area e greatest =
    let all : 16 - e + e ≡ 16 = omega arith in
    sym (pow-add 2 (16 - e) e) ∙ ap (λ n. 2 ^ n) all

pub index_small : (o p i : ℕ) → o < 1024 → p ≤ 2048 → i < p → o * p + i < 2 ^ 32
index_small o p i few small within =
    let all : o * p + p ≤ 1024 * p = row_fits o p 1024 p few (le_refl p) in
    omega arith

pub ordinal_small : (m : AreasMeaning) → IsPackable m → (k : ℕ) → k < held m.live → (area_at m.live k).ordinal < 1024
ordinal_small m ok k within =
    let is = area_is m.live k within in
    omega (arith, is.there, areas_held m.live (area_at m.live k).exponent is.least is.most, ok.few)

pub exponent_at : (m : AreasMeaning) → IsPackable m → (k i : ℕ) → k < held m.live → i < chunks_of m.live k → exponent_of (chunk_number m.live k i) ≡ (area_at m.live k).exponent
exponent_at m ok k i within inside =
    exponent_of_number (area_at m.live k).exponent ((area_at m.live k).ordinal * chunks_of m.live k + i)
    (index_small (area_at m.live k).ordinal (chunks_of m.live k) i (ordinal_small m ok k within) (few_chunks m.live k within) inside)
