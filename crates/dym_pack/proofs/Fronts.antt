-- The bytes of a log as those before an area, the area's, and those after it.
use Rattle.std.proofs.Common.{◌≡◌, ℕ, ◌+◌, ◌-◌, ◌<◌, ◌≤◌, List, [], ◌∷◌, ◌++◌, length, map, take, drop, refl, sym, ◌∙◌, ap, arith}
use Rattle.std.specs.List.{range_with_len, flat_map, filter}
use Rattle.std.proofs.lemmas.List.{length-append, append-nil, append_assoc, take_more, take_all, take-append-drop, drop_at}
use Rattle.std.proofs.lemmas.List.Concat.{flat_map-append}
use mathlib.Core.Path.{fun_ext}
use Rattle.dym_base.specs.Numbers.{classes}
use Rattle.dym_base.specs.Heaps.{areas, held}
use Rattle.dym_base.specs.Packed.{Logged, packed_area, packed_class, packed}
use Rattle.dym_pack.specs.Areas.{AreaName, area_list, area_at, chunks_of, IsPackable, logged, AreasMeaning}
use Rattle.dym_base.specs.declared.command.Kind.{Kind}
use Rattle.dym_pack.specs.Offsets.{header, area_bytes, front, start_of, area_head}
use Rattle.dym_pack.specs.ParsedAreas.{packs_at, body_from}
use Rattle.dym_pack.proofs.Named.{named, row, area_list_is, length_areas}

flat_map_map : (f : AreaName → List ℕ) (g : ℕ → AreaName) (xs : List ℕ) → flat_map f (map g xs) ≡ flat_map (λ x. f (g x)) xs
flat_map_map f g [] = refl
flat_map_map f g (x ∷ xs) = ap (λ ys. f (g x) ++ ys) (flat_map_map f g xs)

flat_flat : (f : AreaName → List ℕ) (g : ℕ → List AreaName) (es : List ℕ) → flat_map (λ e. flat_map f (g e)) es ≡ flat_map f (flat_map g es)
flat_flat f g [] = refl
flat_flat f g (e ∷ es) = ap (λ ys. flat_map f (g e) ++ ys) (flat_flat f g es) ∙ sym (flat_map-append f (g e) (flat_map g es))

class_bytes : (log : Logged) (e : ℕ) → packed_class log e ≡ flat_map (area_bytes log) (row log.copy e)
unfolding packed_class
class_bytes log e = sym (flat_map_map (area_bytes log) (named e) (range_with_len 0 (areas log.copy e)))

pub packed_is : (log : Logged) → packed log ≡ header log ++ flat_map (area_bytes log) (area_list log.copy)
unfolding packed
packed_is log =
    ap (λ ys. header log ++ ys)
    (ap (λ (f : ℕ → List ℕ). flat_map f classes) (fun_ext (class_bytes log))
    ∙ flat_flat (area_bytes log) (row log.copy) classes
    ∙ ap (flat_map (area_bytes log)) (sym (area_list_is log.copy)))

-- the bytes of an area don't depend on the time
pub area_at_any_time : (m : AreasMeaning) (kind : Kind) (time : ℕ) (a : AreaName) → area_bytes (logged m kind 0) a ≡ area_bytes (logged m kind time) a
unfolding packed_area
area_at_any_time m kind time a = refl

-- an area is its head and its body
pub area_is_parts : (log : Logged) (k : ℕ) → area_bytes log (area_at log.copy k) ≡ area_head log k ++ body_from log k 0
unfolding packed_area
area_is_parts log k =
    let whole : chunks_of log.copy k ≡ chunks_of log.copy k - 0 = omega arith in
    ap (λ n. area_head log k ++ flat_map (λ i. Rattle.dym_base.specs.Packed.packed_chunk log.version (Rattle.dym_pack.specs.Areas.bytes_at log.copy k i)) (filter (packs_at log k) (range_with_len 0 n))) whole

-- ---- one area more

pub front_none : (log : Logged) → front log 0 ≡ header log
unfolding front
front_none log = append-nil (header log)

pub front_more : (log : Logged) (k : ℕ) → k < held log.copy → front log (k + 1) ≡ front log k ++ area_bytes log (area_at log.copy k)
unfolding front
front_more log k within =
    let first : List AreaName = take k (area_list log.copy) in
    let area : AreaName = area_at log.copy k in
    ap (λ xs. header log ++ flat_map (area_bytes log) xs) (take_more (area_list log.copy) k (named 5 0) (omega (arith, length_areas log.copy)))
    ∙ ap (λ ys. header log ++ ys) (flat_map-append (area_bytes log) first (area ∷ []))
    ∙ ap (λ ys. header log ++ (flat_map (area_bytes log) first ++ ys)) (append-nil (area_bytes log area))
    ∙ sym (append_assoc (header log) (flat_map (area_bytes log) first) (area_bytes log area))

pub front_all : (log : Logged) (k : ℕ) → held log.copy ≤ k → front log k ≡ packed log
unfolding front
front_all log k all =
    ap (λ xs. header log ++ flat_map (area_bytes log) xs) (take_all k (area_list log.copy) (omega (arith, length_areas log.copy)))
    ∙ sym (packed_is log)

-- the bytes from area k on
abbrev pub rest_from : Logged → ℕ → List ℕ
rest_from log k = flat_map (area_bytes log) (drop k (area_list log.copy))

pub front_rest : (log : Logged) (k : ℕ) → packed log ≡ front log k ++ rest_from log k
unfolding front
front_rest log k =
    packed_is log
    ∙ ap (λ xs. header log ++ flat_map (area_bytes log) xs) (sym (take-append-drop k (area_list log.copy)))
    ∙ ap (λ ys. header log ++ ys) (flat_map-append (area_bytes log) (take k (area_list log.copy)) (drop k (area_list log.copy)))
    ∙ sym (append_assoc (header log) (flat_map (area_bytes log) (take k (area_list log.copy))) (rest_from log k))

pub start_none : (log : Logged) → start_of log 0 ≡ 13
start_none log = ap length (front_none log)

pub start_more : (log : Logged) (k : ℕ) → k < held log.copy → start_of log (k + 1) ≡ start_of log k + length (area_bytes log (area_at log.copy k))
start_more log k within = ap length (front_more log k within) ∙ length-append (front log k) (area_bytes log (area_at log.copy k))

pub start_within : (log : Logged) (k : ℕ) → start_of log k ≤ length (packed log)
start_within log k = omega (arith, ap length (front_rest log k), length-append (front log k) (rest_from log k))

pub start_last : (log : Logged) (k : ℕ) → held log.copy ≤ k → start_of log k ≡ length (packed log)
start_last log k all = ap length (front_all log k all)

-- from where area k begins
pub at_area : (log : Logged) (k : ℕ) → k < held log.copy → drop (start_of log k) (packed log) ≡ area_bytes log (area_at log.copy k) ++ rest_from log (k + 1)
at_area log k within =
    ap (drop (start_of log k)) (front_rest log (k + 1) ∙ ap (λ ys. ys ++ rest_from log (k + 1)) (front_more log k within) ∙ append_assoc (front log k) (area_bytes log (area_at log.copy k)) (rest_from log (k + 1)))
    ∙ drop_at (front log k) (area_bytes log (area_at log.copy k) ++ rest_from log (k + 1)) (start_of log k) refl

pub area_len_is : (log : Logged) (k : ℕ) → length (area_bytes log (area_at log.copy k)) ≡ length (area_head log k) + length (body_from log k 0)
area_len_is log k = ap length (area_is_parts log k) ∙ length-append (area_head log k) (body_from log k 0)
