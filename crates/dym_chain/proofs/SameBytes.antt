-- Logs whose records have the same bytes: those of one version, kind and time that have the same handles and pack the same chunks.
use Rattle.std.proofs.Common.{◌≡◌, ℕ, Bool, true, false, cond, unwrap_or, List, [], ◌∷◌, ◌++◌, ◌+◌, ◌*◌, None, refl, sym, ap, ◌∙◌}
use Rattle.std.specs.FinMap.{get, contains_key}
use Rattle.std.specs.FinSet.{contains}
use Rattle.std.specs.Int.{w32, w64, to_le_bytes}
use Rattle.std.specs.List.{filter, flat_map, range_with_len}
use Rattle.std.proofs.lemmas.Bool.{cond-true}
use mathlib.Core.Path.{fun_ext}
use Rattle.dym_base.specs.Heaps.{Live, Touched, areas, held}
use Rattle.dym_base.specs.Numbers.{per, number, classes}
use Rattle.dym_base.specs.Packed.{Logged, bitmap, kind_byte, packs_by, packed_chunk, touched_bits, packed_area, packed_class, packed}
use Rattle.dym_base.specs.StandsFor.{packed_by}
use Rattle.dym_base.specs.declared.command.Version.{Version}
use Rattle.dym_base.specs.declared.command.Kind.{Kind}
use Rattle.dym_base.specs.declared.command.Kind.TheVariants.{Full, Inc}
use Rattle.dym_base.proofs.Heaps.{areas_same, held_same}

-- what is packed one after the other where a test holds
flat_where : (p : ℕ → Bool) (f g : ℕ → List ℕ) → ((i : ℕ) → p i ≡ true → f i ≡ g i) → (xs : List ℕ) → flat_map f (filter p xs) ≡ flat_map g (filter p xs)
flat_where p f g same [] = refl
flat_where p f g same (x ∷ xs) =
    elim (p x) as (λ b. p x ≡ b → flat_map f (cond b (x ∷ filter p xs) (filter p xs)) ≡ flat_map g (cond b (x ∷ filter p xs) (filter p xs))) [
      | true ↦ λ here i. same x here i ++ flat_where p f g same xs i
      | false ↦ λ there. flat_where p f g same xs
    ] refl

packs_as : (kind : Kind) (m n : Live) (f g : Touched) → ((q : ℕ) → contains_key m q ≡ contains_key n q) → (kind ≡ Inc → (q : ℕ) → contains f q ≡ contains g q) → (q : ℕ) → packs_by kind m f q ≡ packs_by kind n g q
packs_as Full m n f g handles found q = handles q
packs_as Inc m n f g handles found q = found refl q

touched_as : (kind : Kind) (len : ℕ) (f g : ℕ → Bool) → (kind ≡ Inc → (i : ℕ) → f i ≡ g i) → touched_bits kind len f ≡ touched_bits kind len g
touched_as Full len f g same = refl
touched_as Inc len f g same = ap (bitmap len) (fun_ext (same refl))

module _ (v : Version) (kind : Kind) (time : ℕ) (m n : Live) (f g : Touched)
    (handles : (q : ℕ) → contains_key m q ≡ contains_key n q)
    (found : kind ≡ Inc → (q : ℕ) → contains f q ≡ contains g q)
    (chunks : (q : ℕ) → cond (packs_by kind m f q) (get m q) None ≡ cond (packs_by kind n g q) (get n q) None) where
  abbrev one : Logged
  one = record { version = v; kind = kind; time = time; copy = m; found = f }

  abbrev other : Logged
  other = record { version = v; kind = kind; time = time; copy = n; found = g }

  there : (k : ℕ) → contains_key m k ≡ true → contains_key n k ≡ true
  there k has = sym (handles k) ∙ has

  back : (k : ℕ) → contains_key n k ≡ true → contains_key m k ≡ true
  back k has = handles k ∙ has

  packs : (q : ℕ) → packs_by kind m f q ≡ packs_by kind n g q
  packs = packs_as kind m n f g handles found

  chunk : (q : ℕ) → packs_by kind m f q ≡ true → packed_chunk v (unwrap_or (get m q) []) ≡ packed_chunk v (unwrap_or (get n q) [])
  chunk q here = ap (λ o. packed_chunk v (unwrap_or o []))
      (sym (cond-true (packs_by kind m f q) (get m q) None here) ∙ chunks q ∙ cond-true (packs_by kind n g q) (get n q) None (sym (packs q) ∙ here))

  area : (e o : ℕ) → packed_area one e o ≡ packed_area other e o
  unfolding packed_area
  area e o =
      let k : ℕ → ℕ = λ i. number e (o * per e + i) in
      let used : bitmap (per e) (λ i. contains_key m (k i)) ≡ bitmap (per e) (λ i. contains_key n (k i)) = ap (bitmap (per e)) (fun_ext (λ i. handles (k i))) in
      let touched = touched_as kind (per e) (λ i. contains f (k i)) (λ i. contains g (k i)) (λ inc i. found inc (k i)) in
      let where_packed : filter (λ i. packs_by kind m f (k i)) (range_with_len 0 (per e)) ≡ filter (λ i. packs_by kind n g (k i)) (range_with_len 0 (per e)) =
      ap (λ (p : ℕ → Bool). filter p (range_with_len 0 (per e))) (fun_ext (λ i. packs (k i))) in
      let body = flat_where (λ i. packs_by kind m f (k i)) (λ i. packed_chunk v (unwrap_or (get m (k i)) [])) (λ i. packed_chunk v (unwrap_or (get n (k i)) [])) (λ i here. chunk (k i) here) (range_with_len 0 (per e))
      ∙ ap (flat_map (λ i. packed_chunk v (unwrap_or (get n (k i)) []))) where_packed in
      λ i. e ∷ to_le_bytes w32 o ++ used i ++ touched i ++ body i

  class : (e : ℕ) → packed_class one e ≡ packed_class other e
  unfolding packed_class
  class e =
      ap (λ (h : ℕ → List ℕ). flat_map h (range_with_len 0 (areas m e))) (fun_ext (area e))
      ∙ ap (λ c. flat_map (packed_area other e) (range_with_len 0 c)) (areas_same m n there back e)

  same_packed : packed one ≡ packed other
  unfolding packed
  same_packed =
      let body : flat_map (packed_class one) classes ≡ flat_map (packed_class other) classes = ap (λ (h : ℕ → List ℕ). flat_map h classes) (fun_ext class) in
      let held_is : held m ≡ held n = held_same m n there back in
      λ i. kind_byte v kind ∷ to_le_bytes w64 time ++ to_le_bytes w32 (held_is i) ++ body i

-- what two logs have in common whose records have the same bytes
pub record PacksAlike (a b : Logged) : Type 0 where
  pub version : a.version ≡ b.version
  pub kind : a.kind ≡ b.kind
  pub time : a.time ≡ b.time
  pub handles : (q : ℕ) → contains_key a.copy q ≡ contains_key b.copy q
  pub found : a.kind ≡ Inc → (q : ℕ) → contains a.found q ≡ contains b.found q
  pub chunks : (q : ℕ) → packed_by a q ≡ packed_by b q

pub same_bytes : (a b : Logged) → PacksAlike a b → packed a ≡ packed b
same_bytes a b is =
    same_packed a.version a.kind a.time a.copy b.copy a.found b.found is.handles is.found
    (λ q. is.chunks q ∙ ap (λ d. cond (packs_by d b.copy b.found q) (get b.copy q) None) (sym is.kind))
    ∙ (λ i. packed (record { version = is.version i; kind = is.kind i; time = is.time i; copy = b.copy; found = b.found }))
