-- Where the areas of a map stand in their list.
use Rattle.std.proofs.Common.{◌≡◌, ℕ, zero, suc, ◌+◌, ◌-◌, ◌*◌, ◌/◌, ◌%◌, ◌^◌, ◌<◌, ◌≤◌, inl, inr, true, List, length, get_or, map, refl, sym, ap, subst, ◌∙◌, arith, sum_by, length-append}
use Rattle.std.specs.List.{flat_map, range_with_len}
use Rattle.std.proofs.lemmas.Bool.{cases_lt}
use Rattle.std.proofs.lemmas.List.{get_or_append_left, get_or-append_right}
use Rattle.std.proofs.lemmas.List.FromFn.{length-map-range_with_len, get_or-map-range_with_len}
use Rattle.std.proofs.lemmas.List.Sums.{sum_by-cons}
use Rattle.std.proofs.lemmas.Nat.{pow_pos, mul-add-lt, div-add-mod', mod_below}
use Rattle.std.specs.FinMap.{contains_key}
use Rattle.dym_base.specs.Numbers.{per, number, exponent_of, index_of}
use Rattle.dym_base.specs.Heaps.{Live, areas, held}
use Rattle.dym_base.proofs.Heaps.{areas_below}
use Rattle.dym_pack.specs.Areas.{AreaName, area_list, area_at, chunks_of, chunk_number}
use Rattle.dym_heap.proofs.Sizes.{per_fits}

module _ (F : ℕ → List AreaName) where
  all_of : ℕ → ℕ → List AreaName
  all_of a n = flat_map F (range_with_len a n)

  -- element k of the lists of n classes from a on, one after the other
  record Found (a n k : ℕ) (d : AreaName) : Type 0 where
    e : ℕ
    o : ℕ
    least : a ≤ e
    most : e < a + n
    within : o < length (F e)
    below : o ≤ k
    is : get_or (flat_map F (range_with_len a n)) k d ≡ get_or (F e) o d

  find_at : (a n k : ℕ) (d : AreaName) → k < length (flat_map F (range_with_len a n)) → Found a n k d
  find_at a zero k d l = absurd (omega arith)
  find_at a (suc n) k d l =
      elim (cases_lt k (length (F a))) as (λ _. Found a (suc n) k d) [
        | inl here ↦ record { e = a; o = k; least = omega arith; most = omega arith; within = here; below = omega arith; is = get_or_append_left (F a) (flat_map F (range_with_len (a + 1) n)) d k here }
        | inr past ↦
            let rest = find_at (a + 1) n (k - length (F a)) d (omega (arith, length-append (F a) (flat_map F (range_with_len (a + 1) n)))) in
            let low = rest.least in let high = rest.most in let b = rest.below in
            record {
              e = rest.e;
              o = rest.o;
              least = omega arith;
              most = omega arith;
              within = rest.within;
              below = omega arith;
              is = get_or-append_right (F a) (flat_map F (range_with_len (a + 1) n)) (length (F a)) k d refl past ∙ rest.is;
            }
      ]

  -- the place of an element of one of the lists
  record Stands (a n e o : ℕ) (d : AreaName) : Type 0 where
    k : ℕ
    within : k < length (flat_map F (range_with_len a n))
    is : get_or (flat_map F (range_with_len a n)) k d ≡ get_or (F e) o d

  place_of : (a n e o : ℕ) (d : AreaName) → a ≤ e → e < a + n → o < length (F e) → Stands a n e o d
  place_of a zero e o d low high l = absurd (omega arith)
  place_of a (suc n) e o d low high l =
      let long = length-append (F a) (flat_map F (range_with_len (a + 1) n)) in
      elim (cases_lt a e) as (λ _. Stands a (suc n) e o d) [
        | inl later ↦
            let rest = place_of (a + 1) n e o d (omega arith) (omega arith) l in
            let w = rest.within in
            let back : length (F a) + rest.k - length (F a) ≡ rest.k = omega arith in
            record {
              k = length (F a) + rest.k;
              within = omega arith;
              is = get_or-append_right (F a) (flat_map F (range_with_len (a + 1) n)) (length (F a)) (length (F a) + rest.k) d refl (omega arith)
                  ∙ ap (λ x. get_or (flat_map F (range_with_len (a + 1) n)) x d) back ∙ rest.is;
            }
        | inr here ↦
            let same : e ≡ a = omega arith in
            let l' : o < length (F a) = subst (λ x. o < length (F x)) same l in
            record {
              k = o;
              within = omega arith;
              is = get_or_append_left (F a) (flat_map F (range_with_len (a + 1) n)) d o l' ∙ ap (λ x. get_or (F x) o d) (sym same);
            }
      ]

  length_all : (f : ℕ → ℕ) → ((e : ℕ) → length (F e) ≡ f e) → (a n : ℕ) → length (flat_map F (range_with_len a n)) ≡ sum_by f (range_with_len a n)
  length_all f each a zero = refl
  length_all f each a (suc n) =
      let rest = length_all f each (a + 1) n in
      let here = each a in
      let sum = sum_by-cons f a (range_with_len (a + 1) n) in
      omega (arith, length-append (F a) (flat_map F (range_with_len (a + 1) n)))

-- ---- the areas of a map

pub names : Live → ℕ → List AreaName
names live e = map (λ o. record { exponent = e; ordinal = o }) (range_with_len 0 (areas live e))

pub length-names : (live : Live) (e : ℕ) → length (names live e) ≡ areas live e
unfolding names
length-names live e = length-map-range_with_len (λ o. record { exponent = e; ordinal = o }) 0 (areas live e)

pub name-names : (live : Live) (e o : ℕ) (d : AreaName) → o < areas live e → get_or (names live e) o d ≡ record { exponent = e; ordinal = o }
unfolding names
name-names live e o d l = get_or-map-range_with_len (λ o. record { exponent = e; ordinal = o }) 0 (areas live e) o o d l (omega arith)

pub list-names : (live : Live) → area_list live ≡ flat_map (names live) (range_with_len 5 12)
unfolding area_list names
list-names live = refl

pub length-list : (live : Live) → length (area_list live) ≡ held live
unfolding held
length-list live = ap length (list-names live) ∙ length_all (names live) (areas live) (length-names live) 5 12

-- area k of a map
pub record Named (live : Live) (k : ℕ) : Type 0 where
  pub e : ℕ
  pub o : ℕ
  pub least : 5 ≤ e
  pub most : e ≤ 16
  pub within : o < areas live e
  pub below : o ≤ k
  pub is : area_at live k ≡ record { exponent = e; ordinal = o }

pub named : (live : Live) (k : ℕ) → k < held live → Named live k
named live k l =
    let none : AreaName = record { exponent = 5; ordinal = 0 } in
    let found = find_at (names live) 5 12 k none (let n = ap length (list-names live) in let m = length-list live in omega arith) in
    let within : found.o < areas live found.e = (let w = found.within in let n = length-names live found.e in omega arith) in
    record {
      e = found.e;
      o = found.o;
      least = found.least;
      most = (let m = found.most in omega arith);
      within = within;
      below = found.below;
      is = ap (λ xs. get_or xs k none) (list-names live) ∙ found.is ∙ name-names live found.e found.o none within;
    }

-- a chunk of a map lies in one of its areas
pub record LiesIn (live : Live) (q : ℕ) : Type 0 where
  pub k : ℕ
  pub i : ℕ
  pub within : k < held live
  pub inside : i < chunks_of live k
  pub is : q ≡ chunk_number live k i

pub lies_in : (live : Live) (q : ℕ) → 5 ≤ exponent_of q → exponent_of q ≤ 16 → contains_key live q ≡ true → LiesIn live q
lies_in live q low high h =
    let e : ℕ = exponent_of q in
    let o : ℕ = index_of q / per e in
    let none : AreaName = record { exponent = 5; ordinal = 0 } in
    let within : o < areas live e = (areas_below live e (areas live e)).0 (omega arith) q h refl in
    let stands = place_of (names live) 5 12 e o none low (omega arith) (let n = length-names live e in omega arith) in
    let name : area_at live stands.k ≡ record { exponent = e; ordinal = o } = ap (λ xs. get_or xs stands.k none) (list-names live) ∙ stands.is ∙ name-names live e o none within in
    let positive : 0 < per e = pow_pos (16 - e) in
    let split : o * per e + index_of q % per e ≡ index_of q = div-add-mod' (index_of q) (per e) in
    record {
      k = stands.k;
      i = index_of q % per e;
      within = (let w = stands.within in let n = ap length (list-names live) in let m = length-list live in omega arith);
      inside = subst (λ (a : AreaName). index_of q % per e < per a.exponent) (sym name) (mod_below (index_of q) (per e) positive);
      is = sym (ap (λ (a : AreaName). number a.exponent (a.ordinal * per a.exponent + index_of q % per e)) name ∙ ap (number e) split ∙ (let h : number e (index_of q) ≡ q = omega arith in h));
    }

-- the number of a chunk of area k
pub number_k : {live : Live} {k : ℕ} (i : ℕ) (n : Named live k) → chunk_number live k i ≡ number n.e (n.o * per n.e + i)
number_k i n = ap (λ (a : AreaName). number a.exponent (a.ordinal * per a.exponent + i)) n.is

pub small_k : {live : Live} {k : ℕ} (i : ℕ) (n : Named live k) → held live ≤ 1024 → k < held live → i < per n.e → n.o * per n.e + i < 2 ^ 32
small_k i n few l below =
    let b = n.below in
    let least = mul-add-lt n.o (per n.e) i 1024 (omega arith) below in
    let p = per_fits n.least in
    omega arith

-- an area of a class stands somewhere in the list
pub record StandsIn (live : Live) (e o : ℕ) : Type 0 where
  pub k : ℕ
  pub within : k < held live
  pub is : area_at live k ≡ record { exponent = e; ordinal = o }

pub stands_in : (live : Live) (e o : ℕ) → 5 ≤ e → e ≤ 16 → o < areas live e → StandsIn live e o
stands_in live e o low high l =
    let none : AreaName = record { exponent = 5; ordinal = 0 } in
    let stands = place_of (names live) 5 12 e o none low (omega arith) (let n = length-names live e in omega arith) in
    record {
      k = stands.k;
      within = (let w = stands.within in let n = ap length (list-names live) in let m = length-list live in omega arith);
      is = ap (λ xs. get_or xs stands.k none) (list-names live) ∙ stands.is ∙ name-names live e o none l;
    }
