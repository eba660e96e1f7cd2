-- Packed chunks that are passed by their lengths alone, and how many there are.
use Rattle.std.proofs.Common.{◌≡◌, ℕ, zero, suc, ◌+◌, ◌-◌, ◌^◌, ◌<◌, ◌≤◌, Bool, true, false, cond, inl, inr, List, [], ◌∷◌, ◌++◌, map, length, take, drop, refl, sym, ap, ◌∙◌, arith, append_assoc}
use Rattle.std.specs.Int.{to_le_bytes, from_le_bytes, w32}
use Rattle.std.specs.List.{All, flat_map, filter, between, range_with_len}
use Rattle.std.proofs.lemmas.Bool.{cases_lt, true≢false}
use Rattle.std.proofs.lemmas.List.{get_or_past, length-append, length-drop, length-map, take_at, drop_at, drop-drop}
use Rattle.std.proofs.lemmas.List.Concat.{flat_map-append}
use Rattle.std.proofs.lemmas.List.Elements.{All-nil, All-cons}
use Rattle.std.proofs.lemmas.List.Folds.{flat_map-map}
use Rattle.std.proofs.lemmas.List.Sums.{count_by_more_yes, count_by_more_no}
use Rattle.std.proofs.lemmas.Nat.{from_le_bytes-to_le_bytes_4}
use Rattle.dym_base.specs.Numbers.{per}
use Rattle.dym_base.specs.Packed.{packed_chunk}
use Rattle.dym_base.specs.declared.command.Version.TheVariants.{Two}
use Rattle.dym_bits.specs.Bits.{bit_in, set_count, IsSet, IsNextSet}
use Rattle.dym_area.specs.Area.{AreaMeaning, IsValidArea}
use Rattle.dym_heap.specs.Bodies.{IsBodyOf, IsBody, BeginsWithChunks}
use Rattle.dym_heap.proofs.Sizes.{size_fits, size_most}
use Rattle.dym_heap.proofs.Loads.{LoadedTo, after, loaded_on}

-- ---- the set bits of a range

-- those of its first part, then those of the others
pub filter_split : (p : ℕ → Bool) (a n m : ℕ) → m ≤ n → filter p (range_with_len a n) ≡ filter p (range_with_len a m) ++ filter p (range_with_len (a + m) (n - m))
filter_split p a n zero l = let x : a ≡ a + zero = omega arith in let y : n ≡ n - zero = omega arith in ap (λ k. filter p (range_with_len k n)) x ∙ ap (λ k. filter p (range_with_len (a + zero) k)) y
filter_split p a zero (suc m) l = absurd (omega arith)
filter_split p a (suc n) (suc m) l =
    let x : a + 1 + m ≡ a + suc m = omega arith in
    let y : n - m ≡ suc n - suc m = omega arith in
    let rest : filter p (range_with_len (a + 1) n) ≡ filter p (range_with_len (a + 1) m) ++ filter p (range_with_len (a + suc m) (suc n - suc m)) =
    filter_split p (a + 1) n m (omega arith)
    ∙ ap (λ k. filter p (range_with_len (a + 1) m) ++ filter p (range_with_len k (n - m))) x
    ∙ ap (λ k. filter p (range_with_len (a + 1) m) ++ filter p (range_with_len (a + suc m) k)) y in
    elim (p a) as (λ b. cond b (a ∷ filter p (range_with_len (a + 1) n)) (filter p (range_with_len (a + 1) n))
    ≡ cond b (a ∷ filter p (range_with_len (a + 1) m)) (filter p (range_with_len (a + 1) m)) ++ filter p (range_with_len (a + suc m) (suc n - suc m))) [
      | true ↦ ap (λ xs. a ∷ xs) rest
      | false ↦ rest
    ]

-- one number more
count_more : (p : ℕ → Bool) (a n : ℕ) → length (filter p (range_with_len a (suc n))) ≡ length (filter p (range_with_len a n)) + cond (p (a + n)) 1 0
count_more p a n =
    let one : suc n - n ≡ 1 = omega arith in
    ap length (filter_split p a (suc n) n (omega arith) ∙ ap (λ k. filter p (range_with_len a n) ++ filter p (range_with_len (a + n) k)) one)
    ∙ length-append (filter p (range_with_len a n)) (filter p (range_with_len (a + n) 1))
    ∙ ap (λ k. length (filter p (range_with_len a n)) + k)
    (elim (p (a + n)) as (λ b. length (cond b ((a + n) ∷ []) []) ≡ cond b 1 0) [ true ↦ refl | false ↦ refl ])

-- at most all of them
pub count_most : (p : ℕ → Bool) (a n : ℕ) → length (filter p (range_with_len a n)) ≤ n
count_most p a zero = omega arith
count_most p a (suc n) =
    let rest = count_most p (a + 1) n in
    elim (p a) as (λ b. length (cond b (a ∷ filter p (range_with_len (a + 1) n)) (filter p (range_with_len (a + 1) n))) ≤ suc n) [ true ↦ omega arith | false ↦ omega arith ]

-- the loop that looks at bit i
pub count_step : (bits : List Bool) {from i : ℕ} {b : Bool} → from ≤ i → b ≡ bit_in bits i → length (filter (bit_in bits) (range_with_len from (i - from))) + cond b 1 0 ≡ length (filter (bit_in bits) (range_with_len from (i + 1 - from)))
count_step bits {from} {i} low is =
    let x : suc (i - from) ≡ i + 1 - from = omega arith in
    let y : from + (i - from) ≡ i = omega arith in
    ap (λ c. length (filter (bit_in bits) (range_with_len from (i - from))) + cond c 1 0) (is ∙ sym (ap (bit_in bits) y))
    ∙ sym (count_more (bit_in bits) from (i - from))
    ∙ ap (λ k. length (filter (bit_in bits) (range_with_len from k))) x

counted : (bits : List Bool) (a n : ℕ) → a + n ≤ length bits → set_count (take (a + n) bits) ≡ set_count (take a bits) + length (filter (bit_in bits) (range_with_len a n))
counted bits a zero l = let x : a + zero ≡ a = omega arith in let y : set_count (take a bits) ≡ set_count (take a bits) + 0 = omega arith in ap (λ k. set_count (take k bits)) x ∙ y
counted bits a (suc n) l =
    let x : a + suc n ≡ a + n + 1 = omega arith in
    let before = counted bits a n (omega arith) in
    let more = count_more (bit_in bits) a n in
    let step : set_count (take (a + n + 1) bits) ≡ set_count (take (a + n) bits) + cond (bit_in bits (a + n)) 1 0 =
    elim (bit_in bits (a + n)) as (λ b. bit_in bits (a + n) ≡ b → set_count (take (a + n + 1) bits) ≡ set_count (take (a + n) bits) + cond b 1 0) [
      | true ↦ λ h. count_by_more_yes (λ b. b) bits (a + n) false (omega arith) h
      | false ↦ λ h. count_by_more_no (λ b. b) bits (a + n) false (omega arith) h ∙ omega arith
    ] refl in
    ap (λ k. set_count (take k bits)) x ∙ omega arith

-- as many as the numbers of set bits below differ by
pub count_between : (bits : List Bool) (from end : ℕ) → from ≤ end → end ≤ length bits → set_count (take from bits) + length (filter (bit_in bits) (range_with_len from (end - from))) ≡ set_count (take end bits)
count_between bits from end low high =
    let x : from + (end - from) ≡ end = omega arith in
    sym (counted bits from (end - from) (omega arith)) ∙ ap (λ k. set_count (take k bits)) x

-- ---- one chunk is passed

module _ (body : List ℕ) {at : ℕ} {c : List ℕ} {left : List (List ℕ)} {rest : List ℕ} (low : at ≤ length body) (begins : BeginsWithChunks (drop at body) (c ∷ left) rest) where
  abbrev behind : List ℕ
  behind = flat_map (packed_chunk Two) left ++ rest

  abbrev head : List ℕ
  head = to_le_bytes w32 (length c)

  head_len : length head ≡ 4
  head_len = refl

  parts : drop at body ≡ head ++ (c ++ behind)
  parts = begins.is ∙ append_assoc (head ++ c) (flat_map (packed_chunk Two) left) rest ∙ append_assoc head c behind

  whole : at + 4 + length c ≤ length body
  whole = let all = ap length parts in omega (arith, length-drop at body, length-append head (c ++ behind), length-append c behind, head_len)

  number_is : (n : ℕ) → n ≡ from_le_bytes w32 (between at (at + 4) body) → n ≡ length c
  number_is n is_n =
      let e : at + 4 - at ≡ 4 = omega arith in
      let same : between at (at + 4) body ≡ head = ap (λ k. take k (drop at body)) e ∙ ap (take 4) parts ∙ take_at head (c ++ behind) 4 head_len in
      is_n ∙ ap (from_le_bytes w32) same ∙ from_le_bytes-to_le_bytes_4 (length c) (begins.small 0 [] (omega arith))

  next_begins : (n : ℕ) → n ≡ length c → BeginsWithChunks (drop (at + 4 + n) body) left rest
  next_begins n is_n = record {
    is =
        sym (drop-drop n (at + 4) body) ∙ ap (drop n) (sym (drop-drop 4 at body) ∙ ap (drop 4) parts ∙ drop_at head (c ++ behind) 4 head_len)
        ∙ drop_at c behind n (sym is_n);
    small = λ k d l. begins.small (suc k) d (omega arith);
  }

-- what is left of the chunks when k of them are passed
pub record Left (body : List ℕ) (at : ℕ) (rest : List ℕ) (k : ℕ) : Type 0 where
  pub chunks : List (List ℕ)
  pub many : length chunks ≡ k
  pub begins : BeginsWithChunks (drop at body) chunks rest

pub left_four : {body : List ℕ} {at : ℕ} {rest : List ℕ} (k : ℕ) → at ≤ length body → 0 < k → Left body at rest k → at + 4 ≤ length body
left_four {body} {at} {rest} k low some left =
    elim left.chunks as (λ cs. length cs ≡ k → BeginsWithChunks (drop at body) cs rest → at + 4 ≤ length body) [
      | [] ↦ λ many begins. absurd (omega arith)
      | c ∷ cs ↦ λ many begins. (let w = whole body low begins in omega arith)
    ] left.many left.begins

pub left_whole : {body : List ℕ} {at : ℕ} {rest : List ℕ} (k : ℕ) {n : ℕ} → at ≤ length body → 0 < k → Left body at rest k → n ≡ from_le_bytes w32 (between at (at + 4) body) → at + 4 + n ≤ length body
left_whole {body} {at} {rest} k {n} low some left is_n =
    elim left.chunks as (λ cs. length cs ≡ k → BeginsWithChunks (drop at body) cs rest → at + 4 + n ≤ length body) [
      | [] ↦ λ many begins. absurd (omega arith)
      | c ∷ cs ↦ λ many begins. (let w = whole body low begins in let e = number_is body low begins n is_n in omega arith)
    ] left.many left.begins

pub left_next : {body : List ℕ} {at : ℕ} {rest : List ℕ} (k : ℕ) {n : ℕ} (k' : ℕ) → at ≤ length body → k ≡ k' + 1 → Left body at rest k → n ≡ from_le_bytes w32 (between at (at + 4) body) → Left body (at + 4 + n) rest k'
left_next {body} {at} {rest} k {n} k' low some left is_n =
    elim left.chunks as (λ cs. length cs ≡ k → BeginsWithChunks (drop at body) cs rest → Left body (at + 4 + n) rest k') [
      | [] ↦ λ many begins. absurd (omega arith)
      | c ∷ cs ↦ λ many begins. record { chunks = cs; many = omega arith; begins = next_begins body low begins n (number_is body low begins n is_n) }
    ] left.many left.begins

set_within : (bits : List Bool) (i : ℕ) → IsSet bits i → i < length bits
set_within bits i set =
    elim (cases_lt i (length bits)) as (λ _. i < length bits) [
      | inl l ↦ l
      | inr past ↦ absurd (true≢false (sym set ∙ get_or_past bits i false past))
    ]

-- a set bit is the next from itself on
pub set_here : (bits : List Bool) (i : ℕ) → IsSet bits i → IsNextSet bits i i
set_here bits i set = record { within = set_within bits i set; at_least = omega arith; is_set = set; least = λ k low high. absurd (omega arith) }

-- ---- those of a body before the next wanted one

small_chunks : (p : ℕ → Bool) (f : ℕ → List ℕ) (a n : ℕ) → ((k : ℕ) → p k ≡ true → length (f k) < 2 ^ 32) → All (λ c. length c < 2 ^ 32) (map f (filter p (range_with_len a n)))
small_chunks p f a zero each = All-nil (λ c. length c < 2 ^ 32)
small_chunks p f a (suc n) each =
    let rest = small_chunks p f (a + 1) n each in
    elim (p a) as (λ b. p a ≡ b → All (λ c. length c < 2 ^ 32) (map f (cond b (a ∷ filter p (range_with_len (a + 1) n)) (filter p (range_with_len (a + 1) n))))) [
      | true ↦ λ h. All-cons (λ c. length c < 2 ^ 32) (f a) (map f (filter p (range_with_len (a + 1) n))) (each a h) rest
      | false ↦ λ h. rest
    ] refl

module _ {old : AreaMeaning} {bits wanted : List Bool} {body : List ℕ} (sub : (i : ℕ) → IsSet wanted i → IsSet bits i) (valid : IsValidArea old) {now : AreaMeaning} {from at : ℕ}
    (inv : (f : ℕ → List ℕ) → IsBodyOf Two old.exponent bits body f → LoadedTo Two old bits wanted body f now from at) {i : ℕ} (next : IsNextSet wanted from i) where
  -- the packed ones before it
  abbrev passed : List ℕ
  passed = filter (bit_in bits) (range_with_len from (i - from))

  passed_begins : (f : ℕ → List ℕ) → IsBodyOf Two old.exponent bits body f → BeginsWithChunks (drop at body) (map f passed) (after Two old bits wanted body f i)
  passed_begins f is =
      let low = next.at_least in
      let high = is.below i (sub i next.is_set) in
      let p : ℕ = per old.exponent in
      let a : from + (i - from) ≡ i = omega arith in
      let b : p - from - (i - from) ≡ p - i = omega arith in
      let chunk : ℕ → List ℕ = λ k. packed_chunk Two (f k) in
      let most = size_most old.exponent valid.greatest in
      record {
        is =
            (inv f is).rest
            ∙ ap (flat_map chunk) (filter_split (bit_in bits) from (p - from) (i - from) (omega arith)
            ∙ ap (λ k. passed ++ filter (bit_in bits) (range_with_len k (p - from - (i - from)))) a
            ∙ ap (λ k. passed ++ filter (bit_in bits) (range_with_len i k)) b)
            ∙ flat_map-append chunk passed (filter (bit_in bits) (range_with_len i (p - i)))
            ∙ ap (λ xs. xs ++ after Two old bits wanted body f i) (sym (flat_map-map (packed_chunk Two) f passed));
        small = small_chunks (bit_in bits) f from (i - from) (λ k h. let fits = size_fits Two old.exponent (length (f k)) (is.sized k h) in omega arith);
      }

  pub has_passed : (n : ℕ) → n ≡ length passed → IsBody Two old.exponent bits body → (chunks : List (List ℕ)) × (rest : List ℕ) × (length chunks ≡ n) × BeginsWithChunks (drop at body) chunks rest
  has_passed n many has = (map has.0 passed, after Two old bits wanted body has.0 i, length-map passed has.0 ∙ sym many, passed_begins has.0 has.1)

  pub loaded_before : {n : ℕ} (at' : ℕ) → n ≡ length passed → ((chunks : List (List ℕ)) (rest : List ℕ) → length chunks ≡ n → BeginsWithChunks (drop at body) chunks rest → drop at' body ≡ rest)
      → (f : ℕ → List ℕ) → IsBodyOf Two old.exponent bits body f → LoadedTo Two old bits wanted body f now i at'
  loaded_before at' many passes f is =
      loaded_on Two old bits wanted body f is sub valid i at' (inv f is) next.at_least next.least
      (passes (map f passed) (after Two old bits wanted body f i) (length-map passed f ∙ sym many) (passed_begins f is))
