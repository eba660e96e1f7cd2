-- Those numbers of a range that pass a test, and lists made of them.
use Rattle.std.proofs.Common.{◌≡◌, ℕ, zero, suc, ◌+◌, ◌-◌, ◌*◌, ◌<◌, ◌≤◌, Bool, true, false, cond, List, [], ◌∷◌, ◌++◌, length, map, take, get_or, refl, sym, ◌∙◌, ap, arith, inl, inr}
use Rattle.std.specs.List.{range_with_len, filter, flat_map, count_by, AllByRecursion}
use Rattle.std.proofs.lemmas.List.{length-append, take_more, take_all, get_or_past}
use Rattle.std.proofs.lemmas.List.Elements.{filter-append}
use Rattle.std.proofs.lemmas.List.Sums.{sum_by_push}
use Rattle.std.proofs.lemmas.Bool.{cases_lt, cond-true, cond-false}
use Rattle.std.proofs.Math.Nat.{suc-mul}

-- the d numbers from a place on that pass the test
abbrev kept : (ℕ → Bool) → ℕ → ℕ → List ℕ
kept p from d = filter p (range_with_len from d)

-- ---- a range in two

pub range_split : (from d m : ℕ) → range_with_len from (d + m) ≡ range_with_len from d ++ range_with_len (from + d) m
range_split from zero m =
    let none : zero + m ≡ m = omega arith in
    let here : from + zero ≡ from = omega arith in
    ap (range_with_len from) none ∙ sym (ap (λ a. range_with_len a m) here)
range_split from (suc d) m =
    let more : suc d + m ≡ suc (d + m) = omega arith in
    let next : from + 1 + d ≡ from + suc d = omega arith in
    ap (range_with_len from) more
    ∙ ap (λ xs. from ∷ xs) (range_split (from + 1) d m ∙ ap (λ a. range_with_len (from + 1) d ++ range_with_len a m) next)

pub filter_split : (p : ℕ → Bool) (from d m : ℕ) → kept p from (d + m) ≡ kept p from d ++ kept p (from + d) m
filter_split p from d m = ap (filter p) (range_split from d m) ∙ filter-append p (range_with_len from d) (range_with_len (from + d) m)

-- ---- what a test keeps of a range

pub filter_none : (p : ℕ → Bool) (d from : ℕ) → ((j : ℕ) → from ≤ j → j < from + d → p j ≡ false) → kept p from d ≡ []
filter_none p zero from fails = refl
filter_none p (suc d) from fails =
    cond-false (p from) _ _ (fails from (omega arith) (omega arith))
    ∙ filter_none p d (from + 1) (λ j l h. fails j (omega arith) (omega arith))

pub filter_all : (p : ℕ → Bool) (d from : ℕ) → ((j : ℕ) → from ≤ j → j < from + d → p j ≡ true) → kept p from d ≡ range_with_len from d
filter_all p zero from passes = refl
filter_all p (suc d) from passes =
    cond-true (p from) _ _ (passes from (omega arith) (omega arith))
    ∙ ap (λ xs. from ∷ xs) (filter_all p d (from + 1) (λ j l h. passes j (omega arith) (omega arith)))

pub filter_same : (p q : ℕ → Bool) (d from : ℕ) → ((j : ℕ) → from ≤ j → j < from + d → p j ≡ q j) → kept p from d ≡ kept q from d
filter_same p q zero from same = refl
filter_same p q (suc d) from same =
    let rest = filter_same p q d (from + 1) (λ j l h. same j (omega arith) (omega arith)) in
    (λ i. cond (same from (omega arith) (omega arith) i) (from ∷ rest i) (rest i))

-- ---- the numbers from a place on, up to n

abbrev pub passing : (ℕ → Bool) → ℕ → ℕ → List ℕ
passing p n from = kept p from (n - from)

pub passing_from : (p : ℕ → Bool) (n from i : ℕ) → from ≤ i → i ≤ n → passing p n from ≡ kept p from (i - from) ++ passing p n i
passing_from p n from i low high =
    let parts : n - from ≡ i - from + (n - i) = omega arith in
    let at : from + (i - from) ≡ i = omega arith in
    ap (λ m. kept p from m) parts
    ∙ filter_split p from (i - from) (n - i)
    ∙ ap (λ a. kept p from (i - from) ++ kept p a (n - i)) at

pub passing_skip : (p : ℕ → Bool) (n from i : ℕ) → from ≤ i → i ≤ n → ((j : ℕ) → from ≤ j → j < i → p j ≡ false) → passing p n from ≡ passing p n i
passing_skip p n from i low high fails =
    passing_from p n from i low high
    ∙ ap (λ xs. xs ++ passing p n i) (filter_none p (i - from) from (λ j l h. fails j l (omega arith)))

pub passing_run : (p : ℕ → Bool) (n from first end : ℕ) → from ≤ first → first ≤ end → end ≤ n → ((j : ℕ) → from ≤ j → j < first → p j ≡ false) → ((j : ℕ) → first ≤ j → j < end → p j ≡ true) → passing p n from ≡ range_with_len first (end - first) ++ passing p n end
passing_run p n from first end low mid high fails passes =
    passing_skip p n from first low (omega arith) fails
    ∙ passing_from p n first end mid high
    ∙ ap (λ xs. xs ++ passing p n end) (filter_all p (end - first) first (λ j l h. passes j l (omega arith)))

pub passing_one : (p : ℕ → Bool) (n from i : ℕ) → from ≤ i → i < n → ((j : ℕ) → from ≤ j → j < i → p j ≡ false) → p i ≡ true → passing p n from ≡ i ∷ passing p n (i + 1)
passing_one p n from i low high fails here =
    let one : i + 1 - i ≡ 1 = omega arith in
    passing_run p n from i (i + 1) low (omega arith) (omega arith) fails (λ j l h. (let same : i ≡ j = omega arith in ap p (sym same) ∙ here))
    ∙ ap (λ m. range_with_len i m ++ passing p n (i + 1)) one

pub passing_none : (p : ℕ → Bool) (n from : ℕ) → ((j : ℕ) → from ≤ j → j < n → p j ≡ false) → passing p n from ≡ []
passing_none p n from fails = filter_none p (n - from) from (λ j l h. fails j l (omega arith))

-- ---- lists made of those numbers

-- as long as there are numbers, where each gives as much
pub length_each : (p : ℕ → Bool) (f : ℕ → List ℕ) (s d from : ℕ) → ((j : ℕ) → from ≤ j → j < from + d → p j ≡ true → length (f j) ≡ s) → length (flat_map f (kept p from d)) ≡ length (kept p from d) * s
length_each p f s zero from long = omega arith
length_each p f s (suc d) from long =
    let rest = length_each p f s d (from + 1) (λ j l h. long j (omega arith) (omega arith)) in
    let tail = kept p (from + 1) d in
    elim (p from) as (λ b. p from ≡ b → length (flat_map f (cond b (from ∷ tail) tail)) ≡ length (cond b (from ∷ tail) tail) * s) [
      | true ↦ λ here. (
          let first = long from (omega arith) (omega arith) here in
          length-append (f from) (flat_map f tail) ∙ omega (arith, suc-mul (length tail) s))
      | false ↦ λ there. rest
    ] refl

-- and no longer, where none gives more
pub length_most : (p : ℕ → Bool) (f : ℕ → List ℕ) (s d from : ℕ) → ((j : ℕ) → from ≤ j → j < from + d → p j ≡ true → length (f j) ≤ s) → length (flat_map f (kept p from d)) ≤ d * s
length_most p f s zero from long = omega arith
length_most p f s (suc d) from long =
    let rest = length_most p f s d (from + 1) (λ j l h. long j (omega arith) (omega arith)) in
    let more = suc-mul d s in
    let tail = kept p (from + 1) d in
    elim (p from) as (λ b. p from ≡ b → length (flat_map f (cond b (from ∷ tail) tail)) ≤ suc d * s) [
      | true ↦ λ here. (
          let first = long from (omega arith) (omega arith) here in
          omega (arith, length-append (f from) (flat_map f tail)))
      | false ↦ λ there. omega arith
    ] refl

-- with what holds of each
pub all_picked : (P : List ℕ → Type 0) (f : ℕ → List ℕ) (p : ℕ → Bool) (d from : ℕ) → ((j : ℕ) → from ≤ j → j < from + d → p j ≡ true → P (f j)) → AllByRecursion P (map f (kept p from d))
all_picked P f p zero from each = tt
all_picked P f p (suc d) from each =
    let rest = all_picked P f p d (from + 1) (λ j low high. each j (omega arith) (omega arith)) in
    let tail = kept p (from + 1) d in
    elim (p from) as (λ b. p from ≡ b → AllByRecursion P (map f (cond b (from ∷ tail) tail))) [
      | true ↦ λ hit. (each from (omega arith) (omega arith) hit, rest)
      | false ↦ λ miss. rest
    ] refl

-- ---- counts of bits

-- one bit more
count_suc : (bits : List Bool) (i : ℕ) → count_by (λ b. b) (take (i + 1) bits) ≡ count_by (λ b. b) (take i bits) + cond (get_or bits i false) 1 0
count_suc bits i =
    elim (cases_lt i (length bits)) [
      | inl below ↦ ap (count_by (λ b. b)) (take_more bits i false below) ∙ sum_by_push (λ b. cond b 1 0) (take i bits) (get_or bits i false)
      | inr past ↦
          let none : cond {A = ℕ} (get_or bits i false) 1 0 ≡ 0 = ap (λ b. cond b 1 0) (get_or_past bits i false past) in
          ap (count_by (λ b. b)) (take_all (i + 1) bits (omega arith) ∙ sym (take_all i bits past)) ∙ omega (arith, none)
    ]

length_of_one : (p : ℕ → Bool) (i : ℕ) → length (kept p i 1) ≡ cond (p i) 1 0
length_of_one p i = elim (p i) as (λ b. length (cond b (i ∷ []) []) ≡ cond b 1 0) [ true ↦ refl | false ↦ refl ]

pub count_is_filter : (bits : List Bool) (i : ℕ) → count_by (λ b. b) (take i bits) ≡ length (kept (λ j. get_or bits j false) 0 i)
count_is_filter bits zero = refl
count_is_filter bits (suc i) =
    let p : ℕ → Bool = λ j. get_or bits j false in
    let more : suc i ≡ i + 1 = omega arith in
    ap (λ m. count_by (λ b. b) (take m bits)) more
    ∙ count_suc bits i
    ∙ ap (λ m. m + cond (p i) 1 0) (count_is_filter bits i)
    ∙ sym (ap (λ m. length (kept p 0 m)) more
    ∙ ap length (filter_split p 0 i 1)
    ∙ length-append (kept p 0 i) (kept p (0 + i) 1)
    ∙ ap (λ m. length (kept p 0 i) + m) (ap (λ a. length (kept p a 1)) (omega arith) ∙ length_of_one p i))
