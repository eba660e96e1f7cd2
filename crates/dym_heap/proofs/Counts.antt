-- How many areas each class has, and how many a record has.
use Rattle.std.proofs.Common.{◌≡◌, ℕ, zero, suc, ◌+◌, ◌-◌, ◌<◌, ◌≤◌, inl, inr, List, [], ◌∷◌, length, get_or, set, max, sym, ap, subst, ◌∙◌, arith, sum, length-set, get_or-set_same, get_or-set_other}
use Rattle.std.proofs.lemmas.Bool.{cases_eq, cases_lt}
use Rattle.std.proofs.lemmas.List.Sums.{sum_by-cons}
use Rattle.dym_base.specs.Numbers.{IsClass}
use Rattle.dym_base.specs.Heaps.{areas, held}
use Rattle.dym_base.specs.Packed.{Logged, packed}
use Rattle.dym_pack.specs.Areas.{AreaName, area_at}
use Rattle.dym_base.specs.Recorded.{IsRecorded}
use Rattle.dym_pack.specs.ParsedAreas.{IsRecord, OfLog}
use Rattle.dym_heap.specs.Shelves.{ShelfMeaning, IsValidShelf, count_of}
use Rattle.dym_heap.proofs.Tidy.{sum_points}
use Rattle.dym_heap.proofs.AreaLists.{named, stands_in}

-- ---- sums

sum_le : (xs ys : List ℕ) → length xs ≡ length ys → ((c : ℕ) → c < length xs → get_or xs c 0 ≤ get_or ys c 0) → sum xs ≤ sum ys
sum_le [] ys long each = omega arith
sum_le (x ∷ xs) [] long each = absurd (omega arith)
sum_le (x ∷ xs) (y ∷ ys) long each =
    let first = each 0 (omega arith) in
    let rest = sum_le xs ys (omega arith) (λ c l. each (suc c) (omega arith)) in
    let a = sum_by-cons (λ z. z) x xs in
    let b = sum_by-cons (λ z. z) y ys in
    omega arith

sum_lt : (xs ys : List ℕ) (d : ℕ) → length xs ≡ length ys → ((c : ℕ) → c < length xs → get_or xs c 0 ≤ get_or ys c 0) → d < length xs → get_or xs d 0 < get_or ys d 0 → sum xs < sum ys
sum_lt [] ys d long each l strict = absurd (omega arith)
sum_lt (x ∷ xs) [] d long each l strict = absurd (omega arith)
sum_lt (x ∷ xs) (y ∷ ys) zero long each l strict =
    let rest = sum_le xs ys (omega arith) (λ c l. each (suc c) (omega arith)) in
    let a = sum_by-cons (λ z. z) x xs in
    let b = sum_by-cons (λ z. z) y ys in
    omega arith
sum_lt (x ∷ xs) (y ∷ ys) (suc d) long each l strict =
    let first = each 0 (omega arith) in
    let rest = sum_lt xs ys d (omega arith) (λ c l. each (suc c) (omega arith)) (omega arith) strict in
    let a = sum_by-cons (λ z. z) x xs in
    let b = sum_by-cons (λ z. z) y ys in
    omega arith

-- where one class has fewer areas than it should, and none has more, a segment may still be taken
pub room_left : (s : ShelfMeaning) (counts : List ℕ) (e : ℕ) → IsValidShelf s → length counts ≡ 12 → ((d : ℕ) → IsClass d → count_of s d ≤ get_or counts (d - 5) 0) → 5 ≤ e → e ≤ 16 → count_of s e < get_or counts (e - 5) 0
    → sum counts ≤ s.quota → length s.held_ids < s.quota
room_left s counts e valid long each low high less within =
    let classes = valid.classes in
    let strict = sum_lt s.counts counts (e - 5) (omega arith)
    (λ c l. (let same : c + 5 - 5 ≡ c = omega arith in subst (λ x. get_or s.counts x 0 ≤ get_or counts x 0) same (each (c + 5) (omega arith, omega arith)))) (omega arith) less in
    let holds = valid.holds in
    omega arith

-- ---- the areas of a record

-- the counts after some areas of the record were seen
pub record Counted (bytes counts : List ℕ) (k : ℕ) : Type 0 where
  pub long : length counts ≡ 12
  pub under : (log : Logged) → IsRecorded log → packed log ≡ bytes → (c : ℕ) → c < 12 → get_or counts c 0 ≤ areas log.copy (c + 5)
  pub over : (log : Logged) → IsRecorded log → packed log ≡ bytes → (m : ℕ) → m < k → (area_at log.copy m).ordinal < get_or counts ((area_at log.copy m).exponent - 5) 0

pub counted_more : {bytes counts : List ℕ} {k c : ℕ} (e o : ℕ) {x : ℕ} → Counted bytes counts k → IsRecord bytes → OfLog bytes (λ log. k < held log.copy) → OfLog bytes (λ log. e ≡ (area_at log.copy k).exponent) → OfLog bytes (λ log. o ≡ (area_at log.copy k).ordinal)
    → c ≡ e - 5 → x ≡ max (get_or counts c 0) (o + 1) → Counted bytes (set counts c x) (k + 1)
counted_more {counts} {k} {c} e o {x} was has inside exp ord c_is x_is =
    let small : c < 12 =
    (let n = named has.0.copy k (inside has.0 has.1 has.2) in let a = exp has.0 has.1 has.2 in let b = ap (λ (y : AreaName). y.exponent) n.is in let low = n.least in let high = n.most in omega arith) in
    let long = was.long in
    let here : get_or (set counts c x) c 0 ≡ x = get_or-set_same counts c x 0 (omega arith) in
    record {
      long = length-set counts c x ∙ was.long;
      under = λ log is pk d l.
          let before = was.under log is pk d l in
          elim (cases_eq d c) as (λ _. get_or (set counts c x) d 0 ≤ areas log.copy (d + 5)) [
            | inr ne ↦ (let y = get_or-set_other counts c d x 0 ne in omega arith)
            | inl same ↦
                let n = named log.copy k (inside log is pk) in
                let a = exp log is pk in
                let b = ap (λ (y : AreaName). y.exponent) n.is in
                let q = ord log is pk in
                let r = ap (λ (y : AreaName). y.ordinal) n.is in
                let low = n.least in
                let w : n.o < areas log.copy n.e = n.within in
                let class : d + 5 ≡ n.e = omega arith in
                let w' : n.o < areas log.copy (d + 5) = subst (λ y. n.o < areas log.copy y) (sym class) w in
                let y : get_or (set counts c x) d 0 ≡ x = ap (λ i. get_or (set counts c x) i 0) same ∙ here in
                let z : get_or counts d 0 ≡ get_or counts c 0 = ap (λ i. get_or counts i 0) same in
                omega arith
          ];
      over = λ log is pk m l.
          elim (cases_lt m k) as (λ _. (area_at log.copy m).ordinal < get_or (set counts c x) ((area_at log.copy m).exponent - 5) 0) [
            | inl before ↦
                let old = was.over log is pk m before in
                elim (cases_eq ((area_at log.copy m).exponent - 5) c) as (λ _. (area_at log.copy m).ordinal < get_or (set counts c x) ((area_at log.copy m).exponent - 5) 0) [
                  | inr ne ↦ (let y = get_or-set_other counts c ((area_at log.copy m).exponent - 5) x 0 ne in omega arith)
                  | inl same ↦
                      let y : get_or (set counts c x) ((area_at log.copy m).exponent - 5) 0 ≡ x = ap (λ i. get_or (set counts c x) i 0) same ∙ here in
                      let z : get_or counts ((area_at log.copy m).exponent - 5) 0 ≡ get_or counts c 0 = ap (λ i. get_or counts i 0) same in
                      omega arith
                ]
            | inr at_least ↦
                let now : m ≡ k = omega arith in
                let a : (area_at log.copy m).exponent ≡ e = ap (λ i. (area_at log.copy i).exponent) now ∙ sym (exp log is pk) in
                let q : (area_at log.copy m).ordinal ≡ o = ap (λ i. (area_at log.copy i).ordinal) now ∙ sym (ord log is pk) in
                let class : (area_at log.copy m).exponent - 5 ≡ c = omega arith in
                let y : get_or (set counts c x) ((area_at log.copy m).exponent - 5) 0 ≡ x = ap (λ i. get_or (set counts c x) i 0) class ∙ here in
                omega arith
          ];
    }

counted_c : {bytes counts : List ℕ} {k : ℕ} → Counted bytes counts k → OfLog bytes (λ log. k ≡ held log.copy) → OfLog bytes (λ log. (c : ℕ) → c < 12 → get_or counts c 0 ≡ areas log.copy (c + 5))
counted_c {counts} was all log is pk c l =
    let under = was.under log is pk c l in
    elim (cases_lt (get_or counts c 0) (areas log.copy (c + 5))) as (λ _. get_or counts c 0 ≡ areas log.copy (c + 5)) [
      | inr past ↦ omega arith
      | inl less ↦
          let o : ℕ = get_or counts c 0 in
          let stands = stands_in log.copy (c + 5) o (omega arith) (omega arith) less in
          let n = all log is pk in
          let over = was.over log is pk stands.k (let w = stands.within in omega arith) in
          let a : (area_at log.copy stands.k).exponent - 5 ≡ c = (let b = ap (λ (y : AreaName). y.exponent) stands.is in omega arith) in
          let b = ap (λ (y : AreaName). y.ordinal) stands.is in
          let d = ap (λ i. get_or counts i 0) a in
          absurd (omega arith)
    ]

pub counted_all : {bytes counts : List ℕ} {k : ℕ} → Counted bytes counts k → OfLog bytes (λ log. k ≡ held log.copy) → OfLog bytes (λ log. (e : ℕ) → IsClass e → get_or counts (e - 5) 0 ≡ areas log.copy e)
counted_all was all log is pk e class =
    let same : e - 5 + 5 ≡ e = (let low = class.0 in omega arith) in
    counted_c was all log is pk (e - 5) (let high = class.1 in omega arith) ∙ ap (areas log.copy) same

pub counted_total : {bytes counts : List ℕ} {k : ℕ} → Counted bytes counts k → IsRecord bytes → OfLog bytes (λ log. k ≡ held log.copy) → (quota : ℕ) → OfLog bytes (λ log. held log.copy ≤ quota) → sum counts ≤ quota
unfolding held
counted_total {bytes} {counts} {k} was has all quota within =
    let each = counted_c was all has.0 has.1 has.2 in
    let turn : (c : ℕ) → (c + 5 ≡ 5 + c) = λ c. omega arith in
    let total : sum counts ≡ held has.0.copy = sum_points (areas has.0.copy) counts 5 12 was.long (λ c l. each c l ∙ ap (areas has.0.copy) (turn c)) in
    let w = within has.0 has.1 has.2 in
    omega arith
