-- The chunks that differ between two maps, found by going over one of them.
use Rattle.std.proofs.Common.{◌≡◌, ℕ, ◌+◌, ◌<◌, ◌≤◌, ◌⊎◌, inl, inr, Bool, true, false, not, ◌&&◌, ◌||◌, nat_le, if◌then◌else◌, refl}
use Rattle.std.proofs.Common.{sym, ap, ap₂, ◌∙◌, arith, eqb-true, eq-eqb}
use Rattle.std.proofs.lemmas.Bool.{cases_eq, cases_lt, ne_eqb, le-leb, lt-leb}
use Rattle.std.proofs.lemmas.Map.Views.{any-filter_same}
use Rattle.std.specs.Cmp.{nat_cmp_total, unsigned_tied}
use Rattle.std.specs.FinMap.{contains_key, keys, contains_key-keys}
use Rattle.std.specs.FinSet.{contains, contains-from_list, from_list}
use Rattle.std.specs.List.{filter}
use Rattle.std.specs.Ordering.{nat_cmp, eq_by_cmp}
use Rattle.dym_base.specs.Heaps.{Live, Touched, HeapState}
use Rattle.dym_heap.specs.Undo.{without_touch}
use Rattle.dym_undo_files.proofs.Lists.{contains_remove}
use Rattle.dym_undo_files.specs.TakenAgain.{is_same, differing}
use Rattle.dym_undo_files.proofs.Maps.{same_touched}

and_swap : (a b : Bool) → (a && b) ≡ (b && a)
and_swap true true = refl
and_swap true false = refl
and_swap false true = refl
and_swap false false = refl

pub contains-differing : (before live : Live) (q : ℕ) → contains (differing before live) q ≡ (contains_key live q && not (is_same before live q))
unfolding differing
contains-differing before live q =
    let p : ℕ → Bool = λ k. not (is_same before live k) in
    contains-from_list nat_cmp_total (filter p (keys live)) q
    ∙ any-filter_same (eq_by_cmp nat_cmp q) p (p q) (λ x tied. ap p (sym (eqb-true q x (sym (unsigned_tied q x) ∙ tied)))) (keys live)
    ∙ ap (λ b. p q && b) (sym (contains_key-keys live q))
    ∙ and_swap (p q) (contains_key live q)

-- touched are, of the live chunks below a number, those that differ, and all others
abbrev pub ArePassed : Live → HeapState → ℕ → Type 0
ArePassed before s from = (k : ℕ) → contains s.touched k ≡ (contains_key s.live k && (nat_le from k || not (is_same before s.live k)))

pub none_passed : (before live : Live) → ArePassed before (record { live = live; touched = from_list (keys live) }) 0
none_passed before live k =
    contains-from_list nat_cmp_total (keys live) k ∙ sym (contains_key-keys live k) ∙ whole (contains_key live k)
    ∙ ap (λ b. contains_key live k && (b || not (is_same before live k))) (sym (le-leb 0 k (omega arith)))
  where
    whole : (b : Bool) → b ≡ (b && true)
    whole true = refl
    whole false = refl

all_passed : (before live : Live) (touched : Touched) (from : ℕ) → ArePassed before (record { live = live; touched = touched }) from
    → ((k : ℕ) → from ≤ k → contains_key live k ≡ false) → touched ≡ differing before live
all_passed before live touched from passed none =
    same_touched touched (differing before live) (λ k. passed k ∙ by k (cases_lt k from) ∙ sym (contains-differing before live k))
  where
    by : (k : ℕ) → (k < from) ⊎ (from ≤ k) → (contains_key live k && (nat_le from k || not (is_same before live k)))
        ≡ (contains_key live k && not (is_same before live k))
    by k (inl below) = ap (λ b. contains_key live k && (b || not (is_same before live k))) (lt-leb from k below)
    by k (inr past) = ap (λ b. b && (nat_le from k || not (is_same before live k))) (none k past) ∙ sym (ap (λ b. b && not (is_same before live k)) (none k past))

pub passed_state : (before : Live) (s : HeapState) (from : ℕ) → ArePassed before s from → ((k : ℕ) → from ≤ k → contains_key s.live k ≡ false)
    → s ≡ record { live = s.live; touched = differing before s.live }
passed_state before s from passed none = λ i. record { live = s.live; touched = all_passed before s.live s.touched from passed none i }

-- one chunk more is passed: the least live one from there on
module _ (before : Live) (s : HeapState) (from k : ℕ) (passed : ArePassed before s from) (low : from ≤ k) (has : contains_key s.live k ≡ true)
    (least : (q : ℕ) → from ≤ q → q < k → contains_key s.live q ≡ false) where
  other : (t : HeapState) → t.live ≡ s.live → (q : ℕ) → (q ≡ k → ⊥) → contains t.touched q ≡ contains s.touched q
      → contains t.touched q ≡ (contains_key t.live q && (nat_le (k + 1) q || not (is_same before t.live q)))
  other t lives q ne touches = touches ∙ passed q ∙ by (cases_lt q from) (cases_lt k q)
      ∙ ap (λ (l : Live). contains_key l q && (nat_le (k + 1) q || not (is_same before l q))) (sym lives)
    where
      by : (q < from) ⊎ (from ≤ q) → (k < q) ⊎ (q ≤ k) → (contains_key s.live q && (nat_le from q || not (is_same before s.live q)))
          ≡ (contains_key s.live q && (nat_le (k + 1) q || not (is_same before s.live q)))
      by (inl below) _ = ap (λ b. contains_key s.live q && (b || not (is_same before s.live q)))
          (lt-leb from q below ∙ sym (lt-leb (k + 1) q (omega (arith, below, low))))
      by (inr past) (inl above) = ap (λ b. contains_key s.live q && (b || not (is_same before s.live q)))
          (le-leb from q past ∙ sym (le-leb (k + 1) q (omega (arith, above))))
      by (inr past) (inr within) = ap (λ b. b && (nat_le from q || not (is_same before s.live q))) (least q past (omega (arith, within, ne)))
          ∙ sym (ap (λ b. b && (nat_le (k + 1) q || not (is_same before s.live q))) (least q past (omega (arith, within, ne))))

  here : (t : HeapState) → t.live ≡ s.live → (q : ℕ) → q ≡ k → contains t.touched k ≡ not (is_same before s.live k)
      → contains t.touched q ≡ (contains_key t.live q && (nat_le (k + 1) q || not (is_same before t.live q)))
  here t lives q e touches =
      ap (contains t.touched) e ∙ touches
      ∙ sym (ap (λ (l : Live). contains_key l q && (nat_le (k + 1) q || not (is_same before l q))) lives
      ∙ ap (λ n. contains_key s.live n && (nat_le (k + 1) n || not (is_same before s.live n))) e
      ∙ ap₂ (λ (a b : Bool). a && (b || not (is_same before s.live k))) has (lt-leb (k + 1) k (omega arith)))

  pub passed_more : (t : HeapState) → t ≡ (if is_same before s.live k then without_touch s k else s) → ArePassed before t (k + 1) × (t.live ≡ s.live)
  passed_more t is = ((λ q. touches q (is_same before s.live k) refl is), lives (is_same before s.live k) is)
    where
      lives : (b : Bool) → t ≡ (if b then without_touch s k else s) → t.live ≡ s.live
      lives true is = ap (λ (x : HeapState). x.live) is
      lives false is = ap (λ (x : HeapState). x.live) is

      touches : (q : ℕ) (b : Bool) → is_same before s.live k ≡ b → t ≡ (if b then without_touch s k else s) → contains t.touched q
          ≡ (contains_key t.live q && (nat_le (k + 1) q || not (is_same before t.live q)))
      touches q true same is =
          elim (cases_eq q k) as (λ _. contains t.touched q ≡ (contains_key t.live q && (nat_le (k + 1) q || not (is_same before t.live q)))) [
            | inl e ↦ here t (ap (λ (x : HeapState). x.live) is) q e (ap (λ (x : HeapState). contains x.touched k) is ∙ contains_remove s.touched k k
                ∙ ap (λ b. not b && contains s.touched k) (eq-eqb k k refl) ∙ sym (ap not same))
            | inr ne ↦ other t (ap (λ (x : HeapState). x.live) is) q ne (ap (λ (x : HeapState). contains x.touched q) is ∙ contains_remove s.touched k q
                ∙ ap (λ b. not b && contains s.touched q) (ne_eqb q k ne))
          ]
      touches q false differs is =
          elim (cases_eq q k) as (λ _. contains t.touched q ≡ (contains_key t.live q && (nat_le (k + 1) q || not (is_same before t.live q)))) [
            | inl e ↦ here t (ap (λ (x : HeapState). x.live) is) q e (ap (λ (x : HeapState). contains x.touched k) is ∙ passed k
                ∙ ap₂ (λ (a b : Bool). a && (b || not (is_same before s.live k))) has (le-leb from k low) ∙ sym (ap not differs))
            | inr ne ↦ other t (ap (λ (x : HeapState). x.live) is) q ne (ap (λ (x : HeapState). contains x.touched q) is)
          ]
