-- Each chunk's length is one of its class.
use Rattle.std.proofs.Common.{◌≡◌, ℕ, ◌-◌, ◌/◌, ◌^◌, ◌<◌, ◌≤◌, inl, inr, Some, List, [], length, sym, ap, subst, ◌∙◌, arith}
use Rattle.std.specs.Ordering.{nat_cmp}
use Rattle.std.specs.FinMap.{insert, remove, get-empty}
use Rattle.std.proofs.lemmas.Bool.{cases_eq, cases_lt}
use Rattle.std.proofs.lemmas.Option.{same_Some, none-some}
use Rattle.std.proofs.lemmas.Nat.{le-div, pow_pos}
use Rattle.std.proofs.Math.Pow.{pow_mono}
use Rattle.dym_base.specs.Numbers.{per, number, exponent_of, index_of, cls}
use Rattle.dym_base.specs.Heaps.{Live, HeapState, fresh}
use Rattle.dym_base.specs.HeapStep.{key, heap_step, new_len, held_with_fresh}
use Rattle.dym_base.specs.Objects.{empty_heap}
use Rattle.dym_base.specs.Laws.{IsLengthOf, FitsClass, IsWellSized, ResizesHandle}
use Rattle.dym_base.specs.declared.handle.Handle.{Handle}
use Rattle.dym_base.specs.declared.command.Version.{Version}
use Rattle.dym_base.specs.declared.command.Version.TheVariants.{One, Two}
use Rattle.dym_base.specs.declared.command.Command.{Command}
use Rattle.dym_base.proofs.Classes.{cls_class}
use Rattle.dym_base.proofs.Maps.{get_insert_here, get_insert_apart, get_remove_here, get_remove_apart}
use Rattle.dym_base.proofs.Heaps.{below_fresh, reach_areas, reach_there, areas_held, held_insert}
use Rattle.dym_base.proofs.Steps.{NewLength, heap_step_by}

pub exponent_of_number : (e i : ℕ) → i < 2 ^ 32 → exponent_of (number e i) ≡ e
exponent_of_number e i small = omega arith

pub empty_sized : (v : Version) → IsWellSized v empty_heap.live
empty_sized v k bytes is = absurd (none-some bytes (sym (get-empty nat_cmp k) ∙ is))

pub insert_sized : (v : Version) (live : Live) (k : ℕ) (bytes : List ℕ) → FitsClass v k bytes → IsWellSized v live → IsWellSized v (insert live k bytes)
insert_sized v live k bytes fits each q other is =
    elim (cases_eq q k) as (λ _. FitsClass v q other) [
      | inl same ↦ (let bytes_same : bytes ≡ other = same_Some bytes other (sym (get_insert_here live k bytes q same) ∙ is) in
          subst (λ b. FitsClass v q b) bytes_same (subst (λ x. FitsClass v x bytes) (sym same) fits))
      | inr ne ↦ each q other (sym (get_insert_apart live k bytes q ne) ∙ is)
    ]

pub remove_sized : (v : Version) (live : Live) (k : ℕ) → IsWellSized v live → IsWellSized v (remove live k)
remove_sized v live k each q bytes is =
    elim (cases_eq q k) as (λ _. FitsClass v q bytes) [
      | inl same ↦ absurd (none-some bytes (sym (get_remove_here live k q same) ∙ is))
      | inr ne ↦ each q bytes (sym (get_remove_apart live k q ne) ∙ is)
    ]

-- no more than 2 ^ 11 chunks in an area
most_per : (e : ℕ) → 5 ≤ e → per e ≤ 2 ^ 11
most_per e low = pow_mono {i = 16 - e} {j = 11} (omega arith)

-- within a quota below 2 ^ 21 no index passes 32 bits
pub fresh_small : (live : Live) (quota e : ℕ) → 5 ≤ e → e ≤ 16 → quota < 2 ^ 21 → held_with_fresh live e ≤ quota → fresh live e < 2 ^ 32
fresh_small live quota e low high few fits =
    elim (cases_lt (fresh live e) (2 ^ 32)) as (λ _. fresh live e < 2 ^ 32) [
      | inl small ↦ small
      | inr big ↦ (
          let last = number e (2 ^ 32 - 1) in
          let class : exponent_of last ≡ e = exponent_of_number e (2 ^ 32 - 1) (omega arith) in
          let index : index_of last ≡ 2 ^ 32 - 1 = omega arith in
          let far = reach_areas live e last (below_fresh live e (2 ^ 32 - 1) (omega arith)) in
          let there = reach_there e last class in
          let among = areas_held live e low high in
          let grown = held_insert live (number e (fresh live e)) [] in
          let chunks = most_per e low in
          let some = pow_pos (16 - e) in
          let many : 2 ^ 21 - 1 ≤ index_of last / per e = le-div (2 ^ 21 - 1) (index_of last) (per e) some (omega arith) in
          absurd (omega arith))
    ]

length_of : (v : Version) (e n len : ℕ) → cls n ≡ Some e → len ≡ new_len v e n → IsLengthOf v e len
length_of One e n len class is = is
length_of Two e n len class is = ap cls is ∙ class

-- a new chunk fits its class
pub made_fits : (v : Version) (live : Live) (quota e n : ℕ) (bytes : List ℕ) → quota < 2 ^ 21 → cls n ≡ Some e → length bytes ≡ new_len v e n → held_with_fresh live e ≤ quota → FitsClass v (number e (fresh live e)) bytes
made_fits v live quota e n bytes few class len fits =
    let range = cls_class n e class in
    let index = fresh_small live quota e range.0 range.1 few fits in
    let exponent : exponent_of (number e (fresh live e)) ≡ e = exponent_of_number e (fresh live e) index in
    (omega (arith, range.0), omega (arith, range.1), subst (λ x. IsLengthOf v x (length bytes)) (sym exponent) (length_of v e n (length bytes) class len))

-- a chunk with new bytes still fits its class
pub changed_fits : (v : Version) (c : Command) (h : Handle) (old bytes : List ℕ) → ResizesHandle c → FitsClass v (key h) old → NewLength v c h (length old) (length bytes) → FitsClass v (key h) bytes
changed_fits v c h old bytes resizes fits new =
    elim new as (λ _. FitsClass v (key h) bytes) [
      | inl same ↦ (fits.0, fits.1, subst (λ n. IsLengthOf v (exponent_of (key h)) n) (sym same) fits.2)
      | inr other ↦ (
          let index : h.index < 2 ^ 32 = subst ResizesHandle other.1 resizes in
          let exponent : exponent_of (key h) ≡ h.exp = exponent_of_number h.exp h.index index in
          (fits.0, fits.1, subst (λ w. IsLengthOf w (exponent_of (key h)) (length bytes)) (sym other.0) (other.2 ∙ ap Some (sym exponent))))
    ]

pub step_sized : (v : Version) (quota : ℕ) (s : HeapState) (c : Command) → quota < 2 ^ 21 → ResizesHandle c → IsWellSized v s.live → IsWellSized v (heap_step v quota s c).heap.live
step_sized v quota s c few resizes sized =
    heap_step_by v quota s c (λ answer. IsWellSized v answer.heap.live)
    (λ r. sized)
    (λ k r has. remove_sized v s.live k sized)
    (λ h old bytes r is new. insert_sized v s.live (key h) bytes (changed_fits v c h old bytes resizes (sized (key h) old is) new) sized)
    (λ e n bytes r class len fits. insert_sized v s.live (number e (fresh s.live e)) bytes (made_fits v s.live quota e n bytes few class len fits) sized)
    (λ h e n bytes r has class len fits. remove_sized v (insert s.live (number e (fresh s.live e)) bytes) (key h) (insert_sized v s.live (number e (fresh s.live e)) bytes (made_fits v s.live quota e n bytes few class len fits) sized))
