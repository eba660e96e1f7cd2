-- A record tells its log.
use Rattle.std.proofs.Common.{◌≡◌, ℕ, ◌<◌, true, is_some, Some, None, unwrap_or, [], sym, ap, ◌∙◌, arith, inl, inr}
use Rattle.std.specs.FinMap.{get, contains_key}
use Rattle.std.proofs.lemmas.Bool.{true≢false, cases_Bool, cond-true, cond-false}
use Rattle.std.proofs.lemmas.List.Elements.{All-from_recursion}
use Rattle.dym_base.specs.Numbers.{per}
use Rattle.dym_base.specs.Heaps.{Live, held}
use Rattle.dym_base.specs.Packed.{Logged}
use Rattle.dym_base.specs.StandsFor.{packed_by}
use Rattle.dym_pack.specs.Areas.{AreaName, area_list, area_at, IsPackable}
use Rattle.dym_pack.specs.Laws.{RecordTellsLog}
use Rattle.dym_pack.proofs.Chunks.{parts, packable}
use Rattle.dym_pack.proofs.Named.{named, length_areas}
use Rattle.dym_pack.proofs.Unique.{num, packs_of, packs_has, SameArea, alike}

get_same : (m n : Live) (q : ℕ) → contains_key m q ≡ true → contains_key n q ≡ true → unwrap_or (get m q) [] ≡ unwrap_or (get n q) [] → get m q ≡ get n q
get_same m n q here there same =
    elim (get m q) as (λ o. is_some o ≡ true → unwrap_or o [] ≡ unwrap_or (get n q) [] → o ≡ get n q) [
      | Some x ↦ λ has alike. elim (get n q) as (λ o. is_some o ≡ true → x ≡ unwrap_or o [] → Some x ≡ o) [
        | Some y ↦ λ also equal. ap Some equal
        | None ↦ λ also equal. absurd (true≢false (sym also))
      ] there alike
      | None ↦ λ has alike. absurd (true≢false (sym has))
    ] here same

pub packed_same : (a b : Logged) → IsPackable (parts a) → IsPackable (parts b) → (x : AreaName) → SameArea a b x → (i : ℕ) → i < per x.exponent → packed_by a (num x i) ≡ packed_by b (num x i)
packed_same a b ok also x is i inside =
    elim (cases_Bool (packs_of a x i)) [
      | inl packs ↦ (
          let too = sym (is.packs i inside) ∙ packs in
          cond-true (packs_of a x i) _ _ packs
          ∙ get_same a.copy b.copy (num x i) (packs_has a ok (num x i) packs) (packs_has b also (num x i) too) (is.bytes i inside packs)
          ∙ sym (cond-true (packs_of b x i) _ _ too))
      | inr none ↦ cond-false (packs_of a x i) _ _ none ∙ sym (cond-false (packs_of b x i) _ _ (sym (is.packs i inside) ∙ none))
    ]

pub record_tells : RecordTellsLog
record_tells a b ok also same =
    let is = alike a b ok also same in
    let each : (k : ℕ) → k < held a.copy → SameArea a b (area_at a.copy k)
    = λ k within. All-from_recursion (SameArea a b) (area_list a.copy) is.each k (named 5 0) (omega (arith, length_areas a.copy)) in
    record {
      version = is.version;
      kind = is.kind;
      time = is.time;
      areas = is.names;
      handles = λ k i within inside. (each k within).used i inside;
      chunks = λ k i within inside. packed_same a b (packable a ok) (packable b also) (area_at a.copy k) (each k within) i inside;
    }
