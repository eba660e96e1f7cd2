-- What logs stand for: a full log alone for its copy, and no logs for two maps.
use Rattle.std.proofs.Common.{◌≡◌, ℕ, false, cond, is_some, ⊎_elim, Option, Some, None, List, [], ◌∷◌, refl, sym, ap, ◌∙◌}
use Rattle.std.specs.Cmp.{nat_cmp_total}
use Rattle.std.specs.FinMap.{get, contains_key, same_map, nat_cmp-IsAntisymmetric}
use Rattle.std.proofs.lemmas.Bool.{cases_Bool, cond-true}
use Rattle.dym_base.specs.Heaps.{Live}
use Rattle.dym_base.specs.Packed.{Logged, packs_by}
use Rattle.dym_base.specs.StandsFor.{UsesLast, LogsStandFor}
use Rattle.dym_base.specs.declared.command.Kind.TheVariants.{Full}

pub full_stands_alone : (log : Logged) → log.kind ≡ Full → LogsStandFor (log ∷ []) log.copy
full_stands_alone log full = record {
  chain = (full, tt);
  handles = λ k. refl;
  bytes = λ k has. ap (λ kind. cond (packs_by kind log.copy log.found k) (get log.copy k) None) full ∙ cond-true (contains_key log.copy k) (get log.copy k) None has;
}

uses_same : (logs : List Logged) (a b : Live) → UsesLast logs a → UsesLast logs b → (k : ℕ) → contains_key a k ≡ contains_key b k
uses_same [] a b ua ub k = absurd ua
uses_same (log ∷ []) a b ua ub k = ua k ∙ sym (ub k)
uses_same (log ∷ next ∷ logs) a b ua ub k = uses_same (next ∷ logs) a b ua ub k

none_got : (x y : Option (List ℕ)) → is_some x ≡ false → is_some x ≡ is_some y → x ≡ y
none_got None None gone same = refl
none_got None (Some b) gone same = search
none_got (Some a) y gone same = search

pub stand_for_one : (logs : List Logged) (a b : Live) → LogsStandFor logs a → LogsStandFor logs b → a ≡ b
stand_for_one logs a b sa sb =
    let same : (k : ℕ) → contains_key a k ≡ contains_key b k = uses_same logs a b sa.handles sb.handles in
    same_map nat_cmp_total nat_cmp-IsAntisymmetric a b (λ k.
    ⊎_elim
    (λ has. sym (sa.bytes k has) ∙ sb.bytes k (sym (same k) ∙ has))
    (λ gone. none_got (get a k) (get b k) gone (same k))
    (cases_Bool (contains_key a k)))
