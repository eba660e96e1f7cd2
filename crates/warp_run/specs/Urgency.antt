-- How urgent an event is beside another: the more so the earlier it is in the order of keys. A total order, since keys are in one.
use Rattle.std.specs.Prelude.{◌≡◌, ℕ, Bool, true, false, List}
use Rattle.std.proofs.Common.{refl, ap, ◌∙◌, inl, inr}
use Rattle.std.proofs.lemmas.Bool.{cases_Bool}
use Rattle.std.specs.declared.cmp.Ordering.{Ordering}
use Rattle.std.specs.declared.cmp.Ordering.TheVariants.{Less, Equal, Greater}
use Rattle.std.specs.Cmp.{IsTotalOrder, both_ways}
use Rattle.std.specs.Ordering.{ordering_reverse}
use Rattle.warp_base.specs.declared.event.Event.{Event}
use Rattle.warp_base.specs.Events.{precedes}
use Rattle.warp_base.proofs.Orders.{precedes_total, precedes_trans}

-- the order of two elements, by whether the first is at or before the second, and the second at or before the first
abbrev pub order_of : Bool → Bool → Ordering
order_of true true = Equal
order_of true false = Greater
order_of false back = Less

abbrev pub urgency : {P : Type 0} → (P → List ℕ) → Event P → Event P → Ordering
urgency words a b = order_of (precedes words a b) (precedes words b a)

turned : (first back : Bool) → (first ≡ false → back ≡ true) → order_of first back ≡ ordering_reverse (order_of back first)
turned true true h = refl
turned true false h = refl
turned false true h = refl
turned false false h = let no : false ≡ true = h refl in cc

pub less_means : (first back : Bool) → order_of first back ≡ Less → first ≡ false
less_means true true h = cc
less_means true false h = cc
less_means false back h = refl

equal_means : (first back : Bool) → order_of first back ≡ Equal → (first ≡ true) × (back ≡ true)
equal_means true true h = (refl, refl)
equal_means true false h = let no : Greater ≡ Equal = h in absurd cc
equal_means false back h = let no : Less ≡ Equal = h in absurd cc

module _ {P : Type 0} (words : P → List ℕ) where
  below : (x y z : Event P) → precedes words x y ≡ false → precedes words y z ≡ false → precedes words x z ≡ false
  below x y z h g =
      elim (cases_Bool (precedes words x z)) [
        | inr fails ↦ fails
        | inl holds ↦ (let no = precedes_trans words x z y holds (precedes_total words y z g) in cc)
      ]

  pub urgency-total : IsTotalOrder (urgency words)
  urgency-total = record {
    antisymm = λ x y. turned (precedes words x y) (precedes words y x) (precedes_total words x y);
    trans = λ x y z h g.
        let xy = less_means (precedes words x y) (precedes words y x) h in
        let yz = less_means (precedes words y z) (precedes words z y) g in
        ap (λ t. order_of t (precedes words z x)) (below x y z xy yz);
    congr = λ x y z h.
        let same = equal_means (precedes words x y) (precedes words y x) h in
        let first = both_ways (precedes words x z) (precedes words y z) (precedes_trans words y x z same.1) (precedes_trans words x y z same.0) in
        let back = both_ways (precedes words z x) (precedes words z y) (λ t. precedes_trans words z x y t same.0) (λ t. precedes_trans words z y x t same.1) in
        ap (λ t. order_of t (precedes words z x)) first ∙ ap (λ t. order_of (precedes words y z) t) back;
  }

  -- the same of what holds an event each
  pub urgency_of-total : {X : Type 0} (event : X → Event P) → IsTotalOrder (λ x y. urgency words (event x) (event y))
  urgency_of-total event =
      let total = urgency-total in
      record {
        antisymm = λ x y. total.antisymm (event x) (event y);
        trans = λ x y z. total.trans (event x) (event y) (event z);
        congr = λ x y z. total.congr (event x) (event y) (event z);
      }
