-- A line more of replies that are kept.
use Rattle.std.proofs.Common.{◌≡◌, ℕ, ◌+◌, ◌<◌, List, ◌++◌, length, drop, get_or, flat_map, subst}
use Rattle.std.specs.Prelude.{slice_get, IfSome}
use Rattle.std.proofs.lemmas.List.{get_or_default}
use Rattle.std.proofs.lemmas.Option.{slice_get-get_or}
use Rattle.dym_io.specs.Sink.{Output, Leaves, Stopped}
use Rattle.dym_report.proofs.PageLines.{page_more, page_cut}

module _ {X : Type 0} (f : X → List ℕ) (items : List X) (d : X) (i : ℕ) (page text : List ℕ) (a b c : Output) (within : i < length items)
    (so_far : Leaves a b text (page ++ flat_map f (drop i items))) where
  -- what holds of the item at the place
  at_place : (P : X → Type 0) → IfSome (slice_get items i) P → P (get_or items i d)
  at_place P = subst (λ o. IfSome o P) (slice_get-get_or items i d within)

  abbrev is : get_or items i d ≡ get_or items i (get_or items i d)
  is = get_or_default items i d (get_or items i d) within

  pub kept_more : (left : List ℕ) → IfSome (slice_get items i) (λ x. Leaves b c (page ++ f x) left) → Leaves a c text (left ++ flat_map f (drop (i + 1) items))
  kept_more left q = page_more f items i (get_or items i d) page left text a b c within is so_far (at_place (λ x. Leaves b c (page ++ f x) left) q)

  pub kept_cut : IfSome (slice_get items i) (λ x. Stopped b c (page ++ f x)) → Stopped a c text
  kept_cut q = page_cut f items i (get_or items i d) page text a b c within is so_far (at_place (λ x. Stopped b c (page ++ f x)) q)
