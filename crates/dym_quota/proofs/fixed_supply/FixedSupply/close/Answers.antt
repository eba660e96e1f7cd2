use Rattle.std.proofs.Common.{◌≡◌, List, map, length, get_or, None, Some, sym, ap, subst, ◌∙◌}
use Rattle.std.proofs.lemmas.List.{length-map}
use Rattle.std.proofs.lemmas.List.Sorted.{IsPermutation-refl}
use Rattle.std.specs.List.Sorted.{IsPermutation}
use Rattle.dym_region.specs.Identity.{ids_of}
use Rattle.dym_region.specs.declared.raw_segment.RawSegment.{RawSegment}
use Rattle.dym_quota.proofs.Missing.{all_present, ids_present}
use Rattle.dym_quota.proofs.fixed_supply.FixedSupply.close.Goals as goal

pub close-requires : goal.close-requires
close-requires c =
    let s = c.args.self in
    let list : List RawSegment = c.segments_of.result.items in
    let all : map Some list ≡ s.segments.items = ap (map Some) c.segments_of.ensures ∙ all_present s.region.id 0 s.segments.items c.requires.nothing_held in
    let long : length list ≡ s.region.count = sym (length-map list Some) ∙ ap length all ∙ sym s.segments.ok.0 ∙ s.whole ∙ sym s.cut in
    let are = ids_present _ s.region.id s.region.count list long (λ i x there. s.numbered i x (ap (λ xs. get_or xs i None) (sym all) ∙ there)) in
    subst (IsPermutation (ids_of s.region.id s.region.count)) (sym are) (IsPermutation-refl (ids_of s.region.id s.region.count))
