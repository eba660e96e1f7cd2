use Rattle.std.proofs.Common.{◌*◌, ◌<◌, length, get_or, None, Some, ap, refl, sym, ◌∙◌, arith}
use denote.RawPtr.{block_ptr}
use Rattle.std.proofs.lemmas.List.{length-map, get_or-map}
use Rattle.dym_base.specs.declared.limits.TheConstants.{SEGMENT_BYTES}
use Rattle.dym_quota.specs.Bound.{missing}
use Rattle.dym_quota.proofs.Missing.{none_missing, all_numbered}
use Rattle.dym_quota.proofs.fixed_supply.FixedSupply.open.Goals as goal

pub invariant_of-result : goal.invariant_of-result
invariant_of-result c =
    let region = c.in_ok-region.region.id in
    let segments = c.in_ok-region.segments in
    let one = c.index.result.now in
    let some : 0 < length segments.items = omega (arith, segments.ok.0, c.in_ok-region.ensures.length, c.requires.least) in
    let numbered = all_numbered _ region (12 * c.args.quota) segments.items c.in_ok-region.ensures.numbered in
    let first = numbered 0 one (get_or-map Some segments.items 0 one None some ∙ ap Some (sym c.index.ensures)) in
    record {
      most = c.requires.most;
      whole = c.slots_of.result.ok.0 ∙ ap length c.slots_of.ensures ∙ length-map segments.items _ ∙ sym segments.ok.0 ∙ c.in_ok-region.ensures.length;
      cut = c.in_ok-region.ensures.count;
      empty = c.in_ok-list.ensures.len;
      room = c.in_ok-list.ensures.capacity;
      begins = c.start-start.ensures _ refl ∙ (λ j. block_ptr (first.0 j) (first.1 j * SEGMENT_BYTES));
      numbered = λ i x there. numbered i x (sym (ap (λ xs. get_or xs i None) c.slots_of.ensures) ∙ there);
      counted = ap length (ap (missing region 0) c.slots_of.ensures ∙ none_missing region 0 segments.items);
    }
