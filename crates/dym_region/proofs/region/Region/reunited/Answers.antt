use Rattle.std.proofs.Common.{◌≡◌, ℕ, ◌+◌, ◌*◌, length, sym, ap, ◌∙◌, arith, rules, vec_len}
use Rattle.std.proofs.lemmas.List.{length-map}
use Rattle.std.proofs.lemmas.List.Sorted.{IsNonDecreasingBy-from_sort_by_key}
use denote.RawPtr.{block_ptr}
use Rattle.dym_base.specs.declared.limits.TheConstants.{SEGMENT_BYTES}
use Rattle.dym_region.specs.Identity.{ids_of}
use Rattle.dym_region.specs.declared.raw_segment.RawSegment.{RawSegment}
use Rattle.dym_region.specs.contracts.raw_segment.RawSegmentSegment.TheImpl.{ghosts}
use Rattle.dym_region.proofs.Cutting.{lies_behind, size_back}
use Rattle.dym_region.proofs.Numbering.{id_at, length-ids_of, numbered_pop, numbered_sort}
use Rattle.dym_region.proofs.region.Region.reunited.Goals as goal

pub loop-segment-init : goal.loop-segment-init
loop-segment-init c =
    let region = c.args.self.id in
    let n = c.args.self.count in
    let sorted = c.sort_unstable_by_key.new.self in
    let rises = IsNonDecreasingBy-from_sort_by_key (λ s. s.number) sorted.items c.sort_unstable_by_key.ensures.sorted (λ a r q k. search rules) in
    let numbered = numbered_sort ghosts.id region n c.args.segments.items sorted.items c.requires c.sort_unstable_by_key.ensures.permutation rises in
    let count : vec_len sorted ≡ n = sorted.ok.0 ∙ sym (length-map sorted.items ghosts.id) ∙ ap length numbered ∙ length-ids_of region n in
    record {
      numbered = numbered ∙ ap (ids_of region) (sym count);
      most = omega (arith, count);
      rest_place = c.self.invariant.3 ∙ ap (λ v. block_ptr v.id (v.count * SEGMENT_BYTES)) c.self.view_is ∙ ap (λ m. block_ptr region (m * SEGMENT_BYTES)) (sym count);
      rest_size = omega (arith, c.self.invariant.2, ap (λ m. m * SEGMENT_BYTES) count);
    }

-- where the last segment lies, by its identity
place_of : (s : RawSegment) (region k : ℕ) → ghosts.id s ≡ id_at region k → s.bytes.ptr ≡ block_ptr region (k * SEGMENT_BYTES)
place_of s region k is = s.placed ∙ ap (λ x. block_ptr x.region (x.number * SEGMENT_BYTES)) is

pub join-rest-requires-clause-side_by_side : goal.join-rest-requires-clause-side_by_side
join-rest-requires-clause-side_by_side c =
    let region = c.args.self.id in
    let s = c.in-Some.segment in
    let k = vec_len c.pop.new.self in
    let n = vec_len c.loop-segment.segments in
    let next : k + 1 ≡ n = omega (arith, c.in-Some.ensures.len) in
    let last = numbered_pop ghosts.id _ _ s region n k c.loop-segment.invariant.numbered c.in-Some.ensures.items next in
    lies_behind c.into_bytes.result.ptr _ region k n SEGMENT_BYTES c.into_bytes.result.cap
    (ap (λ v. v.ptr) c.into_bytes.ensures ∙ place_of s region k last.1) c.loop-segment.invariant.rest_place next (ap (λ v. v.cap) c.into_bytes.ensures ∙ s.room)

pub loop-segment-preserved : goal.loop-segment-preserved
loop-segment-preserved c =
    let region = c.args.self.id in
    let before = c.loop-segment.invariant in
    let s = c.in-Some.segment in
    let k = vec_len c.pop.new.self in
    let n = vec_len c.loop-segment.segments in
    let next : k + 1 ≡ n = omega (arith, c.in-Some.ensures.len) in
    let last = numbered_pop ghosts.id _ _ s region n k before.numbered c.in-Some.ensures.items next in
    let bytes = c.into_bytes.result in
    record {
      numbered = last.0;
      most = omega (arith, before.most, next);
      rest_place = c.join-rest.ensures.place ∙ ap (λ v. v.ptr) c.into_bytes.ensures ∙ place_of s region k last.1;
      rest_size = size_back bytes.cap c.loop-segment.rest.cap _ k n SEGMENT_BYTES (c.args.self.count * SEGMENT_BYTES) c.join-rest.ensures.room (ap (λ v. v.cap) c.into_bytes.ensures ∙ s.room) before.rest_size next;
    }
