use Rattle.std.proofs.Common.{◌≡◌, ◌+◌, sym, ap, ◌∙◌, replicate, subst, map}
use denote.RawPtr.{block_of}
use Rattle.dym_base.specs.declared.limits.TheConstants.{SEGMENT_BYTES}
use Rattle.std.proofs.lemmas.List.Elements.{All-push, All-same}
use Rattle.dym_region.specs.Identity.{AreDistinct}
use Rattle.dym_region.specs.contracts.raw_segment.RawSegmentSegment.TheImpl.{ghosts}
use Rattle.dym_region.proofs.Cutting.{left_enough, left_behind, placed, next_place}
use Rattle.dym_region.proofs.Numbering.{numbered_push, ids_of-distinct, id_at}
use Rattle.dym_region.proofs.Zeros.{none_used}
use Rattle.dym_region.proofs.region.Region.new.Goals as goal

pub split-bytes-requires : goal.split-bytes-requires
split-bytes-requires c = left_enough c.loop-number.rest.cap c.args.count c.loop-number.number SEGMENT_BYTES c.loop-number-test.true c.loop-number.invariant.rest_room

pub invariant_of-push_reserved : goal.invariant_of-push_reserved
invariant_of-push_reserved c = record {
  room = c.split-bytes.ensures.front_room;
  placed = placed c.split-bytes.result.0.ptr _ _ (c.split-bytes.ensures.front_place ∙ c.loop-number.invariant.rest_place);
}

pub loop-number-preserved : goal.loop-number-preserved
loop-number-preserved c =
    let n = c.args.count in
    let k = c.loop-number.number in
    let before = c.loop-number.invariant in
    let pushed = c.push_reserved.ensures in
    let below = c.loop-number-test.true in
    record {
      length = pushed.len ∙ ap (λ m. m + 1) before.length;
      room = pushed.capacity ∙ before.room;
      numbered = ap (map ghosts.id) pushed.items ∙ numbered_push ghosts.id c.loop-number.segments.items _ c.take_out-rest.result.1.block k before.numbered
          (ap (λ b. id_at b k) (ap block_of (c.split-bytes.ensures.front_place ∙ before.rest_place)));
      zero = All-same (λ s. ghosts.content s ≡ replicate SEGMENT_BYTES 0) _ _ pushed.items
          (All-push (λ s. ghosts.content s ≡ replicate SEGMENT_BYTES 0) _ _ before.zero (none_used _ SEGMENT_BYTES c.split-bytes.result.0.items c.split-bytes.ensures.front c.split-bytes.ensures.front_room));
      rest_room = left_behind c.loop-number.rest.cap _ n k SEGMENT_BYTES below before.rest_room c.split-bytes.ensures.back_room;
      rest_place = next_place c.loop-number.rest.ptr _ _ k SEGMENT_BYTES before.rest_place c.split-bytes.ensures.back_place;
    }

pub returns-clause-distinct : goal.returns-clause-distinct
returns-clause-distinct c = subst AreDistinct (sym c.loop-number.invariant.numbered) (ids_of-distinct c.take_out-rest.result.1.block c.loop-number.number)
