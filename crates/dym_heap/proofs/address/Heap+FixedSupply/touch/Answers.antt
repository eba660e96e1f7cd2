use Rattle.dym_heap.proofs.Addresses.{segment_in_block, address_is}
use Rattle.dym_heap.proofs.HandleSteps.{wrote}
use Rattle.dym_heap.proofs.Ranges.{touched_now}
use Rattle.dym_heap.proofs.Tidy.{sound_of}
use Rattle.dym_heap.proofs.address.Heap+FixedSupply.touch.Goals as goal

pub chunk_within-requires : goal.chunk_within-requires
chunk_within-requires c = segment_in_block c.self.inside.shelf c.self.view_is c.args.h c.touch-segment.result c.start.ensures.region c.touch-segment.ensures.start

pub invariant_of-self : goal.invariant_of-self
invariant_of-self c = (wrote (λ bytes. bytes) c.self.invariant c.touch-segment.ensures.valid_shelf c.touch-segment.ensures.touched).tidy

pub returns : goal.returns
returns c =
    let w = wrote (λ bytes. bytes) c.self.invariant c.touch-segment.ensures.valid_shelf c.touch-segment.ensures.touched in
    record {
      place = address_is c.self.inside.shelf c.self.view_is c.args.h c.touch-segment.result c.start.ensures.region c.touch-segment.ensures.start
          c.chunk_within.result c.chunk_within.ensures;
      touched = touched_now c.self.view_is w;
      sound = sound_of c.self.inside.applied w.tidy;
    }
