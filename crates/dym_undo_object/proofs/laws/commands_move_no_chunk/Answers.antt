use Rattle.std.proofs.Common.{ap}
use Rattle.std.specs.Prelude.{option_map}
use denote.RawPtr.{block_ptr}
use Rattle.dym_heap.specs.Addresses.{chunk_offset, region_of}
use Rattle.dym_heap.specs.Meaning.{HeapMeaning}
use Rattle.dym_undo_object.specs.Addresses.{address_of}
use Rattle.dym_undo_object.proofs.laws.commands_move_no_chunk.Goals as goal

pub returns-clause-told : goal.returns-clause-told
returns-clause-told c old new h origin quota =
    (λ j. option_map (λ region. block_ptr region (chunk_offset (quota j) h)) (region_of (origin j)))

pub returns-clause-kept : goal.returns-clause-kept
returns-clause-kept c old new command h step = ap (λ (heap : HeapMeaning). address_of heap h) step.heap
