-- What C keeps says the same to every thread, where what is inside does.
use Rattle.std.proofs.Common.{Option, None, Some}
use mir.Raw.{raw as bare}
use base.Fraction.{full_share}
use base.Shift.{Keyless}
use denote.RattleType.{RattleType}
use denote.Builtin.{RawPtr}
use denote.Memory.{lone}
use denote.RawPtr.{Ptr, block_ptr, null_ptr}
use denote.Param.Send.{IsSend, Frees, part_keyless, owning_send, struct_send, sendable}
use denote.Struct.Struct.{exits_of}
use denote.Struct.Owning.{shape, fields, to}
use Rattle.std_alloc.proofs.SendSync.{quiet}
use Rattle.std.proofs.alloc.Global.TheSendSync as global
use Rattle.std.proofs.Crossing.{frees}
use Rattle.dym_c.specs.Ownership.{kept_owns, heap}
use Rattle.dym_c.specs.contracts.object_content.ObjectContent as inside
use Rattle.dym_c.specs.contracts.object.DymObject as kept
use Rattle.dym_c.proofs.heap_copy.HeapCopy.TheSendSync as copy
use Rattle.dym_undo_object.specs.contracts.undo_object.UndoObject as Object
use Rattle.dym_undo_object.proofs.undo_object.UndoObject.TheSendSync as object
use Rattle.dym_quota.specs.contracts.fixed_supply.FixedSupply as fixed
use Rattle.dym_region.specs.contracts.block.Claim as claim
use Rattle.dym_region.specs.contracts.block.Claim.TheInside as claim_fields
use Rattle.dym_region.specs.contracts.region.Region as region
use Rattle.dym_region.specs.contracts.raw_segment.RawSegment as segment
use Rattle.dym_region.proofs.raw_segment.RawSegment.TheSendSync as sent_segment
use Rattle.std_alloc.proofs.vec.lodged.Lodged.TheSendSync as lodged
use Rattle.std_alloc.specs.contracts.vec.lodged.LodgedAllocator.TheImpl.{ghosts as lodged_ghosts}
use Rattle.std.proofs.vec.Vec.TheSendSync as vec

kept_keyless : (R : RattleType) → IsSend R → (p : Ptr) (v : Option R.Denot) → Keyless (kept_owns R p v)
kept_keyless R s null_ptr None = tt
kept_keyless R s null_ptr (Some x) = tt
kept_keyless R s (block_ptr b o) None = tt
kept_keyless R s (block_ptr b o) (Some x) = (part_keyless R s full_share x b o, frees.frees heap (bare (lone R.mir)) (block_ptr b o))

object_send : IsSend inside.the_row → IsSend kept.the_row
object_send s = let O = kept.the_type in let ps : IsSend RawPtr = search sendable in
    owning_send O (ps, tt) (λ d. kept_keyless inside.the_row s d.at d.value) (λ k. quiet (to O) (exits_of k (fields O)) ((struct_send (shape O) (ps, tt)).leaving k))

claim_fields_send : IsSend claim_fields.the_row
claim_fields_send = search (sendable, vec.the_send, global.the_send, frees) depth 20

claim_send : IsSend claim.the_row
claim_send = record { owned = λ a vs. ((λ _. tt), (tt, λ it. (tt, (tt, claim_fields_send.owned it vs)))); leaving = λ k d w. tt }

lodged_frees : Frees lodged_ghosts lodged_ghosts.dealloc_token
lodged_frees = record { frees = λ a τ p. tt }

region_send : IsSend region.the_row
region_send = search (sendable, claim_send, vec.the_send, lodged.the_send, lodged_frees) depth 20

supply_send : IsSend fixed.the_row
supply_send = search (sendable, region_send, sent_segment.the_send, vec.the_send, global.the_send, frees) depth 20

process_send : (Way : RattleType) (a : _) (b : _) → IsSend (Object.the_row fixed.the_row segment.the_row Way a b)
process_send Way a b = object.the_send fixed.the_row segment.the_row Way a b supply_send sent_segment.the_send

inside_send : IsSend inside.the_row
inside_send = search (sendable, process_send, copy.the_send) depth 20

pub object_sent : IsSend kept.the_row
object_sent = object_send inside_send
