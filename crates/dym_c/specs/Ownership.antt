-- What the struct that C keeps owns.
use Rattle.std.specs.Prelude.{Option, None, Some}
use base.Fml.{Fml, ftrue, ffalse}
use denote.RattleType.{RattleType}
use denote.RawPtr.{Ptr, null_ptr, block_ptr}
use Rattle.std.specs.declared.alloc.Global.{Global}
use Rattle.std.specs.contracts.impls.GlobalAllocator.TheImpl.{ghosts}
use Rattle.std_alloc.specs.Box.Ownership.{box_owns}

-- the C library's heap
abbrev pub heap : Global
heap = record { memory = record { seal = tt } }

-- at null nothing, elsewhere what a box from that heap owns
abbrev pub kept_owns : (R : RattleType) → Ptr → Option R.Denot → Fml
kept_owns R null_ptr None = ftrue
kept_owns R (block_ptr b o) (Some x) = box_owns (ghosts.dealloc_token heap) R (block_ptr b o) x
kept_owns R _ _ = ffalse
