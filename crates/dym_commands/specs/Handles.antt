-- Handles that are kept without gaps.
use Rattle.std.specs.Prelude.{Option, None, Some}
use Rattle.std.specs.Int.{w32, from_le_bytes}
use Rattle.dym_base.specs.declared.handle.Handle.{Handle}
use Rattle.dym_commands.specs.declared.packed_handle.PackedHandle.{PackedHandle}

-- the handle, whose index is written in bytes
abbrev pub handle_of : PackedHandle → Handle
handle_of h = record { exp = h.exp; index = from_le_bytes w32 h.index }

-- a handle, or nil
abbrev pub handle_or_nil_of : Option PackedHandle → Option Handle
handle_or_nil_of None = None
handle_or_nil_of (Some h) = Some (handle_of h)
