-- Handles as C has them.
use Rattle.std.specs.Prelude.{◌&&◌, nat_le, ◌==◌, if◌then◌else◌, Option, None, Some, option_map}
use Rattle.dym_base.specs.declared.handle.Handle.{Handle}
use Rattle.dym_c.specs.declared.handle.DymHandle.{DymHandle}

abbrev pub nil : DymHandle
nil = record { exp = 0; index = 0 }

-- a chunk's handle goes to C as it is
abbrev pub c_handle : Handle → DymHandle
c_handle h = record { exp = h.exp; index = h.index }

abbrev pub c_handle_or_nil : Option Handle → DymHandle
c_handle_or_nil None = nil
c_handle_or_nil (Some h) = c_handle h

-- the chunk that C names, where the exponent is that of a class
abbrev pub chunk_of : DymHandle → Option Handle
chunk_of h = if nat_le 5 h.exp && nat_le h.exp 16 then Some (record { exp = h.exp; index = h.index }) else None

-- the chunk or nil that C names, where it names either
abbrev pub chunk_or_nil_of : DymHandle → Option (Option Handle)
chunk_or_nil_of h = if h.exp == 0 && h.index == 0 then Some None else option_map Some (chunk_of h)
