-- Handles as text.
use Rattle.std.specs.Prelude.{ℕ, nat_le, if◌then◌else◌, List, ◌++◌, codes, decimal}
use Rattle.dym_base.specs.Numbers.{size}
use Rattle.dym_base.specs.declared.handle.Handle.{Handle}

-- the bytes of a chunk of class e. An exponent above those of all classes, which no live chunk has, stands for 0
abbrev pub size_of : ℕ → ℕ
size_of e = if nat_le e 16 then size e else 0

-- SIZE:INDEX
abbrev pub handle_text : Handle → List ℕ
handle_text h = decimal (size_of h.exp) ++ codes ":" ++ decimal h.index
