-- The word of each kind of bad input.
use Rattle.std.specs.Prelude.{ℕ, List, codes}
use Rattle.dym_base.specs.declared.bad_kind.BadKind.{BadKind}
use Rattle.dym_base.specs.declared.bad_kind.BadKind.TheVariants.{TooLong, LongLine, Bytes, Command, Number, Handle, Hex, Name, Twice, Undeclared, QuotaRange, Many, Step, File}

abbrev pub text_of : BadKind → List ℕ
text_of TooLong = codes "toolong"
text_of LongLine = codes "longline"
text_of Bytes = codes "bytes"
text_of Command = codes "command"
text_of Number = codes "number"
text_of Handle = codes "handle"
text_of Hex = codes "hex"
text_of Name = codes "name"
text_of Twice = codes "twice"
text_of Undeclared = codes "undeclared"
text_of QuotaRange = codes "quota"
text_of Many = codes "many"
text_of Step = codes "step"
text_of File = codes "file"
