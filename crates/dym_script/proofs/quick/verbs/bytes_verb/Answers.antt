use Rattle.std.proofs.Common.{refl}
use Rattle.std.proofs.lemmas.Option.{IfSome_then}
use Rattle.dym_script.specs.declared.verb.Verb.TheVariants as verb
use Rattle.dym_script.specs.Table.{Operand}
use Rattle.dym_script.proofs.Spelled.{demands, spells_end, spells_more}
use Rattle.dym_script.proofs.quick.verbs.bytes_verb.Goals as goal

pub returns-in_ok-bytes-in-Write : goal.returns-in_ok-bytes-in-Write
returns-in_ok-bytes-in-Write c = IfSome_then _ c.after_byte.ensures (λ after h.
    demands verb.Write _ _ _ _ (c.in_ok-h-in-Write.h, (c.in_ok-at-in-Write.at, (c.in_ok-bytes-in-Write.bytes, tt))) c.in_ok-rest-in-Write.ensures
    (spells_more Operand.OneHandle _ _ _ _ _ _ c.in_ok-h-in-Write.ensures
    (spells_more Operand.Num32 _ _ _ _ _ _ c.in_ok-at-in-Write.ensures
    (spells_more Operand.Hex _ _ _ _ _ _ c.in_ok-bytes-in-Write.ensures (spells_end _ _ h)))) refl)

pub returns-in_ok-byte-in-Fill : goal.returns-in_ok-byte-in-Fill
returns-in_ok-byte-in-Fill c = IfSome_then _ c.after_byte-in-Fill.ensures (λ after h.
    demands verb.Fill _ _ _ _ (c.in_ok-h-in-Fill.h, (c.in_ok-at-in-Fill.at, (c.in_ok-len-in-Fill.len, (c.in_ok-byte-in-Fill.byte, tt)))) c.in_ok-rest-in-Fill.ensures
    (spells_more Operand.OneHandle _ _ _ _ _ _ c.in_ok-h-in-Fill.ensures
    (spells_more Operand.Num32 _ _ _ _ _ _ c.in_ok-at-in-Fill.ensures
    (spells_more Operand.Num32 _ _ _ _ _ _ c.in_ok-len-in-Fill.ensures
    (spells_more Operand.Byte _ _ _ _ _ _ c.in_ok-byte-in-Fill.ensures (spells_end _ _ h))))) refl)

pub returns-in_ok-len-in-Read : goal.returns-in_ok-len-in-Read
returns-in_ok-len-in-Read c = IfSome_then _ c.after_byte-in-Read.ensures (λ after h.
    demands verb.Read _ _ _ _ (c.in_ok-h-in-Read.h, (c.in_ok-at-in-Read.at, (c.in_ok-len-in-Read.len, tt))) c.in_ok-rest-in-Read.ensures
    (spells_more Operand.OneHandle _ _ _ _ _ _ c.in_ok-h-in-Read.ensures
    (spells_more Operand.Num32 _ _ _ _ _ _ c.in_ok-at-in-Read.ensures
    (spells_more Operand.ReadLen _ _ _ _ _ _ c.in_ok-len-in-Read.ensures (spells_end _ _ h)))) refl)
