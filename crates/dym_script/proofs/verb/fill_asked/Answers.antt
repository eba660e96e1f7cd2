use Rattle.std.proofs.Common.{refl}
use Rattle.dym_script.specs.declared.verb.Verb.TheVariants as verb
use Rattle.dym_script.proofs.Rows.{command_good, both_read, some_read}
use Rattle.dym_script.proofs.verb.fill_asked.Goals as goal

pub returns : goal.returns
returns c = rw c.in_ok-h.ensures (command_good verb.Fill _ (c.in_ok-h-2.h, (c.in_ok-at.at, (c.in_ok-len.len, (c.in_ok-byte.byte, tt)))) refl
    (both_read (some_read _ _ _ c.in_ok-h-2.ensures)
    (both_read (some_read _ _ _ c.in_ok-at.ensures)
    (both_read (some_read _ _ _ c.in_ok-len.ensures) (both_read (some_read _ _ _ c.in_ok-byte.ensures) refl)))))
