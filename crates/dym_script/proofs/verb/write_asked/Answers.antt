use Rattle.std.proofs.Common.{refl}
use Rattle.dym_script.specs.declared.verb.Verb.TheVariants as verb
use Rattle.dym_script.proofs.Rows.{command_good, both_read, some_read}
use Rattle.dym_script.proofs.verb.write_asked.Goals as goal

pub returns : goal.returns
returns c = rw c.in_ok-h.ensures (command_good verb.Write _ (c.in_ok-h-2.h, (c.in_ok-at.at, (c.in_ok-bytes.bytes, tt))) refl
    (both_read (some_read _ _ _ c.in_ok-h-2.ensures) (both_read (some_read _ _ _ c.in_ok-at.ensures) (both_read (some_read _ _ _ c.in_ok-bytes.ensures) refl))))
