use Rattle.dym_script.proofs.SpelledLines.{some_line}
use Rattle.dym_script.proofs.reader.Reader.read_exactly.Goals as goal

pub unreachable-requires : goal.unreachable-requires
unreachable-requires c = some_line c.args.text.now c.requires.some c.in_default.ensures.cut
