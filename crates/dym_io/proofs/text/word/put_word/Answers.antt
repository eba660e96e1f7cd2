use Rattle.std.proofs.Common.{arith}
use Rattle.dym_io.proofs.Fronts.{shorter_text}
use Rattle.dym_io.proofs.text.word.put_word.Goals as goal

pub returns-clause-text : goal.returns-clause-text
returns-clause-text c =
    shorter_text c.args.buffer.now c.put_text.new.buffer c.args.word.bytes c.args.end c.args.word.len (omega arith) (omega arith) (rw c.put_text.ensures.end at c.put_text.ensures.text)
