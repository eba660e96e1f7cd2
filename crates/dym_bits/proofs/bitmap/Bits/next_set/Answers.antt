use Rattle.std.proofs.Common.{arith}
use Rattle.dym_bits.proofs.UsedWords.{clear_past_used}
use Rattle.dym_bits.proofs.bitmap.Bits.next_set.Goals as goal

pub next_set_in-requires-clause-clear : goal.next_set_in-requires-clause-clear
next_set_in-requires-clause-clear c k past = clear_past_used c.self.inside.words c.self.inside.used_words k c.self.invariant.1 (omega arith)
