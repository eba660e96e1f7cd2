use Rattle.std.proofs.Common.{rules}
use Rattle.dym_prune.proofs.Moves.{begins, splits}
use Rattle.dym_prune.proofs.stop.Stop.open.Goals as goal

pub of_words-requires : goal.of_words-requires
of_words-requires c = begins (Unit {0})

pub split_seat-ear-requires : goal.split_seat-ear-requires
split_seat-ear-requires c = (search rules, search rules, splits _ _ (search rules))
