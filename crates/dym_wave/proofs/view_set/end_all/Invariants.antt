use Rattle.std.proofs.Common.{vec_len}
use Rattle.dym_wave.proofs.view_set.end_all.Given as goal

abbrev pub decreases-loop-publisher : goal.decreases-loop-publisher
decreases-loop-publisher g l = vec_len l.publishers
