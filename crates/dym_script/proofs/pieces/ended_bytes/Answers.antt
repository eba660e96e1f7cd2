use Rattle.dym_script.proofs.PiecesRead.{ended_before}
use Rattle.dym_script.proofs.pieces.ended_bytes.Goals as goal

pub returns-in-Some-clause-ended : goal.returns-in-Some-clause-ended
returns-in-Some-clause-ended c = ended_before c.args.text.now c.in-Some.end c.in-Some.ensures.0.high c.in-Some.ensures.1
