use Rattle.std.proofs.Common.{refl, arith}
use Rattle.dym_script.specs.Keepers.{Stands}
use Rattle.dym_script.specs.Scripts.{start}
use Rattle.dym_script.proofs.PiecesRead.{ended_nothing}
use Rattle.dym_script.proofs.KeepLines.{stands_start}
use Rattle.dym_script.proofs.pieces.Pieces.new.Goals as goal

pub returns : goal.returns
returns g c =
    let P = g.K.Keeper.keeps c.new-2.result in
    let stands : Stands P c.new.result 0 start = stands_start P c.new.result c.new.ensures.kept c.new.ensures.reading_of c.new-2.ensures in
    record {
      fit = record { kept = c.new.ensures.kept; few = grind arith; some = (start, stands) };
      ended = ended_nothing;
      short = omega arith;
      now = start;
      stands = stands;
      read = λ others. refl;
    }
