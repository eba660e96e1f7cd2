use Rattle.dym_script.specs.Parts.{KeepsParts}
use Rattle.dym_script.specs.WholeScripts.{StandsAt}
use Rattle.dym_script.proofs.PiecesRead.{front_then}
use Rattle.dym_script.proofs.parallel_reader.Pieces+PartCollector.read_lines.Goals as goal

pub returns-clause-read : goal.returns-clause-read
returns-clause-read g c =
    let old = c.args.self.now in
    let mid = c.read_front.new.self in
    let new = c.take_all.new.self in
    front_then (StandsAt KeepsParts old) (StandsAt KeepsParts mid) (StandsAt KeepsParts new)
    old.number mid.number new.number _ _ _ c.take_all.result c.in_ok-parts.ensures.lines c.in_ok-rest.ensures.read c.take_all.ensures.read
