use Rattle.dym_script.specs.Parts.{KeepsParts}
use Rattle.dym_script.specs.WholeScripts.{MayRead, StandsAt, TookBy}
use Rattle.dym_script.proofs.PiecesRead.{took_piece, piece_failed, piece_long}
use Rattle.dym_script.proofs.parallel_reader.Pieces+PartCollector.take_parallel.Goals as goal

pub returns-in_err-read_lines-clause-took : goal.returns-in_err-read_lines-clause-took
returns-in_err-read_lines-clause-took g c =
    let old = c.args.self.now in
    let new = c.read_lines.new.self in
    piece_failed (MayRead KeepsParts old) (StandsAt KeepsParts old) (StandsAt KeepsParts new) (TookBy KeepsParts new) c.ended_bytes.result old.number new.number
    c.args.text.now c.split_at.result.0.now c.split_at.result.1.now c.from_residual.result c.in_err-read_lines.field-0.0
    c.split_at.ensures.front c.split_at.ensures.back c.ended_bytes.ensures.ended c.in_err-read_lines.ensures.read c.from_residual.ensures.0 c.from_residual.ensures.1

pub returns-then-last-gt-MOST_LINE_BYTES-clause-took : goal.returns-then-last-gt-MOST_LINE_BYTES-clause-took
returns-then-last-gt-MOST_LINE_BYTES-clause-took g c taken more took =
    let old = c.args.self.now in
    let new = c.read_lines.new.self in
    let read = c.in_ok-read_lines.ensures in
    piece_long (MayRead KeepsParts old) (MayRead KeepsParts new) (StandsAt KeepsParts old) (StandsAt KeepsParts new) c.ended_bytes.result old.number new.number
    c.args.text.now c.split_at.result.0.now c.split_at.result.1.now taken more
    c.split_at.ensures.front c.split_at.ensures.back c.ended_bytes.ensures.ended c.ended_bytes.ensures.last
    read.ready read.number read.read took c.if-last-gt-MOST_LINE_BYTES.true

pub returns-clause-took : goal.returns-clause-took
returns-clause-took g c taken took =
    let old = c.args.self.now in
    let new = c.read_lines.new.self in
    let read = c.in_ok-read_lines.ensures in
    took_piece (MayRead KeepsParts old) (MayRead KeepsParts new) (StandsAt KeepsParts old) (StandsAt KeepsParts new) c.ended_bytes.result old.number new.number
    c.args.text.now c.split_at.result.0.now c.split_at.result.1.now taken
    c.split_at.ensures.front c.split_at.ensures.back c.ended_bytes.ensures.ended read.ready read.number read.read took
