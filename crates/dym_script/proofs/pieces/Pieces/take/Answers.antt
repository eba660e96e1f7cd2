use Rattle.dym_script.specs.WholeScripts.{MayRead, StandsAt, TookBy}
use Rattle.dym_script.proofs.PiecesRead.{took_piece, piece_failed, piece_long}
use Rattle.dym_script.proofs.pieces.Pieces.take.Goals as goal

pub returns-in_err-read_all-clause-took : goal.returns-in_err-read_all-clause-took
returns-in_err-read_all-clause-took g c =
    let keeps = g.K.Keeper.keeps in
    let old = c.args.self.now in
    let new = c.read_all.new.self in
    piece_failed (MayRead keeps old) (StandsAt keeps old) (StandsAt keeps new) (TookBy keeps new) c.ended_bytes.result old.number new.number
    c.args.text.now c.split_at.result.0.now c.split_at.result.1.now c.from_residual.result c.in_err-read_all.field-0.0
    c.split_at.ensures.front c.split_at.ensures.back c.ended_bytes.ensures.ended c.in_err-read_all.ensures.read c.from_residual.ensures.0 c.from_residual.ensures.1

pub returns-then-last-gt-MOST_LINE_BYTES-clause-took : goal.returns-then-last-gt-MOST_LINE_BYTES-clause-took
returns-then-last-gt-MOST_LINE_BYTES-clause-took g c taken more took =
    let keeps = g.K.Keeper.keeps in
    let old = c.args.self.now in
    let new = c.read_all.new.self in
    let read = c.in_ok-read_all.ensures in
    piece_long (MayRead keeps old) (MayRead keeps new) (StandsAt keeps old) (StandsAt keeps new) c.ended_bytes.result old.number new.number
    c.args.text.now c.split_at.result.0.now c.split_at.result.1.now taken more
    c.split_at.ensures.front c.split_at.ensures.back c.ended_bytes.ensures.ended c.ended_bytes.ensures.last
    read.ready read.number read.read took c.if-last-gt-MOST_LINE_BYTES.true

pub returns-clause-took : goal.returns-clause-took
returns-clause-took g c taken took =
    let keeps = g.K.Keeper.keeps in
    let old = c.args.self.now in
    let new = c.read_all.new.self in
    let read = c.in_ok-read_all.ensures in
    took_piece (MayRead keeps old) (MayRead keeps new) (StandsAt keeps old) (StandsAt keeps new) c.ended_bytes.result old.number new.number
    c.args.text.now c.split_at.result.0.now c.split_at.result.1.now taken
    c.split_at.ensures.front c.split_at.ensures.back c.ended_bytes.ensures.ended read.ready read.number read.read took
