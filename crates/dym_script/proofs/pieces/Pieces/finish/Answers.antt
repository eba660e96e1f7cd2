use Rattle.dym_script.specs.declared.pieces.WholeScript.{WholeScript}
use Rattle.dym_script.specs.Keepers.{IsWhole}
use Rattle.dym_script.specs.WholeScripts.{MayRead, StandsAt}
use Rattle.dym_script.proofs.PiecesRead.{made_all, all_failed}
use Rattle.dym_script.proofs.KeepLines.{whole_told}
use Rattle.dym_script.proofs.pieces.Pieces.finish.Goals as goal

pub returns-in_err-read_all : goal.returns-in_err-read_all
returns-in_err-read_all g c taken took =
    let keeps = g.K.Keeper.keeps in
    let old = c.args.self in
    let new = c.read_all.new.self in
    all_failed (λ (whole : WholeScript g.row.K.Denot). IsWhole (keeps whole.kept) whole.version whole.objects.items whole.commands)
    (MayRead keeps old) (StandsAt keeps old) (StandsAt keeps new) old.number new.number taken c.args.last.now c.from_residual.result c.in_err-read_all.field-0.0
    c.in_err-read_all.ensures.read took c.from_residual.ensures.0 c.from_residual.ensures.1

pub returns : goal.returns
returns g c taken took =
    let keeps = g.K.Keeper.keeps in
    let old = c.args.self in
    let new = c.read_all.new.self in
    made_all (λ (whole : WholeScript g.row.K.Denot). IsWhole (keeps whole.kept) whole.version whole.objects.items whole.commands)
    (MayRead keeps old) (StandsAt keeps old) (StandsAt keeps new) old.number new.number taken c.args.last.now
    (record { version = new.reader.version; objects = new.reader.objects; commands = new.commands; kept = new.keeper }) c.in_ok-read_all.ensures.read took
    (λ now stands. whole_told (keeps new.keeper) new.reader new.commands now stands)
