use Rattle.dym_commands.specs.Requests.{asks}
use Rattle.dym_script.proofs.KeepLines.{below_most, ready_asked}
use Rattle.dym_script.proofs.pieces.Pieces.ask.Goals as goal

pub returns-clause-ready : goal.returns-clause-ready
returns-clause-ready g c =
    let old = c.args.self.now in
    let room = below_most old.commands c.requires.ready.few c.if-self-eq-MOST_COMMANDS.false in
    ready_asked (g.K.Keeper.keeps old.keeper) (g.K.Keeper.keeps c.ask.new.self) old.reader old.commands c.args.object (asks c.args.asked.now)
    c.requires.ready c.requires.within room c.in_ok-ask.ensures
