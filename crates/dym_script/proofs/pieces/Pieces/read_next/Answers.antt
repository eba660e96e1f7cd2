use Rattle.std.proofs.Common.{[], sym, append-nil}
use Rattle.dym_script.specs.declared.reader.Ask.{Ask}
use Rattle.dym_script.specs.Readers.{reading_of}
use Rattle.dym_script.proofs.KeepLines.{quickly, ready_quickly, holds_quickly, line_asks}
use Rattle.dym_script.proofs.pieces.Pieces.read_next.Goals as goal

pub ask-requires-clause-ready : goal.ask-requires-clause-ready
ask-requires-clause-ready g c =
    let old = c.args.self.now in
    ready_quickly (g.K.Keeper.keeps old.keeper) old.reader old.commands c.requires.ready

pub returns-in-Some-clause-read : goal.returns-in-Some-clause-read
returns-in-Some-clause-read g c =
    let old = c.args.self.now in
    let new = c.ask.new.self in
    let P = g.K.Keeper.keeps old.keeper in
    let r = old.reader in
    let one : Ask = record { object = c.in-Some.object; asked = c.next_quickly.new.asked } in
    let (line, cut, gives) = c.in-Some.ensures.first in
    line_asks P P (g.K.Keeper.keeps new.keeper) r (quickly r) new.reader one old.commands new.commands c.args.number c.args.text.now
    c.in-Some.rest.now line c.ask.result cut (λ lines. gives (reading_of r lines) [] c.args.number (sym (append-nil r.objects.items)))
    (holds_quickly P r old.commands) c.ask.ensures.rest c.ask.ensures.holds
