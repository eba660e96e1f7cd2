use Rattle.std.proofs.Common.{◌+◌, ◌≤◌, length, sym, subst, arith}
use Rattle.dym_base.specs.declared.limits.TheConstants.{MOST_COMMANDS}
use Rattle.dym_script.specs.Keepers.{IsReady, Stands}
use Rattle.dym_script.specs.Parts.{ArePartsOf, KeepsParts}
use Rattle.dym_script.specs.Pieces.{ReadsText}
use Rattle.dym_script.specs.WholeScripts.{StandsAt}
use Rattle.dym_script.proofs.AheadParts.{parts_room}
use Rattle.dym_script.proofs.ReadOn.{goes_long, ahead_within, took_in, keeps_ahead, ready_ahead, text_ahead}
use Rattle.dym_script.proofs.parallel_reader.Pieces+PartCollector.take_ahead.Goals as goal

pub append-requires-clause-room : goal.append-requires-clause-room
append-requires-clause-room c =
    let now = c.args.self.now in
    let decls = now.reader.objects.items in
    let own = c.args.ahead.own.items in
    let (objects, goes, ahead) = c.requires.ahead in
    let (reading, stands) = c.requires.ready.some in
    let few : length own ≤ length decls = omega (arith, goes_long objects decls goes, ahead.lists) in
    let room : length stands.lines + length ahead.asked ≤ MOST_COMMANDS = omega (arith, stands.holds.count, ahead.count, c.requires.ready.few, c.if-lines-self.false) in
    parts_room now.keeper.parts.items decls stands.lines ahead.asked own few ahead.own room stands.holds.keeps

pub read_all-requires-2-clause-ready : goal.read_all-requires-2-clause-ready
read_all-requires-2-clause-ready c =
    let now = c.args.self.now in
    let old = now.keeper.parts.items in
    let new = c.append.new.self.parts.items in
    let (objects, goes, ahead) = c.requires.ahead in
    let room : now.commands + length ahead.asked ≤ MOST_COMMANDS = omega (arith, ahead.count, c.requires.ready.few, c.if-lines-self.false) in
    let within = ahead_within objects now.reader.objects.items ahead.asked goes ahead.ask.within in
    let keeps = keeps_ahead old new objects now.reader c.args.text.now c.args.ahead goes ahead c.in_ok-append.ensures in
    subst (λ n. IsReady (ArePartsOf new) (took_in now.reader n) (now.commands + n)) ahead.count
    (ready_ahead (ArePartsOf old) (ArePartsOf new) now.reader now.commands ahead.asked within room keeps c.requires.ready)

pub returns-clause-read : goal.returns-clause-read
returns-clause-read c =
    let now = c.args.self.now in
    let end = c.read_all-2.new.self in
    let old = now.keeper.parts.items in
    let new = c.append.new.self.parts.items in
    let text = c.args.text.now in
    let rest = c.args.ahead.rest.now in
    let result = c.read_all-2.result in
    let (objects, goes, ahead) = c.requires.ahead in
    let room : now.commands + length ahead.asked ≤ MOST_COMMANDS = omega (arith, ahead.count, c.requires.ready.few, c.if-lines-self.false) in
    let keeps = keeps_ahead old new objects now.reader text c.args.ahead goes ahead c.in_ok-append.ensures in
    let after = StandsAt KeepsParts end in
    text_ahead (ArePartsOf old) (ArePartsOf new) after now.reader now.commands now.number end.number objects ahead.asked text rest result goes ahead.ask room keeps
    (subst (λ n. ReadsText (Stands (ArePartsOf new) (took_in now.reader n) (now.commands + n)) after (now.number + n) end.number rest result) (sym ahead.count)
    c.read_all-2.ensures.read)
