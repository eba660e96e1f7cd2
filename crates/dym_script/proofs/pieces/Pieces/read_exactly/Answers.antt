use Rattle.std.proofs.Common.{◌≡◌, ◌∙◌, sym, ap, length, Some, None, rules}
use Rattle.dym_script.specs.declared.reader.Ask.{Ask}
use Rattle.dym_script.specs.Readers.{reading_of, reading, with_ask}
use Rattle.dym_script.proofs.KeepLines.{ready_declared, holds_declared, line_asks, exact_none}
use Rattle.dym_script.proofs.pieces.Pieces.read_exactly.Goals as goal

pub ask-requires-clause-ready : goal.ask-requires-clause-ready
ask-requires-clause-ready g c =
    let old = c.args.self.now in
    let before : c.len-before.result ≡ length old.reader.objects.items = search rules in
    ready_declared (g.K.Keeper.keeps old.keeper) (g.K.Keeper.keeps c.declare_object.new.keeper) old.reader c.read_exactly.new.self old.commands
    c.requires.ready c.in_ok-ask.ensures.kept c.in_ok-ask.ensures.grows
    (λ objects ls len grows keeps. c.in_ok-declare_object.ensures objects ls (len ∙ sym before) grows keeps)

pub returns-in-None-clause-ready : goal.returns-in-None-clause-ready
returns-in-None-clause-ready g c =
    let old = c.args.self.now in
    let before : c.len-before.result ≡ length old.reader.objects.items = search rules in
    ready_declared (g.K.Keeper.keeps old.keeper) (g.K.Keeper.keeps c.declare_object.new.keeper) old.reader c.read_exactly.new.self old.commands
    c.requires.ready c.in_ok-ask.ensures.kept c.in_ok-ask.ensures.grows
    (λ objects ls len grows keeps. c.in_ok-declare_object.ensures objects ls (len ∙ sym before) grows keeps)

pub returns-in-None-clause-read : goal.returns-in-None-clause-read
returns-in-None-clause-read g c =
    let old = c.args.self.now in
    let P = g.K.Keeper.keeps old.keeper in
    let O = g.K.Keeper.keeps c.declare_object.new.keeper in
    let r = old.reader in
    let s = c.read_exactly.new.self in
    let before : c.len-before.result ≡ length r.objects.items = search rules in
    let next = c.in_ok-ask.field-0 in
    let none : next.ask ≡ None = search rules in
    let (line, cut, gives) = c.in_ok-ask.ensures.read in
    exact_none P O r s next.ask old.commands c.args.number c.args.text.now next.rest.now line none cut gives
    (λ lines holds. holds_declared P O r s old.commands lines c.in_ok-ask.ensures.kept c.in_ok-ask.ensures.grows
    (λ objects ls len grows keeps. c.in_ok-declare_object.ensures objects ls (len ∙ sym before) grows keeps) holds)

pub returns-in-Some-clause-read : goal.returns-in-Some-clause-read
returns-in-Some-clause-read g c =
    let old = c.args.self.now in
    let new = c.ask-in-Some.new.self in
    let P = g.K.Keeper.keeps old.keeper in
    let O = g.K.Keeper.keeps c.declare_object.new.keeper in
    let Q = g.K.Keeper.keeps new.keeper in
    let r = old.reader in
    let s = c.read_exactly.new.self in
    let one : Ask = c.in-Some.field-0 in
    let next = c.in_ok-ask.field-0 in
    let some : next.ask ≡ Some one = search rules in
    let before : c.len-before.result ≡ length r.objects.items = search rules in
    let (line, cut, gives) = c.in_ok-ask.ensures.read in
    line_asks P O Q r s new.reader one old.commands new.commands c.args.number c.args.text.now next.rest.now line c.ask-in-Some.result cut
    (λ lines. gives lines ∙ ap (λ a. reading s.begun (with_ask (reading_of s lines).said a)) some)
    (λ lines holds. holds_declared P O r s old.commands lines c.in_ok-ask.ensures.kept c.in_ok-ask.ensures.grows
    (λ objects ls len grows keeps. c.in_ok-declare_object.ensures objects ls (len ∙ sym before) grows keeps) holds)
    c.ask-in-Some.ensures.rest c.ask-in-Some.ensures.holds
