use Rattle.dym_script.proofs.SpelledLines.{next_asked}
use Rattle.dym_script.proofs.reader.Reader.next_quickly.Goals as goal

pub returns : goal.returns
returns c =
    next_asked c.args.self.now _ _ _ _ _ c.in_ok-name.ensures c.in_ok-object.ensures.name c.in_ok-object.ensures.value c.in_ok-object.ensures.within
    c.in_ok-rest.ensures c.if-text-rest.false
