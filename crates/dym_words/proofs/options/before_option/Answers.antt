-- The first option's place is the number of words before it.
use Rattle.std.proofs.Common.{sym}
use Rattle.dym_words.proofs.Texts.{take_while_none, take_while_some}
use Rattle.dym_words.proofs.options.before_option.Goals as goal

pub returns-in-None : goal.returns-in-None
returns-in-None c = take_while_none _ c.args.words.now (sym c.in-None.ensures)

pub returns-in-Some : goal.returns-in-Some
returns-in-Some c = take_while_some _ c.args.words.now _ (sym c.in-Some.ensures)
