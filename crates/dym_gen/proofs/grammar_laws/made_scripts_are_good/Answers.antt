use Rattle.dym_gen.proofs.GoodScripts.{made_good}
use Rattle.dym_gen.proofs.grammar_laws.made_scripts_are_good.Goals as goal

pub returns : goal.returns
returns c = made_good c.lines_are_short.ensures c.scripts_are_short.ensures
