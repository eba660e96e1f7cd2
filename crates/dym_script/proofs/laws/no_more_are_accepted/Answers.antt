use Rattle.dym_script.proofs.LateLines as lemma
use Rattle.dym_script.proofs.laws.no_more_are_accepted.Goals as goal

pub returns : goal.returns
returns c = lemma.no_more_are_accepted
