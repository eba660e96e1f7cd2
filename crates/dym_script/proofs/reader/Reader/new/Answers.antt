use Rattle.dym_script.proofs.KeptReader.{kept_start}
use Rattle.dym_script.proofs.reader.Reader.new.Goals as goal

pub returns-clause-kept : goal.returns-clause-kept
returns-clause-kept c = kept_start _ c.new-2.ensures.empty c.new.ensures.items
