use Rattle.dym_chain.specs.Keeps.{bytes_of}
use Rattle.dym_chain.proofs.chain.Chain.adopt.Given as goal

abbrev pub ghost-read : goal.ghost-read
ghost-read g a = record { first = a.first; records = bytes_of (g.K.LogKeep.meaning a.keep.now).records }
