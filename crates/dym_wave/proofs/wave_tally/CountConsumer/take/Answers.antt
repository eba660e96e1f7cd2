use Rattle.dym_wave.proofs.Counting.{added}
use Rattle.dym_wave.specs.Results.{origin_shown}
use Rattle.dym_wave.proofs.wave_tally.CountConsumer.take.Goals as goal

pub returns : goal.returns
returns g c = added c.args.sum.now (origin_shown c.args.work.now.origin) c.tally.result c.and-sum.result c.tally.ensures c.requires.can.small c.and-sum.ensures
