use Rattle.dym_late.proofs.Accepts.{opened}
use Rattle.dym_late.proofs.timeline.Timeline.with_log.Goals as goal

pub returns-in-Ok-clause-whole : goal.returns-in-Ok-clause-whole
returns-in-Ok-clause-whole g c =
    let log = c.in-Ok.ensures in
    opened c.args.heap c.args.chain c.take_log.new.heap c.take_log.new.chain c.requires.version c.requires.empty c.requires.applied c.requires.logs c.requires.made
    log.heap log.live log.logs log.made log.sound log.belongs log.idle c.new.result.items c.new-in-Ok.result.items c.new.ensures.items c.new-in-Ok.ensures.items
