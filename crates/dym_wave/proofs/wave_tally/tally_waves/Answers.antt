use Rattle.std.proofs.Common.{false, arith}
use Rattle.dym_wave.proofs.Counting.{can_count, counted, replied}
use Rattle.dym_wave.proofs.wave_tally.tally_waves.Goals as goal

pub run_all-requires-clause-can : goal.run_all-requires-clause-can
run_all-requires-clause-can g c κs within =
    can_count (record { version = c.args.version; views = false }) c.args.parts.items c.none-sum.result c.none-sum.ensures
    (omega (arith, c.requires.objects, c.args.parts.ok.0)) c.requires.commands

pub returns-in-Ok-clause-counted : goal.returns-in-Ok-clause-counted
returns-in-Ok-clause-counted g c =
    counted (record { version = c.args.version; views = false }) c.args.parts.items c.none-sum.result c.none-sum.ensures c.run_all.new.output c.in-Ok.ensures

pub returns-in-Ok-clause-replies : goal.returns-in-Ok-clause-replies
returns-in-Ok-clause-replies g c =
    replied (record { version = c.args.version; views = false }) c.args.parts.items c.none-sum.result c.none-sum.ensures c.run_all.new.output c.in-Ok.ensures
