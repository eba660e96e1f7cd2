use Rattle.dym_wave.proofs.Tables.{promised}
use Rattle.dym_wave.proofs.wave.run_wave.Goals as goal

pub returns-clause-wave : goal.returns-clause-wave
returns-clause-wave g c =
    promised (λ w. w.0.items) (λ w. w.1.items) (λ w. w.2) c.args.works.items c.args.sweepers.items c.run_with_sweepers.result
    c.run_with_sweepers.ensures.back c.run_with_sweepers.ensures.swept c.requires.tables
