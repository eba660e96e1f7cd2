use Rattle.std.proofs.Common.{Some, arith, ap, ◌∙◌}
use Rattle.dym_chain.specs.declared.entry.Entry.{Entry}
use Rattle.dym_wave.proofs.Oldests.{no_time, first_time}
use Rattle.dym_wave.proofs.publication.time_of.Goals as goal

pub returns-then-kept-eq0 : goal.returns-then-kept-eq0
returns-then-kept-eq0 g c = no_time (g.L.KeptLogs.meaning c.args.logs.now).logs (omega (arith, c.if-kept-eq0.true, c.kept.ensures))

pub returns : goal.returns
returns g c =
    ap (λ (e : Entry). Some e.time) c.entry.ensures ∙ first_time (g.L.KeptLogs.meaning c.args.logs.now).logs (omega (arith, c.if-kept-eq0.false, c.kept.ensures))
