use Rattle.dym_base.specs.Numbers.{per}
use Rattle.dym_area.proofs.Rooms.{IsBegun}
use Rattle.dym_area.proofs.summary.summary_of.Given as goal

abbrev pub invariant-loop-q : goal.invariant-loop-q
invariant-loop-q l = IsBegun l.used (per l.class.exp) l.room l.q
