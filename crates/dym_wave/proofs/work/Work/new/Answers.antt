use Rattle.std.proofs.Common.{false, arith}
use Rattle.dym_wave.proofs.WorkStates.{fresh_can_end}
use Rattle.dym_wave.proofs.work.Work.new.Goals as goal

pub end_object-state-requires-clause-state : goal.end_object-state-requires-clause-state
end_object-state-requires-clause-state g c = c.open_object-opened.ensures.state _ (c.requires.berth, c.requires.keep)

pub end_object-state-requires-clause-ended : goal.end_object-state-requires-clause-ended
end_object-state-requires-clause-ended g c =
    fresh_can_end c.args.spec _ c.args.publisher _ (omega (arith, c.if-len-gt0.false, c.len.ensures))
    (c.open_object-opened.ensures.state _ (c.requires.berth, c.requires.keep)) c.requires.empty c.last_line.ensures
