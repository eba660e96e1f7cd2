use Rattle.std.proofs.Common.{ap, ◌∙◌, arith}
use Rattle.dym_base.specs.Objects.{slots}
use Rattle.dym_undo.specs.UndoLogs.{UndoMeaning}
use Rattle.dym_undo.proofs.Places.{count_same}
use Rattle.dym_undo.proofs.undo_log.UndoLog.slots.Goals as goal

pub slots_of-requires : goal.slots_of-requires
slots_of-requires c = omega (arith, c.self.invariant.list.0, count_same c.self.inside.ghost_logs.logs c.deref.result.now (c.deref.ensures.value ∙ c.self.invariant.entries_are))

pub returns : goal.returns
returns c = c.slots_of.ensures c.self.inside.ghost_logs.logs (c.deref.ensures.value ∙ c.self.invariant.entries_are) ∙ ap (λ (u : UndoMeaning). slots u.logs) c.self.view_is
