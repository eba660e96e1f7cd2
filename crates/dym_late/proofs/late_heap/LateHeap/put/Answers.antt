use Rattle.std.proofs.Common.{refl}
use Rattle.dym_late.proofs.Wholes.{is_late}
use Rattle.dym_late.proofs.late_heap.LateHeap.put.Goals as goal

pub returns-in-Ok-clause-late : goal.returns-in-Ok-clause-late
returns-in-Ok-clause-late g c =
    is_late c.accept.new.self.bound c.accept.new.self.events.items c.accept.new.self.order.items c.accept.new.self.heap c.accept.new.self.chain c.in-Ok.ensures.whole c.self.inside.broken _ refl
