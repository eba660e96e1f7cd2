use Rattle.std.proofs.Common.{◌≡◌, ◌+◌, refl, subst}
use Rattle.dym_late.specs.Marks.{oldest_log_point}
use Rattle.dym_late.specs.Meaning.{LateMeaning}
use Rattle.dym_late.proofs.Wholes.{is_late}
use Rattle.dym_late.proofs.late_heap.LateHeap.commit.Goals as goal

pub returns-clause-dropped : goal.returns-clause-dropped
returns-clause-dropped g c =
    subst (λ (m : LateMeaning). c.commit.result + oldest_log_point m.bound m.events ≡ oldest_log_point c.commit.new.self.bound m.events) c.self.view_is c.commit.ensures.dropped

pub returns-clause-late : goal.returns-clause-late
returns-clause-late g c =
    is_late c.commit.new.self.bound c.commit.new.self.events.items c.commit.new.self.order.items c.commit.new.self.heap c.commit.new.self.chain c.commit.ensures.whole c.self.inside.broken _ refl
