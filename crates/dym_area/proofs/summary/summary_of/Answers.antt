use Rattle.std.proofs.Common.{◌+◌, arith, subst, sym}
use Rattle.dym_base.specs.Numbers.{per}
use Rattle.dym_area.proofs.Rooms.{IsBegun, begun, begun_with, begun_without, begun_whole}
use Rattle.dym_area.proofs.summary.summary_of.Goals.{then-has_room, else-has_room}
use Rattle.dym_area.proofs.summary.summary_of.Goals as goal

pub loop-q-init : goal.loop-q-init
loop-q-init c = begun c.args.used.now (per c.args.class.exp)

pub loop-q-preserved : goal.loop-q-preserved
loop-q-preserved c =
    elim c.if-has_room.branch [
      | then-has_room w ↦
          subst (λ m. IsBegun c.args.used.now (per c.args.class.exp) m (c.loop-q.q + 1)) (sym w.room-is)
          (begun_with c.args.used.now (per c.args.class.exp) c.loop-q.room w.with_room-room.result c.loop-q.q w.if-has_room.ensures w.with_room-room.ensures.same w.with_room-room.ensures.others c.loop-q.invariant)
      | else-has_room w ↦
          subst (λ m. IsBegun c.args.used.now (per c.args.class.exp) m (c.loop-q.q + 1)) (sym w.room-is)
          (begun_without c.args.used.now (per c.args.class.exp) c.loop-q.room c.loop-q.q w.if-has_room.ensures c.loop-q.invariant)
    ]

pub returns : goal.returns
returns c = begun_whole c.args.used.now (per c.args.class.exp) c.loop-q.room c.loop-q.q (omega (arith, c.words_of-words.ensures.enough)) c.loop-q.invariant
