use Rattle.dym_base.specs.Numbers.{per}
use Rattle.dym_area.proofs.Classes.{per_small}
use Rattle.dym_area.proofs.Rooms.{summary_open, summary_closed}
use Rattle.dym_area.proofs.summary.after_take.Goals as goal

pub returns-then-has_room : goal.returns-then-has_room
returns-then-has_room c = summary_open c.args.used.now (per c.args.class.exp) c.args.room c.args.i c.if-has_room.ensures c.requires.elsewhere c.requires.marked

pub returns-else-has_room : goal.returns-else-has_room
returns-else-has_room c =
    summary_closed c.args.used.now (per c.args.class.exp) c.args.room c.args.i c.requires.within (per_small c.args.class.exp c.args.class.least) c.if-has_room.ensures c.requires.elsewhere c.requires.marked
