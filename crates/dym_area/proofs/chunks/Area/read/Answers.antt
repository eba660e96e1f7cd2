use Rattle.std.proofs.Common.{length, arith}
use Rattle.dym_area.proofs.Classes.{place_seen}
use Rattle.dym_area.proofs.chunks.Area.read.Goals as goal

pub overflow_mul-start : goal.overflow_mul-start
overflow_mul-start g c = omega (arith, place_seen c.self.view_is c.self.invariant.valid c.args.i c.args.at (length c.args.out.now) c.size.ensures c.requires.used c.requires.within)

pub overflow_add-start : goal.overflow_add-start
overflow_add-start g c = omega (arith, place_seen c.self.view_is c.self.invariant.valid c.args.i c.args.at (length c.args.out.now) c.size.ensures c.requires.used c.requires.within)

pub read-requires : goal.read-requires
read-requires g c = omega (arith, place_seen c.self.view_is c.self.invariant.valid c.args.i c.args.at (length c.args.out.now) c.size.ensures c.requires.used c.requires.within)
