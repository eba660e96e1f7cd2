use Rattle.std.proofs.Common.{arith}
use Rattle.dym_area.proofs.Classes.{place_seen, place_real}
use Rattle.dym_area.proofs.chunks.Area.bytes.Goals as goal

pub overflow_mul-start : goal.overflow_mul-start
overflow_mul-start g c = omega (arith, place_seen c.self.view_is c.self.invariant.valid c.args.i c.args.at c.args.len c.size.ensures c.requires.used c.requires.within)

pub overflow_add-start : goal.overflow_add-start
overflow_add-start g c = omega (arith, place_seen c.self.view_is c.self.invariant.valid c.args.i c.args.at c.args.len c.size.ensures c.requires.used c.requires.within)

pub bytes-requires : goal.bytes-requires
bytes-requires g c = place_real c.self.view_is c.self.invariant.valid _ c.args.i c.args.at c.args.len c.size.ensures c.requires.used c.requires.within c.self.invariant.real
