use Rattle.std.proofs.Common.{arith}
use Rattle.dym_area.proofs.Classes.{all_filled}
use Rattle.dym_area.proofs.Reach.{run_seen}
use Rattle.dym_area.proofs.chunks.Area.run_bytes.Goals as goal

pub overflow_mul-from : goal.overflow_mul-from
overflow_mul-from g c =
    omega (arith, run_seen c.self.view_is 65536 c.args.from c.args.count c.size-size.ensures c.if-count-eq0.false c.requires (all_filled c.self.view_is c.self.invariant.valid))

pub overflow_mul-count : goal.overflow_mul-count
overflow_mul-count g c =
    omega (arith, run_seen c.self.view_is 65536 c.args.from c.args.count c.size-size.ensures c.if-count-eq0.false c.requires (all_filled c.self.view_is c.self.invariant.valid))

pub bytes-requires-2 : goal.bytes-requires-2
bytes-requires-2 g c = run_seen c.self.view_is _ c.args.from c.args.count c.size-size.ensures c.if-count-eq0.false c.requires c.self.invariant.real
