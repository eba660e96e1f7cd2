use Rattle.std.proofs.Common.{length, arith}
use Rattle.dym_area.proofs.Classes.{bit_seen, chunk_seen, front_seen}
use Rattle.dym_area.proofs.chunks.Area.put_back.Goals as goal

pub overflow_mul-front : goal.overflow_mul-front
overflow_mul-front g c = omega (arith, chunk_seen c.self.view_is c.self.invariant.valid c.args.i c.size-size.ensures c.requires.within)

pub set-requires : goal.set-requires
set-requires g c = bit_seen c.self.view_is c.self.invariant.valid c.args.i c.requires.within

pub clear-requires : goal.clear-requires
clear-requires g c = bit_seen c.self.view_is c.self.invariant.valid c.args.i c.requires.within

pub after_take-self-inside-requires-clause-within : goal.after_take-self-inside-requires-clause-within
after_take-self-inside-requires-clause-within g c = bit_seen c.self.view_is c.self.invariant.valid c.args.i c.requires.within

pub write-requires : goal.write-requires
write-requires g c = front_seen c.self.view_is c.self.invariant.valid c.args.i (length c.args.bytes.now) c.size-size.ensures c.requires.within c.requires.fits

pub overflow_add-front : goal.overflow_add-front
overflow_add-front g c = omega (arith, chunk_seen c.self.view_is c.self.invariant.valid c.args.i c.size-size.ensures c.requires.within)

pub fill-requires : goal.fill-requires
fill-requires g c = chunk_seen c.self.view_is c.self.invariant.valid c.args.i c.size-size.ensures c.requires.within
