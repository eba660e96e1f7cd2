use Rattle.std.proofs.Common.{arith}
use Rattle.dym_heap.proofs.Sizes.{per_fits, chunk_fits}
use Rattle.dym_heap.proofs.chunk_load.load_chunk.Goals as goal

pub set-requires : goal.set-requires
set-requires g c = let l = c.requires.chunk in let few = per_fits c.requires.valid.least in omega arith

pub load_run-requires : goal.load_run-requires
load_run-requires g c = let l = c.requires.fits in let lies = chunk_fits _ _ c.requires.valid.greatest c.requires.chunk in omega arith
