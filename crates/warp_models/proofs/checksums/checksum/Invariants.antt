-- What was summed, with the sum of the states that are left, is the whole.
use Rattle.std.proofs.Common.{◌≡◌, drop}
use Rattle.warp_models.specs.Checksums.{plus, checksum_from, checksum_of}
use Rattle.warp_models.proofs.checksums.checksum.Given as goal

abbrev pub invariant-loop-process : goal.invariant-loop-process
invariant-loop-process g l = plus l.total (checksum_from g.S.Summed.sum l.process (drop l.process l.states)) ≡ checksum_of g.S.Summed.sum l.states
