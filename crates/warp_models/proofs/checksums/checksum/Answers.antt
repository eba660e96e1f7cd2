-- No sum is above 64 bits, so nothing is lost where it is added to 0.
use Rattle.std.proofs.Common.{◌≡◌, ℕ, List, [], ◌∷◌, refl, arith}
use Rattle.warp_models.specs.Checksums.{plus, checksum_from}
use Rattle.warp_models.proofs.checksums.checksum.Goals as goal

plus-zero : {S : Type 0} (sum_of : S → ℕ) (k : ℕ) (states : List S) → plus 0 (checksum_from sum_of k states) ≡ checksum_from sum_of k states
plus-zero sum_of k [] = refl
plus-zero sum_of k (s ∷ ss) = omega arith

pub loop-process-init : goal.loop-process-init
loop-process-init g c = plus-zero g.S.Summed.sum 0 c.args.states.now
