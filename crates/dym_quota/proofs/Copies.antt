-- Lists of identities that are all one.
use Rattle.std.proofs.Common.{◌<◌, ℕ, ◌∷◌, length, replicate, arith, ap, length-append}
use Rattle.std.proofs.lemmas.List.{length-replicate}
use Rattle.dym_region.specs.declared.segment.SegmentId.{SegmentId}
use Rattle.dym_quota.specs.HeldIds.{IsHeld}

-- where one of n copies stands, there is one
pub copies-some : (n : ℕ) (x y : SegmentId) → IsHeld (replicate n x) y → 0 < n
copies-some n x y held =
    let e = ap length held.is in
    omega (arith, length-replicate n x, length-append held.front (y ∷ held.back))
