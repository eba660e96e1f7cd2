use Rattle.std.proofs.Common.{◌≡◌, max, ◌/◌, ap, arith}
use Rattle.dym_base.specs.Numbers.{per}
use Rattle.dym_area.proofs.Classes.{bitmap_fits}
use Rattle.dym_area.proofs.chunks.Area.set_from.Goals as goal

pub set_bytes-requires : goal.set_bytes-requires
set_bytes-requires g c =
    let same : max 1 (per c.self.inside.class.exp / 8) ≡ max 1 (per c.args.self.now.exponent / 8) = ap (λ a. max 1 (per a.exponent / 8)) c.self.view_is in
    omega (arith, c.requires.len, bitmap_fits c.self.inside.class.exp c.self.invariant.valid.least)
