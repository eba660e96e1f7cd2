use Rattle.std.proofs.Common.{◌≡◌, ℕ, ◌*◌, ◌≤◌, take, ◌∙◌, ap, arith}
use Rattle.dym_base.specs.declared.limits.TheConstants.{MOST_CHUNKS}
use Rattle.dym_bits.specs.Bits.{bytes_of_bits}
use Rattle.dym_bits.proofs.ByteBits.{bytes_from_bits, bitmap_from_bits}
use Rattle.dym_bits.proofs.bitmap.Bits.bytes.Goals as goal

front_is : (c : goal.After-bytes_fit) (k : ℕ) → 8 * k ≤ MOST_CHUNKS → take k c.bytes_of-bytes.result ≡ bytes_of_bits k c.args.self.now
front_is c k within =
    bytes_from_bits c.bytes_of-bytes.result k (omega arith) c.bytes_fit.ensures
    ∙ ap (bytes_of_bits k) (c.bytes_of-bytes.ensures ∙ c.self.view_is)

pub returns-clause-front : goal.returns-clause-front
returns-clause-front c = λ k within. front_is c k within

pub returns-clause-whole : goal.returns-clause-whole
returns-clause-whole c = λ k n within long clear. front_is c k within ∙ bitmap_from_bits c.args.self.now k n long clear
