use Rattle.std.proofs.Common.{◌≡◌, ℕ, ◌<◌, get_or}
use Rattle.dym_bits.proofs.bitmap.Bits.next_clear.Given as goal

abbrev pub invariant-loop-q : goal.invariant-loop-q
invariant-loop-q l = (p : ℕ) → l.first < p → p < l.q → get_or l.words p 0 ≡ 18446744073709551615
