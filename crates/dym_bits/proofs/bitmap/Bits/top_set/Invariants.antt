use Rattle.std.proofs.Common.{◌≡◌, ℕ, ◌≤◌, get_or}
use Rattle.dym_bits.proofs.bitmap.Bits.top_set.Given as goal

abbrev pub invariant-loop-q : goal.invariant-loop-q
invariant-loop-q l = (p : ℕ) → l.q ≤ p → get_or l.self-inside.words p 0 ≡ 0
