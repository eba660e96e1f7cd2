use Rattle.std.proofs.Common.{◌≡◌, ℕ, ◌<◌, ◌^◌, get_or, bit_and, w64}
use Rattle.std.specs.Int.{bit_not}
use Rattle.dym_bits.proofs.scan.words_within.Given as goal

abbrev pub invariant-loop-q : goal.invariant-loop-q
invariant-loop-q l = record {
  none : (p : ℕ) → p < l.q → bit_and (get_or l.words p 0) (bit_not w64 (get_or l.others p 0)) ≡ 0;
  fits : (p : ℕ) → p < l.q → get_or l.others p 0 < 2 ^ 64;
}
