use Rattle.std.proofs.Common.{◌≡◌, ℕ, ◌<◌, ◌^◌, length, get_or, bit_and, w64}
use Rattle.std.specs.Int.{bit_not}
use Rattle.dym_bits.proofs.scan.words_difference.Given as goal

abbrev pub invariant-loop-q : goal.invariant-loop-q
invariant-loop-q l = record {
  long : length l.joined ≡ 32;
  each : (p : ℕ) → p < l.q → get_or l.joined p 0 ≡ bit_and (get_or l.words p 0) (bit_not w64 (get_or l.others p 0));
  fits : (p : ℕ) → p < l.q → get_or l.others p 0 < 2 ^ 64;
}
