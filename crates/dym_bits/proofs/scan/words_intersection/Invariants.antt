use Rattle.std.proofs.Common.{◌≡◌, ℕ, ◌<◌, length, get_or, bit_and}
use Rattle.dym_bits.proofs.scan.words_intersection.Given as goal

abbrev pub invariant-loop-q : goal.invariant-loop-q
invariant-loop-q l = record {
  long : length l.joined ≡ 32;
  each : (p : ℕ) → p < l.q → get_or l.joined p 0 ≡ bit_and (get_or l.words p 0) (get_or l.others p 0);
}
