use Rattle.std.proofs.Common.{◌≡◌, ◌*◌, length, take}
use Rattle.dym_bits.specs.Bits.{bits_of}
use Rattle.dym_bits.proofs.bytes.bytes_of.Given as goal

abbrev pub invariant-loop-q : goal.invariant-loop-q
invariant-loop-q l = record {
  long : length l.room ≡ 256;
  same : bits_of 8 (take (8 * l.q) l.room) ≡ bits_of 64 (take l.q l.words);
}
