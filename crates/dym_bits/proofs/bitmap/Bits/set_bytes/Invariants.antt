use Rattle.std.proofs.Common.{◌≡◌, ◌-◌, ◌*◌, ◌++◌, length, take}
use Rattle.dym_bits.specs.Bits.{bits_of, clear_bits, AreZeroFrom}
use Rattle.dym_bits.proofs.bitmap.Bits.set_bytes.Given as goal

abbrev pub invariant-loop-q : goal.invariant-loop-q
invariant-loop-q l = record {
  long : length l.self-inside.words ≡ 32;
  same : bits_of 64 (take l.q l.self-inside.words) ≡ bits_of 8 (take (8 * l.q) l.bytes) ++ clear_bits (64 * l.q - 8 * length l.bytes);
  rest : AreZeroFrom l.q l.self-inside.words;
}
