use Rattle.std.proofs.Common.{◌≡◌, take}
use Rattle.dym_bits.specs.Bits.{set_count, bits_of}
use Rattle.dym_bits.proofs.bitmap.Bits.count_below.Given as goal

abbrev pub invariant-loop-word : goal.invariant-loop-word
invariant-loop-word l = l.count ≡ set_count (bits_of 64 (take l.word-index l.word-items))
