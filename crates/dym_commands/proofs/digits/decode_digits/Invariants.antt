use Rattle.std.proofs.Common.{◌≡◌, ◌*◌, take, drop, length}
use Rattle.hex.specs.Hex.{decode_pairs}
use Rattle.hex.proofs.Pairs.{prepend}
use Rattle.dym_commands.proofs.digits.decode_digits.Given as goal

abbrev pub invariant-loop-i : goal.invariant-loop-i
invariant-loop-i l = record {
  decoded : decode_pairs 0 l.digits ≡ prepend (take l.i l.room) (decode_pairs (2 * l.i) (drop (2 * l.i) l.digits));
  half : length l.digits ≡ 2 * length l.room;
}
