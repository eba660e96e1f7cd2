use Rattle.std.proofs.Common.{◌+◌, ◌-◌, ◌≤◌, true, length, drop}
use Rattle.smallvec.specs.SmallVec.{HasRoomFor}
use Rattle.dym_pack.specs.Contents.{AreLeft, AreRead}
use Rattle.dym_pack.proofs.record_parser.offsets_in.Given as goal

abbrev pub invariant-loop-k : goal.invariant-loop-k
invariant-loop-k l = record {
  within : l.at ≤ length l.bytes;
  few : l.next ≤ l._k;
  room : HasRoomFor l.starts (l.count - l._k + 1);
  done : AreRead l.version l.kind l.bytes l.at l._k l.exp l.next l.used l.starts.items;
  left : AreLeft l.version l.kind (drop 13 l.bytes) l.count 5 0 true → AreLeft l.version l.kind (drop l.at l.bytes) (l.count - l._k) l.exp l.next l.used;
}
