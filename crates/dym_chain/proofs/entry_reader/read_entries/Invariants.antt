use Rattle.std.proofs.Common.{◌≡◌, ◌+◌, ◌≤◌, List, length, map}
use Rattle.dym_base.specs.LawfulLists.{IsLawful}
use Rattle.dym_base.specs.Packed.{Logged, packed}
use Rattle.dym_base.specs.declared.command.Version.{Version}
use Rattle.dym_chain.specs.Keeps.{bytes_of}
use Rattle.dym_chain.proofs.Readings.{HasRead}
use Rattle.dym_chain.proofs.entry_reader.read_entries.Given as goal

abbrev pub invariant-loop-place : goal.invariant-loop-place
invariant-loop-place g l = record {
  keep : g.K.LogKeep.meaning l.keep ≡ g.K.LogKeep.meaning l.fn.keep;
  shallow : l.depth ≤ 31;
  capacity : l.entries.cap ≡ l.fn.room.cap;
  count : l.first + length l.entries.items ≡ l.place;
  read : (v : Version) (logs : List Logged) → IsLawful v l.first logs → map packed logs ≡ bytes_of (g.K.LogKeep.meaning l.fn.keep).records → HasRead l.first l.place l.depth l.entries.items logs;
}
