use Rattle.std.proofs.Common.{◌≡◌, ◌≤◌, All, map, vec_len, vec_capacity}
use Rattle.dym_slots.specs.Meanings.{KeepMeaning}
use Rattle.dym_wave.specs.States.{IsFreshKeep}
use Rattle.dym_wave.specs.Waves.{tables_of}
use Rattle.dym_wave.proofs.log_tables.open_tables.Given as goal

abbrev pub invariant-loop : goal.invariant-loop
invariant-loop l = record {
  tables : map (λ (k : KeepMeaning). k.origin) l.keeps.items ≡ tables_of l.sweepers.items;
  fresh : All IsFreshKeep l.keeps.items;
  keeps : vec_len l.keeps ≡ l.counter;
  swept : vec_len l.sweepers ≡ l.counter;
  keep_room : l.count ≤ vec_capacity l.keeps;
  room : l.count ≤ vec_capacity l.sweepers;
}
