use Rattle.std.proofs.Common.{◌≡◌, ◌≤◌, vec_len, vec_capacity}
use Rattle.dym_heap.proofs.shelf.all_tables.Given as goal

abbrev pub invariant-loop : goal.invariant-loop
invariant-loop l = record {
  made : vec_len l.spare ≡ l.counter;
  room : l.quota ≤ vec_capacity l.spare;
}
