use Rattle.std.proofs.Common.{◌≡◌, ◌≤◌, [], All, vec_len, vec_capacity}
use Rattle.dym_view.specs.Histories.{Beginning}
use Rattle.dym_wave.proofs.view_set.open_views.Given as goal

abbrev pub invariant-loop : goal.invariant-loop
invariant-loop g l = record {
  count : vec_len l.publishers ≡ l.counter;
  empty : All (λ (p : Beginning). p.commits ≡ []) l.publishers.items;
  viewers : l.viewers.items ≡ l.publishers.items;
  room : l.count ≤ vec_capacity l.publishers;
  room_to_look : l.count ≤ vec_capacity l.viewers;
}
