use Rattle.std.proofs.Common.{◌≡◌, ◌+◌, ◌++◌, ◌<◌, All, map, reverse, vec_len, vec_capacity}
use Rattle.dym_pool.specs.declared.worker.Worker.{Worker}
use Rattle.dym_pool.proofs.workers.gather_workers.Given as goal

abbrev pub invariant-loop-own : goal.invariant-loop-own
invariant-loop-own g l = record {
  own : map (λ (w : Worker g.row.R.Denot g.row.J.Denot g.row.J-Origin.Denot). w.own) l.workers.items ++ reverse l.shares.items ≡ reverse l.initial.shares.items;
  reaches : map (λ (w : Worker g.row.R.Denot g.row.J.Denot g.row.J-Origin.Denot). w.reaches) l.workers.items ++ reverse l.rows.items ≡ reverse l.initial.rows.items;
  numbers : All (λ (w : Worker g.row.R.Denot g.row.J.Denot g.row.J-Origin.Denot). w.number < vec_len l.initial.shares) l.workers.items;
  len : vec_len l.rows ≡ vec_len l.shares;
  all : vec_len l.workers + vec_len l.shares ≡ vec_len l.initial.shares;
  share_room : vec_capacity l.shares ≡ vec_capacity l.initial.shares;
  row_room : vec_capacity l.rows ≡ vec_capacity l.initial.rows;
  room : vec_capacity l.workers ≡ vec_capacity l.initial.workers;
}

abbrev pub decreases-loop-own : goal.decreases-loop-own
decreases-loop-own g l = vec_len l.shares
