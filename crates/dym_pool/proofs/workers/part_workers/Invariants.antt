use Rattle.std.proofs.Common.{◌≡◌, ◌+◌, ◌++◌, map, reverse, vec_len, vec_capacity}
use Rattle.dym_pool.specs.declared.worker.Worker.{Worker}
use Rattle.dym_pool.proofs.workers.part_workers.Given as goal

abbrev pub invariant-loop-worker : goal.invariant-loop-worker
invariant-loop-worker g l = record {
  shares : l.shares.items ++ reverse (map (λ (w : Worker g.row.R.Denot g.row.J.Denot g.row.J-Origin.Denot). w.own) l.workers.items) ≡ reverse (map (λ (w : Worker g.row.R.Denot g.row.J.Denot g.row.J-Origin.Denot). w.own) l.initial.workers.items);
  rows : l.rows.items ++ reverse (map (λ (w : Worker g.row.R.Denot g.row.J.Denot g.row.J-Origin.Denot). w.reaches) l.workers.items) ≡ reverse (map (λ (w : Worker g.row.R.Denot g.row.J.Denot g.row.J-Origin.Denot). w.reaches) l.initial.workers.items);
  share_len : vec_len l.shares + vec_len l.workers ≡ vec_len l.initial.workers;
  row_len : vec_len l.rows + vec_len l.workers ≡ vec_len l.initial.workers;
  share_room : vec_capacity l.shares ≡ vec_capacity l.initial.shares;
  row_room : vec_capacity l.rows ≡ vec_capacity l.initial.rows;
}

abbrev pub decreases-loop-worker : goal.decreases-loop-worker
decreases-loop-worker g l = vec_len l.workers
