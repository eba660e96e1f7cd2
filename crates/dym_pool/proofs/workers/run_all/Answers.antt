use Rattle.std.proofs.Common.{arith, ◌≡◌, ℕ, get_or, vec_len, subst}
use Rattle.std.specs.List.{AllZip}
use Rattle.dym_pool.specs.Holdings.{IsStealShareOf, Joins, KeepsShare, Lends}
use Rattle.dym_pool.proofs.Keeping.{workers_whole, finished_again, reach_parts, rows_after, whole_again}
use Rattle.dym_pool.proofs.Zips.{zip-length}
use Rattle.dym_pool.proofs.workers.run_all.Goals as goal

pub run_rows-requires-clause-parts : goal.run_rows-requires-clause-parts
run_rows-requires-clause-parts g c κs within k d l =
    let row = get_or c.lend_all.new.rows.items k d in
    let steal_share = c.lend_all.ensures.reaches k d l in
    (omega (arith, zip-length IsStealShareOf _ _ steal_share, zip-length (Lends (vec_len c.args.rows)) _ _ c.lend_all.ensures.lends, row.ok.0, c.lend_all.new.shares.ok.0), reach_parts _ _ steal_share)

pub run_rows-requires-clause-room : goal.run_rows-requires-clause-room
run_rows-requires-clause-room g c κs within =
    omega (arith, zip-length (Lends (vec_len c.args.rows)) _ _ c.lend_all.ensures.lends, c.requires.room, c.args.shares.now.ok.0, c.lend_all.new.shares.ok.0)

pub join_all-requires-clause-reaches : goal.join_all-requires-clause-reaches
join_all-requires-clause-reaches g c κs within =
    rows_after (λ row. row.items) (vec_len c.args.rows) _ _ _ _ _
    c.lend_all.ensures.lends c.run_rows.ensures.own c.run_rows.ensures.reaches c.lend_all.ensures.reaches

pub finish_all-requires-clause-whole : goal.finish_all-requires-clause-whole
finish_all-requires-clause-whole g c κs within =
    let n = vec_len c.args.rows in
    let same : vec_len c.run_rows.new.rows ≡ n = omega (arith, zip-length (λ before after. AllZip KeepsShare before.items after.items) _ _ c.run_rows.ensures.reaches, c.lend_all.ensures.len, c.lend_all.new.rows.ok.0, c.run_rows.new.rows.ok.0) in
    let joins = subst (λ (k : ℕ). AllZip (Joins k) c.run_rows.new.shares.items c.join_all.new.shares.items) same c.join_all.ensures.joins in
    whole_again _ _ (workers_whole n _ _ _ _ c.lend_all.ensures.lends c.run_rows.ensures.own joins) c.requires.whole

pub returns : goal.returns
returns g c =
    let n = vec_len c.args.rows in
    let same : vec_len c.run_rows.new.rows ≡ n = omega (arith, zip-length (λ before after. AllZip KeepsShare before.items after.items) _ _ c.run_rows.ensures.reaches, c.lend_all.ensures.len, c.lend_all.new.rows.ok.0, c.run_rows.new.rows.ok.0) in
    let joins = subst (λ (k : ℕ). AllZip (Joins k) c.run_rows.new.shares.items c.join_all.new.shares.items) same c.join_all.ensures.joins in
    record {
      finished = finished_again _ _ _ (workers_whole n _ _ _ _ c.lend_all.ensures.lends c.run_rows.ensures.own joins) c.finish_all.ensures.finished;
    }
