use Rattle.std.proofs.Common.{rules, arith, ◌+◌, ℕ, Some, subst}
use Rattle.std.proofs.lemmas.List.Elements.{All-pop}
use Rattle.std.specs.List.{AllZip}
use Rattle.dym_pool.specs.Holdings.{IsStealShareOf, Joins}
use Rattle.dym_pool.proofs.Keeping.{joins_none, joins_more, reach_after}
use Rattle.dym_pool.proofs.Zips.{zip-refl, zip-trans, zip-under}
use Rattle.dym_pool.proofs.workers.join_all.Goals as goal

pub loop-row-init : goal.loop-row-init
loop-row-init g c = record { joined = (0, omega arith, zip-refl (Joins 0) joins_none c.args.shares.now.items); reaches = c.requires.reaches }

pub join_row-requires-clause-reaches : goal.join_row-requires-clause-reaches
join_row-requires-clause-reaches g c κs within =
    let n = c.loop-row.invariant.joined.0 in
    let here : AllZip IsStealShareOf c.args.shares.now.items c.in-Some.row.items = search rules in
    zip-under (Joins n) IsStealShareOf IsStealShareOf c.args.shares.now.items c.loop-row.shares.items c.in-Some.row.items (reach_after n) c.loop-row.invariant.joined.2 here

pub loop-row-preserved : goal.loop-row-preserved
loop-row-preserved g c =
    let n = c.loop-row.invariant.joined.0 in
    record {
      joined = (
        n + 1,
        omega (arith, c.loop-row.invariant.joined.1, c.in-Some.ensures.len),
        zip-trans (Joins n) (Joins 1) (Joins (n + 1)) c.args.shares.now.items c.loop-row.shares.items c.join_row.new.shares.items (joins_more n 1 (n + 1) (omega arith)) c.loop-row.invariant.joined.2 c.join_row.ensures.joins,
      );
      reaches = (All-pop (λ row. AllZip IsStealShareOf c.args.shares.now.items row.items) c.loop-row.rows.items c.pop.new.self.items (Some c.in-Some.row) c.in-Some.ensures.items c.loop-row.invariant.reaches).0;
    }

pub returns : goal.returns
returns g c =
    record { joins = subst (λ (n : ℕ). AllZip (Joins n) c.args.shares.now.items c.loop-row.shares.items) (omega (arith, c.loop-row.invariant.joined.1, c.in_default.ensures.cases.0)) c.loop-row.invariant.joined.2 }
