use Rattle.std.proofs.Common.{arith, ◌≡◌, ◌<◌, ◌∙◌, List, All, drop, length, map, reverse, vec_len, subst, sym, ap}
use Rattle.std.proofs.lemmas.List.{take_at}
use Rattle.std.specs.List.{AllZip}
use Rattle.dym_pool.specs.Holdings.{KeepsShare}
use Rattle.dym_pool.specs.declared.worker.Worker.{Worker}
use Rattle.dym_pool.proofs.Zips.{kept_round, all_round}
use Rattle.dym_pool.proofs.workers.run_rows.Given as given
use Rattle.dym_pool.proofs.workers.run_rows.Goals as goal

module _ (g : given.Over) where
  abbrev Member : Type 0
  Member = Worker g.row.R.Denot g.row.J.Denot g.row.J-Origin.Denot

pub run_workers-requires-clause-ready : goal.run_workers-requires-clause-ready
run_workers-requires-clause-ready g c κs within k d l =
    let count = vec_len c.args.shares.now in
    let reaches = λ (w : Member g). w.reaches in
    let there = all_round reaches (λ row. (vec_len row ≡ count) × All (λ r. 0 < r.part) row.items) c.deref_mut.result.now c.args.rows.now.items
    (ap (map reaches) c.deref_mut.ensures.value ∙ c.gather_workers.ensures.reaches) c.requires.parts k d l in
    let numbers = subst (All (λ (w : Member g). w.number < count)) (sym c.deref_mut.ensures.value) c.gather_workers.ensures.numbers in
    (omega (arith, there.0, numbers k d l), there.1)

pub returns-clause-own : goal.returns-clause-own
returns-clause-own g c =
    let ran_workers = c.run_workers.new.workers in
    let own = λ (w : Member g). w.own in
    let ran = take_at ran_workers (drop (length ran_workers) c.gather_workers.new.workers.items) (vec_len c.gather_workers.new.workers) (c.run_workers.auto.workers ∙ c.deref_mut.ensures.len) in
    kept_round own KeepsShare c.deref_mut.result.now ran_workers c.args.shares.now.items c.part_workers.new.shares.items (ap (map own) c.deref_mut.ensures.value ∙ c.gather_workers.ensures.own)
    (c.part_workers.ensures.shares ∙ ap (λ (ws : List (Member g)). reverse (map own ws)) ran) c.run_workers.auto.workers c.run_workers.ensures.own

pub returns-clause-reaches : goal.returns-clause-reaches
returns-clause-reaches g c =
    let ran_workers = c.run_workers.new.workers in
    let reaches = λ (w : Member g). w.reaches in
    let ran = take_at ran_workers (drop (length ran_workers) c.gather_workers.new.workers.items) (vec_len c.gather_workers.new.workers) (c.run_workers.auto.workers ∙ c.deref_mut.ensures.len) in
    kept_round reaches (λ before after. AllZip KeepsShare before.items after.items) c.deref_mut.result.now ran_workers c.args.rows.now.items c.part_workers.new.rows.items
    (ap (map reaches) c.deref_mut.ensures.value ∙ c.gather_workers.ensures.reaches)
    (c.part_workers.ensures.rows ∙ ap (λ (ws : List (Member g)). reverse (map reaches ws)) ran) c.run_workers.auto.workers c.run_workers.ensures.reaches
