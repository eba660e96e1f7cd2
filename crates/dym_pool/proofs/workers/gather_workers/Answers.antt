use Rattle.std.proofs.Common.{rules, arith, ◌<◌, All, refl, sym, subst, vec_len}
use Rattle.std.proofs.lemmas.List.Elements.{All-push}
use Rattle.dym_pool.specs.declared.worker.Worker.{Worker}
use Rattle.dym_pool.proofs.Zips.{moved_over}
use Rattle.dym_pool.proofs.workers.gather_workers.Goals as goal

pub loop-own-preserved : goal.loop-own-preserved
loop-own-preserved g c =
    let few : Worker g.row.R.Denot g.row.J.Denot g.row.J-Origin.Denot → Type 0 = λ w. w.number < vec_len c.args.shares.now in
    record {
      own = moved_over (λ (w : Worker g.row.R.Denot g.row.J.Denot g.row.J-Origin.Denot). w.own) c.loop-own.workers.items c.push_reserved.new.self.items _ c.loop-own.shares.items c.pop.new.self.items c.in-Some.own _ c.push_reserved.ensures.items c.in-Some.ensures.items refl c.loop-own.invariant.own;
      reaches = moved_over (λ (w : Worker g.row.R.Denot g.row.J.Denot g.row.J-Origin.Denot). w.reaches) c.loop-own.workers.items c.push_reserved.new.self.items _ c.loop-own.rows.items c.take_last.new.self.items c.take_last.result _ c.push_reserved.ensures.items c.take_last.ensures.items refl c.loop-own.invariant.reaches;
      numbers = subst (All few) (sym c.push_reserved.ensures.items) (All-push few c.loop-own.workers.items _ c.loop-own.invariant.numbers (omega (arith, c.len.ensures, c.in-Some.ensures.len, c.loop-own.invariant.all, c.requires.most)));
      len = search rules;
      all = search rules;
      share_room = search rules;
      row_room = search rules;
      room = search rules;
    }
