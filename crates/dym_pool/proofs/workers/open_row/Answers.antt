use Rattle.std.proofs.Common.{rules, arith, ◌∙◌, ◌+◌, List, get_or, take, subst, sym, ap}
use Rattle.std.specs.List.{AllZip}
use Rattle.std.proofs.lemmas.List.Elements.{all_zip_more}
use Rattle.dym_pool.specs.Holdings.{Holding, IsNewStealShare}
use Rattle.dym_pool.proofs.workers.open_row.Goals as goal

pub loop-share-preserved : goal.loop-share-preserved
loop-share-preserved g c =
    record {
      len = search rules;
      room = search rules;
      guests = subst (λ (l : List (Holding g.row.J-Origin.Denot)). AllZip IsNewStealShare (take (c.loop-share.share-index + 1) c.args.shares.now.items) l) (sym c.push_reserved.ensures.items)
          (all_zip_more IsNewStealShare c.args.shares.now.items c.loop-share.row.items c.loop-share.share-index c.share-item.result c.in_ok-open.field-0 (omega (arith, c.loop-share-test.true, c.loop-share.auto.share-index-end, c.deref-share-items.ensures.len, c.args.shares.now.ok.0)) (c.share-item.is ∙ ap (λ (l : List (Holding g.row.J-Origin.Denot)). get_or l c.loop-share.share-index c.share-item.result) c.deref-share-items.ensures.value) c.loop-share.invariant.guests c.in_ok-open.ensures.guest);
    }
