use Rattle.dym_wave.proofs.Making.{opened_told, opened_untold}
use Rattle.dym_wave.proofs.view_set.open_where_told.Goals as goal

pub returns-then-views-clause-publishers : goal.returns-then-views-clause-publishers
returns-then-views-clause-publishers g c =
    opened_told c.args.views c.args.count (λ v. v.0.len) (λ v. v.0.items) c.open_views.result (λ v. v.0.ok.0)
    c.if-views.true c.open_views.ensures.count c.open_views.ensures.empty

pub returns-else-views-clause-publishers : goal.returns-else-views-clause-publishers
returns-else-views-clause-publishers g c = opened_untold c.args.views c.args.count c.new.result.items c.if-views.false c.new.ensures.items
