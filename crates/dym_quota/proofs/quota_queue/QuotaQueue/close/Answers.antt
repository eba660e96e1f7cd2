use Rattle.std.proofs.Common.{◌≡◌, ◌++◌, map, ◌∙◌, sym, ap, subst}
use Rattle.std.specs.Prelude.{IsPermutation}
use Rattle.crossbeam_queue.specs.Passes.{view}
use Rattle.dym_region.specs.Identity.{AreDistinct}
use Rattle.dym_region.specs.contracts.raw_segment.RawSegmentSegment.TheImpl.{ghosts}
use Rattle.dym_quota.specs.QueueShape.{QueueShape}
use Rattle.dym_quota.proofs.Orders.{all_back}
use Rattle.dym_quota.proofs.Weights.{distinct-permutation}
use Rattle.dym_quota.proofs.quota_queue.QuotaQueue.close.Goals as goal

pub returns-clause-all : goal.returns-clause-all
returns-clause-all g c =
    let stocked : c.args.self.stocked ≡ (view c.take_all.new.keeper).stock = sym (c.take_all.ensures.stock ∙ c.join_all.ensures.stock ∙ ap (λ (q : QueueShape). q.stocked) c.self.view_is) in
    let aside : map ghosts.id c.self.inside.aside.items ≡ c.args.self.aside = ap (λ (q : QueueShape). q.aside) c.self.view_is in
    all_back c.args.self.stocked c.args.self.aside (view c.take_all.new.keeper).held _
    (subst (λ l. IsPermutation l (view c.take_all.new.keeper).held) (sym stocked) c.learn_all.ensures.held)
    (c.take_all.ensures.taken ∙ ap (λ l. l ++ (view c.take_all.new.keeper).held) aside)

pub returns-clause-distinct : goal.returns-clause-distinct
returns-clause-distinct g c =
    distinct-permutation (c.args.self.stocked ++ c.args.self.aside) _ (returns-clause-all g c)
    (subst (λ (q : QueueShape). AreDistinct (q.stocked ++ q.aside)) c.self.view_is c.self.invariant.6)
