use Rattle.std.proofs.Common.{arith, ◌≡◌, ◌∙◌, ◌<◌, length, get_or, subst, sym, ap}
use Rattle.dym_pool.specs.Holdings.{Holding, IsNewStealShare, IsStealShareOf, Lends}
use Rattle.dym_pool.proofs.Zips.{through_more, through_all, zip-at, zip-from, zip-length}
use Rattle.dym_pool.proofs.workers.lend_row.Given as given
use Rattle.dym_pool.proofs.workers.lend_row.Goals as goal

module _ (g : given.Over) where
  abbrev Given : Holding g.row.J-Origin.Denot → Holding g.row.J-Origin.Denot → Type 0
  Given before after = (after.deque ≡ before.deque) × (after.part ≡ 1)

pub loop-place-preserved : goal.loop-place-preserved
loop-place-preserved g c =
    let place = c.loop-place.place in
    let row = c.index_mut.result.now in
    let share = c.index_mut-in-loop-place.result.now in
    let S = c.args.shares.now.items in
    let R = c.args.row.now.items in
    let inside : place < length S = omega (arith, c.loop-place-test.true, c.len-place-end.ensures, c.args.shares.now.ok.0) in
    let same = zip-length IsNewStealShare S R c.requires.guests in
    let old_share : share ≡ get_or S place share = c.index_mut-in-loop-place.ensures.value ∙ c.loop-place.invariant.lent.rest place share (omega arith) in
    let old_row : row ≡ get_or R place row = c.index_mut.ensures.value ∙ c.loop-place.invariant.given.rest place row (omega arith) in
    let guest : (get_or R place row).deque ≡ (get_or S place share).deque = (zip-at IsNewStealShare S R place share row c.requires.guests inside).deque in
    let context : c.borrow.new.self.deque ≡ row.deque = c.borrow.ensures.steal_share.deque ∙ ap (λ (h : Holding g.row.J-Origin.Denot). h.deque) old_share ∙ sym guest ∙ sym (ap (λ (h : Holding g.row.J-Origin.Denot). h.deque) old_row) in
    record {
      lent = through_more (Lends 1) place S c.loop-place.shares.items c.borrow.new.share share inside c.loop-place.invariant.lent (subst (λ (h : Holding g.row.J-Origin.Denot). Lends 1 h c.borrow.new.share) old_share c.borrow.ensures.lends);
      given = through_more (Given g) place R c.loop-place.row.items c.borrow.new.self row (omega (arith, same)) c.loop-place.invariant.given (subst (λ (h : Holding g.row.J-Origin.Denot). Given g h c.borrow.new.self) old_row (context, c.borrow.ensures.steal_share.part));
    }

pub returns-clause-lends : goal.returns-clause-lends
returns-clause-lends g c = through_all (Lends 1) c.loop-place.place c.args.shares.now.items c.loop-place.shares.items (omega arith) c.loop-place.invariant.lent

pub returns-clause-reaches : goal.returns-clause-reaches
returns-clause-reaches g c =
    let shares = c.args.shares.now.items in
    let same = zip-length IsNewStealShare shares c.args.row.now.items c.requires.guests in
    zip-from IsStealShareOf shares c.loop-place.row.items (c.loop-place.invariant.given.len ∙ same)
    (λ k d m.
    let done = c.loop-place.invariant.given.done k d (omega arith) in
    let guest = zip-at IsNewStealShare shares c.args.row.now.items k d d c.requires.guests m in
    record { deque = done.0 ∙ guest.deque; part = done.1 })
