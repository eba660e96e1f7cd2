use Rattle.std.proofs.Common.{arith, ◌≡◌, ◌∙◌, ◌<◌, ◌+◌, length, vec_len, get_or}
use Rattle.std.specs.List.{AllZip}
use Rattle.dym_pool.specs.Holdings.{IsNewStealShare, IsStealShareOf, Lends}
use Rattle.dym_pool.proofs.Keeping.{lends_none, lends_more, guest_stays, reach_before}
use Rattle.dym_pool.proofs.Zips.{through_none, through_more, zip-refl, zip-trans, zip-under, zip-all}
use Rattle.dym_pool.proofs.workers.lend_all.Goals as goal

pub loop-place-init : goal.loop-place-init
loop-place-init g c = record { lent = zip-refl (Lends 0) lends_none c.args.shares.now.items; given = through_none _ c.args.rows.now.items }

pub lend_row-requires-clause-guests : goal.lend_row-requires-clause-guests
lend_row-requires-clause-guests g c κs within =
    let place = c.loop-place.place in
    let S = c.args.shares.now.items in
    let row = c.index_mut.result.now in
    let inside : place < length c.args.rows.now.items = omega (arith, c.loop-place-test.true, c.len-place-end.ensures, c.args.rows.now.ok.0) in
    let old : row ≡ get_or c.args.rows.now.items place row = c.index_mut.ensures.value ∙ c.loop-place.invariant.given.rest place row (omega arith) in
    let guest : AllZip IsNewStealShare S row.items = rw old (c.requires.guests place row inside) in
    zip-under (Lends place) IsNewStealShare IsNewStealShare S c.loop-place.shares.items row.items (guest_stays place) c.loop-place.invariant.lent guest

pub lend_row-requires-clause-parts : goal.lend_row-requires-clause-parts
lend_row-requires-clause-parts g c κs within =
    zip-all (Lends c.loop-place.place) (λ s. vec_len c.args.rows.now < s.part) (λ s. 1 < s.part) c.args.shares.now.items c.loop-place.shares.items
    (λ x y l m. omega (arith, l.part, c.loop-place-test.true, c.len-place-end.ensures)) c.loop-place.invariant.lent c.requires.parts

pub loop-place-preserved : goal.loop-place-preserved
loop-place-preserved g c =
    let place = c.loop-place.place in
    let S = c.args.shares.now.items in
    let inside : place < length c.args.rows.now.items = omega (arith, c.loop-place-test.true, c.len-place-end.ensures, c.args.rows.now.ok.0) in
    record {
      lent = zip-trans (Lends place) (Lends 1) (Lends (place + 1)) S c.loop-place.shares.items c.lend_row.new.shares.items (lends_more place 1 (place + 1) (omega arith)) c.loop-place.invariant.lent c.lend_row.ensures.lends;
      given = through_more _ place c.args.rows.now.items c.loop-place.rows.items c.lend_row.new.row c.index_mut.result.now inside c.loop-place.invariant.given
          (zip-trans (Lends place) IsStealShareOf IsStealShareOf S c.loop-place.shares.items c.lend_row.new.row.items (reach_before place) c.loop-place.invariant.lent c.lend_row.ensures.reaches);
    }
