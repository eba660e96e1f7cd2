use Rattle.std.proofs.Common.{◌∙◌, subst, arith, ◌≡◌, ◌+◌, ◌-◌, ℕ, take, refl}
use Rattle.dym_slots.specs.SeatViews.{owner_of}
use Rattle.dym_slots.specs.Orders.{HasLeft}
use Rattle.dym_slots.proofs.OwnerSays.{newest_here, number_fits, dropped_one}
use Rattle.dym_slots.proofs.owner_calls.drop_down.Goals as goal

pub drop_newest-requires-clause-older : goal.drop_newest-requires-clause-older
drop_newest-requires-clause-older c =
    let s = c.requires.stands.1 in
    let inv = c.loop-last.invariant in
    let last = c.loop-last.last - 1 in
    let more = c.loop-last-test.true in
    let up : c.loop-last.last ≡ last + 1 = omega arith in
    let left = subst (λ (n : ℕ). HasLeft (take n (owner_of c.args.seat.now.me.0).list) c.args.seat.now.me c.loop-last.seat.me) up inv.6 in
    (newest_here s last _ _ _ (omega arith) (omega arith) left c.index.ensures c.index-in-loop-last.ensures).0

pub drop_newest-requires-clause-newest : goal.drop_newest-requires-clause-newest
drop_newest-requires-clause-newest c =
    let s = c.requires.stands.1 in
    let inv = c.loop-last.invariant in
    let last = c.loop-last.last - 1 in
    let more = c.loop-last-test.true in
    let up : c.loop-last.last ≡ last + 1 = omega arith in
    let left = subst (λ (n : ℕ). HasLeft (take n (owner_of c.args.seat.now.me.0).list) c.args.seat.now.me c.loop-last.seat.me) up inv.6 in
    (newest_here s last _ _ _ (omega arith) (omega arith) left c.index.ensures c.index-in-loop-last.ensures).1

pub drop_newest-requires-clause-number : goal.drop_newest-requires-clause-number
drop_newest-requires-clause-number c =
    let s = c.requires.stands.1 in
    let inv = c.loop-last.invariant in
    let last = c.loop-last.last - 1 in
    let more = c.loop-last-test.true in
    number_fits s last _ (omega arith) c.index-in-loop-last.ensures

pub loop-last-preserved : goal.loop-last-preserved
loop-last-preserved c =
    let s = c.requires.stands.1 in
    let inv = c.loop-last.invariant in
    let last = c.loop-last.last - 1 in
    let more = c.loop-last-test.true in
    let up : c.loop-last.last ≡ last + 1 = omega arith in
    let left = subst (λ (n : ℕ). HasLeft (take n (owner_of c.args.seat.now.me.0).list) c.args.seat.now.me c.loop-last.seat.me) up inv.6 in (
      c.drop_newest.ensures.table ∙ inv.0,
      refl,
      refl,
      refl,
      omega arith,
      omega arith,
      dropped_one s last _ _ (omega arith) left c.drop_newest.ensures.after,
    )
