use Rattle.std.proofs.Common.{◌≡◌, ◌+◌, ◌++◌, ◌∷◌, [], ap, sym, subst, arith, length, ◌∙◌}
use Rattle.std.specs.Arc.{arc_value}
use Rattle.dym_view.specs.Histories.{Beginning, MayFollow}
use Rattle.dym_view.specs.Rules.{Entry, head_of}
use Rattle.dym_view.proofs.Adding.{adds_moves, begun_more, key_more, rising_more, counts_entries}
use Rattle.dym_view.proofs.history_rule.Head.add.Goals as goal

pub compare_exchange-requires : goal.compare_exchange-requires
compare_exchange-requires c =
    let h = c.self.invariant.0 in
    let can = c.self.invariant.1 in
    let offer = c.plain-offer.ensures in
    let log = c.self.inside.reached.log in
    let same = ap (λ (b : Beginning). length b.commits) c.self.view_is in
    let count : length log ≡ c.args.number + 1 = omega (arith, counts_entries log can.begun, c.requires.number, same) in
    let later = subst (λ (b : Beginning). MayFollow b.commits (arc_value c.args.commit).time) (sym c.self.view_is) c.requires.later in (
      ap (λ w. w.tracked) h,
      sym (ap (λ w. w.book) h),
      can.same ∙ sym (ap (λ w. w.book) h),
      offer.0,
      rw (ap (λ w. w.key) h, offer.1, offer.3)
          (adds_moves log (arc_value c.args.commit, c.claim_cell-next.result.nib.key) c.self.inside.turn.nib (c.args.number + 1) (c.args.number + 2)
          (omega arith) can.begun count can.may can.key can.rising later),
    )

pub invariant_of-self : goal.invariant_of-self
invariant_of-self c =
    let h = c.self.invariant.0 in
    let can = c.self.invariant.1 in
    let offer = c.plain-offer.ensures in
    let step = c.compare_exchange.ensures in
    let v = c.self.inside.reached.log in
    let w = c.compare_exchange.new.seen.log in
    let e : Entry = (arc_value c.args.commit, c.claim_cell-next.result.nib.key) in
    let is : w ≡ v ++ e ∷ [] = step.7 ∙ ap (λ (a : Entry). v ++ a ∷ []) offer.1 in
    let later = subst (λ (b : Beginning). MayFollow b.commits (arc_value c.args.commit).time) (sym c.self.view_is) c.requires.later in (
      h ∙ ap head_of (sym step.0),
      record {
        begun = begun_more v w e is;
        same = c.claim_cell-next.ensures.book ∙ sym step.0;
        may = c.claim_cell-next.ensures.right;
        key = key_more v w e is;
        rising = rising_more v w e is can.begun can.rising later;
      },
    )

pub returns-clause-rising : goal.returns-clause-rising
returns-clause-rising c =
    let can = c.self.invariant.1 in
    let offer = c.plain-offer.ensures in
    let step = c.compare_exchange.ensures in
    let v = c.self.inside.reached.log in
    let w = c.compare_exchange.new.seen.log in
    let e : Entry = (arc_value c.args.commit, c.claim_cell-next.result.nib.key) in
    let is : w ≡ v ++ e ∷ [] = step.7 ∙ ap (λ (a : Entry). v ++ a ∷ []) offer.1 in
    let later = subst (λ (b : Beginning). MayFollow b.commits (arc_value c.args.commit).time) (sym c.self.view_is) c.requires.later in
    rising_more v w e is can.begun can.rising later
