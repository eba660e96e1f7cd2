use Rattle.std.proofs.Common.{ap, sym, ◌∙◌}
use Rattle.dym_view.specs.Rules.{no_commit}
use Rattle.dym_view.proofs.Adding.{begins_moves}
use Rattle.dym_view.proofs.history_rule.begin_book.Goals as goal

pub compare_exchange-found-requires : goal.compare_exchange-found-requires
compare_exchange-found-requires c =
    let h = c.requires.length in
    let offer = c.plain-offer.ensures in (
      ap (λ w. w.tracked) h,
      sym (ap (λ w. w.book) h),
      c.claim_cell-turn.ensures.book ∙ sym (ap (λ w. w.book) h),
      offer.0,
      rw (ap (λ w. w.key) h, offer.1, offer.3) (begins_moves c.args.reached.log (no_commit, c.claim_cell-turn.result.nib.key) c.claim_cell-turn.result.nib),
    )
