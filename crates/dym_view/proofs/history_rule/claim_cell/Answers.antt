use Rattle.std.proofs.Common.{ap, sym, ◌∙◌}
use Rattle.dym_view.proofs.Adding.{claims_moves}
use Rattle.dym_view.proofs.history_rule.claim_cell.Goals as goal

pub compare_exchange-requires : goal.compare_exchange-requires
compare_exchange-requires c =
    let h = c.requires.length in
    let seen = c.again-seen.ensures in
    let pen = c.no_pen-pen.ensures in
    let offer = c.plain-offer.ensures in
    let book = ap (λ s. s.book) seen ∙ sym (ap (λ w. w.book) h) in (
      ap (λ w. w.tracked) h,
      book,
      pen.0 ∙ book,
      offer.0,
      rw (ap (λ w. w.key) h, pen.1, offer.3) (claims_moves c.again-seen.result.log c.plain-offer.result.ask),
    )
