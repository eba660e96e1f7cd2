use Rattle.std.proofs.Common.{false, get_or, ◌∙◌, ap, arith, inl, inr}
use Rattle.std.proofs.lemmas.Bool.{cases_lt}
use Rattle.dym_bits.proofs.UsedWords.{clear_past_used}
use Rattle.dym_bits.proofs.bitmap.Bits.next_set_within.Goals as goal

pub next_set_in-requires-clause-clear : goal.next_set_in-requires-clause-clear
next_set_in-requires-clause-clear c k past =
    elim (cases_lt k c.args.limit) [
      | inl below ↦ clear_past_used c.self.inside.words c.self.inside.used_words k c.self.invariant.1 (omega arith)
      | inr after ↦ ap (λ bits. get_or bits k false) c.self.view_is ∙ c.requires.clear k after
    ]
