use Rattle.std.proofs.Common.{◌≡◌, ◌+◌, List, ℕ, Option, unwrap_or, sym, ap, ◌∙◌}
use Rattle.dym_slots.specs.Meanings.{record_at}
use Rattle.dym_chain.specs.Differences.{difference_at}
use Rattle.dym_chain.proofs.DifferenceFacts as facts
use Rattle.dym_chain.proofs.record_replay.mark_log.Given as given
use Rattle.dym_chain.proofs.record_replay.mark_log.Goals.{In-Some, After-lift-rec}
use Rattle.dym_chain.proofs.record_replay.mark_log.Goals as goal

module _ (g : given.Over) (c : In-Some g) where
  kept : unwrap_or (difference_at c.args.differences.now.items c.args.i) (record_at (g.K.LogKeep.meaning c.args.keep.now).records (c.args.base + c.args.i)).bytes ≡ c.in-Some.rec.now
  kept = ap (λ (o : Option (List ℕ)). unwrap_or o (record_at (g.K.LogKeep.meaning c.args.keep.now).records (c.args.base + c.args.i)).bytes) c.in-Some.ensures

pub returns-in-Some-clause-unmodified : goal.returns-in-Some-clause-unmodified
returns-in-Some-clause-unmodified g c =
    let has = c.requires.recorded in
    facts.mark_settles has.0 c.args.heap.now.state c.mark.new.self.state (c.mark.ensures.marked has.0 has.1 (has.2 ∙ kept g (goal.at.returns-in-Some-clause-unmodified g c).In-Some))

pub returns-in-Some-clause-marked : goal.returns-in-Some-clause-marked
returns-in-Some-clause-marked g c log recorded bytes =
    facts.mark_touches log c.args.heap.now.state c.mark.new.self.state (c.mark.ensures.marked log recorded (bytes ∙ kept g (goal.at.returns-in-Some-clause-marked g c).In-Some))

module _ (g : given.Over) (c : After-lift-rec g) where
  lifted : unwrap_or (difference_at c.args.differences.now.items c.args.i) (record_at (g.K.LogKeep.meaning c.args.keep.now).records (c.args.base + c.args.i)).bytes ≡ c.lift-rec.result
  lifted =
      ap (λ (o : Option (List ℕ)). unwrap_or o (record_at (g.K.LogKeep.meaning c.args.keep.now).records (c.args.base + c.args.i)).bytes) c.in-None.ensures ∙ sym c.lift-rec.ensures.bytes

pub returns-in-None-clause-unmodified : goal.returns-in-None-clause-unmodified
returns-in-None-clause-unmodified g c =
    let has = c.requires.recorded in
    facts.mark_settles has.0 c.args.heap.now.state c.mark-in-None.new.self.state (c.mark-in-None.ensures.marked has.0 has.1 (has.2 ∙ lifted g (goal.at.returns-in-None-clause-unmodified g c).After-lift-rec))

pub returns-in-None-clause-marked : goal.returns-in-None-clause-marked
returns-in-None-clause-marked g c log recorded bytes =
    facts.mark_touches log c.args.heap.now.state c.mark-in-None.new.self.state (c.mark-in-None.ensures.marked log recorded (bytes ∙ lifted g (goal.at.returns-in-None-clause-marked g c).After-lift-rec))
