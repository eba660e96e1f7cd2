use Rattle.std.proofs.Common.{inr, refl, subst}
use Rattle.std.specs.Prelude.{is_some}
use Rattle.dym_wave.specs.States.{IsState}
use Rattle.dym_wave.proofs.WorkStates.{short_job}
use Rattle.dym_wave.proofs.turns.WorkJob.turn.Goals as goal

pub run_turn-ran-requires-clause-ran : goal.run_turn-ran-requires-clause-ran
run_turn-ran-requires-clause-ran g c =
    let w = c.self.inside in
    (subst (IsState w.spec (is_some w.publisher)) c.in-Running.is (c.replace_with.ensures.0 _ c.self.invariant.1)).0

pub invariant_of-self : goal.invariant_of-self
invariant_of-self g c =
    let w = c.self.inside in (
      short_job w.spec w.state c.replace_with.new.dest w.short w.publisher c.replace_with.ensures.1.0 c.replace_with.ensures.1.1 c.self.invariant.0,
      c.replace_with.ensures.0 _ c.self.invariant.1,
      inr (inr refl),
    )
