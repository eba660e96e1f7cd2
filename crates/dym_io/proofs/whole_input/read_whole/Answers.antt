use Rattle.std.proofs.Common.{◌≡◌, ◌+◌, ◌≤◌, length, arith}
use Rattle.std.proofs.lemmas.Grind.{common_steps}
use Rattle.dym_io.proofs.ReadSoFar.{ended_at_limit, ended_at_end, took_piece}
use Rattle.dym_io.proofs.whole_input.read_whole.Goals.{else-pieces-test, then-pieces-test+in_ok-amount+then-amount-eq0}
use Rattle.dym_io.proofs.whole_input.read_whole.Goals as goal

pub returns-clause-ended : goal.returns-clause-ended
returns-clause-ended g c = elim c.pieces-test.branch [
  | else-pieces-test w ↦
      let full : length c.pieces.bytes.items ≡ c.args.limit = grind (arith, common_steps) in
      ended_at_limit _ _ _ _ full
  | then-pieces-test+in_ok-amount+then-amount-eq0 w ↦
      let pull = w.in_ok-amount.ensures in
      rw w.source-is (ended_at_end _ _ _ _ _ _ w.pull.new.out c.pieces.invariant.taken pull.end w.if-amount-eq0.true pull.taken)
]

pub returns-in_err-extend_from_slice-clause-bounded : goal.returns-in_err-extend_from_slice-clause-bounded
returns-in_err-extend_from_slice-clause-bounded g c =
    let pull = c.in_ok-amount.ensures in
    let few : length c.pieces.bytes.items + c.in_ok-amount.amount ≤ c.args.limit = grind (arith, common_steps) in
    took_piece c.args.limit c.in_ok-amount.amount _ _ _ _ c.pull.new.out c.pieces.invariant.taken pull.taken pull.amount few
