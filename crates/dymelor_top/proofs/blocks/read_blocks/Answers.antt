use Rattle.std.proofs.Common.{◌≡◌, ℕ, ◌+◌, ◌-◌, ◌≤◌, [], ◌++◌, length, length-append, length-take, take, drop, Err, sym, ap, subst, ◌∙◌, arith}
use Rattle.dym_base.specs.declared.bad_kind.BadKind.{BadKind}
use Rattle.dym_base.specs.declared.limits.TheConstants.{MOST_INPUT_BYTES}
use Rattle.dym_script.specs.declared.script.ScriptFail.TheVariants as fail
use Rattle.dym_script.specs.Answers.{FailsSo, GivesBy}
use Rattle.dym_script.specs.Pieces.{says, TakesPiece}
use Rattle.dym_script.specs.declared.pieces.WholeScript.{WholeScript}
use Rattle.dym_script.specs.Keepers.{IsWhole}
use Rattle.dym_script.specs.WholeScripts.{TookBy}
use Rattle.dymelor_top.specs.Blocks.{IsFaultOf, TakesBytes}
use Rattle.dymelor_top.proofs.ReadBlocks.{read_end, pulled_behind, pulled_long, read_more, read_bad, took_before, took_both, told_few}
use Rattle.dymelor_top.proofs.blocks.read_blocks.Goals as goal

pub returns-then-amount-eq0-clause-outcome : goal.returns-then-amount-eq0-clause-outcome
returns-then-amount-eq0-clause-outcome g c =
    let l = c.pieces in
    let pulled = c.in_ok-amount.ensures in
    read_end (g.R.Source.left c.args.source.now) (g.R.Source.left l.source) (g.R.Source.left c.pull_behind.new.source) (g.R.Source.faults c.args.source.now)
    (g.R.Source.faults l.source)
    c.in_ok-amount.amount l.pulled (TookBy g.K.Keeper.keeps l.script) (take l.left l.block)
    (drop l.left c.pull_behind.new.block)
    (GivesBy (λ (whole : WholeScript g.row.K.Denot). IsWhole (g.K.Keeper.keeps whole.kept) whole.version whole.objects.items whole.commands) c.finish.result)
    l.invariant.read pulled.end c.if-amount-eq0.true pulled.taken
    (λ taken took. subst (λ t. GivesBy
    (λ (whole : WholeScript g.row.K.Denot). IsWhole (g.K.Keeper.keeps whole.kept) whole.version whole.objects.items whole.commands) c.finish.result
    (says (taken ++ t))) pulled.kept (c.finish.ensures taken took))

pub returns-then-pulled-gt-MOST_INPUT_BYTES-clause-outcome : goal.returns-then-pulled-gt-MOST_INPUT_BYTES-clause-outcome
returns-then-pulled-gt-MOST_INPUT_BYTES-clause-outcome g c =
    let l = c.pieces in
    let pulled = c.in_ok-amount.ensures in
    let n = c.in_ok-amount.amount in
    let before = TookBy g.K.Keeper.keeps l.script in
    let a = g.R.Source.left c.args.source.now in
    let b = g.R.Source.left l.source in
    let after = g.R.Source.left c.pull_behind.new.source in
    let fits : l.left + n ≤ length c.pull_behind.new.block = omega (arith, pulled.amount, c.min-room.ensures, l.invariant.short, c.pull_behind.auto.block) in
    let behind =
    pulled_behind a b after (g.R.Source.faults c.args.source.now) (g.R.Source.faults l.source) n l.left l.pulled before l.block c.pull_behind.new.block
    l.invariant.read pulled.kept pulled.taken fits in
    subst (λ e. TakesBytes [] a after (FailsSo e)) (sym c.too_long.ensures)
    (pulled_long a after before (take (l.left + n) c.pull_behind.new.block) (l.pulled + n) behind c.if-pulled-gt-MOST_INPUT_BYTES.true
    (omega (arith, pulled.amount, c.min-room.ensures)))

pub pieces-preserved : goal.pieces-preserved
pieces-preserved g c =
    let l = c.pieces in
    let pulled = c.in_ok-amount.ensures in
    let n = c.in_ok-amount.amount in
    let before = TookBy g.K.Keeper.keeps l.script in
    let now = TookBy g.K.Keeper.keeps c.take.new.self in
    let a = g.R.Source.left c.args.source.now in
    let b = g.R.Source.left l.source in
    let after = g.R.Source.left c.pull_behind.new.source in
    let fits : l.left + n ≤ length c.pull_behind.new.block = omega (arith, pulled.amount, c.min-room.ensures, l.invariant.short, c.pull_behind.auto.block) in
    let text = take (l.left + n) c.pull_behind.new.block in
    let long : l.left + n ≡ length text = omega (arith, length-take (l.left + n) c.pull_behind.new.block, fits) in
    let behind =
    pulled_behind a b after (g.R.Source.faults c.args.source.now) (g.R.Source.faults l.source) n l.left l.pulled before l.block c.pull_behind.new.block
    l.invariant.read pulled.kept pulled.taken fits in
    record {
      short = c.in-Ok.ensures.short;
      more = pulled.more (omega (arith, c.if-amount-eq0.false));
      read =
          read_more a after (g.R.Source.faults c.args.source.now) (g.R.Source.faults c.pull_behind.new.source) before now text
          (take c.in-Ok.rest c.keep_end.new.block) c.in-Ok.rest (l.pulled + n) behind
          c.if-pulled-gt-MOST_INPUT_BYTES.false (pulled.count ∙ l.invariant.read.faults) c.in-Ok.ensures.took
          (c.keep_end.ensures ∙ ap (λ k. drop (k - c.in-Ok.rest) text) long);
    }

pub returns-in-Err-Bad-clause-outcome : goal.returns-in-Err-Bad-clause-outcome
returns-in-Err-Bad-clause-outcome g c =
    let l = c.pieces in
    let pulled = c.in_ok-amount.ensures in
    let n = c.in_ok-amount.amount in
    let before = TookBy g.K.Keeper.keeps l.script in
    let now = TookBy g.K.Keeper.keeps c.take.new.self in
    let a = g.R.Source.left c.args.source.now in
    let b = g.R.Source.left l.source in
    let middle = g.R.Source.left c.pull_behind.new.source in
    let after = g.R.Source.left c.fault.new.source in
    let fits : l.left + n ≤ length c.pull_behind.new.block = omega (arith, pulled.amount, c.min-room.ensures, l.invariant.short, c.pull_behind.auto.block) in
    let text = take (l.left + n) c.pull_behind.new.block in
    let behind =
    pulled_behind a b middle (g.R.Source.faults c.args.source.now) (g.R.Source.faults l.source) n l.left l.pulled before l.block c.pull_behind.new.block
    l.invariant.read pulled.kept pulled.taken fits in
    let takes : TakesPiece before now text (Err (fail.Bad c.in-Err-Bad.line c.in-Err-Bad.kind)) =
    subst (λ e. TakesPiece before now text (Err e)) c.in-Err-Bad.field-0-is c.in-Err-Bad.ensures.took in
    let named : ◌≡◌ {A = ℕ × BadKind} _ (c.in-Err-Bad.line, c.in-Err-Bad.kind) = λ i. (c.in-Err-Bad.line-is i, c.in-Err-Bad.kind-is i) in
    read_bad a middle after before now text (l.pulled + n) c.in-Err-Bad.line c.in-Err-Bad.kind c.in_ok-fault-in-Err-Bad.field-0 behind takes
    (λ front len faulty. c.in_ok-fault-in-Err-Bad.ensures.outcome front len (let P : ℕ × BadKind → Type 0 = λ x. IsFaultOf front x.0 x.1 in subst P (sym named) faulty))

-- However the call ends, no more was taken than tells that the input is too long.

pub returns-in_err-amount-clause-bounded : goal.returns-in_err-amount-clause-bounded
returns-in_err-amount-clause-bounded g c =
    let l = c.pieces in
    let so = l.invariant.read in
    let left = take l.left l.block in
    took_before (MOST_INPUT_BYTES + 1) l.pulled (g.R.Source.left c.args.source.now) (g.R.Source.left l.source) (g.R.Source.left c.pull_behind.new.source)
    (so.taken ++ left) so.consumed
    (omega (arith, so.count, length-append so.taken left)) (omega (arith, so.within)) c.in_err-amount.ensures.stays

pub returns-then-amount-eq0-clause-bounded : goal.returns-then-amount-eq0-clause-bounded
returns-then-amount-eq0-clause-bounded g c = told_few _ _ _ (returns-then-amount-eq0-clause-outcome g c)

pub returns-then-pulled-gt-MOST_INPUT_BYTES-clause-bounded : goal.returns-then-pulled-gt-MOST_INPUT_BYTES-clause-bounded
returns-then-pulled-gt-MOST_INPUT_BYTES-clause-bounded g c = told_few _ _ _ (returns-then-pulled-gt-MOST_INPUT_BYTES-clause-outcome g c)

pub returns-in-Err-Bad-clause-bounded : goal.returns-in-Err-Bad-clause-bounded
returns-in-Err-Bad-clause-bounded g c = told_few _ _ _ (returns-in-Err-Bad-clause-outcome g c)

pub returns-in_err-fault-in-Err-Bad-clause-bounded : goal.returns-in_err-fault-in-Err-Bad-clause-bounded
returns-in_err-fault-in-Err-Bad-clause-bounded g c =
    let l = c.pieces in
    let pulled = c.in_ok-amount.ensures in
    let n = c.in_ok-amount.amount in
    let before = TookBy g.K.Keeper.keeps l.script in
    let a = g.R.Source.left c.args.source.now in
    let b = g.R.Source.left l.source in
    let middle = g.R.Source.left c.pull_behind.new.source in
    let fits : l.left + n ≤ length c.pull_behind.new.block = omega (arith, pulled.amount, c.min-room.ensures, l.invariant.short, c.pull_behind.auto.block) in
    let text = take (l.left + n) c.pull_behind.new.block in
    let behind =
    pulled_behind a b middle (g.R.Source.faults c.args.source.now) (g.R.Source.faults l.source) n l.left l.pulled before l.block c.pull_behind.new.block
    l.invariant.read pulled.kept pulled.taken fits in
    let len : length (behind.taken ++ text) ≡ l.pulled + n = omega (arith, behind.count, length-append behind.taken text) in
    took_both (MOST_INPUT_BYTES + 1) (l.pulled + n) (MOST_INPUT_BYTES + 1 - (l.pulled + n)) a middle (g.R.Source.left c.fault.new.source) (behind.taken ++ text)
    behind.consumed len
    (omega (arith, c.if-pulled-gt-MOST_INPUT_BYTES.false)) c.in_err-fault-in-Err-Bad.ensures.bounded

pub returns-in-Err-Memory-clause-bounded : goal.returns-in-Err-Memory-clause-bounded
returns-in-Err-Memory-clause-bounded g c =
    let l = c.pieces in
    let pulled = c.in_ok-amount.ensures in
    let n = c.in_ok-amount.amount in
    let before = TookBy g.K.Keeper.keeps l.script in
    let a = g.R.Source.left c.args.source.now in
    let b = g.R.Source.left l.source in
    let after = g.R.Source.left c.pull_behind.new.source in
    let fits : l.left + n ≤ length c.pull_behind.new.block = omega (arith, pulled.amount, c.min-room.ensures, l.invariant.short, c.pull_behind.auto.block) in
    let text = take (l.left + n) c.pull_behind.new.block in
    let behind =
    pulled_behind a b after (g.R.Source.faults c.args.source.now) (g.R.Source.faults l.source) n l.left l.pulled before l.block c.pull_behind.new.block
    l.invariant.read pulled.kept pulled.taken fits in
    let len : length (behind.taken ++ text) ≡ l.pulled + n = omega (arith, behind.count, length-append behind.taken text) in
    record { got = behind.taken ++ text; taken = behind.consumed; few = omega (arith, len, c.if-pulled-gt-MOST_INPUT_BYTES.false) }
