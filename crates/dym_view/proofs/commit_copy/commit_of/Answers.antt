use Rattle.std.proofs.Common.{◌≡◌, ◌<◌, length, Some, arith, sym, ap, ◌∙◌, option_map}
use Rattle.dym_chain.specs.Chains.{ChainMeaning, log_at}
use Rattle.dym_chain.specs.declared.entry.Entry.{Entry}
use Rattle.dym_view.specs.Commits.{CommitMeaning, committed}
use Rattle.dym_view.specs.Copies.{copy_of}
use Rattle.dym_view.proofs.Oldest.{oldest_is}
use Rattle.dym_view.proofs.commit_copy.commit_of.Goals as goal

pub returns-clause-commit : goal.returns-clause-commit
returns-clause-commit g c =
    let m : ChainMeaning = g.L.KeptLogs.meaning c.args.logs.now in
    let some : 0 < length m.logs = omega (arith, c.if-kept-eq0.false, c.kept.ensures) in
    let time : c.entry-entry.result.time ≡ (log_at m.logs 0).time = ap (λ (e : Entry). e.time) c.entry-entry.ensures in
    let copy : copy_of c.in_ok-copied.field-0 ≡ (log_at m.logs 0).copy = c.in_ok-copied.ensures.copy ∙ c.in_ok-heap.ensures.copy in
    let one : ◌≡◌ {A = CommitMeaning} (record { time = c.entry-entry.result.time; copy = copy_of c.in_ok-copied.field-0 }) (committed (log_at m.logs 0)) =
    λ i. record { time = time i; copy = copy i } in
    ap Some one ∙ sym (ap (option_map committed) (oldest_is m.logs some))
