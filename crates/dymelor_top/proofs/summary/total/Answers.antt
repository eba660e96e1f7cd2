use Rattle.std.proofs.Common.{◌≡◌, ◌+◌, ◌≤◌, All, map, length, sum_by, subst, sym, ap, ◌∙◌, arith}
use Rattle.dym_base.specs.declared.limits.TheConstants.{MOST_COMMANDS}
use Rattle.dym_script.specs.declared.parts.Part.{Part}
use Rattle.dym_script.specs.OwnCommands.{own_of, IsRunnable}
use Rattle.dym_wave.specs.Reports.{tally_all}
use Rattle.dymelor_top.proofs.PartFacts.{parts_run}
use Rattle.dymelor_top.proofs.SummaryFacts.{commands_of_parts, objects_of_parts, total_is}
use Rattle.dymelor_top.proofs.summary.total.Goals as goal

pub tally_parts-requires-clause-runnable : goal.tally_parts-requires-clause-runnable
tally_parts-requires-clause-runnable c =
    let are = c.requires.made.1 in
    subst (All IsRunnable) (sym c.deref.ensures.value) (parts_run c.requires.made.0 c.args.script.now.kept.parts.items are.keeps.decls are.keeps.commands are.valid)

pub tally_parts-requires-clause-objects : goal.tally_parts-requires-clause-objects
tally_parts-requires-clause-objects c =
    let are = c.requires.made.1 in
    omega (arith, ap length c.deref.ensures.value, objects_of_parts c.args.script.now c.requires.made.0 are, are.valid.objects)

pub tally_parts-requires-clause-commands : goal.tally_parts-requires-clause-commands
tally_parts-requires-clause-commands c =
    let are = c.requires.made.1 in
    let few : sum_by (λ (part : Part). length part.commands) c.args.script.now.kept.parts.items ≤ MOST_COMMANDS =
    omega (arith, commands_of_parts c.args.script.now c.requires.made.0 are, are.valid.lines) in
    subst (λ ps. sum_by (λ (part : Part). length part.commands) ps ≤ MOST_COMMANDS) (sym c.deref.ensures.value) few

pub totals-requires : goal.totals-requires
totals-requires c =
    let are = c.requires.made.1 in
    let replies : c.in_ok-tally.tally.ok + c.in_ok-tally.tally.refused ≡ sum_by (λ (part : Part). length part.commands) c.args.script.now.kept.parts.items =
    c.in_ok-tally.ensures.replies ∙ ap (sum_by (λ (part : Part). length part.commands)) c.deref.ensures.value in
    omega (arith, replies, commands_of_parts c.args.script.now c.requires.made.0 are, are.valid.lines)

pub returns : goal.returns
returns c s are =
    let tally = c.in_ok-tally.tally in
    let all : tally ≡ tally_all c.args.script.now.version (map own_of c.args.script.now.kept.parts.items) =
    c.in_ok-tally.ensures.counted ∙ ap (λ ps. tally_all c.args.script.now.version (map own_of ps)) c.deref.ensures.value in
    let replies : tally.ok + tally.refused ≡ sum_by (λ (part : Part). length part.commands) c.args.script.now.kept.parts.items =
    c.in_ok-tally.ensures.replies ∙ ap (sum_by (λ (part : Part). length part.commands)) c.deref.ensures.value in
    c.totals.ensures ∙ total_is c.args.script.now s tally c.len.result are all replies (omega (arith, c.len.ensures))
