use Rattle.std.proofs.Common.{◌≡◌, refl, sym, subst}
use Rattle.dym_base.specs.declared.command.Command.TheVariants.{Restore, Prune, Logs}
use Rattle.dym_base.specs.declared.reply.Reply.TheVariants as reply
use Rattle.dym_chain.specs.Answers.{restored_reply}
use Rattle.dym_object.specs.Commands.{slots_reply}
use Rattle.dym_object.specs.Meaning.{ObjectMeaning, counted}
use Rattle.dym_object.proofs.Runs.{RanOf, ran_by, at_restored}
use Rattle.dym_object.proofs.object.Object.run_into.Goals as goal

pub returns-in-Restore : goal.returns-in-Restore
returns-in-Restore g c =
    let old : ObjectMeaning = c.args.self.now in
    let new : ObjectMeaning = c.restore.new.self in
    let k = c.in-Restore in
    let t = ran_by old new c.args.command.now (Restore k.time) c.of_restored.result (restored_reply c.restore.result) k.is c.of_restored.ensures c.restore.ensures.reply c.restore.ensures.step (at_restored c.restore.result (new ≡ counted old) c.restore.ensures.refused) in
    record { reply = t.replied; after = t.after; base_logs = t.base_logs; ran = t.ran; memory = tt; unchanged = tt; kept = tt; refused = t.refused; heap = t.heap; origin = t.origin; whole = c.restore.ensures.whole }

pub returns-in-Prune : goal.returns-in-Prune
returns-in-Prune g c =
    let old : ObjectMeaning = c.args.self.now in
    let new : ObjectMeaning = c.prune.new.self in
    let k = c.in-Prune in
    let r = reply.Dropped c.prune.result in
    let t = ran_by old new c.args.command.now (Prune k.bound) r r k.is refl c.prune.ensures.reply c.prune.ensures.step tt in
    record { reply = t.replied; after = t.after; base_logs = t.base_logs; ran = t.ran; memory = tt; unchanged = tt; kept = tt; refused = t.refused; heap = t.heap; origin = t.origin; whole = c.prune.ensures.whole }

pub returns-in-Logs : goal.returns-in-Logs
returns-in-Logs g c =
    let old : ObjectMeaning = c.args.self.now in
    let new : ObjectMeaning = c.logs.new.self in
    let t = ran_by old new c.args.command.now Logs c.of_slots.result (slots_reply c.logs.result) c.in-Logs.is c.of_slots.ensures c.logs.ensures.reply c.logs.ensures.step tt in
    record { reply = t.replied; after = t.after; base_logs = t.base_logs; ran = t.ran; memory = tt; unchanged = tt; kept = tt; refused = t.refused; heap = t.heap; origin = t.origin; whole = c.logs.ensures.whole }

pub returns-in-Read : goal.returns-in-Read
returns-in-Read g c =
    let e = c.read_into.ensures in
    let t = subst (RanOf c.read_into.result c.args.self.now c.read_into.new.self c.read_into.new.reply) (sym c.in-Read.is)
    (record { reply = e.reply; after = e.after; base_logs = e.base_logs; memory = e.memory }) in
    record { reply = t.reply; after = t.after; base_logs = t.base_logs; ran = e.ran; memory = t.memory; unchanged = e.unchanged; kept = e.kept; refused = e.refused; heap = e.heap; origin = e.origin; whole = e.whole }

pub returns-in-Log : goal.returns-in-Log
returns-in-Log g c =
    let e = c.log_into.ensures in
    let t = subst (RanOf c.log_into.result c.args.self.now c.log_into.new.self c.log_into.new.reply) (sym c.in-Log.is)
    (record { reply = e.reply; after = e.after; base_logs = e.base_logs; memory = e.memory }) in
    record { reply = t.reply; after = t.after; base_logs = t.base_logs; ran = e.ran; memory = t.memory; unchanged = e.unchanged; kept = e.kept; refused = e.refused; heap = e.heap; origin = e.origin; whole = e.whole }

pub returns-in-Ilog : goal.returns-in-Ilog
returns-in-Ilog g c =
    let e = c.log_into-in-Ilog.ensures in
    let t = subst (RanOf c.log_into-in-Ilog.result c.args.self.now c.log_into-in-Ilog.new.self c.log_into-in-Ilog.new.reply) (sym c.in-Ilog.is)
    (record { reply = e.reply; after = e.after; base_logs = e.base_logs; memory = e.memory }) in
    record { reply = t.reply; after = t.after; base_logs = t.base_logs; ran = e.ran; memory = t.memory; unchanged = e.unchanged; kept = e.kept; refused = e.refused; heap = e.heap; origin = e.origin; whole = e.whole }

pub returns-in_default : goal.returns-in_default
returns-in_default g c =
    let e = c.step.ensures in
    record { reply = e.reply; after = e.step.object; base_logs = e.step.base_logs; ran = e.step.ran; memory = tt; unchanged = tt; kept = tt; refused = e.refused; heap = e.step.heap; origin = e.step.origin; whole = e.whole }
