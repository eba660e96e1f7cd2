use Rattle.std.proofs.Common.{Err, ap, ◌∙◌}
use Rattle.dym_c.proofs.Exports.{send_status, sent_of}
use Rattle.dym_c.proofs.process_calls.send.Goals as goal

pub returns-in-Ok-clause-sent : goal.returns-in-Ok-clause-sent
returns-in-Ok-clause-sent c =
    let told = c.send.ensures in
    sent_of c.args.running.now c.send.new.self c.args.draft c.send.result 0
    (ap send_status c.in-Ok.is)
    told.sent told.dropped told.idle told.later told.no_process told.unchanged told.rest

pub returns-in-Err-NotLater-clause-sent : goal.returns-in-Err-NotLater-clause-sent
returns-in-Err-NotLater-clause-sent c =
    let told = c.send.ensures in
    sent_of c.args.running.now c.send.new.self c.args.draft c.send.result 14
    (ap send_status (c.in-Err-NotLater.is ∙ ap Err c.in-Err-NotLater.field-0-is))
    told.sent told.dropped told.idle told.later told.no_process told.unchanged told.rest

pub returns-in-Err-NoProcess-clause-sent : goal.returns-in-Err-NoProcess-clause-sent
returns-in-Err-NoProcess-clause-sent c =
    let told = c.send.ensures in
    sent_of c.args.running.now c.send.new.self c.args.draft c.send.result 15
    (ap send_status (c.in-Err-NoProcess.is ∙ ap Err c.in-Err-NoProcess.field-0-is))
    told.sent told.dropped told.idle told.later told.no_process told.unchanged told.rest

pub returns-in-Err-Memory-clause-sent : goal.returns-in-Err-Memory-clause-sent
returns-in-Err-Memory-clause-sent c =
    let told = c.send.ensures in
    sent_of c.args.running.now c.send.new.self c.args.draft c.send.result 8
    (ap send_status (c.in-Err-Memory.is ∙ ap Err c.in-Err-Memory.field-0-is))
    told.sent told.dropped told.idle told.later told.no_process told.unchanged told.rest
