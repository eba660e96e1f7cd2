use Rattle.dym_wave.proofs.Runs.{ran_more, same_origin, told_fits, told_short, room_behind}
use Rattle.dym_wave.proofs.turns.run_next.Goals as goal

pub push-requires : goal.push-requires
push-requires g c =
    let old = c.args.turn.now in
    let after = c.run.new.runner in
    let kept = c.args.replies.now in
    let did = c.in_ok-run.ensures.does in
    record {
      one = room_behind c.args.commands.now kept old.object after.object after.reply c.len.result c.len.ensures c.requires.left did c.requires.ran;
      bytes = told_fits c.args.commands.now kept old.object after.object after.reply c.len.result c.len.ensures c.requires.left did c.requires.ran;
      short = told_short c.args.commands.now kept old.object after.object after.reply c.len.result c.len.ensures c.requires.left did c.requires.ran;
    }

pub returns-clause-ran : goal.returns-clause-ran
returns-clause-ran g c =
    let old = c.args.turn.now in
    let after = c.run.new.runner in
    let put = c.push.ensures in
    ran_more c.args.commands.now c.args.replies.now old.object after.object after.reply c.len.result c.len.ensures c.requires.left
    c.in_ok-run.ensures.does c.requires.ran c.push.new.self put.replies put.room put.byte_room

pub returns-clause-origin : goal.returns-clause-origin
returns-clause-origin g c =
    let old = c.args.turn.now in
    let after = c.run.new.runner in
    same_origin c.args.commands.now c.args.replies.now old.object after.object after.reply c.len.result c.len.ensures c.requires.left
    c.in_ok-run.ensures.does c.requires.ran
