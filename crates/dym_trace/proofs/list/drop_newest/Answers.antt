use Rattle.std.proofs.Common.{◌≤◌, length, arith}
use Rattle.dym_trace.proofs.Entries.{newest_done}
use Rattle.dym_trace.proofs.list.drop_newest.Goals as goal

pub returns-in-Some : goal.returns-in-Some
returns-in-Some c =
    let count = c.args.list.now.ok.0 in
    let len = c.len.ensures in
    let least = c.if-len-lt-FEWEST.false in
    let two : 2 ≤ length c.args.list.now.items = omega arith in
    newest_done c.args.number c.args.list.now.items c.pop_back.new.self.items c.in-Some.newest c.in-Some.ensures.items c.requires two
