use Rattle.std.proofs.Common.{◌<◌, length, arith}
use Rattle.dym_script.proofs.AheadLines.{ahead_nothing, ahead_within, ahead_room, ahead_more}
use Rattle.dym_script.proofs.read_ahead.read_ahead.Goals as goal

pub loop-lines-init : goal.loop-lines-init
loop-lines-init c =
    ahead_nothing c.args.reader.now.objects.items c.args.text.now c.in_ok-own.own.items (omega (arith, c.in_ok-own.ensures.len, c.len.ensures))
    c.in_ok-own.ensures.none

pub index_mut-requires : goal.index_mut-requires
index_mut-requires c =
    let l = c.loop-lines in
    let within : c.in-Some.object < length l.own.items =
    ahead_within c.args.reader.now c.args.text.now l.own.items l.lines l.rest.now _ c.in-Some.after.now l.invariant c.in-Some.ensures in
    omega (arith, within)

pub push-requires : goal.push-requires
push-requires c =
    let l = c.loop-lines in
    let within : c.in-Some.object < length l.own.items =
    ahead_within c.args.reader.now c.args.text.now l.own.items l.lines l.rest.now _ c.in-Some.after.now l.invariant c.in-Some.ensures in
    ahead_room c.args.reader.now.objects.items c.args.text.now l.own.items l.lines l.rest.now _ c.index_mut.result.now
    l.invariant c.loop-lines-test.true c.index_mut.ensures.value (omega (arith, within))

pub loop-lines-preserved : goal.loop-lines-preserved
loop-lines-preserved c =
    let l = c.loop-lines in
    ahead_more c.args.reader.now c.args.text.now l.own.items l.lines l.rest.now _ c.in-Some.after.now c.index_mut.result.now c.push.new.self
    l.invariant c.in-Some.ensures c.index_mut.ensures.value c.in_ok-push.ensures.pushed

pub loop-lines-smaller : goal.loop-lines-smaller
loop-lines-smaller c = omega (arith, c.in-Some.ensures.shorter)

pub returns : goal.returns
returns c =
    let ahead = c.loop-lines.invariant in
    record { asked = ahead.asked; ask = ahead.ask; count = ahead.count; lists = ahead.lists; own = ahead.each }
