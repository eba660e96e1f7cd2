use Rattle.std.proofs.Common.{◌+◌, take, ap, sym, ◌∙◌, ◌++◌, ◌∷◌, [], arith}
use Rattle.warp_base.specs.Histories.{stamped}
use Rattle.warp_process.proofs.Outgoing.{stamped_more, one_sent, one_out}
use Rattle.warp_process.proofs.posts.post.Goals as goal

pub loop-i-preserved : goal.loop-i-preserved
loop-i-preserved g c =
    let p = c.args.number in
    let n = c.args.serial in
    let ds = c.args.drafts.now in
    let i = c.loop-i.i in
    let event = c.stamp-event.result in
    let more = stamped_more p n i ds c.index-drafts-i.result c.loop-i-test.true c.index-drafts-i.is in
    let is = more ∙ ap (λ x. stamped p n (take i ds) ++ x ∷ []) (sym c.stamp-event.ensures) in
    record {
      sent = one_sent c.args.sent.now.items c.loop-i.sent.items c.push_reserved.new.self.items (stamped p n (take i ds)) (stamped p n (take (i + 1) ds)) event c.loop-i.invariant.sent c.push_reserved.ensures.items is;
      out = one_out c.args.out.now.items c.loop-i.out.items c.push_reserved-in-loop-i.new.self.items (stamped p n (take i ds)) (stamped p n (take (i + 1) ds)) event c.loop-i.invariant.out c.push_reserved-in-loop-i.ensures.items is;
      sent_room = omega (arith, c.loop-i.invariant.sent_room, c.push_reserved.ensures.len, c.push_reserved.ensures.capacity);
      out_room = omega (arith, c.loop-i.invariant.out_room, c.push_reserved-in-loop-i.ensures.len, c.push_reserved-in-loop-i.ensures.capacity);
    }
