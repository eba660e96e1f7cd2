use Rattle.std.proofs.Common.{◌≡◌, ◌+◌, ◌≤◌, ◌++◌, length, take, map, vec_len, vec_capacity}
use Rattle.warp_base.specs.declared.event.Message.TheVariants as Variants
use Rattle.warp_base.specs.Histories.{stamped}
use Rattle.warp_process.proofs.posts.post.Given as goal

abbrev pub invariant-loop-i : goal.invariant-loop-i
invariant-loop-i g l = record {
  sent : l.sent.items ≡ l.fn.sent.items ++ stamped l.number l.serial (take l.i l.drafts);
  out : l.out.items ≡ l.fn.out.items ++ map Variants.Event (stamped l.number l.serial (take l.i l.drafts));
  sent_room : vec_len l.sent + length l.drafts ≤ vec_capacity l.sent + l.i;
  out_room : vec_len l.out + length l.drafts ≤ vec_capacity l.out + l.i;
}
