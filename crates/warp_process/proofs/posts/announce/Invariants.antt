use Rattle.std.proofs.Common.{◌≡◌, ◌+◌, ◌≤◌, ◌++◌, length, take, map, vec_len, vec_capacity}
use Rattle.warp_base.specs.declared.event.Message.TheVariants as Variants
use Rattle.warp_process.proofs.posts.announce.Given as goal

abbrev pub invariant-loop-event : goal.invariant-loop-event
invariant-loop-event g l = record {
  out : l.out.items ≡ l.fn.out.items ++ map Variants.Anti (take l.event-index l.events);
  room : vec_len l.out + length l.events ≤ vec_capacity l.out + l.event-index;
}
