use Rattle.std.proofs.Common.{◌<◌, length, ◌∙◌, arith, vec_capacity}
use Rattle.dym_region.specs.Content.{zeros_behind}
use Rattle.dym_region.proofs.Zeros.{one_more_zero}
use Rattle.dym_region.proofs.used_bytes.filled_to.Goals as goal

pub loop-bytes-preserved : goal.loop-bytes-preserved
loop-bytes-preserved g c =
    let held = c.loop-bytes.bytes in
    let before = c.loop-bytes.invariant in
    let pushed = c.push_reserved.ensures in
    let room : length held.items < vec_capacity held = omega (arith, c.loop-bytes-test.true, c.len.ensures, c.requires, before.room, held.ok.0) in
    record {
      content = (λ i. zeros_behind (pushed.capacity i) (pushed.items i)) ∙ one_more_zero (vec_capacity held) held.items room ∙ before.content;
      more = omega (arith, before.more, pushed.len);
      room = pushed.capacity ∙ before.room;
      place = pushed.in_place ∙ before.place;
    }
