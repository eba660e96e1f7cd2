use Rattle.std.proofs.Common.{arith, ap, ◌∙◌, set, length-set}
use Rattle.std.proofs.lemmas.List.Edits.{map_over_more}
use Rattle.dym_heap.specs.SizedAreas.{used_touched}
use Rattle.dym_heap.proofs.shelf.touch_sized_areas.Goals as goal

pub loop-i-preserved : goal.loop-i-preserved
loop-i-preserved g c =
    let many = c.loop-i.invariant.many in
    record {
      items = ap (set c.loop-i.sized_areas.items c.loop-i.i) c.touch_all.ensures.touched
          ∙ map_over_more used_touched _ _ c.loop-i.i c.index_mut-sized_area.result.now (omega arith) c.loop-i.invariant.items c.index_mut-sized_area.ensures.value;
      many = length-set c.loop-i.sized_areas.items c.loop-i.i c.touch_all.new.self ∙ c.loop-i.invariant.many;
      room = c.loop-i.invariant.room;
    }
