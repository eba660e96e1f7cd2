use Rattle.dym_heap.proofs.Pairs.{down}
use Rattle.dym_heap.proofs.area_order.copy_down.Goals as goal

pub returns : goal.returns
returns g c =
    let parts = c.split_at_mut-low.ensures in
    down _ _ c.args.source.chunk c.args.target.sized_area c.args.target.chunk c.args.len c.requires.before c.requires.within parts.value parts.front_len c.index-high-0.is c.index-low-target.is c.copy_from.ensures.copied
    c.copy_from.ensures.valid
