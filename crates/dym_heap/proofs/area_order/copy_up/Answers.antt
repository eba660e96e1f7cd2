use Rattle.dym_heap.proofs.Pairs.{up}
use Rattle.dym_heap.proofs.area_order.copy_up.Goals as goal

pub returns : goal.returns
returns g c =
    let parts = c.split_at_mut-low.ensures in
    up _ _ c.args.source.sized_area c.args.source.chunk c.args.target.chunk c.args.len c.requires.before c.requires.within parts.value parts.front_len c.index-low-source.is c.index-high-0.is c.copy_from.ensures.copied
    c.copy_from.ensures.valid
