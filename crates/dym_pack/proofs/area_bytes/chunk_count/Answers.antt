use Rattle.std.proofs.Common.{ap, ◌∙◌}
use Rattle.dym_base.specs.Numbers.{per}
use Rattle.dym_pack.proofs.area_bytes.chunk_count.Goals as goal

pub returns : goal.returns
returns g c = c.per_area.ensures ∙ ap per c.area_class.ensures
