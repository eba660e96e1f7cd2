use Rattle.std.proofs.Common.{refl}
use Rattle.dym_view.proofs.Names.{takes}
use Rattle.dym_view.proofs.publication.look_through.Goals as goal

pub enter_as-requires : goal.enter_as-requires
enter_as-requires c x = takes _ _ x x refl
