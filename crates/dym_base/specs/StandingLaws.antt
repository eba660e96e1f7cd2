-- What holds of the logs that stand for a map.
use Rattle.std.specs.Prelude.{◌≡◌, List, [], ◌∷◌}
use Rattle.dym_base.specs.Heaps.{Live}
use Rattle.dym_base.specs.Packed.{Logged}
use Rattle.dym_base.specs.StandsFor.{LogsStandFor}
use Rattle.dym_base.specs.declared.command.Kind.TheVariants.{Full}

-- a full log alone stands for its copy
abbrev pub FullStandsAlone : Type 0
FullStandsAlone = (log : Logged) → log.kind ≡ Full → LogsStandFor (log ∷ []) log.copy

-- no logs stand for two maps
abbrev pub LogsStandForOne : Type 0
LogsStandForOne = (logs : List Logged) (a b : Live) → LogsStandFor logs a → LogsStandFor logs b → a ≡ b
