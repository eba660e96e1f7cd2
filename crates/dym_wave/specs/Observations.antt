-- Viewers that look while others publish.
use Rattle.std.specs.Prelude.{◌≡◌, List}
use Rattle.std.specs.List.{AllZip}
use mathlib.Core.List.{IsPrefix}
use Rattle.dym_view.specs.Histories.{Beginning}

-- a viewer after some looks: it is of the same history, of which it knows what it knew, and maybe more. So it never goes back
pub record LooksOn (old new : Beginning) : Type 0 where
  pub name : new.history ≡ old.history
  pub known : IsPrefix old.commits new.commits

-- the same of each of some viewers
abbrev pub LookedOn : List Beginning → List Beginning → Type 0
LookedOn old new = AllZip LooksOn old new
