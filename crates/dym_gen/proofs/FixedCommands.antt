-- What holds of each command that an object may get holds of those that it gets.
use Rattle.std.proofs.Common.{ℕ, ◌-◌, ◌%◌, ◌==◌, Bool, true, false, cond, ◌&&◌, List, ◌++◌, codes, Option, Some, None}
use Rattle.std.specs.Prelude.{decimal}
use Rattle.dym_gen.specs.Commands.{fixed_command, goes_back, command_text}

module _ (P : List ℕ → Type 0) where
  either : (b : Bool) (o p : Option (List ℕ)) (x : ℕ) → P (command_text o x) → P (command_text p x) → P (command_text (cond b o p) x)
  either true o p x first second = first
  either false o p x first second = second

  pub each_fixed : (object j x : ℕ) → P (codes "malloc 40") → P (codes "malloc 65536") → P (codes "restore " ++ decimal (j - 8)) → P (codes "prune " ++ decimal (j - 16))
      → P (codes "log " ++ decimal j) → P (codes "ilog " ++ decimal j) → P (command_text None x) → P (command_text (fixed_command object j) x)
  each_fixed object j x first second restore prune log ilog drawn =
      either (j == 0) (Some (codes "malloc 40")) _ x first
      (either (j == 1) (Some (codes "malloc 65536")) _ x second
      (either (j % 32 == 22 && goes_back object) (Some (codes "restore " ++ decimal (j - 8))) _ x restore
      (either (j % 32 == 30 && goes_back object) (Some (codes "prune " ++ decimal (j - 16))) _ x prune
      (either (j % 32 == 2) (Some (codes "log " ++ decimal j)) _ x log (either (j % 4 == 2) (Some (codes "ilog " ++ decimal j)) None x ilog drawn)))))
