-- What the definition of an order gives.
use Rattle.std.specs.Prelude.{ℕ, ◌<◌, ◌≤◌, List, IfOk, ⊤}
use Rattle.dym_base.specs.declared.limits.TheConstants.{MOST_OBJECTS, MOST_MADE_COMMANDS, MOST_WORKERS, MOST_SEGMENTS, MOST_QUANTUM}
use Rattle.dym_words.specs.declared.order.Input.{Input}
use Rattle.dym_words.specs.declared.order.Input.TheVariants.{Script, Made}
use Rattle.dym_words.specs.declared.order.Order.{Order}
use Rattle.dym_words.specs.declared.order.Order.TheVariants.{Plain, Run, Check, Gen, Trace, Save, Load, Views, Late}
use Rattle.dym_words.specs.Orders.{order}

-- a made script has an object at least, and no more of its objects and commands than the limits
pub record CanBeMade (objects commands : ℕ) : Type 0 where
  pub some : 0 < objects
  pub objects_fit : objects ≤ MOST_OBJECTS
  pub commands_fit : commands ≤ MOST_MADE_COMMANDS

abbrev pub IsInputWithin : Input → Type 0
IsInputWithin Script = ⊤
IsInputWithin (Made seed objects commands) = CanBeMade objects commands

-- so many workers, segments and commands of a turn may be asked for
pub record CanRun (workers segments quantum : ℕ) : Type 0 where
  pub workers_least : 1 ≤ workers
  pub workers_most : workers ≤ MOST_WORKERS
  pub segments_least : 1 ≤ segments
  pub segments_most : segments ≤ MOST_SEGMENTS
  pub quantum_least : 1 ≤ quantum
  pub quantum_most : quantum ≤ MOST_QUANTUM

-- the numbers of an order are within the limits: those of the script that it makes, where it makes one, and those of its waves
abbrev pub IsWithin : Order → Type 0
IsWithin (Plain input summary) = IsInputWithin input
IsWithin (Run workers segments quantum input summary) = CanRun workers segments quantum × IsInputWithin input
IsWithin Check = ⊤
IsWithin (Gen seed objects commands) = CanBeMade objects commands
IsWithin Trace = ⊤
IsWithin (Save name) = ⊤
IsWithin (Load time) = ⊤
IsWithin (Views workers segments quantum) = CanRun workers segments quantum
IsWithin Late = ⊤

-- each order is so
abbrev pub MadeOrdersAreWithin : Type 0
MadeOrdersAreWithin = (words : List (List ℕ)) → IfOk (order words) IsWithin
