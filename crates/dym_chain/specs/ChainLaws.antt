-- What keeps a chain with its heap.
use Rattle.std.specs.Prelude.{ℕ, [], None}
use Rattle.dym_base.specs.Origins.{Origin}
use Rattle.dym_base.specs.Heaps.{HeapState}
use Rattle.dym_base.specs.HeapStep.{heap_step}
use Rattle.dym_base.specs.declared.command.Version.{Version}
use Rattle.dym_base.specs.declared.command.Command.{Command}
use Rattle.dym_chain.specs.Chains.{ChainMeaning, Belongs}

-- after a command to the heap, the chain still belongs to it
abbrev pub HeapStepsKeepBelonging : Type 0
HeapStepsKeepBelonging = (v : Version) (quota : ℕ) (s : HeapState) (command : Command) (c : ChainMeaning) → Belongs v quota s c → Belongs v quota (heap_step v quota s command).heap c

-- a chain with no log belongs to every heap
abbrev pub NoLogsBelong : Type 0
NoLogsBelong = (v : Version) (quota : ℕ) (s : HeapState) (made : ℕ) (origin : Origin) → Belongs v quota s (record { base_logs = []; logs = []; records = []; made = made; lifted = None; origin = origin })
