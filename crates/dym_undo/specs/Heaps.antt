-- What an undo log asks of a heap's meaning.
use Rattle.std.specs.Prelude.{ℕ, ◌≤◌}
use Rattle.std.specs.FinMap as map
use Rattle.std.specs.FinSet as set
use Rattle.dym_base.specs.Heaps.{HeapState, held}
use Rattle.dym_base.specs.Laws.{IsWellSized}
use Rattle.dym_base.specs.declared.command.Version.{Version}
use Rattle.dym_base.specs.declared.limits.TheConstants.{MOST_QUOTA}
use Rattle.std.specs.Prelude.{List}

-- what is true of every heap: it is within its quota, and each chunk has a length of its class
pub record IsWithin (v : Version) (quota : ℕ) (s : HeapState) : Type 0 where
  pub most : quota ≤ MOST_QUOTA
  pub within : held s.live ≤ quota
  pub sized : IsWellSized v s.live

-- the chunk of number k is as it was logged, live with these bytes, and not touched
abbrev pub put_back : HeapState → ℕ → List ℕ → HeapState
put_back s k bytes = record { live = map.insert s.live k bytes; touched = set.remove s.touched k }

-- the chunk of number k isn't touched
abbrev pub forgotten : HeapState → ℕ → HeapState
forgotten s k = record { live = s.live; touched = set.remove s.touched k }

-- no chunk is
abbrev pub all_forgotten : HeapState → HeapState
all_forgotten s = record { live = s.live; touched = set.empty }
