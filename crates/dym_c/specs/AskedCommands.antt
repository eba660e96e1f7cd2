-- The command that C asks for by its arguments, where none of them is bad.
use Rattle.std.specs.Prelude.{ℕ, List, [], Option, None, Some, option_map}
use Rattle.dym_base.specs.declared.handle.Handle.{Handle}
use Rattle.dym_base.specs.declared.command.Command.{Command}
use Rattle.dym_base.specs.declared.command.Command.TheVariants.{Realloc, Free, Write, Fill, Read, Link, Follow, Sum}
use Rattle.dym_undo_object.specs.Touches.{write_of_all}
use Rattle.dym_undo_object.specs.Commands.{log_command}
use Rattle.dym_undo_object.specs.Meaning.{UndoObjectMeaning}
use Rattle.dym_c.specs.Handles.{chunk_of, chunk_or_nil_of}
use Rattle.dym_c.specs.OutValues.{kind_of}
use Rattle.dym_c.specs.declared.handle.DymHandle.{DymHandle}

abbrev pub asked_realloc : DymHandle → ℕ → Option Command
asked_realloc h len = option_map (λ place. Realloc place len) (chunk_or_nil_of h)

abbrev pub asked_free : DymHandle → Option Command
asked_free h = option_map Free (chunk_or_nil_of h)

abbrev pub asked_write : DymHandle → ℕ → List ℕ → Option Command
asked_write h at bytes = option_map (λ chunk. Write chunk at bytes) (chunk_of h)

-- a touch writes all bytes of a chunk as they stand there
abbrev pub asked_touch : Option UndoObjectMeaning → DymHandle → Option Command
asked_touch None h = option_map (λ chunk. Write chunk 0 []) (chunk_of h)
asked_touch (Some o) h = option_map (λ chunk. write_of_all o chunk) (chunk_of h)

abbrev pub asked_fill : DymHandle → ℕ → ℕ → ℕ → Option Command
asked_fill h at len byte = option_map (λ chunk. Fill chunk at len byte) (chunk_of h)

abbrev pub asked_read : DymHandle → ℕ → ℕ → Option Command
asked_read h at len = option_map (λ chunk. Read chunk at len) (chunk_of h)

abbrev link_by : Option Handle → ℕ → Option (Option Handle) → Option Command
link_by (Some chunk) at (Some place) = Some (Link chunk at place)
link_by _ at _ = None

abbrev pub asked_link : DymHandle → ℕ → DymHandle → Option Command
asked_link h at to = link_by (chunk_of h) at (chunk_or_nil_of to)

abbrev pub asked_follow : DymHandle → ℕ → Option Command
asked_follow h at = option_map (λ chunk. Follow chunk at) (chunk_of h)

abbrev pub asked_sum : DymHandle → Option Command
asked_sum h = option_map Sum (chunk_of h)

abbrev pub asked_log : ℕ → ℕ → Option Command
asked_log kind time = option_map (λ want. log_command want time) (kind_of kind)
