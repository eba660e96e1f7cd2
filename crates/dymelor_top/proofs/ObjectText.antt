-- The part of an object, in three pieces.
use Rattle.std.proofs.Common.{◌≡◌, ℕ, List, ◌++◌, length, flat_map, append_assoc, refl, sym, ap, ◌∙◌}
use Rattle.dym_base.specs.Objects.{ObjectState, object_start, replies_from, object_after, slots}
use Rattle.dym_base.specs.declared.command.Version.{Version}
use Rattle.dym_base.specs.declared.command.Command.{Command}
use Rattle.dym_heap.specs.Meaning.{HeapMeaning}
use Rattle.dym_object.specs.Meaning.{ObjectMeaning, state_of}
use Rattle.dym_report.specs.Objects.{heading, state_text, object_text}
use Rattle.dym_report.specs.Replies.{reply_line}
use Rattle.dym_script.specs.declared.parts.Part.{Part}
use Rattle.dym_script.specs.OwnCommands.{own_of}
use Rattle.dym_wave.specs.Reports.{part_text}

-- a part begins with its heading
pub part_pieces : (v : Version) (part : Part) → (rest : List ℕ) × (part_text v (own_of part) ≡ heading part.decl.name ++ rest)
unfolding part_text object_text
part_pieces v part = (_, append_assoc (heading part.decl.name) _ _)

-- what stands behind the replies of an object
abbrev pub behind : Version → ObjectState → List ℕ
behind v s = state_text v s.heap.live (length s.logs) (slots s.logs)

part_is : (v : Version) (part : Part)
    → part_text v (own_of part)
    ≡ (heading part.decl.name ++ flat_map reply_line (replies_from v part.decl.quota object_start part.commands))
    ++ behind v (object_after v part.decl.quota object_start part.commands)
unfolding part_text object_text
part_is v part = refl

-- the replies of a run, and what stands behind them, make the part
pub part_shown : (part : Part) (start : ObjectMeaning) (commands : List Command)
    → commands ≡ part.commands → start.heap.quota ≡ part.decl.quota → state_of start ≡ object_start
    → part_text start.heap.version (own_of part)
    ≡ (heading part.decl.name ++ flat_map reply_line (replies_from start.heap.version start.heap.quota (state_of start) commands))
    ++ behind start.heap.version (object_after start.heap.version start.heap.quota (state_of start) commands)
part_shown part start commands same quota begun =
    let v : Version = start.heap.version in
    part_is v part
    ∙ (λ i. (heading part.decl.name ++ flat_map reply_line (replies_from v (sym quota i) (sym begun i) (sym same i)))
    ++ behind v (object_after v (sym quota i) (sym begun i) (sym same i)))

-- the heap and the logs of the object that ran a part's commands are what stands behind its replies
pub part_written : (part : Part) (start now : ObjectMeaning) (heap : HeapMeaning) (kept records : ℕ)
    → start.heap.quota ≡ part.decl.quota → state_of start ≡ object_start
    → state_of now ≡ object_after start.heap.version start.heap.quota (state_of start) part.commands → now.heap.version ≡ start.heap.version
    → heap ≡ now.heap → kept ≡ length now.chain.logs → records ≡ slots now.chain.logs
    → part_text start.heap.version (own_of part)
    ≡ (heading part.decl.name ++ flat_map reply_line (replies_from start.heap.version start.heap.quota (state_of start) part.commands))
    ++ state_text heap.version heap.state.live kept records
part_written part start now heap kept records quota begun ends version same is_kept is_records =
    let front : List ℕ = heading part.decl.name ++ flat_map reply_line (replies_from start.heap.version start.heap.quota (state_of start) part.commands) in
    part_shown part start part.commands refl quota begun
    ∙ ap (λ s. front ++ behind start.heap.version s) (sym ends)
    ∙ (λ i. front ++ state_text (sym version i) now.heap.state.live (sym is_kept i) (sym is_records i))
    ∙ ap (λ (h : HeapMeaning). front ++ state_text h.version h.state.live kept records) (sym same)
