use Rattle.std.proofs.Common.{sym, ap, ◌∙◌}
use Rattle.std.specs.FinMap.{get, contains_key}
use Rattle.dym_base.specs.HeapStep.{key}
use Rattle.dym_base.proofs.Maps.{has_new}
use Rattle.dym_heap.specs.Meaning.{HeapMeaning}
use Rattle.dym_heap.specs.Undo.{with_chunk_back}
use Rattle.dym_undo_files.proofs.Bringing.{kept_heap}
use Rattle.dym_undo_files.proofs.Maps.{differs_back, has_same, insert_same, none_there, still_none}
use Rattle.dym_undo_files.proofs.brought_heap.put_chunk.Goals as goal

pub returns-then-has_bytes-clause-live : goal.returns-then-has_bytes-clause-live
returns-then-has_bytes-clause-live g c =
    let live = c.args.heap.now.state.live in
    let k = key c.args.h in
    insert_same live k c.args.bytes.now (has_same (get live k) c.args.bytes.now (sym c.has_bytes.ensures ∙ c.if-has_bytes.true))

pub keep_fresh-requires-clause-live : goal.keep_fresh-requires-clause-live
keep_fresh-requires-clause-live g c =
    let k = key c.args.h in
    ap (λ (h : HeapMeaning). contains_key h.state.live k) c.put_back-else-is_live.ensures.after ∙ has_new c.args.heap.now.state.live k c.args.bytes.now

pub returns-then-is_live-clause-kept : goal.returns-then-is_live-clause-kept
returns-then-is_live-clause-kept g c =
    let s = c.args.heap.now.state in
    let k = key c.args.h in
    let t = with_chunk_back s k c.args.bytes.now in
    kept_heap c.args.heap.now c.put_back.new.self c.keep.new.self t c.put_back.ensures.sound c.put_back.ensures.after (still_none s.touched k c.requires.kept.untouched)
    (c.keep.ensures.kept (sym c.is_live.ensures ∙ c.if-is_live.true) t (differs_back s k c.args.bytes.now))

pub returns-else-is_live-clause-kept : goal.returns-else-is_live-clause-kept
returns-else-is_live-clause-kept g c =
    let s = c.args.heap.now.state in
    let k = key c.args.h in
    let t = with_chunk_back s k c.args.bytes.now in
    kept_heap c.args.heap.now c.put_back-else-is_live.new.self c.keep_fresh.new.self t c.put_back-else-is_live.ensures.sound c.put_back-else-is_live.ensures.after
    (still_none s.touched k c.requires.kept.untouched)
    (c.keep_fresh.ensures.kept c.args.heap.now.version c.args.heap.now.quota s t c.requires.kept.belongs
    (none_there (get s.live k) (sym c.is_live.ensures ∙ c.if-is_live.false)) (differs_back s k c.args.bytes.now))
