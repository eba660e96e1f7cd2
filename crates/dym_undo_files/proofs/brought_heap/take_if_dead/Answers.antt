use Rattle.dym_base.specs.HeapStep.{key, without_chunk}
use Rattle.dym_undo_files.proofs.Bringing.{kept_heap}
use Rattle.dym_undo_files.proofs.Maps.{differs_away, still_none}
use Rattle.dym_undo_files.proofs.brought_heap.take_if_dead.Goals as goal

pub returns-clause-kept : goal.returns-clause-kept
returns-clause-kept g c =
    let s = c.args.heap.now.state in
    let k = key c.args.h in
    kept_heap c.args.heap.now c.take_away.new.self c.keep.new.self (without_chunk s k) c.take_away.ensures.sound c.take_away.ensures.after
    (still_none s.touched k c.requires.kept.untouched)
    (c.keep.ensures.kept c.requires.live (without_chunk s k) (differs_away s k))
