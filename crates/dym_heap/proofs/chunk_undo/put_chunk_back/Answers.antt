use Rattle.std.proofs.Common.{ℕ, ◌/◌, length, sym, subst, rules}
use Rattle.dym_heap.specs.Meaning.{IsSizeOf}
use Rattle.dym_heap.specs.ShapeSteps.{HasRoomFor, ReachesArea}
use Rattle.dym_heap.proofs.HeapUndo as undo
use Rattle.dym_heap.proofs.chunk_undo.put_chunk_back.Goals as goal

pub reach_area-requires-clause-within : goal.reach_area-requires-clause-within
reach_area-requires-clause-within g c =
    subst (λ (n : ℕ). HasRoomFor c.args.shelf.now c.args.h.exp (c.args.h.index / n)) (sym c.per_area.ensures)
    (undo.room_for c.args.h.exp c.args.h.index c.args.bytes.now c.requires.tidy c.requires.least c.requires.most (search rules) c.requires.within)

pub put_back-requires-clause-there : goal.put_back-requires-clause-there
put_back-requires-clause-there g c =
    undo.there c.requires.tidy c.requires.least c.requires.most (search rules) (subst (λ (n : ℕ). ReachesArea c.args.shelf.now c.reach_area.new.shelf c.args.h.exp (c.args.h.index / n)) c.per_area.ensures c.reach_area.ensures.reached)

pub put_back-requires-clause-sized : goal.put_back-requires-clause-sized
put_back-requires-clause-sized g c = subst (λ v. IsSizeOf v c.args.h.exp (length c.args.bytes.now)) (sym c.reach_area.ensures.keeps.version) c.requires.sized

pub returns : goal.returns
returns g c =
    let back =
    undo.put_back c.requires.tidy c.requires.least c.requires.most (search rules)
    (subst (λ (n : ℕ). ReachesArea c.args.shelf.now c.reach_area.new.shelf c.args.h.exp (c.args.h.index / n)) c.per_area.ensures c.reach_area.ensures.reached)
    c.args.bytes.now c.put_back.ensures.valid_shelf c.put_back.ensures.back in
    record { after = back.after; keeps = back.keeps; tidy = back.tidy }
