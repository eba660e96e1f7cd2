use Rattle.std.proofs.Common.{◌≡◌, sym, subst, rules}
use Rattle.dym_base.specs.Numbers.{number}
use Rattle.dym_base.specs.HeapStep.{key}
use Rattle.dym_heap.specs.Shelves.{FitsIn}
use Rattle.dym_heap.proofs.Moves as moves
use Rattle.dym_heap.proofs.chunk.move_chunk.Goals as goal

pub copy_chunk-requires-clause-source : goal.copy_chunk-requires-clause-source
copy_chunk-requires-clause-source g c =
    let ne : key c.args.from ≡ number c.args.class.exp c.in-Some.index → ⊥ = (let apart = c.requires.apart in search rules) in
    subst (λ o. FitsIn o c.min.result) (sym (moves.from_m c.args.shelf.now c.take_fresh.new.shelf _ _ _ _ ne c.requires.live c.in-Some.ensures.after)) (moves.live_fits _ c.args.old c.args.len c.min.result c.requires.live c.min.ensures)

pub copy_chunk-requires-clause-target : goal.copy_chunk-requires-clause-target
copy_chunk-requires-clause-target g c =
    let ne : key c.args.from ≡ number c.args.class.exp c.in-Some.index → ⊥ = (let apart = c.requires.apart in search rules) in
    moves.zeros_fit _ c.args.old c.args.len c.min.result (moves.into_m c.args.shelf.now c.take_fresh.new.shelf _ _ _ _ ne c.requires.live c.in-Some.ensures.after) c.min.ensures

pub copy_chunk-requires-clause-touched : goal.copy_chunk-requires-clause-touched
copy_chunk-requires-clause-touched g c =
    let ne : key c.args.from ≡ number c.args.class.exp c.in-Some.index → ⊥ = (let apart = c.requires.apart in search rules) in
    moves.touched_m c.args.shelf.now c.take_fresh.new.shelf _ _ _ _ ne c.requires.live c.in-Some.ensures.after

pub free_chunk-requires-clause-live : goal.free_chunk-requires-clause-live
free_chunk-requires-clause-live g c =
    let ne : key c.args.from ≡ number c.args.class.exp c.in-Some.index → ⊥ = (let apart = c.requires.apart in search rules) in
    moves.live_t c.args.shelf.now c.take_fresh.new.shelf _ _ _ _ ne c.requires.live c.in-Some.ensures.after _ _ c.min.ensures c.copy_chunk.ensures.copied

pub returns-clause-after : goal.returns-clause-after
returns-clause-after g c =
    let ne : key c.args.from ≡ number c.args.class.exp c.in-Some.index → ⊥ = (let apart = c.requires.apart in search rules) in
    moves.moved c.args.shelf.now c.take_fresh.new.shelf _ _ _ _ ne c.requires.live c.in-Some.ensures.after _ _ c.min.ensures c.copy_chunk.ensures.copied c.free_chunk.new.shelf c.free_chunk.ensures.after
