use Rattle.std.proofs.Common.{ap, rules, subst}
use Rattle.dym_heap.specs.Chunks.{ChunkMeaning}
use Rattle.dym_heap.specs.Shelves.{FitsIn}
use Rattle.dym_heap.proofs.ShelfCalls as calls
use Rattle.dym_heap.proofs.ShelfCopies as copies
use Rattle.dym_heap.proofs.ShelfGrows as grows
use Rattle.dym_heap.proofs.AreaBindings.{bound_kept_at}
use Rattle.dym_heap.proofs.shelf.Shelf.copy.Goals as goal

pub unreachable-requires : goal.unreachable-requires
unreachable-requires g c = calls.not_past c.self.view_is c.self.invariant.0 c.requires.from_class.0 c.requires.from_class.1 c.args.from.index (search rules) (calls.some_fits _ _ c.requires.source) c.in_default.ensures

pub find-requires-2 : goal.find-requires-2
find-requires-2 g c = calls.rising_e c.self.view_is c.self.invariant.0 c.requires.to_class.0 c.requires.to_class.1

pub unreachable-requires-in_default-find : goal.unreachable-requires-in_default-find
unreachable-requires-in_default-find g c = calls.not_past c.self.view_is c.self.invariant.0 c.requires.to_class.0 c.requires.to_class.1 c.args.to.index (search rules) (calls.some_fits _ _ c.requires.target) c.in_default-find.ensures

pub copy_between-requires-clause-apart : goal.copy_between-requires-clause-apart
copy_between-requires-clause-apart g c = copies.other_place c.self.view_is c.self.invariant.0 c.requires.from_class.0 c.requires.from_class.1 c.args.from.index (search rules) c.requires.to_class.0 c.requires.to_class.1 c.args.to.index (search rules) c.requires.apart c.in-Some.ensures c.in-Some-find.ensures

pub copy_between-requires-clause-source_area : goal.copy_between-requires-clause-source_area
copy_between-requires-clause-source_area g c = calls.in_e c.self.view_is c.self.invariant.0 c.requires.from_class.0 c.requires.from_class.1 c.args.from.index (search rules) c.in-Some.ensures

pub copy_between-requires-clause-target_area : goal.copy_between-requires-clause-target_area
copy_between-requires-clause-target_area g c = calls.in_e c.self.view_is c.self.invariant.0 c.requires.to_class.0 c.requires.to_class.1 c.args.to.index (search rules) c.in-Some-find.ensures

pub copy_between-requires-clause-source : goal.copy_between-requires-clause-source
copy_between-requires-clause-source g c d = subst (λ o. FitsIn o c.args.len) (ap (λ (c : ChunkMeaning). c.bytes) (calls.chunk_s c.self.view_is c.self.invariant.0 (calls.stands_e c.self.view_is c.self.invariant.0 c.requires.from_class.0 c.requires.from_class.1 c.args.from.index (search rules) c.in-Some.ensures) (calls.number_e c.self.view_is c.self.invariant.0 c.requires.from_class.0 c.requires.from_class.1 c.args.from.index (search rules) c.in-Some.ensures) d)) c.requires.source

pub copy_between-requires-clause-target : goal.copy_between-requires-clause-target
copy_between-requires-clause-target g c d = subst (λ o. FitsIn o c.args.len) (ap (λ (c : ChunkMeaning). c.bytes) (calls.chunk_s c.self.view_is c.self.invariant.0 (calls.stands_e c.self.view_is c.self.invariant.0 c.requires.to_class.0 c.requires.to_class.1 c.args.to.index (search rules) c.in-Some-find.ensures) (calls.number_e c.self.view_is c.self.invariant.0 c.requires.to_class.0 c.requires.to_class.1 c.args.to.index (search rules) c.in-Some-find.ensures) d)) c.requires.target

pub invariant_of-self : goal.invariant_of-self
invariant_of-self g c = bound_kept_at _ _ _ c.copy_between.ensures.copied.areas c.self.invariant (grows.roomy c.copy_between.ensures.capacity (copies.copied c.self.view_is c.self.invariant.0 c.requires.from_class.0 c.requires.from_class.1 c.args.from.index (search rules) c.requires.to_class.0 c.requires.to_class.1 c.args.to.index (search rules) c.in-Some.ensures c.in-Some-find.ensures c.requires.source c.copy_between.ensures.copied).shelf)

pub returns : goal.returns
returns g c =
    let now = copies.copied c.self.view_is c.self.invariant.0 c.requires.from_class.0 c.requires.from_class.1 c.args.from.index (search rules) c.requires.to_class.0 c.requires.to_class.1 c.args.to.index (search rules) c.in-Some.ensures c.in-Some-find.ensures c.requires.source c.copy_between.ensures.copied in
    record { copied = now.gives; valid_shelf = now.valid_shelf }
