use Rattle.std.proofs.Common.{arith, ◌≡◌, sym, ap, ◌∙◌, length}
use Rattle.dym_heap.specs.SizedAreas.{len_of}
use Rattle.dym_heap.specs.Lengths.{numbers_of}
use Rattle.dym_heap.proofs.PlaceSteps.{is_place}
use Rattle.dym_heap.proofs.PlaceFacts as facts
use Rattle.dym_heap.proofs.Sizes.{size_fits}
use Rattle.dym_heap.proofs.sized_area.SizedArea.resize.Goals as goal

pub noted_len-old-requires : goal.noted_len-old-requires
noted_len-old-requires g c =
    let u = facts.another_in_use c.self.view_is c.self.invariant c.args.i c.args.len c.requires.another in
    facts.few_p c.self.view_is c.self.invariant u.0.below

pub note-requires : goal.note-requires
note-requires g c =
    let u = facts.another_in_use c.self.view_is c.self.invariant c.args.i c.args.len c.requires.another in
    facts.few_p c.self.view_is c.self.invariant u.0.below

pub zero-requires-clause-used : goal.zero-requires-clause-used
zero-requires-clause-used g c = (facts.another_in_use c.self.view_is c.self.invariant c.args.i c.args.len c.requires.another).0.is_set

pub zero-requires-clause-within : goal.zero-requires-clause-within
zero-requires-clause-within g c =
    let s = size_fits _ _ _ (facts.version_p _ _ c.self.view_is c.args.len c.requires.version c.requires.sized) in
    omega arith

pub zero-requires-else-old-len-clause-used : goal.zero-requires-else-old-len-clause-used
zero-requires-else-old-len-clause-used g c = (facts.another_in_use c.self.view_is c.self.invariant c.args.i c.args.len c.requires.another).0.is_set

pub zero-requires-else-old-len-clause-within : goal.zero-requires-else-old-len-clause-within
zero-requires-else-old-len-clause-within g c =
    let u = facts.another_in_use c.self.view_is c.self.invariant c.args.i c.args.len c.requires.another in
    let ne = u.1 in
    let small = u.0.small in
    let is : length u.0.old ≡ c.noted_len-old.result = u.0.noted_as ∙ sym (c.noted_len-old.ensures ∙ ap (λ e. len_of e (numbers_of c.self.inside.lengths) c.args.i) c.class.ensures) in
    omega arith

pub invariant_of-self : goal.invariant_of-self
invariant_of-self g c =
    (facts.grows_p _ c.self.view_is c.self.invariant c.args.i c.args.len c.requires.another c.requires.version c.requires.sized
    (c.noted_len-old.ensures ∙ ap (λ e. len_of e (numbers_of c.self.inside.lengths) c.args.i) c.class.ensures) c.zero.ensures.after c.zero.ensures.valid c.note.ensures c.if-old-len.true).steps.measured

pub invariant_of-self-else-old-len : goal.invariant_of-self-else-old-len
invariant_of-self-else-old-len g c =
    (facts.shrinks_p _ c.self.view_is c.self.invariant c.args.i c.args.len c.requires.another c.requires.version c.requires.sized
    (c.noted_len-old.ensures ∙ ap (λ e. len_of e (numbers_of c.self.inside.lengths) c.args.i) c.class.ensures) c.zero-else-old-len.ensures.after c.zero-else-old-len.ensures.valid c.note.ensures c.if-old-len.false).steps.measured

pub returns-then-old-len-clause-resized : goal.returns-then-old-len-clause-resized
returns-then-old-len-clause-resized g c =
    let r = (facts.grows_p _ c.self.view_is c.self.invariant c.args.i c.args.len c.requires.another c.requires.version c.requires.sized
    (c.noted_len-old.ensures ∙ ap (λ e. len_of e (numbers_of c.self.inside.lengths) c.args.i) c.class.ensures) c.zero.ensures.after c.zero.ensures.valid c.note.ensures c.if-old-len.true) in
    facts.match_some _ _ r.at r.steps.is

pub returns-then-old-len-clause-valid : goal.returns-then-old-len-clause-valid
returns-then-old-len-clause-valid g c =
    is_place (facts.grows_p _ c.self.view_is c.self.invariant c.args.i c.args.len c.requires.another c.requires.version c.requires.sized
    (c.noted_len-old.ensures ∙ ap (λ e. len_of e (numbers_of c.self.inside.lengths) c.args.i) c.class.ensures) c.zero.ensures.after c.zero.ensures.valid c.note.ensures c.if-old-len.true).steps.measured

pub returns-else-old-len : goal.returns-else-old-len
returns-else-old-len g c =
    let r = (facts.shrinks_p _ c.self.view_is c.self.invariant c.args.i c.args.len c.requires.another c.requires.version c.requires.sized
    (c.noted_len-old.ensures ∙ ap (λ e. len_of e (numbers_of c.self.inside.lengths) c.args.i) c.class.ensures) c.zero-else-old-len.ensures.after c.zero-else-old-len.ensures.valid c.note.ensures c.if-old-len.false) in
    record { resized = facts.match_some _ _ r.at r.steps.is; valid = is_place r.steps.measured }
