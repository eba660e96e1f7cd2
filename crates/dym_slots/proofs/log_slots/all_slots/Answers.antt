use Rattle.std.proofs.Common.{arith, ◌∙◌, sym, ◌++◌, ◌∷◌, [], ◌≡◌}
use Rattle.std.proofs.lemmas.List.FromFn.{map-range_with_len_more}
use Rattle.dym_base.specs.declared.limits.TheConstants.{LOG_SLOTS}
use Rattle.dym_slots.proofs.Opening.{all_order}
use Rattle.dym_slots.proofs.log_slots.all_slots.Goals as goal

pub loop-slot-preserved : goal.loop-slot-preserved
loop-slot-preserved c =
    let inv = c.loop-slot.invariant in
    let s = c.loop-slot.slot in
    let p = c.push_reserved.ensures in
    (p.items ∙ (λ j. inv.0 j ++ s ∷ []) ∙ sym (map-range_with_len_more (λ n. n) 0 s s (omega arith)), (let n = p.len in omega arith), (let n = p.capacity in omega arith))

pub returns : goal.returns
returns c =
    let s = c.loop-slot.slot in
    let all : s ≡ LOG_SLOTS = omega arith in
    all_order _ s all c.loop-slot.invariant.0
