use Rattle.std.proofs.Common.{arith, refl}
use Rattle.dym_heap.proofs.Ranges.{some_bytes, missed_none, missed_short, touches}
use Rattle.dym_heap.proofs.address.touch_byte.Goals as goal

pub returns-in_default-clause-touched : goal.returns-in_default-clause-touched
returns-in_default-clause-touched g c k = missed_none c.args.shelf.now.state c.args.h c.args.at k c.in_default.ensures.len

pub returns-then-len-at-clause-touched : goal.returns-then-len-at-clause-touched
returns-then-len-at-clause-touched g c k = missed_short c.args.shelf.now.state c.args.h c.args.at c.in-Some.len k c.in-Some.ensures.len (omega arith)

pub touch-requires : goal.touch-requires
touch-requires g c = some_bytes _ _ c.in-Some.len c.in-Some.ensures.len refl (λ none. (let short = c.if-len-at.false in omega arith))

pub returns : goal.returns
returns g c =
    let now = touches c.args.h c.args.at c.in-Some.len c.requires.tidy c.touch.ensures.valid_shelf c.in-Some.ensures.len (let short = c.if-len-at.false in omega arith) c.touch.ensures.touched in
    record { touched = now.touched; same = now.same; tidy = now.tidy }
