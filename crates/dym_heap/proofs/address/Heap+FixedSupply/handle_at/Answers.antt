use Rattle.std.proofs.Common.{arith, ap, Some}
use Rattle.dym_base.specs.Numbers.{exponent_of, index_of}
use Rattle.dym_heap.proofs.Offsets.{live_byte, found_by, found_len}
use Rattle.dym_heap.proofs.address.Heap+FixedSupply.handle_at.Goals as goal

pub returns-in_default-clause-only : goal.returns-in_default-clause-only
returns-in_default-clause-only c k has =
    let one = live_byte c.self.view_is c.self.invariant k c.args.offset c.quota.ensures has in
    absurd (c.in_default.ensures.only (exponent_of k) (index_of k) one.at one.lies)

pub returns-in_default-len_of_handle-clause-only : goal.returns-in_default-len_of_handle-clause-only
returns-in_default-len_of_handle-clause-only c k has =
    let one = live_byte c.self.view_is c.self.invariant k c.args.offset c.quota.ensures has in
    let found = found_by one c.in-Some.h (c.in-Some.ensures.only (exponent_of k) (index_of k) one.at one.lies) in
    absurd (found_len c.self.inside.shelf c.self.view_is found c.in_default-len_of_handle.ensures.len)

pub returns-then-at-len-clause-only : goal.returns-then-at-len-clause-only
returns-then-at-len-clause-only c k has =
    let one = live_byte c.self.view_is c.self.invariant k c.args.offset c.quota.ensures has in
    let found = found_by one c.in-Some.h (c.in-Some.ensures.only (exponent_of k) (index_of k) one.at one.lies) in
    let long = found_len c.self.inside.shelf c.self.view_is found c.in-Some-len_of_handle.ensures.len in
    absurd (omega arith)

pub returns-clause-only : goal.returns-clause-only
returns-clause-only c k has =
    let one = live_byte c.self.view_is c.self.invariant k c.args.offset c.quota.ensures has in
    ap Some (found_by one c.in-Some.h (c.in-Some.ensures.only (exponent_of k) (index_of k) one.at one.lies)).is
