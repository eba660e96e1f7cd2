use Rattle.std.proofs.Common.{arith, rules, refl, ap, subst, ◌∙◌, ◌≡◌, ◌≤◌}
use Rattle.dym_heap.specs.Addresses.{LiesAt}
use Rattle.dym_heap.specs.Shelves.{ShelfMeaning}
use Rattle.dym_heap.proofs.Ranges.{Met, region_end, seen, met_first, met_next, met_past}
use Rattle.dym_heap.proofs.address.touch_range.Goals as goal

pub loop-at-init : goal.loop-at-init
loop-at-init g c = record { met = met_first c.args.shelf.now.quota c.args.shelf.now.state c.args.from; same = refl; tidy = c.requires.tidy; low = omega arith; high = c.requires.ordered }

pub loop-at-preserved : goal.loop-at-preserved
loop-at-preserved g c =
    let s = c.args.shelf.now in
    let lies = subst (λ q. LiesAt q c.in-Some.h.exp c.in-Some.h.index c.in-Some.byte c.loop-at.at) c.quota-quota.ensures c.in-Some.ensures.lies in
    let byte = lies.byte in
    let below = c.loop-at-test.true in
    let low = c.loop-at.invariant.low in
    let next = c.min-at.ensures in
    let step = c.from.ensures in
    let size_is = c.size.ensures in
    record {
      met = met_next s.state c.loop-at.shelf.state c.touch_byte.new.shelf.state c.args.from c.min-at.result c.in-Some.h (search rules) lies low (omega arith) (omega arith) (seen c.requires.tidy) c.loop-at.invariant.met c.touch_byte.ensures.touched;
      same = c.touch_byte.ensures.same ∙ ap (λ (x : ShelfMeaning). record x { state = c.touch_byte.new.shelf.state }) c.loop-at.invariant.same;
      tidy = c.touch_byte.ensures.tidy;
      low = omega arith;
      high = omega arith;
    }

pub returns-in_default-clause-touched : goal.returns-in_default-clause-touched
returns-in_default-clause-touched g c =
    let s = c.args.shelf.now in
    let past = subst (λ q. region_end q ≤ c.loop-at.at) c.quota-quota.ensures (c.in_default.ensures.past refl) in
    met_past s.quota s.state c.loop-at.shelf.state c.args.from c.loop-at.at c.args.end past c.loop-at.invariant.high (seen c.requires.tidy) c.loop-at.invariant.met

pub returns-clause-touched : goal.returns-clause-touched
returns-clause-touched g c =
    let s = c.args.shelf.now in
    let far = c.loop-at-test.false in
    let high = c.loop-at.invariant.high in
    let end : c.loop-at.at ≡ c.args.end = omega arith in
    subst (Met s.quota s.state c.loop-at.shelf.state c.args.from) end c.loop-at.invariant.met
