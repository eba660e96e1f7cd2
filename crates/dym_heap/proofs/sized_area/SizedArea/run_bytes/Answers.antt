use Rattle.std.proofs.Common.{◌*◌, ap, ◌∙◌, arith}
use Rattle.dym_base.specs.Numbers.{size}
use Rattle.dym_heap.specs.SizedAreas.{SizedAreaMeaning}
use Rattle.dym_heap.proofs.LendingCalls as calls
use Rattle.dym_heap.proofs.PlaceFacts as facts
use Rattle.dym_heap.proofs.sized_area.SizedArea.run_bytes.Goals as goal

pub run_bytes-requires : goal.run_bytes-requires
run_bytes-requires g c i low high = facts.set_p c.self.view_is c.self.invariant i (c.requires.used i low high)

pub returns : goal.returns
returns g c = λ one.
    let e = ap (λ (p : SizedAreaMeaning). size p.exponent) c.self.view_is in
    let start = ap (λ n. c.args.from * n) e in
    let long = ap (λ n. c.args.count * n) e in
    let whole = c.self.invariant.valid.content_len in
    let fits = c.requires.within in
    c.run_bytes.ensures ∙ calls.run_p c.self.view_is c.self.invariant c.args.from c.args.count one c.requires.used (omega arith)
