use Rattle.std.proofs.Common.{length, ap, subst, sym, ◌∙◌, arith}
use Rattle.dym_pack.specs.ParsedAreas.{IsRecord}
use Rattle.dym_pack.proofs.Slices.{length_starts}
use Rattle.dym_pack.proofs.record.Record.area_count.Goals as goal

pub returns-clause-recorded : goal.returns-clause-recorded
returns-clause-recorded c = subst IsRecord c.self.view_is c.self.invariant.is

pub returns-clause-count : goal.returns-clause-count
returns-clause-count c log rec same =
    let placed = ap length (c.self.invariant.placed log rec (same ∙ sym c.self.view_is)) in
    omega (arith, length_starts log)

pub overflow_sub-result : goal.overflow_sub-result
overflow_sub-result c =
    let log = c.self.invariant.is.0 in
    let rec = c.self.invariant.is.1 in
    let placed = ap length (c.self.invariant.placed log rec c.self.invariant.is.2) in
    omega (arith, length_starts log)

pub overflow_cast-result : goal.overflow_cast-result
overflow_cast-result c =
    let log = c.self.invariant.is.0 in
    let rec = c.self.invariant.is.1 in
    let placed = ap length (c.self.invariant.placed log rec c.self.invariant.is.2) in
    omega (arith, length_starts log, rec.few)
