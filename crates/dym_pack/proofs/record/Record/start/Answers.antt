use Rattle.std.proofs.Common.{length, get_or, ap, sym, ◌∙◌, arith}
use Rattle.dym_pack.proofs.Slices.{length_starts, starts_at}
use Rattle.dym_pack.proofs.Fronts.{start_within}
use Rattle.dym_pack.proofs.record.Record.start.Goals as goal

pub offset-requires : goal.offset-requires
offset-requires c =
    let log = c.self.invariant.is.0 in
    let rec = c.self.invariant.is.1 in
    let same = c.self.invariant.is.2 in
    let within = c.requires log rec (same ∙ c.self.view_is) in
    omega (arith, ap length (c.self.invariant.placed log rec same), length_starts log)

pub returns-clause-at : goal.returns-clause-at
returns-clause-at c log rec same =
    let within = c.requires log rec same in
    let placed = c.self.invariant.placed log rec (same ∙ sym c.self.view_is) in
    c.offset.ensures
    ∙ ap (λ xs. get_or xs c.args.k 0) placed
    ∙ starts_at log c.args.k within

pub returns-clause-within : goal.returns-clause-within
returns-clause-within c =
    let log = c.self.invariant.is.0 in
    let rec = c.self.invariant.is.1 in
    let same = c.self.invariant.is.2 in
    let within = c.requires log rec (same ∙ c.self.view_is) in
    let placed = c.self.invariant.placed log rec same in
    let read = c.offset.ensures
    ∙ ap (λ xs. get_or xs c.args.k 0) placed
    ∙ starts_at log c.args.k within in
    omega (arith, start_within log c.args.k, ap length (same ∙ c.self.view_is))
