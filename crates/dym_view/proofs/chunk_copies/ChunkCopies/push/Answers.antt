use Rattle.std.proofs.Common.{ℕ, ◌+◌, [], ◌∷◌, ◌++◌, length, ap, ◌∙◌}
use Rattle.dym_view.proofs.Tables.{one_more, table_more}
use Rattle.dym_view.specs.declared.chunk_copies.ChunkCopies.{ChunkCopies}
use Rattle.dym_view.specs.declared.chunk_copies.ChunkRange.{ChunkRange}
use Rattle.dym_view.proofs.chunk_copies.ChunkCopies.push.Goals as goal

pub returns-clause-table : goal.returns-clause-table
returns-clause-table c =
    let old = c.args.self.now in
    let new : ChunkCopies = record { chunk_ranges = c.push.new.self; bytes = c.extend_from_slice.new.self; total = old.total + c.sum_of.result } in
    let chunk_range : ℕ → ChunkRange = λ at. record { number = c.args.number; at = at; len = length c.args.bytes.now } in
    let put = c.in_ok-push.ensures.items ∙ ap (λ at. old.chunk_ranges.items ++ chunk_range at ∷ []) (c.len-at.ensures ∙ old.bytes.ok.0) in
    table_more old new c.args.number c.args.bytes.now put c.in_ok-extend_from_slice.ensures.items c.requires.table (ap (λ n. old.total + n) c.sum_of.ensures.sum)

pub returns-clause-entries : goal.returns-clause-entries
returns-clause-entries c =
    let old = c.args.self.now in
    let new : ChunkCopies = record { chunk_ranges = c.push.new.self; bytes = c.extend_from_slice.new.self; total = old.total + c.sum_of.result } in
    let chunk_range : ℕ → ChunkRange = λ at. record { number = c.args.number; at = at; len = length c.args.bytes.now } in
    let put = c.in_ok-push.ensures.items ∙ ap (λ at. old.chunk_ranges.items ++ chunk_range at ∷ []) (c.len-at.ensures ∙ old.bytes.ok.0) in
    one_more old new c.args.number c.args.bytes.now put c.in_ok-extend_from_slice.ensures.items c.requires.table
