use Rattle.std.proofs.Common.{rules, arith}
use Rattle.std.proofs.lemmas.List.Sorted.{answers_always}
use Rattle.dym_view.proofs.Found.{place_found, no_place}
use Rattle.dym_view.proofs.chunk_copies.ChunkCopies.place.Goals as goal

pub returns-in-Ok : goal.returns-in-Ok
returns-in-Ok c =
    let table = c.args.self.now in
    let facts = c.binary_search_by_key.ensures in
    let by_key = facts.position (λ s. s.number) (answers_always _ _ _ (λ f a r g called. search rules)) in
    let found = place_found table c.requires c.args.number c.deref.result.now c.deref.ensures.value c.binary_search_by_key.result facts.bound by_key c.in-Ok.place c.in-Ok.is in
    (omega (arith, found.0, table.chunk_ranges.ok.0), found.1)

pub returns-in-Err : goal.returns-in-Err
returns-in-Err c =
    let facts = c.binary_search_by_key.ensures in
    let by_key = facts.position (λ s. s.number) (answers_always _ _ _ (λ f a r g called. search rules)) in
    no_place c.args.self.now c.requires c.args.number c.deref.result.now c.deref.ensures.value c.binary_search_by_key.result facts.bound by_key
    c.in-Err.field-0 c.in-Err.is
