use Rattle.std.proofs.Common.{arith, sym, ap, ◌∙◌, take, drop, Some}
use Rattle.dym_view.specs.declared.chunk_copies.ChunkRange.{ChunkRange}
use Rattle.dym_view.proofs.Found.{found_at, part_is}
use Rattle.dym_view.proofs.chunk_copies.ChunkCopies.bytes_at.Goals as goal

pub returns : goal.returns
returns c number is =
    let chunk_range = c.index-chunk_range.result.now in
    found_at c.args.self.now c.requires.whole number c.args.place chunk_range (omega (arith, c.requires.place, c.args.self.now.chunk_ranges.ok.0)) (is chunk_range)
    ∙ ap (λ (s : ChunkRange). Some (take s.len (drop s.at c.args.self.now.bytes.items))) (sym c.index-chunk_range.ensures)
    ∙ part_is chunk_range.at chunk_range.len c.args.self.now.bytes.items c.deref.result.now c.deref.ensures.value
