use Rattle.std.proofs.Common.{◌∙◌, arith}
use Rattle.dym_pack.proofs.Named.{few_chunks}
use Rattle.dym_pack.proofs.Chunks.{count_below_is}
use Rattle.dym_pack.proofs.record.Record.chunk.Goals as goal

pub get-requires : goal.get-requires
get-requires c =
    let log = c.choice-bits.ensures.is.0 in
    let rec = c.choice-bits.ensures.is.1 in
    let same = c.choice-bits.ensures.is.2 in
    let few = few_chunks log.copy c.args.k (c.requires.area log rec same) in
    let inside = c.requires.chunk log rec same in
    omega arith

pub count_below-requires : goal.count_below-requires
count_below-requires c =
    let log = c.choice-bits.ensures.is.0 in
    let rec = c.choice-bits.ensures.is.1 in
    let same = c.choice-bits.ensures.is.2 in
    let few = few_chunks log.copy c.args.k (c.requires.area log rec same) in
    let inside = c.requires.chunk log rec same in
    omega arith

pub nth_packed-requires-clause-count : goal.nth_packed-requires-clause-count
nth_packed-requires-clause-count c log rec same =
    let inside = c.requires.chunk log rec same in
    c.count_below.ensures.counted ∙ count_below_is log c.args.k c.choice-bits.result (c.choice-bits.ensures.bits log rec same) c.args.i (omega arith)
