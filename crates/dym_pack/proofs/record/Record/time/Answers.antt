use Rattle.std.proofs.Common.{length, take, drop, ap, sym, ◌∙◌, arith}
use Rattle.std.specs.Int.{w64, from_le_bytes}
use Rattle.dym_pack.proofs.Slices.{packed_least, time_bytes}
use Rattle.dym_pack.proofs.record.Record.time.Goals as goal

pub word_at-requires : goal.word_at-requires
word_at-requires c =
    let log = c.whole.ensures.is.0 in
    let rec = c.whole.ensures.is.1 in
    let same = c.whole.ensures.is.2 ∙ c.whole.ensures.same in
    let long = ap length c.whole.ensures.is.2 in
    omega (arith, packed_least log)

pub returns : goal.returns
returns c log rec same =
    c.word_at.ensures
    ∙ ap (λ bytes. from_le_bytes w64 (take 8 (drop 1 bytes))) (c.whole.ensures.same ∙ sym same)
    ∙ time_bytes log rec.time
