use Rattle.std.proofs.Common.{◌+◌, ◌*◌, length, take, get_or, ◌∙◌, ap, sym, arith, count_ones}
use Rattle.std.proofs.Common.{◌-◌, ◌/◌, ◌%◌, ◌^◌, bit_and}
use Rattle.std.proofs.lemmas.Nat.{ones-le, and_le_l}
use Rattle.std.proofs.lemmas.List.{take_all, length-take}
use Rattle.dym_bits.proofs.BitmapLemmas.{length_of_words}
use Rattle.dym_bits.proofs.Counts.{count_of_none, count_below_length, count_more, count_rest, count_whole, count_to}
use Rattle.dym_bits.proofs.UsedWords.{clear_past_used}
use Rattle.dym_bits.specs.Bits.{bits_of, set_count}
use Rattle.dym_bits.proofs.bitmap.Bits.count_below.Goals as goal

pub loop-word-init : goal.loop-word-init
loop-word-init c = count_of_none

pub overflow_add-count : goal.overflow_add-count
overflow_add-count c =
    let items = take (c.min-end.result / 64) c.self.inside.words in
    omega (arith, c.loop-word.invariant, count_below_length items c.loop-word.word-index, ones-le 64 (get_or items c.loop-word.word-index 0) (omega arith), length-take (c.min-end.result / 64) c.self.inside.words)

pub loop-word-preserved : goal.loop-word-preserved
loop-word-preserved c =
    let items = take (c.min-end.result / 64) c.self.inside.words in
    ap (λ m. m + count_ones (get_or items c.loop-word.word-index 0)) c.loop-word.invariant
    ∙ count_more items c.loop-word.word-index c.loop-word-test.true (omega arith)

pub returns-then-rest-eq0-clause-counted : goal.returns-then-rest-eq0-clause-counted
returns-then-rest-eq0-clause-counted c =
    c.loop-word.invariant
    ∙ ap (λ ns. set_count (bits_of 64 ns)) (take_all c.loop-word.word-index (take (c.min-end.result / 64) c.self.inside.words) (omega arith))
    ∙ count_whole c.self.inside.words c.min-end.result c.if-rest-eq0.true
    ∙ count_to (bits_of 64 c.self.inside.words) c.min-end.result c.args.limit (omega arith)
    (λ i past below. clear_past_used c.self.inside.words c.self.inside.used_words i c.self.invariant.1 (omega arith))
    ∙ ap (λ bits. set_count (take c.args.limit bits)) c.self.view_is

pub overflow_add-result : goal.overflow_add-result
overflow_add-result c =
    let items = take (c.min-end.result / 64) c.self.inside.words in
    let rest = bit_and (get_or c.self.inside.words (c.min-end.result / 64) 0) (1 * 2 ^ (c.min-end.result % 64) % 2 ^ 64 - 1) in
    omega (arith, c.loop-word.invariant, count_below_length items c.loop-word.word-index, ones-le 64 rest (omega (arith, and_le_l (get_or c.self.inside.words (c.min-end.result / 64) 0) (1 * 2 ^ (c.min-end.result % 64) % 2 ^ 64 - 1))), length-take (c.min-end.result / 64) c.self.inside.words)

pub returns-clause-counted : goal.returns-clause-counted
returns-clause-counted c =
    ap (λ m. m + count_ones (bit_and (get_or c.self.inside.words (c.min-end.result / 64) 0) (1 * 2 ^ (c.min-end.result % 64) % 2 ^ 64 - 1)))
    (c.loop-word.invariant ∙ ap (λ ns. set_count (bits_of 64 ns)) (take_all c.loop-word.word-index (take (c.min-end.result / 64) c.self.inside.words) (omega arith)))
    ∙ count_rest c.self.inside.words c.min-end.result (omega arith)
    ∙ count_to (bits_of 64 c.self.inside.words) c.min-end.result c.args.limit (omega arith)
    (λ i past below. clear_past_used c.self.inside.words c.self.inside.used_words i c.self.invariant.1 (omega arith))
    ∙ ap (λ bits. set_count (take c.args.limit bits)) c.self.view_is

pub returns-then-rest-eq0-clause-len : goal.returns-then-rest-eq0-clause-len
returns-then-rest-eq0-clause-len c = ap length (sym c.self.view_is) ∙ length_of_words c.self.inside.words c.self.told

pub returns-clause-len : goal.returns-clause-len
returns-clause-len c = ap length (sym c.self.view_is) ∙ length_of_words c.self.inside.words c.self.told
