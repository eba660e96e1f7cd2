use Rattle.std.proofs.Common.{◌≡◌, ◌+◌, ◌-◌, ◌*◌, length, take, drop, ◌∙◌, ap, sym, arith, w64}
use Rattle.std.specs.Int.{from_le_bytes}
use Rattle.dym_bits.specs.Bits.{bits_of}
use Rattle.dym_bits.proofs.ByteBits.{word_of_bytes, last_word, none_behind}
use Rattle.dym_bits.proofs.bytes.word_at.Goals as goal

pub returns-then-bytes-at-lt8 : goal.returns-then-bytes-at-lt8
returns-then-bytes-at-lt8 c = last_word c.args.bytes.now c.args.at c.word_of_few.result (omega arith) c.word_of_few.ensures

pub returns : goal.returns
returns c =
    let eight : c.args.at + 8 - c.args.at ≡ 8 = omega arith in
    word_of_bytes c.args.bytes.now c.args.at c.from_le_bytes.result (omega arith) (λ k. omega (arith, c.type_inv.bytes k))
    (c.from_le_bytes.ensures ∙ ap (λ n. from_le_bytes w64 (take n (drop c.args.at c.args.bytes.now))) eight)
    ∙ sym (none_behind (bits_of 8 (take 8 (drop c.args.at c.args.bytes.now))) (64 - 8 * (length c.args.bytes.now - c.args.at)) (omega arith))
