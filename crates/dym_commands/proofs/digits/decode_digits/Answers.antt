use Rattle.std.proofs.Common.{◌+◌, ◌*◌, arith, length-set, slice_index, ◌∙◌}
use Rattle.hex.proofs.HexLemmas.{decode_of-even}
use Rattle.hex.proofs.Pairs.{decode_step, decode_done}
use Rattle.dym_commands.proofs.HexFacts.{pair_is, digit_at}
use Rattle.dym_commands.proofs.digits.decode_digits.Goals as goal

pub digit_value-requires : goal.digit_value-requires
digit_value-requires c = digit_at c.args.digits.now (2 * c.loop-i.i) c.requires.digits (grind arith)

pub digit_value-requires-in-loop-i : goal.digit_value-requires-in-loop-i
digit_value-requires-in-loop-i c = digit_at c.args.digits.now (2 * c.loop-i.i + 1) c.requires.digits (grind arith)

pub loop-i-preserved : goal.loop-i-preserved
loop-i-preserved c =
    let digits = c.args.digits.now in
    let i = c.loop-i.i in
    let high = c.digit_value.result in
    let low = c.digit_value-in-loop-i.result in
    let pair = pair_is (slice_index digits (2 * i)) (slice_index digits (2 * i + 1)) (2 * i) high low c.digit_value.ensures.value c.digit_value-in-loop-i.ensures.value in
    record {
      decoded = decode_step digits c.loop-i.room i (high * 16 + low) (grind arith) (grind arith) pair c.loop-i.invariant.decoded;
      half = omega (arith, length-set c.loop-i.room i (high * 16 + low), c.loop-i.invariant.half);
    }

pub returns-clause-decoded : goal.returns-clause-decoded
returns-clause-decoded c =
    decode_of-even c.args.digits.now (grind arith)
    ∙ decode_done c.args.digits.now c.loop-i.room c.loop-i.i (grind arith) (grind arith) c.loop-i.invariant.decoded
