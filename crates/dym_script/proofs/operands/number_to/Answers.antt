use Rattle.std.proofs.Common.{◌≡◌, ◌+◌, ◌-◌, true, get_or, sym, ◌∙◌, arith}
use Rattle.std.specs.Char.{is_ascii_digit}
use Rattle.dym_script.proofs.Numbers.{digits_more, digit_range, too_great}
use Rattle.dym_script.proofs.operands.number_to.Goals as goal

pub returns-in_err-checked_mul-clause-value : goal.returns-in_err-checked_mul-clause-value
returns-in_err-checked_mul-clause-value c =
    let word = c.args.word.now in
    let i = c.loop-digit.digit-index in
    let passes : is_ascii_digit (get_or word i 0) ≡ true = sym c.if-not-is_ascii_digit.ensures.value in
    let range = digit_range (get_or word i 0) passes in
    c.from_residual.ensures ∙ too_great c.args.most c.loop-digit.value (get_or word i 0 - 48) i word (omega (arith, c.ranges.most.fits))
    c.loop-digit-test.true c.loop-digit.invariant.digits c.loop-digit.invariant.value passes (omega (arith, range.0))
    (omega (arith, c.in_err-checked_mul.ensures))

pub returns-in_err-value-clause-value : goal.returns-in_err-value-clause-value
returns-in_err-value-clause-value c =
    let word = c.args.word.now in
    let i = c.loop-digit.digit-index in
    let passes : is_ascii_digit (get_or word i 0) ≡ true = sym c.if-not-is_ascii_digit.ensures.value in
    let range = digit_range (get_or word i 0) passes in
    let digit : c.from.result + 48 ≡ get_or word i 0 = omega (arith, range.0, c.from.ensures) in
    c.from_residual-in_err-value.ensures
    ∙ too_great c.args.most c.loop-digit.value c.from.result i word (omega (arith, c.ranges.most.fits)) c.loop-digit-test.true
    c.loop-digit.invariant.digits c.loop-digit.invariant.value passes digit
    (omega (arith, c.in_ok-checked_mul.ensures, c.in_err-value.ensures))

pub loop-digit-preserved : goal.loop-digit-preserved
loop-digit-preserved c =
    let word = c.args.word.now in
    let i = c.loop-digit.digit-index in
    let passes : is_ascii_digit (get_or word i 0) ≡ true = sym c.if-not-is_ascii_digit.ensures.value in
    let range = digit_range (get_or word i 0) passes in
    let digit : c.from.result + 48 ≡ get_or word i 0 = omega (arith, range.0, c.from.ensures) in
    let more = digits_more word i c.loop-digit.value c.from.result c.loop-digit-test.true c.loop-digit.invariant.digits c.loop-digit.invariant.value passes digit in
    record { value = c.in_ok-value.ensures.1 ∙ omega (arith, c.in_ok-checked_mul.ensures) ∙ more.0; digits = more.1 }
