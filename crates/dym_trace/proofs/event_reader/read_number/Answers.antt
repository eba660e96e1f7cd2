use Rattle.std.proofs.Common.{rules, ◌≡◌, ◌<◌, inl, inr, ℕ, List, length, take, ap, arith}
use Rattle.std.proofs.lemmas.Bool.{cases_lt}
use Rattle.std.proofs.lemmas.Bool.Decides.{nat_tests}
use Rattle.std.proofs.lemmas.Fmt.{decimal_nonempty}
use Rattle.std.proofs.lemmas.List.{take_all}
use Rattle.dym_trace.proofs.Digits.{no_leading_zero, text_of_value, one_more, too_large}
use Rattle.dym_trace.proofs.event_reader.read_number.Goals as goal
use Rattle.dym_trace.proofs.event_reader.read_number.Goals.{then-is_empty-via-then-is_empty, then-is_empty-via-else-is_empty+then-has_leading_zero}

pub returns-then-is_empty : goal.returns-then-is_empty
returns-then-is_empty c n small e =
    let same = ap (λ (x : List ℕ). length x) e in
    elim c.then-is_empty.branch [
      | then-is_empty-via-then-is_empty w ↦
          let empty = w.if-is_empty.true in
          let none : length c.args.word.now ≡ 0 = grind (arith, nat_tests) in
          let some = decimal_nonempty n small in
          omega arith
      | then-is_empty-via-else-is_empty+then-has_leading_zero w ↦
          let zero = w.has_leading_zero.ensures.0 w.if-has_leading_zero.true in
          let long = zero.0 in
          no_leading_zero n small (rw (← e) zero.1) (omega arith)
    ]

pub loop-byte-preserved : goal.loop-byte-preserved
loop-byte-preserved c =
    let more = one_more c.args.word.now c.loop-byte.byte-index c.loop-byte.number c.in-Some.longer c.loop-byte-test.true c.loop-byte.invariant.digits c.loop-byte.invariant.value c.in-Some.ensures.0 c.in-Some.ensures.1 c.in-Some.ensures.2 in
    record { digits = more.0; value = more.1; fits = search rules }

pub returns-in-None : goal.returns-in-None
returns-in-None c n small e = too_large c.args.word.now c.loop-byte.byte-index c.loop-byte.number n c.loop-byte-test.true c.loop-byte.invariant.value c.in-None.ensures small e

pub returns : goal.returns
returns c =
    let whole : take c.loop-byte.byte-index c.args.word.now ≡ c.args.word.now = take_all c.loop-byte.byte-index c.args.word.now c.loop-byte-test.false in
    let digits = rw whole at c.loop-byte.invariant.digits in
    let value = rw whole at c.loop-byte.invariant.value in
    let some : 0 < length c.args.word.now = grind (arith, nat_tests) in
    let fits = c.loop-byte.invariant.fits in
    rw value (text_of_value c.args.word.now digits some
    (λ zero. elim (cases_lt 1 (length c.args.word.now)) [
      | inl long ↦ let yes = c.has_leading_zero.ensures.1 (long, zero) in let no = c.if-has_leading_zero.false in cc
      | inr short ↦ omega (arith, some)
    ])
    (rw (← value) fits))
