use Rattle.std.proofs.Common.{refl, arith}
use Rattle.dym_script.proofs.SizeRows.{row_short, row_is, row_is_shortest}
use Rattle.dym_script.proofs.quick.sizes.size.Goals as goal

pub slice_bounds-result-count : goal.slice_bounds-result-count
slice_bounds-result-count c = omega (arith, row_short c.row_of-row.result c.row_of-row.ensures, c.in_ok-word.ensures.within)

pub slice_bounds-result-start : goal.slice_bounds-result-start
slice_bounds-result-start c = omega (arith, row_short c.row_of-row.result c.row_of-row.ensures, c.in_ok-word.ensures.within)

pub returns : goal.returns
returns c = row_is c.args.text.now _ c.in_ok-word.word c.row_of-row.result (λ i. omega (arith, c.type_inv.text i)) c.in_ok-word.ensures.within
    c.in_ok-word.ensures.word c.row_of-row.ensures c.if-word-length.false refl

pub returns-then-word-row : goal.returns-then-word-row
returns-then-word-row c = row_is_shortest c.args.text.now _ c.in_ok-word.word c.row_of-row.result (λ i. omega (arith, c.type_inv.text i))
    c.in_ok-word.ensures.within c.in_ok-word.ensures.word c.row_of-row.ensures c.if-word-row.true refl

pub overflow_mul-length : goal.overflow_mul-length
overflow_mul-length c = omega (arith, row_short c.row_of-row.result c.row_of-row.ensures)

pub overflow_sub-length : goal.overflow_sub-length
overflow_sub-length c = omega (arith, row_short c.row_of-row.result c.row_of-row.ensures)

pub overflow_shl-word-2 : goal.overflow_shl-word-2
overflow_shl-word-2 c = omega (arith, row_short c.row_of-row.result c.row_of-row.ensures)
