use Rattle.std.proofs.Common.{◌≡◌, ◌+◌, ◌/◌, ◌^◌, ap, ◌∙◌, arith}
use Rattle.dym_undo_object.proofs.Ranges.{next_start, class_before}
use Rattle.dym_undo_object.proofs.touches.chunk_end.Goals as goal

pub returns-then-class-ge-CLASSES-clause-none : goal.returns-then-class-ge-CLASSES-clause-none
returns-then-class-ge-CLASSES-clause-none c e i place before =
    let class : c.args.offset / c.from.result / c.from-2.result ≡ c.args.offset / 65536 / c.args.quota = λ j. c.args.offset / c.from.ensures j / c.from-2.ensures j in
    absurd (omega (arith, class, class_before c.args.quota c.args.offset e i place before, place.1, c.if-class-ge-CLASSES.true))

pub returns-clause-none : goal.returns-clause-none
returns-clause-none c e i place before =
    let class : c.args.offset / c.from.result / c.from-2.result ≡ c.args.offset / 65536 / c.args.quota = λ j. c.args.offset / c.from.ensures j / c.from-2.ensures j in
    next_start c.args.quota c.args.offset e i c.from-size.result place (c.from-size.ensures ∙ c.size.ensures ∙ ap (λ n. 2 ^ (5 + n)) class) before
