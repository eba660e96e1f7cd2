use Rattle.std.proofs.Common.{[], ◌∷◌, ◌++◌, map, length, ap, sym, ◌∙◌, arith}
use Rattle.std.specs.List.{range_with_len}
use Rattle.std.proofs.lemmas.Bool.{true≢false}
use Rattle.dym_base.specs.Heaps.{held}
use Rattle.dym_pack.specs.Layouts.{HasOffsets}
use Rattle.dym_pack.specs.Offsets.{start_of}
use Rattle.dym_pack.proofs.Slices.{starts_end}
use Rattle.dym_pack.proofs.Unique.{same_starts}
use Rattle.dym_pack.proofs.AreaLogs.{made_record}
use Rattle.dym_pack.proofs.record_parser.record_in.Goals as goal

pub returns-then-is_none-clause-bad : goal.returns-then-is_none-clause-bad
returns-then-is_none-clause-bad c _ left =
    absurd (true≢false (sym (c.offsets_in.ensures.only left) ∙ c.if-is_none.ensures))

pub copied-requires : goal.copied-requires
copied-requires c =
    let placed = c.offsets_in.ensures.is c.if-is_none.ensures in
    let head = c.requires.head in
    let made = made_record c.args.version c.args.kind head.0 c.args.count c.args.count c.args.bytes.now c.offsets_in.new.starts.items placed head.1 (omega arith) c.requires.few head.2 in
    let firsts = map (start_of made.log) (range_with_len 0 (held made.log.copy)) in
    record { end = (firsts, c.as_slice.ensures ∙ made.placed ∙ starts_end made.log ∙ ap (λ bytes. firsts ++ length bytes ∷ []) made.are) }

pub invariant_of-result : goal.invariant_of-result
invariant_of-result c =
    let placed = c.offsets_in.ensures.is c.if-is_none.ensures in
    let head = c.requires.head in
    let made = made_record c.args.version c.args.kind head.0 c.args.count c.args.count c.args.bytes.now c.offsets_in.new.starts.items placed head.1 (omega arith) c.requires.few head.2 in
    let bytes = ap (λ (p : HasOffsets). p.bytes) c.in-Ok-copied.ensures in
    let starts = ap (λ (p : HasOffsets). p.offsets) c.in-Ok-copied.ensures ∙ c.as_slice.ensures in
    record {
      is = (made.log, made.is.recorded, made.are ∙ sym bytes);
      placed = λ other rec same. starts ∙ made.placed ∙ same_starts made.log other made.is.recorded rec (made.are ∙ sym bytes ∙ sym same);
    }

pub returns-in-Ok-copied-clause-good : goal.returns-in-Ok-copied-clause-good
returns-in-Ok-copied-clause-good c =
    let placed = c.offsets_in.ensures.is c.if-is_none.ensures in
    let head = c.requires.head in
    let made = made_record c.args.version c.args.kind head.0 c.args.count c.args.count c.args.bytes.now c.offsets_in.new.starts.items placed head.1 (omega arith) c.requires.few head.2 in
    (made.log, made.is, made.are)
