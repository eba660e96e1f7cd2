use Rattle.std.proofs.Common.{◌≡◌, true, drop, sym, subst, arith}
use Rattle.dym_base.specs.Heaps.{held}
use Rattle.dym_base.specs.LawfulLists.{IsRecordOf}
use Rattle.dym_base.specs.declared.command.Kind.{Kind}
use Rattle.dym_pack.specs.declared.record_parser.RecordFail.{RecordFail}
use Rattle.dym_pack.specs.declared.record_parser.RecordFail.TheVariants.{Bad}
use Rattle.dym_pack.specs.Contents.{AreLeft}
use Rattle.dym_pack.proofs.Seen.{not_none}
use Rattle.dym_pack.proofs.Written.{on_ok}
use Rattle.dym_pack.proofs.Contained.{headed, same_heads, if_err}
use Rattle.dym_pack.proofs.record.Record.of_bytes.Goals as goal

pub returns-in-None-clause-bad : goal.returns-in-None-clause-bad
returns-in-None-clause-bad c _ rec =
    let log = rec.0 in
    let is = headed c.args.version c.args.quota c.args.bytes.now log rec.1 rec.2 in
    not_none _ (c.in-None.ensures.only log.kind log.time (held log.copy) rec.1.recorded.time rec.1.within rec.1.recorded.few is.room is.head)

pub returns-in-Some-clause-good : goal.returns-in-Some-clause-good
returns-in-Some-clause-good c =
    let head = c.in-Some.ensures.is in
    on_ok c.record_in.result (IsRecordOf c.args.version c.in-Some.count c.args.bytes.now) (IsRecordOf c.args.version c.args.quota c.args.bytes.now)
    (λ rec. (rec.0, record { recorded = rec.1.recorded; version = rec.1.version; within = omega (arith, rec.1.within, head.3) }, rec.2))
    c.record_in.ensures.good

pub returns-in-Some-clause-bad : goal.returns-in-Some-clause-bad
returns-in-Some-clause-bad c =
    let v = c.args.version in
    let bytes = c.args.bytes.now in
    let kind = c.in-Some.kind in
    let count = c.in-Some.count in
    if_err c.record_in.result (λ (why : RecordFail). why ≡ Bad → AreLeft v kind (drop 13 bytes) count 5 0 true → ⊥) (λ (why : RecordFail). why ≡ Bad → IsRecordOf v c.args.quota bytes → ⊥)
    (λ why none bad rec.
    let log = rec.0 in
    let is = headed v c.args.quota bytes log rec.1 rec.2 in
    let same = same_heads kind log.kind count (held log.copy) (c.in-Some.ensures.only log.kind log.time (held log.copy) rec.1.recorded.time rec.1.within rec.1.recorded.few is.room is.head) in
    none bad (subst (λ (d : Kind). AreLeft v d (drop 13 bytes) count 5 0 true) (sym same.0) (subst (λ n. AreLeft v log.kind (drop 13 bytes) n 5 0 true) (sym same.1) is.left)))
    c.record_in.ensures.bad
