use Rattle.dym_ckpt.proofs.ListedRecords.{never_next, listed_next}
use Rattle.dym_ckpt.proofs.records.RecordList.add.Goals as goal

pub returns-then-not-may_be_next-clause-bad : goal.returns-then-not-may_be_next-clause-bad
returns-then-not-may_be_next-clause-bad c _ of lawful =
    never_next c.args.limits.version c.args.limits.depth c.args.self.now.keep.records c.args.self.now.depth c.in_ok-rec.rec c.args.bytes.now c.in_ok-rec.ensures.same c.requires.record_list.depth
    (c.may_be_next.ensures.never c.if-not-may_be_next.true) lawful

pub returns-clause-record_list : goal.returns-clause-record_list
returns-clause-record_list c =
    listed_next c.args.limits.version c.args.limits.quota c.args.limits.depth c.args.self.now c.put.new.self c.may_be_next.new.keep c.in_ok-rec.rec c.args.bytes.now c.kind.result c.depth_after-self.result
    c.requires.record_list c.in_ok-rec.ensures.same c.in_ok-rec.ensures.good
    (c.may_be_next.ensures.fits c.if-not-may_be_next.false) (c.may_be_next.ensures.follows c.if-not-may_be_next.false)
    c.kind.ensures c.depth_after-self.ensures c.may_be_next.ensures.same c.put.ensures.after
