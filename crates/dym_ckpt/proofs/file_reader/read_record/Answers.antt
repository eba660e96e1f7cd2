use Rattle.std.proofs.Common.{List, ℕ, ◌∷◌, [], ◌++◌, sym, subst}
use Rattle.dym_base.specs.LawfulLists.{IsRecordOf, IsLawfulList}
use Rattle.dym_chain.specs.Keeps.{bytes_of}
use Rattle.dym_ckpt.proofs.RecordLengths.{record_short}
use Rattle.dym_ckpt.proofs.file_reader.read_record.Goals as goal

pub returns-in_default-clause-bad : goal.returns-in_default-clause-bad
returns-in_default-clause-bad c _ more rest of lawful are =
    c.in_default.ensures.only more rest (record_short c.args.limits.version c.args.limits.quota more of) are

pub returns-in-Err-clause-bad : goal.returns-in-Err-clause-bad
returns-in-Err-clause-bad c bad more rest of lawful are =
    let same = c.in-Some.ensures.only more rest (record_short c.args.limits.version c.args.limits.quota more of) are in
    let old = bytes_of c.args.record_list.now.keep.records in
    c.in-Err.ensures.bad bad
    (subst (λ (x : List ℕ). IsRecordOf c.args.limits.version c.args.limits.quota x) (sym same.0) of)
    (subst (λ (x : List ℕ). IsLawfulList c.args.limits.version c.args.limits.depth (old ++ x ∷ [])) (sym same.0) lawful)
