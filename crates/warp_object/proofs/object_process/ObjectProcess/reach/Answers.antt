use Rattle.std.proofs.Common.{◌≡◌, inl, inr, Err, ap, sym, subst, ◌∙◌}
use Rattle.std.proofs.lemmas.Option.{none-some}
use Rattle.std.proofs.lemmas.Result.{err_from_is_err_and}
use Rattle.warp_object.specs.Processes.{IsFaceOf, IsKnown, inner}
use Rattle.warp_object.specs.declared.steps.BeginError.TheVariants.{Astray}
use Rattle.warp_object.proofs.Stepping.{brought_back, restored_known, restored_of}
use Rattle.warp_object.proofs.object_process.ObjectProcess.reach.Goals as goal

pub returns-in_err-restore-in-None-clause-kept : goal.returns-in_err-restore-in-None-clause-kept
returns-in_err-restore-in-None-clause-kept g c b past h =
    let words = g.P.Payload.words in
    let self = c.args.self.now in
    let old = c.args.object.now in
    let f = inner self in
    let newest = c.newest_copy-newest in
    let told = c.in_err-restore-in-None.ensures in
    let here = subst (IsFaceOf words b past old f) c.in-None.is h in
    elim told.which as (λ _. IsFaceOf words b past c.restore.new.object f self.reached) [
      | inl spent ↦ subst (λ o. IsFaceOf words b past o f self.reached) (sym (told.spent (ap Err spent)).0) h
      | inr astray ↦ absurd (told.astray (ap Err astray) (brought_back words f newest.result newest.ensures.0 newest.ensures.1 b past old here).reply)
    ]

pub returns-in_err-restore-in-None-clause-astray : goal.returns-in_err-restore-in-None-clause-astray
returns-in_err-restore-in-None-clause-astray g c b past h is =
    let words = g.P.Payload.words in
    let f = inner c.args.self.now in
    let old = c.args.object.now in
    let newest = c.newest_copy-newest in
    let told = err_from_is_err_and c.from_residual.result c.from_residual.ensures.1 in
    let here = subst (IsFaceOf words b past old f) c.in-None.is h in
    let same : told.0 ≡ Astray = cc (told.1, is) in
    c.in_err-restore-in-None.ensures.astray (ap Err (sym told.2 ∙ same))
    (brought_back words f newest.result newest.ensures.0 newest.ensures.1 b past old here).reply

pub returns-in_ok-restore-in-None-clause-recorded : goal.returns-in_ok-restore-in-None-clause-recorded
returns-in_ok-restore-in-None-clause-recorded g c =
    let words = g.P.Payload.words in
    let f = inner c.args.self.now in
    let newest = c.newest_copy-newest in
    let h = c.requires.recorded in
    let known = subst (IsKnown words f) c.in-None.is h.known in
    record {
      known = restored_known words f newest.result newest.ensures.0 newest.ensures.1 known;
      handed_out = λ is_open. absurd (none-some (h.handed_out is_open).count (sym c.in-None.is ∙ (h.handed_out is_open).at));
    }

pub returns-in_ok-restore-in-None-clause-kept : goal.returns-in_ok-restore-in-None-clause-kept
returns-in_ok-restore-in-None-clause-kept g c b past h =
    let words = g.P.Payload.words in
    let f = inner c.args.self.now in
    let old = c.args.object.now in
    let newest = c.newest_copy-newest in
    restored_of words f newest.result newest.ensures.0 newest.ensures.1 b past old c.restore.new.object c.in_ok-restore-in-None.ensures.restored
    (subst (IsFaceOf words b past old f) c.in-None.is h)
