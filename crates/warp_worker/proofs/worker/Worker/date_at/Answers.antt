use Rattle.std.proofs.Common.{◌≡◌, ◌+◌, ◌<◌, ◌≤◌, ◌^◌, ◌++◌, Some, slice_get, option_map, length, take, refl, ap, sym, ◌∙◌, arith, length-append}
use Rattle.std.proofs.lemmas.List.{length-take-le}
use Rattle.std.proofs.lemmas.Option.{slice_get-map, slice_get_read}
use Rattle.warp_process.specs.Processes.{face}
use Rattle.warp_worker.specs.Workers.{worker_face}
use Rattle.warp_worker.proofs.Replaced.{process_at}
use Rattle.warp_worker.proofs.worker.Worker.date_at.Goals as goal

pub date-requires : goal.date-requires
date-requires g c =
    let self = c.args.self.now in
    let see = face g.K.StateSaver.state g.K.StateSaver.copies in
    let w = worker_face g.K.StateSaver.state g.K.StateSaver.copies self in
    let x = c.in-Some.process.now in
    let there : slice_get self.processes.items c.args.place ≡ Some x = ap (λ l. slice_get l c.args.place) (sym c.deref.ensures.value) ∙ slice_get_read c.deref.result.now (length c.deref.result.now) c.args.place x refl c.in-Some.ensures.lookup.3.0 c.in-Some.ensures.lookup.1 in
    let get : slice_get w.processes c.args.place ≡ Some (see x) = slice_get-map see self.processes.items c.args.place ∙ ap (option_map see) there in
    let p = process_at g.P.Payload.words c.requires.worker.0 c.requires.worker.1 w c.args.place (see x) c.requires.worker.2 get in
    let all = length-append p.0 (take (length x.marks.items) x.events.items) in
    let few = length-take-le (length x.marks.items) x.events.items p.1.ran_within in
    let dates = p.1.dates in
    let counted = p.1.counted in
    record { counted = omega (arith, all, few, dates, counted) }
