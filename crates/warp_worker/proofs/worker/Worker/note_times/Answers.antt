use Rattle.std.proofs.Common.{◌≡◌, ◌+◌, ◌<◌, ◌≤◌, Some, length, min, ap, sym, ◌∙◌, arith}
use Rattle.std.proofs.lemmas.List.{length-map}
use Rattle.std.proofs.lemmas.Option.{slice_get-get_or}
use Rattle.warp_process.specs.Processes.{face}
use Rattle.warp_worker.specs.Workers.{worker_face}
use Rattle.warp_worker.specs.Times.{last_ran, time_or}
use Rattle.warp_worker.proofs.Replaced.{get_mapped}
use Rattle.warp_worker.proofs.Times.{noted_more, noted_all}
use Rattle.warp_worker.proofs.worker.Worker.note_times.Goals as goal

pub loop-place-preserved : goal.loop-place-preserved
loop-place-preserved g c =
    let self = c.args.self.now in
    let committed = c.args.committed.now in
    let old = c.args.times.now in
    let place = c.loop-place.place in
    let x = c.index.result.now in
    let before = c.loop-place-test.true in
    let end = c.min-place-end.ensures in
    let len = c.len.ensures in
    let places = c.saturating_sub-places.ensures in
    let both = c.min.ensures in
    let items = self.processes.ok.0 in
    let less : place < length self.processes.items = omega (arith, before, end, len, items) in
    let known : self.first + place < length committed = omega (arith, before, end, places, both) in
    let within : self.first + place < length old = omega (arith, before, end, places, both) in
    let see = face g.K.StateSaver.state g.K.StateSaver.copies in
    let w = worker_face g.K.StateSaver.state g.K.StateSaver.copies self in
    let there = get_mapped see self.processes.items place x less c.index.ensures in
    let told = c.last_time.ensures ∙ ap (λ o. time_or o (last_ran (see x))) (sym (slice_get-get_or committed (self.first + place) 0 known)) in
    noted_more w committed place old c.loop-place.times (see x) c.last_time.result c.loop-place.invariant there within told

pub returns : goal.returns
returns g c =
    let self = c.args.self.now in
    let see = face g.K.StateSaver.state g.K.StateSaver.copies in
    let w = worker_face g.K.StateSaver.state g.K.StateSaver.copies self in
    let committed = c.args.committed.now in
    let old = c.args.times.now in
    let place = c.loop-place.place in
    let past = c.loop-place-test.false in
    let within = c.loop-place.auto.place-end in
    let end = c.min-place-end.ensures in
    let len = c.len.ensures in
    let places = c.saturating_sub-places.ensures in
    let both = c.min.ensures in
    let items = self.processes.ok.0 in
    let faces = length-map self.processes.items see in
    let few : place ≤ length w.processes = omega (arith, within, end, len, items, faces) in
    noted_all w committed place old c.loop-place.times c.loop-place.invariant few (λ left. let all : min (length committed) (length old) ≤ w.first + place = omega (arith, left, past, end, len, items, faces, places, both) in all)
