use Rattle.std.proofs.Common.{◌≡◌, ◌+◌, ◌<◌, ◌≤◌, suc, inl, inr, map, take, length, slice_get, Some, option_map, refl, ap, sym, subst, ◌∙◌, arith}
use Rattle.std.proofs.lemmas.List.{take_all, length-map}
use Rattle.std.proofs.lemmas.Option.{slice_get-map, slice_get_read}
use Rattle.std.proofs.lemmas.Bool.{iff_false, cases_lt}
use Rattle.warp_process.specs.Processes.{face}
use Rattle.warp_worker.specs.Workers.{total, worker_face}
use Rattle.warp_run.specs.Worlds.{process_count}
use Rattle.warp_run.proofs.Lanes.{first_at, total_more}
use Rattle.warp_run.proofs.exchange.worker_of.Goals as goal

pub loop-place-preserved : goal.loop-place-preserved
loop-place-preserved g c =
    let to = worker_face g.K.StateSaver.state g.K.StateSaver.copies in
    let ws = c.args.workers.now in
    let place = c.loop-place.place in
    let worker = c.index-workers-place.result in
    let less : place < length ws = c.loop-place-test.true in
    let there : slice_get (map to ws) place ≡ Some (to worker) = slice_get-map to ws place ∙ ap (option_map to) (slice_get_read ws (length ws) place worker refl less c.index-workers-place.is) in
    let first = first_at 0 (map to ws) place (to worker) c.requires.contiguous there in
    let more = total_more process_count (map to ws) place (to worker) there in
    let long = length-map worker.processes.items (face g.K.StateSaver.state g.K.StateSaver.copies) in
    let next : total process_count (take (place + 1) (map to ws)) ≡ total process_count (take (suc place) (map to ws)) = ap (λ k. total process_count (take k (map to ws))) (let e : place + 1 ≡ suc place = omega arith in e) in
    let few = c.loop-place.invariant in
    let not = iff_false c.owns.ensures c.if-owns.false in
    elim (cases_lt c.args.process (worker.first + length worker.processes.items)) as (λ _. total process_count (take (place + 1) (map to ws)) ≤ c.args.process) [
      | inl soon ↦ absurd (not (omega (arith, first, few), soon))
      | inr late ↦ omega (arith, first, more, long, next, late)
    ]

pub returns-then-owns-clause-own : goal.returns-then-owns-clause-own
returns-then-owns-clause-own g c w at =
    let to = worker_face g.K.StateSaver.state g.K.StateSaver.copies in
    let ws = c.args.workers.now in
    let place = c.loop-place.place in
    let worker = c.index-workers-place.result in
    let there : slice_get (map to ws) place ≡ Some (to worker) = slice_get-map to ws place ∙ ap (option_map to) (slice_get_read ws (length ws) place worker refl c.loop-place-test.true c.index-workers-place.is) in
    let both : Some (to worker) ≡ Some w = sym there ∙ at in
    let same : to worker ≡ w = cc in
    let long = length-map worker.processes.items (face g.K.StateSaver.state g.K.StateSaver.copies) in
    let own = c.owns.ensures.0 c.if-owns.true in
    let low = own.0 in
    let high = own.1 in
    subst (λ v. (v.first ≤ c.args.process) × (c.args.process < v.first + length v.processes)) same (low, omega (arith, high, long))

pub unreachable-requires : goal.unreachable-requires
unreachable-requires g c =
    let to = worker_face g.K.StateSaver.state g.K.StateSaver.copies in
    let ws = c.args.workers.now in
    let all = ap (total process_count) (take_all c.loop-place.place (map to ws) (let long = length-map ws to in omega (arith, long, c.loop-place-test.false))) in
    let within = c.requires.within in
    omega (arith, all, within, c.loop-place.invariant)
