use Rattle.std.proofs.Common.{◌≡◌, ◌+◌, ◌<◌, [], map, take, length, set, slice_get, Some, option_map, refl, ap, sym, subst, ◌∙◌, arith}
use Rattle.std.proofs.lemmas.List.{length-set}
use Rattle.std.proofs.lemmas.Option.{slice_get-map, slice_get_read}
use Rattle.warp_base.specs.Events.{Each}
use Rattle.warp_worker.specs.declared.worker.Worker.{Worker}
use Rattle.warp_worker.specs.Workers.{worker_face}
use Rattle.warp_run.specs.Worlds.{IsWorld}
use Rattle.warp_run.proofs.Lanes.{map-set, Each-map, Each-all, empty_put, map_long}
use Rattle.warp_run.proofs.Exchanges.{taken_out}
use Rattle.warp_run.proofs.exchange.exchange_all.Goals as goal

pub loop-place-init : goal.loop-place-init
loop-place-init g c = record { world = λ b n bound end cells h. h; empty = tt; count = refl }

pub deliver_all-requires : goal.deliver_all-requires
deliver_all-requires g c =
    let to = worker_face g.K.StateSaver.state g.K.StateSaver.copies in
    let words = g.P.Payload.words in
    let items = c.loop-place.workers.items in
    let place = c.loop-place.place in
    let worker = c.index_mut.result.now in
    let new = c.take_outbox-messages.new.self in
    let k = c.requires.world.1 in
    let n = c.requires.world.0 in
    let less : place < length items = omega (arith, c.loop-place-test.true, c.len-place-end.ensures, c.loop-place.invariant.count, c.args.workers.now.ok.0) in
    let there : slice_get (map to items) place ≡ Some (to worker) = slice_get-map to items place ∙ ap (option_map to) (slice_get_read items (length items) place worker refl less c.index_mut.ensures.value) in
    let now = c.loop-place.invariant.world k.behaviour n k.bound k.end k.cells k.world in
    let rest = c.take_outbox-messages.ensures.rest in
    let out = taken_out words k.behaviour n k.bound k.end k.cells (map to items) place (to worker) there (to new) (ap (λ w. (to w).processes) rest) (ap (λ w. (to w).first) rest) (ap (λ w. (to w).inbox) rest) c.take_outbox-messages.ensures.empty now in
    record {
      world = (
        n,
        record {
          behaviour = k.behaviour;
          bound = k.bound;
          end = k.end;
          cells = k.cells;
          world = subst (IsWorld words k.behaviour n k.bound k.end k.cells (map to (set items place new))) (sym (c.deref.ensures.value ∙ c.take_outbox-messages.ensures.taken)) (subst (λ l. IsWorld words k.behaviour n k.bound k.end k.cells l (to worker).outbox) (sym (map-set to items place new)) out);
        },
      );
    }

pub loop-place-preserved : goal.loop-place-preserved
loop-place-preserved g c =
    let to = worker_face g.K.StateSaver.state g.K.StateSaver.copies in
    let words = g.P.Payload.words in
    let items = c.loop-place.workers.items in
    let place = c.loop-place.place in
    let worker = c.index_mut.result.now in
    let new = c.take_outbox-messages.new.self in
    let less : place < length items = omega (arith, c.loop-place-test.true, c.len-place-end.ensures, c.loop-place.invariant.count, c.args.workers.now.ok.0) in
    let there : slice_get (map to items) place ≡ Some (to worker) = slice_get-map to items place ∙ ap (option_map to) (slice_get_read items (length items) place worker refl less c.index_mut.ensures.value) in
    let rest = c.take_outbox-messages.ensures.rest in
    let boxes = λ (w : Worker g.row.P.Denot g.row.K.Denot). w.outbox.items in
    let lists = map boxes items in
    let emptied : map boxes c.deliver_all.new.workers.items ≡ set lists place [] = c.in_ok-deliver_all.ensures.outboxes ∙ map-set boxes items place new ∙ ap (set lists place) c.take_outbox-messages.ensures.empty in
    record {
      world = λ b n bound end cells h.
          let now = c.loop-place.invariant.world b n bound end cells h in
          let out = taken_out words b n bound end cells (map to items) place (to worker) there (to new) (ap (λ w. (to w).processes) rest) (ap (λ w. (to w).first) rest) (ap (λ w. (to w).inbox) rest) c.take_outbox-messages.ensures.empty now in
          c.in_ok-deliver_all.ensures.world b n bound end cells (subst (IsWorld words b n bound end cells (map to (set items place new))) (sym (c.deref.ensures.value ∙ c.take_outbox-messages.ensures.taken)) (subst (λ l. IsWorld words b n bound end cells l (to worker).outbox) (sym (map-set to items place new)) out));
      empty = subst (λ l. Each (λ o. o ≡ []) (take (place + 1) l)) (sym emptied) (empty_put lists place (let long = map_long boxes items in omega (arith, long, less)) c.loop-place.invariant.empty);
      count =
          let one = map_long boxes c.deliver_all.new.workers.items in
          let two = ap length emptied ∙ length-set lists place [] in
          let three = map_long boxes items in
          let four = c.loop-place.invariant.count in
          omega (arith, one, two, three, four);
    }

pub returns-clause-world : goal.returns-clause-world
returns-clause-world g c = c.loop-place.invariant.world

pub returns-clause-outboxes : goal.returns-clause-outboxes
returns-clause-outboxes g c =
    let boxes = λ (w : Worker g.row.P.Denot g.row.K.Denot). w.outbox.items in
    let items = c.loop-place.workers.items in
    Each-map boxes (λ o. o ≡ []) items (Each-all (λ o. o ≡ []) (map boxes items) c.loop-place.place (let long = map_long boxes items in omega (arith, long, c.loop-place-test.false, c.len-place-end.ensures, c.loop-place.invariant.count, c.args.workers.now.ok.0)) c.loop-place.invariant.empty)
