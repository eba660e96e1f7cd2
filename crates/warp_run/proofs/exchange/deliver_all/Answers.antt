use Rattle.std.proofs.Common.{◌≡◌, ◌+◌, ◌<◌, ◌≤◌, suc, ◌∷◌, map, drop, length, set, slice_get, Some, option_map, refl, ap, sym, subst, ◌∙◌, arith, drop-cons}
use Rattle.std.proofs.lemmas.Option.{slice_get-map, slice_get_read}
use Rattle.warp_base.specs.Messages.{event_of}
use Rattle.warp_worker.specs.Workers.{total, worker_face}
use Rattle.warp_run.specs.Worlds.{AreContiguous, IsWorld, process_count}
use Rattle.warp_run.proofs.Lanes.{map-set, set_same, drop_beyond}
use Rattle.warp_run.proofs.Exchanges.{put_in}
use Rattle.warp_run.proofs.exchange.deliver_all.Goals as goal

pub loop-message-init : goal.loop-message-init
loop-message-init g c = record { world = λ b n bound end cells h. h; outboxes = refl }

pub worker_of-place-requires-clause-contiguous : goal.worker_of-place-requires-clause-contiguous
worker_of-place-requires-clause-contiguous g c =
    let to = worker_face g.K.StateSaver.state g.K.StateSaver.copies in
    let k = c.requires.world.1 in
    let now = c.loop-message.invariant.world k.behaviour c.requires.world.0 k.bound k.end k.cells k.world in
    subst (λ l. AreContiguous 0 (map to l)) (sym c.deref.ensures.value) now.contiguous

pub worker_of-place-requires-clause-within : goal.worker_of-place-requires-clause-within
worker_of-place-requires-clause-within g c =
    let to = worker_face g.K.StateSaver.state g.K.StateSaver.copies in
    let k = c.requires.world.1 in
    let messages = c.args.messages.now in
    let i = c.loop-message.message-index in
    let message = c.message-item.result in
    let split : drop i messages ≡ message ∷ drop (suc i) messages = drop-cons messages i message c.loop-message-test.true ∙ ap (λ z. z ∷ drop (suc i) messages) (sym c.message-item.is) in
    let now = c.loop-message.invariant.world k.behaviour c.requires.world.0 k.bound k.end k.cells k.world in
    let here = subst (λ l. IsWorld g.P.Payload.words k.behaviour c.requires.world.0 k.bound k.end k.cells (map to c.loop-message.workers.items) l) split now in
    let within = here.others.0.within in
    let all = here.count in
    let same = ap (λ l. total process_count (map to l)) c.deref.ensures.value in
    let event = ap (λ e. e.receiver) c.event.ensures in
    omega (arith, within, all, same, event)

pub loop-message-preserved : goal.loop-message-preserved
loop-message-preserved g c =
    let to = worker_face g.K.StateSaver.state g.K.StateSaver.copies in
    let words = g.P.Payload.words in
    let messages = c.args.messages.now in
    let i = c.loop-message.message-index in
    let message = c.message-item.result in
    let items = c.loop-message.workers.items in
    let place = c.worker_of-place.result in
    let worker = c.index_mut.result.now in
    let new = c.accept.new.self in
    let split : drop i messages ≡ message ∷ drop (suc i) messages = drop-cons messages i message c.loop-message-test.true ∙ ap (λ z. z ∷ drop (suc i) messages) (sym c.message-item.is) in
    let less : place < length items = subst (λ l. place < length l) c.deref.ensures.value c.worker_of-place.ensures.within in
    let there : slice_get (map to items) place ≡ Some (to worker) = slice_get-map to items place ∙ ap (option_map to) (slice_get_read items (length items) place worker refl less c.index_mut.ensures.value) in
    let own = c.worker_of-place.ensures.own (to worker) (ap (λ l. slice_get (map to l) place) c.deref.ensures.value ∙ there) in
    let event = ap (λ e. e.receiver) c.event.ensures in
    let low : (to worker).first ≤ (event_of message).receiver = let one = own.0 in omega (arith, one, event) in
    let high : (event_of message).receiver < (to worker).first + length (to worker).processes = let one = own.1 in omega (arith, one, event) in
    record {
      world = λ b n bound end cells h.
          let now = c.loop-message.invariant.world b n bound end cells h in
          let here = subst (λ l. IsWorld words b n bound end cells (map to items) l) split now in
          let put = put_in words b n bound end cells (map to items) place (to worker) there (to new) message (drop (suc i) messages) (ap (λ w. (to w).processes) c.accept.ensures.rest) (ap (λ w. (to w).first) c.accept.ensures.rest) c.in_ok-accept.ensures.accepted (ap (λ w. (to w).outbox) c.accept.ensures.rest) low high here in
          subst (λ l. IsWorld words b n bound end cells l (drop (i + 1) messages)) (sym (map-set to items place new)) (subst (λ j. IsWorld words b n bound end cells (set (map to items) place (to new)) (drop j messages)) (let e : suc i ≡ i + 1 = omega arith in e) put);
      outboxes =
          let same = ap (λ w. w.outbox.items) c.accept.ensures.rest ∙ ap (λ w. w.outbox.items) c.index_mut.ensures.value in
          map-set (λ w. w.outbox.items) items place new ∙ set_same (λ w. w.outbox.items) items place worker new less c.index_mut.ensures.value (ap (λ w. w.outbox.items) c.accept.ensures.rest) ∙ c.loop-message.invariant.outboxes;
    }

pub returns-clause-world : goal.returns-clause-world
returns-clause-world g c b n bound end cells h =
    let to = worker_face g.K.StateSaver.state g.K.StateSaver.copies in
    let messages = c.args.messages.now in
    subst (IsWorld g.P.Payload.words b n bound end cells (map to c.loop-message.workers.items)) (drop_beyond c.loop-message.message-index messages c.loop-message-test.false) (c.loop-message.invariant.world b n bound end cells h)
