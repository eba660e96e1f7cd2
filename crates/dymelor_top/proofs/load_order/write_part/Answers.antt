use Rattle.std.proofs.Common.{◌≡◌, [], ◌∷◌, sym, ap, subst, ◌∙◌}
use Rattle.dym_io.specs.Sink.{Writes}
use Rattle.dym_chain.specs.Chains.{object_of}
use Rattle.dym_report.specs.Objects.{object_text}
use Rattle.dymelor_top.specs.Checkpoints.{restored_text}
use Rattle.dymelor_top.proofs.LoadedFacts.{as_it_stands, as_restored}
use Rattle.dymelor_top.proofs.load_order.write_part.Goals as goal

pub returns-in-None-clause-written : goal.returns-in-None-clause-written
returns-in-None-clause-written g c =
    let heap = c.args.heap.now in
    let name = c.args.name.now in
    let s = object_of heap.state c.args.chain.now in
    let text : object_text heap.version name [] s.heap.live c.kept.result c.slots.result ≡ restored_text heap.version heap.quota name s c.args.time =
    as_it_stands heap.version heap.quota name s c.kept.result c.slots.result c.kept.ensures c.slots.ensures.slots
    ∙ ap (restored_text heap.version heap.quota name s) (sym c.in-None.is) in
    subst (λ t. Writes (g.W.Sink.output c.args.sink.now) (g.W.Sink.output c.write_object.new.sink) t c.write_object.result) text c.write_object.ensures

pub returns-in-Some-clause-written : goal.returns-in-Some-clause-written
returns-in-Some-clause-written g c =
    let heap = c.args.heap.now in
    let name = c.args.name.now in
    let s = object_of heap.state c.args.chain.now in
    let after = c.restore.new.heap in
    let e = object_of after.state c.restore.new.self in
    let reply = c.reply_of-reply.result in
    let kept = c.kept-in-Some.result in
    let slots = c.slots-in-Some.result in
    let text : object_text after.version name (reply ∷ []) e.heap.live kept slots ≡ restored_text heap.version heap.quota name s c.args.time =
    (λ i. object_text (c.restore.ensures.heap i).version name (reply ∷ []) e.heap.live kept slots)
    ∙ as_restored heap.version heap.quota name s e c.in-Some.time reply kept slots c.restore.ensures.after (c.reply_of-reply.ensures ∙ c.restore.ensures.answer)
    c.kept-in-Some.ensures c.slots-in-Some.ensures.slots
    ∙ ap (restored_text heap.version heap.quota name s) (sym c.in-Some.is) in
    subst (λ t. Writes (g.W.Sink.output c.args.sink.now) (g.W.Sink.output c.write_object-in-Some.new.sink) t c.write_object-in-Some.result) text
    c.write_object-in-Some.ensures
