use Rattle.std.proofs.Common.{◌≡◌, ℕ, ◌+◌, ◌≤◌, Some, [], ◌∷◌, ◌++◌, take, get_or, ap, sym, subst, ◌∙◌, arith}
use Rattle.std.proofs.lemmas.List.{take_more, take_all}
use Rattle.warp_base.specs.declared.event.Message.{Message}
use Rattle.warp_base.specs.Messages.{event_of, AreMessagesFrom}
use Rattle.warp_worker.specs.Moves.{lesser_of, TellsLeast}
use Rattle.warp_worker.proofs.Telling.{least_more, message_least}
use Rattle.warp_worker.proofs.told.least_sent.Goals as goal

pub loop-message-preserved : goal.loop-message-preserved
loop-message-preserved g c =
    let ms = c.args.messages.now in
    let i = c.loop-message.message-index in
    let m = c.message-item.result in
    let least = c.loop-message.least in
    let is : c.lesser-least.result ≡ lesser_of least (Some (event_of m).time) = c.lesser-least.ensures ∙ ap (λ e. lesser_of least (Some e.time)) c.event.ensures in
    subst (TellsLeast (λ t. AreMessagesFrom t (take (i + 1) ms))) (sym is)
    (least_more (λ t (x : Message g.row.P.Denot). t ≤ (event_of x).time) (λ x s t soon late. omega (arith, soon, late)) (take i ms) (take (i + 1) ms) m least (Some (event_of m).time)
    (take_more ms i m c.loop-message-test.true ∙ ap (λ x. take i ms ++ x ∷ []) (sym c.message-item.is)) c.loop-message.invariant (message_least m))

pub returns : goal.returns
returns g c =
    subst (λ l. TellsLeast (λ t. AreMessagesFrom t l) c.loop-message.least) (take_all c.loop-message.message-index c.args.messages.now c.loop-message-test.false) c.loop-message.invariant
