use Rattle.std.proofs.Common.{◌++◌, ◌∷◌, [], refl, ap, sym, ◌∙◌}
use Rattle.warp_process.proofs.Opening.{opened}
use Rattle.warp_process.proofs.process.Process.open.Goals as goal

pub returns-clause-process : goal.returns-clause-process
returns-clause-process g c b is_start are_firsts are_faulty =
    let s = g.K.StateSaver.state c.save.new.self in
    let state = c.save.ensures.state in
    let copies = c.in_ok-save.ensures.ok ∙ ap (λ l. l ++ (0, g.K.StateSaver.state c.args.saver) ∷ []) c.requires ∙ ap (λ t. (0, t) ∷ []) (sym state) in
    rw (c.new.ensures.items, c.new-2.ensures.items, c.new-3.ensures.items, c.new-4.ensures.items, c.new-5.ensures.items, c.start_fault.ensures) (opened g.P.Payload.words b c.args.number _ s (g.K.StateSaver.copies c.save.new.self) c.args.drafts.now c.args.is_faulty (state ∙ is_start) are_firsts refl copies are_faulty)
