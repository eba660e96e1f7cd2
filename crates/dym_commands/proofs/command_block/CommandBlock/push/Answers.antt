use Rattle.std.proofs.Common.{◌<◌, ◌∙◌, ◌++◌, ◌∷◌, [], sym, ap, subst, length}
use Rattle.std.proofs.lemmas.List.{length-map}
use Rattle.dym_base.specs.declared.limits.TheConstants.{MOST_COMMANDS}
use Rattle.dym_commands.specs.StoredCommands.{command_of, commands_of, AreFit}
use Rattle.dym_commands.specs.Requests.{asks}
use Rattle.dym_commands.proofs.KeptLists.{same_commands, more_commands, more_fit, on_err}
use Rattle.dym_commands.proofs.command_block.CommandBlock.push.Goals as goal

pub returns-in_err-stored-clause-same : goal.returns-in_err-stored-clause-same
returns-in_err-stored-clause-same c =
    let t = c.self.inside.tables in
    on_err c.from_residual-in_err-stored.result _
    (ap (commands_of c.store.new.self) c.reserve.ensures.items ∙ same_commands t c.store.new.self c.self.inside.stored.items c.store.ensures.still c.self.invariant.fit ∙ c.self.view_is)

pub invariant_of-self-2 : goal.invariant_of-self-2
invariant_of-self-2 c =
    let few : length c.self.inside.stored.items < MOST_COMMANDS = subst (λ n. n < MOST_COMMANDS) (ap length (sym c.self.view_is) ∙ length-map c.self.inside.stored.items (command_of c.self.inside.tables)) c.requires in
    subst (AreFit c.store.new.self) (sym (c.in_ok-push.ensures.items ∙ ap (λ ks. ks ++ c.in_ok-stored.stored ∷ []) c.reserve.ensures.items))
    (more_fit c.self.inside.tables c.store.new.self c.self.inside.stored.items c.in_ok-stored.stored c.store.ensures.still few c.in_ok-stored.ensures.stored.rows c.in_ok-stored.ensures.stored.fit c.self.invariant)

pub returns-clause-pushed : goal.returns-clause-pushed
returns-clause-pushed c =
    ap (commands_of c.store.new.self) (c.in_ok-push.ensures.items ∙ ap (λ ks. ks ++ c.in_ok-stored.stored ∷ []) c.reserve.ensures.items)
    ∙ more_commands c.self.inside.tables c.store.new.self c.self.inside.stored.items c.in_ok-stored.stored (asks c.args.asked.now) c.store.ensures.still c.self.invariant.fit c.in_ok-stored.ensures.stored.is
    ∙ ap (λ cs. cs ++ asks c.args.asked.now ∷ []) c.self.view_is
