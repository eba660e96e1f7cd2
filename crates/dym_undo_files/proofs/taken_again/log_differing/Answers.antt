use Rattle.std.proofs.Common.{sym, ap, subst, ◌∙◌}
use Rattle.dym_base.specs.Objects.{ObjectState, log, new_entry}
use Rattle.dym_base.specs.declared.command.Kind.TheVariants.{Inc}
use Rattle.dym_heap.specs.Meaning.{HeapMeaning}
use Rattle.dym_chain.specs.Answers.{IsLogged}
use Rattle.dym_chain.specs.Chains.{ChainMeaning, logged, object_of}
use Rattle.dym_undo_files.proofs.TakenLists.{to_log, logged_again}
use Rattle.dym_undo_files.proofs.taken_again.log_differing.Goals as goal

pub log-requires-clause-belongs : goal.log-requires-clause-belongs
log-requires-clause-belongs c = to_log c.args.before.now c.args.now.now c.touch_differing.new.heap c.args.chain.now c.requires.taken.0 c.requires.taken.2 c.requires.now
    c.touch_differing.ensures.touched

pub returns-in-Ok-clause-taken : goal.returns-in-Ok-clause-taken
returns-in-Ok-clause-taken c logs e time is taken =
    let n1 : HeapMeaning = c.touch_differing.new.heap in
    let chain : ChainMeaning = c.args.chain.now in
    let s : ObjectState = object_of n1.state chain in
    let reply = subst IsLogged (sym (ap (λ t. (log n1.version s t Inc).reply) time ∙ c.in-Ok.ensures.answer)) tt in
    let after = c.in-Ok.ensures.after ∙ sym (ap (λ t. (log n1.version s t Inc).object) time) in
    let put = c.in-Ok.ensures.put ∙ sym (ap (λ t. logged n1.version (new_entry s t Inc) chain) time) in
    logged_again c.args.before.now c.args.now.now n1 chain logs taken c.requires.now c.touch_differing.ensures.touched e is
    c.log.new.heap c.log.new.self c.in-Ok.ensures.heap c.in-Ok.ensures.sound put reply after c.in-Ok.ensures.belongs
