use Rattle.dym_commands.proofs.replies.keep.Goals as goal

pub returns-in-Refused-clause-within : goal.returns-in-Refused-clause-within
returns-in-Refused-clause-within c = c.store_refusal.ensures.within c.args.table.now.items
