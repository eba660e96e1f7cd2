use Rattle.std.proofs.Common.{Ok, ap, sym, ◌∙◌}
use Rattle.dym_script.specs.Lines.{words_of}
use Rattle.dym_script.proofs.LateVerbs.{event_may}
use Rattle.dym_script.proofs.late_words.event_at.Goals as goal

pub returns-in_ok-command-in-Ok-clause-may : goal.returns-in_ok-command-in-Ok-clause-may
returns-in_ok-command-in-Ok-clause-may c =
    event_may c.args.verb (words_of c.args.words.now) c.in_ok-command-in-Ok.command c.requires (c.in-Ok.ensures
    ∙ ap (λ command. Ok command) (sym c.in_ok-command-in-Ok.ensures))
