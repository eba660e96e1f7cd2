-- One command of an object, run.
use Rattle.std.specs.Prelude.{◌≡◌}
use Rattle.dym_base.specs.declared.command.Command.{Command}
use Rattle.dym_base.specs.declared.reply.Reply.{Reply}
use Rattle.dym_object.specs.Meaning.{ObjectMeaning, IsStep, IsWhole, step_by}

-- the object ran the command as one step of the definition, and this is the reply
pub record Ran (old : ObjectMeaning) (command : Command) (new : ObjectMeaning) (said : Reply) : Type 0 where
  pub reply : said ≡ (step_by old command).reply
  pub step : IsStep old new command
  pub whole : IsWhole new

-- no command was run: the object and the reply are as they were
pub record Stayed (old : ObjectMeaning) (before : Reply) (new : ObjectMeaning) (said : Reply) : Type 0 where
  pub object : new ≡ old
  pub reply : said ≡ before
