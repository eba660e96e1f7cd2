-- A call of an object as the run of a command that is a value.
use Rattle.std.proofs.Common.{◌≡◌, ℕ, ◌+◌, Result, Ok, Err, OnOk, OnErr, IfErr, sym, ap, subst, ◌∙◌}
use Rattle.dym_base.specs.BaseLogs.{base_logs_step}
use Rattle.dym_base.specs.declared.command.Command.{Command}
use Rattle.dym_base.specs.declared.reply.Refusal.{Refusal}
use Rattle.dym_base.specs.declared.reply.Reply.{Reply}
use Rattle.dym_heap.specs.Replies.{OnRefusal}
use Rattle.dym_chain.specs.Answers.{restored_reply}
use Rattle.dym_object.specs.Commands.{TakesMemory}
use Rattle.dym_object.specs.Meaning.{ObjectMeaning, IsStep, counted, state_of, step_by}

-- the object ran the command, which got this reply
pub record Ran (old new : ObjectMeaning) (command : Command) (reply : Reply) : Type 0 where
  pub replied : reply ≡ (step_by old command).reply
  pub after : state_of new ≡ (step_by old command).object
  pub base_logs : new.chain.base_logs ≡ base_logs_step old.chain.base_logs (state_of old) command
  pub ran : new.ran ≡ old.ran + 1
  pub refused : OnRefusal reply (new ≡ counted old)
  pub heap : new.heap ≡ record old.heap { state = new.heap.state; held_ids = new.heap.held_ids }
  pub origin : new.chain.origin ≡ old.chain.origin

pub ran_by : (old new : ObjectMeaning) (command c : Command) (reply r : Reply) → command ≡ c → reply ≡ r → r ≡ (step_by old c).reply → IsStep old new c → OnRefusal r (new ≡ counted old) → Ran old new command reply
ran_by old new command c reply r is same replied step refused = record {
  replied = same ∙ replied ∙ sym (ap (λ (k : Command). (step_by old k).reply) is);
  after = step.object ∙ sym (ap (λ (k : Command). (step_by old k).object) is);
  base_logs = step.base_logs ∙ sym (ap (λ (k : Command). base_logs_step old.chain.base_logs (state_of old) k) is);
  ran = step.ran;
  refused = subst (λ (x : Reply). OnRefusal x (new ≡ counted old)) (sym same) refused;
  heap = step.heap;
  origin = step.origin;
}

-- what holds where a restore is refused, at its reply
pub at_restored : (r : Result ℕ Refusal) (P : Type 0) → OnErr r P → OnRefusal (restored_reply r) P
at_restored (Ok t) P p = tt
at_restored (Err why) P p = p

-- what a call says of the command that it ran, unless memory was wanting
pub record RanOf {T E : Type 0} (result : Result T E) (old new : ObjectMeaning) (said : Reply) (command : Command) : Type 0 where
  pub reply : OnOk result (said ≡ (step_by old command).reply)
  pub after : OnOk result (state_of new ≡ (step_by old command).object)
  pub base_logs : OnOk result (new.chain.base_logs ≡ base_logs_step old.chain.base_logs (state_of old) command)
  pub memory : IfErr result (λ _. TakesMemory command (step_by old command).reply)
