-- One command of a list.
use Rattle.std.proofs.Common.{◌≡◌, ℕ, ◌+◌, ◌<◌, ◌≤◌, List, [], ◌∷◌, ◌++◌, length, take, drop, get_or, slice_get, Option, Some, IfSome, subst, ap, ◌∙◌, add-one, drop-cons}
use Rattle.std.proofs.lemmas.Option.{slice_get-get_or}
use Rattle.std.proofs.Math.ListN.{drop_of_length-le}
use Rattle.std.proofs.Math.Seq.{take-suc}
use Rattle.dym_base.specs.declared.command.Command.{Command}
use Rattle.dym_base.specs.declared.command.Command.TheVariants as command
use Rattle.dym_base.specs.declared.reply.Reply.{Reply}
use Rattle.dym_object.specs.Meaning.{ObjectMeaning}
use Rattle.dym_object.specs.Turns.{Ran}

-- the ith command stands behind those before it and before those after it
pub record CommandAt (commands : List Command) (i : ℕ) : Type 0 where
  pub one : Command
  pub is : slice_get commands i ≡ Some one
  pub cut : drop i commands ≡ one ∷ drop (i + 1) commands
  pub front : take (i + 1) commands ≡ take i commands ++ one ∷ []

pub command_at : (commands : List Command) (i : ℕ) → i < length commands → CommandAt commands i
command_at commands i within = record {
  one = get_or commands i command.Logs;
  is = slice_get-get_or commands i command.Logs within;
  cut = rw add-one (drop-cons commands i command.Logs within);
  front = rw add-one (take-suc commands i command.Logs within);
}

-- what is true of it
pub command_fact : (P : Command → Type 0) (o : Option Command) (c : Command) → o ≡ Some c → IfSome o P → P c
command_fact P o c is fact = subst (λ o. IfSome o P) is fact

-- past the last one none is left
pub none_behind : (commands : List Command) (i : ℕ) → length commands ≤ i → drop i commands ≡ []
none_behind commands i all = drop_of_length-le commands all

-- a command that was run is counted
pub ran_counted : (commands : List Command) (i : ℕ) (old new : ObjectMeaning) (reply : Reply) → i < length commands
    → IfSome (slice_get commands i) (λ c. Ran old c new reply) → old.ran ≡ i → new.ran ≡ i + 1
ran_counted commands i old new reply within ran count =
    let at = command_at commands i within in
    let did : Ran old at.one new reply = command_fact (λ c. Ran old c new reply) (slice_get commands i) at.one at.is ran in
    did.step.ran ∙ ap (λ n. n + 1) count
