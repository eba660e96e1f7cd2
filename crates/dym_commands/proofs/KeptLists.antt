-- Lists of kept commands, and tables that grow.
use Rattle.std.proofs.Common.{◌≡◌, ◌+◌, ◌*◌, ◌≤◌, ◌<◌, true, false, nat_le, if◌then◌else◌, List, [], ◌∷◌, ◌++◌, All, length, get_or, sum_by, refl, ◌∙◌, arith, length-append, OnErr, Result, Ok, Err}
use Rattle.std.proofs.lemmas.List.{map-append}
use Rattle.std.proofs.lemmas.Bool.Decides.{nat_tests}
use Rattle.std.proofs.lemmas.List.Sums.{sum_by-le}
use Rattle.std.proofs.lemmas.List.Elements.{All-head, All-tail, All-push, All-weaker}
use Rattle.std.specs.declared.alloc.AllocError.{AllocError}
use Rattle.dym_base.specs.declared.limits.TheConstants.{MOST_COMMANDS}
use Rattle.dym_base.specs.declared.command.Command.{Command}
use Rattle.dym_base.specs.declared.command.Command.TheVariants.{Read}
use Rattle.dym_commands.specs.declared.stored_command.StoredCommand.{StoredCommand}
use Rattle.dym_commands.specs.declared.stored_command.Tables.{Tables}
use Rattle.dym_commands.specs.Reads.{read_room}
use Rattle.dym_commands.specs.StoredCommands.{command_of, commands_of, IsFit, AreFit, Still}

-- what is kept stays the same
pub same_commands : (t u : Tables) (stored_list : List StoredCommand) → Still t u → All (IsFit t) stored_list → commands_of u stored_list ≡ commands_of t stored_list
same_commands t u [] still fit = refl
same_commands t u (k ∷ ks) still fit =
    let first = (still k (All-head (IsFit t) k ks fit)).1 in
    let rest = same_commands t u ks still (All-tail (IsFit t) k ks fit) in
    λ i. first i ∷ rest i

-- one command more
pub more_commands : (t u : Tables) (stored_list : List StoredCommand) (stored : StoredCommand) (command : Command) → Still t u → All (IsFit t) stored_list → command_of u stored ≡ command → commands_of u (stored_list ++ stored ∷ []) ≡ commands_of t stored_list ++ command ∷ []
more_commands t u stored_list stored command still fit is =
    let same = same_commands t u stored_list still fit in
    map-append (command_of u) stored_list (stored ∷ []) ∙ (λ i. same i ++ is i ∷ [])

-- and it fits
pub more_fit : (t u : Tables) (stored_list : List StoredCommand) (stored : StoredCommand) → Still t u → length stored_list < MOST_COMMANDS → length u.wide.items ≤ length t.wide.items + 1 → IsFit u stored → AreFit t stored_list → AreFit u (stored_list ++ stored ∷ [])
more_fit t u stored_list stored still room rows is fit = record {
  few = omega (arith, length-append stored_list (stored ∷ []), room);
  rows = omega (arith, length-append stored_list (stored ∷ []), rows, fit.rows);
  fit = All-push (IsFit u) stored_list stored (All-weaker (IsFit t) (IsFit u) (λ k old. (still k old).0) stored_list fit.fit) is;
}

-- what the reply to one command tells is no more than a chunk has
read_room_few : (command : Command) → read_room command ≤ 65536
read_room_few (Read h at n) = elim (nat_le n 65536) as (λ b. nat_le n 65536 ≡ b → (if b then n else 0) ≤ 65536) [
  | true ↦ λ is. grind (arith, nat_tests)
  | false ↦ λ is. omega arith
] refl
read_room_few command = omega arith

-- and of many commands
pub read_bytes_few : (commands : List Command) → sum_by read_room commands ≤ length commands * 65536
read_bytes_few commands = sum_by-le read_room 65536 commands (λ k d inside. read_room_few (get_or commands k d))

-- a fact that holds anyway
pub on_err : (r : Result Unit AllocError) (P : Type 0) → P → OnErr r P
on_err (Ok x) P p = tt
on_err (Err e) P p = p
