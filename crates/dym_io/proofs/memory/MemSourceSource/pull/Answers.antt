use Rattle.std.proofs.Common.{◌≡◌, ◌+◌, ◌≤◌, take, drop, length, arith, rules}
use Rattle.std.proofs.lemmas.Grind.{common_steps}
use Rattle.dym_io.proofs.Pieces.{copied_front}
use Rattle.dym_io.proofs.memory.MemSourceSource.pull.Goals as goal

pub returns-clause-taken : goal.returns-clause-taken
returns-clause-taken c =
    let bytes = c.self.inside.bytes.items in
    let start = c.self.inside.taken in
    let amount = c.min-amount.result in
    let within : start + amount ≤ length bytes = search rules in
    let got : c.copy_from_slice.new.self ≡ take amount (drop start bytes) = grind (arith, common_steps) in
    rw (← c.self.view_is) (copied_front bytes c.copy_from_slice.new.self c.args.out.now start amount within got)
