use Rattle.std.proofs.Common.{ℕ, List, take, drop, ◌++◌, sym, subst}
use Rattle.std.specs.List.Sorted.{IsPermutation}
use Rattle.std.proofs.lemmas.List.{take-append-drop}
use Rattle.std.proofs.lemmas.List.Sorted.{IsPermutation-append_comm, IsPermutation-append_left}
use Rattle.dym_slots.proofs.owner_calls.retire.Goals as goal

pub returns-clause-permutation : goal.returns-clause-permutation
returns-clause-permutation c =
    let near = take c.args.next_spares c.args.order.now in
    let turned : IsPermutation near c.turn.new.slots = subst (IsPermutation near) (sym c.turn.ensures)
    (subst (λ (l : List ℕ). IsPermutation l (drop c.args.place near ++ take c.args.place near)) (take-append-drop c.args.place near)
    (IsPermutation-append_comm (take c.args.place near) (drop c.args.place near))) in
    subst (λ (l : List ℕ). IsPermutation l (c.turn.new.slots ++ drop c.args.next_spares c.args.order.now)) (take-append-drop c.args.next_spares c.args.order.now)
    (IsPermutation-append_left (drop c.args.next_spares c.args.order.now) _ _ turned)
