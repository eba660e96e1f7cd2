use Rattle.std.proofs.Common.{◌≡◌, ℕ, Bool, None, subst, get_or, MatchBool, IsSome}
use Rattle.dym_heap.proofs.PlaceFacts as facts
use Rattle.dym_heap.proofs.sized_area.SizedArea.is_empty.Goals as goal

pub returns : goal.returns
returns g c =
    let P : Bool → Type 0 = λ b. MatchBool b ((i : ℕ) → get_or c.args.self.now.chunks i None ≡ None) ((i : ℕ) × IsSome (get_or c.args.self.now.chunks i None)) in
    subst P (facts.flipped c.is_none.result _ c.is_none.ensures) (facts.empty_p c.self.view_is c.self.invariant c.first_used.result c.first_used.ensures)
