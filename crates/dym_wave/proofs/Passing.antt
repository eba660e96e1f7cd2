-- Errors that a call passes on.
use Rattle.std.proofs.Common.{◌≡◌, List, Result, Ok, Err, IsErrAnd, sym, subst, ℕ}
use Rattle.dym_io.specs.Sink.{Output, AppendedFront, FaultsTellCause, WritesOr}

-- the same error, where it may be the sink's
pub writes_or_passed : {T E : Type 0} → (IsSinks : E → Type 0) (a b : Output) (t : List ℕ) (r : Result T E) (e : E) → IsErrAnd r (λ x. x ≡ e)
    → AppendedFront a b t → FaultsTellCause (IsSinks e) a b → WritesOr IsSinks a b t r
writes_or_passed IsSinks a b t (Ok x) e is front blames = absurd is
writes_or_passed IsSinks a b t (Err x) e is front blames = (front, subst (λ x. FaultsTellCause (IsSinks x) a b) (sym is) blames)
