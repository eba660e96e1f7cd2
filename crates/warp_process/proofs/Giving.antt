-- The next event is counted as run, where its effects are given.
use Rattle.std.proofs.Common.{◌≡◌, ℕ, Bool, false, cond, Option, Some, None, refl, ap, sym}
use Rattle.warp_process.specs.Processes.{fault_with}

-- a state that is no fault changes none
pub no_fault : (fault : Option ℕ) (is_faulty : Bool) (date : ℕ) → is_faulty ≡ false → fault ≡ fault_with fault is_faulty date
no_fault (Some first) is_faulty date is = refl
no_fault None is_faulty date is = ap (λ t. cond t (Some date) None) (sym is)
