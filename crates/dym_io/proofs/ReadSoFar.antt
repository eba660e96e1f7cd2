-- What holds at each turn of reading a source whole, and where the reading ends.
use Rattle.std.specs.Prelude.{◌≡◌, ℕ, ◌+◌, ◌≤◌, List, ◌++◌, length, take, Option, Some, None}
use Rattle.std.proofs.Common.{sym, ◌∙◌, ap, inl, inr, length-append, arith}
use Rattle.std.proofs.lemmas.List.{length-take-le}
use Rattle.std.specs.Io.KnownBytes.{Consumes}
use Rattle.std.proofs.KnownBytes.{Consumes-trans}
use Rattle.dym_io.specs.Source.{IsEmptyAtEnd, IsEndOrLimit, TookAtMost}

-- the bytes so far were taken from the source, they are within the limit, no call failed, and another may follow
pub record ReadSoFar (limit : ℕ) (old new : Option (List ℕ)) (faults_old faults_new : ℕ) (goes_on : Type 0) (bytes : List ℕ) : Type 0 where
  pub taken : Consumes old new bytes
  pub within : length bytes ≤ limit
  pub count : faults_new ≡ faults_old
  pub more : goes_on

pub ended_at_limit : (limit : ℕ) (old new : Option (List ℕ)) (bytes : List ℕ) → length bytes ≡ limit → IsEndOrLimit limit old new bytes
ended_at_limit limit None new bytes full = tt
ended_at_limit limit (Some xs) None bytes full = tt
ended_at_limit limit (Some xs) (Some ys) bytes full = inr full

-- a pull gave nothing
pub ended_at_end : (limit n : ℕ) (old mid new : Option (List ℕ)) (bytes out : List ℕ) → Consumes old mid bytes → IsEmptyAtEnd mid n → n ≡ 0
    → Consumes mid new (take n out) → IsEndOrLimit limit old new bytes
ended_at_end limit n None mid new bytes out before at_end none taken = tt
ended_at_end limit n (Some xs) None new bytes out before at_end none taken = absurd before
ended_at_end limit n (Some xs) (Some ys) None bytes out before at_end none taken = absurd taken
ended_at_end limit n (Some xs) (Some ys) (Some zs) bytes out before at_end none taken =
    inl (sym (taken ∙ ap (λ k. take k out ++ zs) none) ∙ at_end.0 none)

-- a piece more was taken, after which memory was wanting
pub took_piece : (limit n : ℕ) (old mid new : Option (List ℕ)) (bytes out : List ℕ) → Consumes old mid bytes → Consumes mid new (take n out) → n ≤ length out
    → length bytes + n ≤ limit → TookAtMost limit old new
took_piece limit n old mid new bytes out before taken within few =
    let both = length-append bytes (take n out) in
    record {
      got = bytes ++ take n out;
      taken = Consumes-trans old mid new bytes (take n out) before taken;
      few = omega (arith, both, few, length-take-le n out within);
    }
