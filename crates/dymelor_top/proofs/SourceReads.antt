-- What is read of a source, and what then stops a call or is made of it.
use Rattle.std.proofs.Common.{◌≡◌, ℕ, ◌+◌, true, List, [], Option, Some, Result, Ok, Err, IsErrAnd, IsErrOf, refl, sym, subst, arith}
use Rattle.std.proofs.KnownBytes.{Consumes-nil}
use Rattle.dym_base.specs.declared.bad_kind.BadKind.{BadKind}
use Rattle.dym_base.specs.declared.limits.TheConstants.{MOST_INPUT_BYTES}
use Rattle.dym_io.specs.Faults.{RoseOnce}
use Rattle.dym_io.specs.Source.{TookAtMost}
use Rattle.dym_io.specs.declared.whole_input.ReadFail.{ReadFail}
use Rattle.dym_io.specs.declared.whole_input.ReadFail.TheVariants as read
use Rattle.dymelor_top.specs.Calls.{ReadsSource}
use Rattle.dymelor_top.specs.Headline.{Input, WasRead}
use Rattle.dymelor_top.specs.Stops.{of_read}
use Rattle.dymelor_top.specs.declared.stop.Stop.{Stop}
use Rattle.dymelor_top.specs.declared.stop.Stop.TheVariants as stop

-- what holds at the error that `?` passes on
pub passed : {X : Type 0} → (P : Result X Stop → Type 0) (r : Result X Stop) (e : Stop) → IsErrAnd r (λ x. x ≡ e) → P (Err e) → P r
passed P (Ok x) e is p = absurd is
passed P (Err x) e is p = subst (λ y. P (Err y)) (sym is) p

-- nothing was taken of a source that isn't read
pub took_nothing : (most : ℕ) (left : Option (List ℕ)) → TookAtMost most left left
took_nothing most left = record { got = []; taken = Consumes-nil left; few = omega arith }

module _ {X : Type 0} (T : List ℕ → Result X Stop → Type 0) (old new : Input) where
  -- something was made of what was read
  pub made : (x : X) → (bytes : List ℕ) × T bytes (Ok x) → ((bytes : List ℕ) → old.left ≡ Some bytes → T bytes (Ok x)) → WasRead true old new
      → TookAtMost (MOST_INPUT_BYTES + 1) old.left new.left → new.faults ≡ old.faults → ReadsSource T old new (Ok x)
  made x some told was bounded calm = record {
    some = some;
    told = told;
    read = λ low. was;
    bounded = bounded;
    source = λ is. absurd (cc);
    source_stands = λ other. calm;
    no_usage = λ is. absurd (cc);
    no_sink = λ is. absurd (cc);
  }

  -- what was read has a fault
  pub faulty : (line : ℕ) (kind : BadKind) → ((bytes : List ℕ) → old.left ≡ Some bytes → T bytes (Err (stop.Bad line kind))) → WasRead true old new
      → TookAtMost (MOST_INPUT_BYTES + 1) old.left new.left → new.faults ≡ old.faults → ReadsSource T old new (Err (stop.Bad line kind))
  faulty line kind told was bounded calm = record {
    some = tt;
    told = told;
    read = λ low. was;
    bounded = bounded;
    source = λ is. absurd (cc);
    source_stands = λ other. calm;
    no_usage = λ is. absurd (cc);
    no_sink = λ is. absurd (cc);
  }

  pub no_memory : ((bytes : List ℕ) → T bytes (Err stop.Memory)) → TookAtMost (MOST_INPUT_BYTES + 1) old.left new.left → new.faults ≡ old.faults
      → ReadsSource T old new (Err stop.Memory)
  no_memory told bounded calm = record {
    some = tt;
    told = λ bytes known. told bytes;
    read = λ low. absurd (omega (arith, low));
    bounded = bounded;
    source = λ is. absurd (cc);
    source_stands = λ other. calm;
    no_usage = λ is. absurd (cc);
    no_sink = λ is. absurd (cc);
  }

  -- the source failed, or memory ran out
  pub not_read : {Y : Type 0} → (r : Result Y ReadFail) (e : ReadFail) → r ≡ Err e → ((bytes : List ℕ) → T bytes (Err stop.Source))
      → ((bytes : List ℕ) → T bytes (Err stop.Memory))
      → TookAtMost (MOST_INPUT_BYTES + 1) old.left new.left
      → (IsErrOf r read.Source → RoseOnce old.faults new.faults) → (¬ IsErrOf r read.Source → new.faults ≡ old.faults) → ReadsSource T old new (Err (of_read e))
  not_read r read.Source is failed none bounded rose calm = record {
    some = tt;
    told = λ bytes known. failed bytes;
    read = λ low. absurd (omega (arith, low));
    bounded = bounded;
    source = λ _. rose is;
    source_stands = λ other. absurd (other refl);
    no_usage = λ is. absurd (cc);
    no_sink = λ is. absurd (cc);
  }
  not_read r read.Memory is failed none bounded rose calm = no_memory none bounded (calm (λ other. absurd (cc)))
