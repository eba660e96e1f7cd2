-- The handles and the bytes of live chunks.
use Rattle.std.proofs.Common.{◌≡◌, ℕ, ◌^◌, ◌/◌, ◌%◌, ◌<◌, List, refl, arith, Option, Some, None, IfSome}
use Rattle.dym_base.specs.Numbers.{number}
use Rattle.dym_base.specs.HeapStep.{handle_of}

-- the handle of a handle's number
pub named : (e i : ℕ) → i < 2 ^ 32 → handle_of (number e i) ≡ record { exp = e; index = i }
named e i small =
    let class : number e i / 2 ^ 32 ≡ e = omega arith in
    let place : number e i % 2 ^ 32 ≡ i = omega arith in
    λ j. record { exp = class j; index = place j }

-- what is true of the bytes that are there
pub each_some : {P : List ℕ → Type 0} (o : Option (List ℕ)) → ((bytes : List ℕ) → o ≡ Some bytes → P bytes) → IfSome o P
each_some None f = tt
each_some (Some bytes) f = f bytes refl

-- two that are one and the same
pub one_some : {xs ys : List ℕ} → Some xs ≡ Some ys → xs ≡ ys
one_some same = cc
