-- The state of a process of PHOLD.
use Rattle.std.specs.Prelude.{ℕ, List}

-- the generator of its random numbers, how many events it ran, what the work came to, and the numbers that events change
pub record PholdContents : Type 0 where
  pub random : ℕ
  pub events : ℕ
  pub worked : ℕ
  pub numbers : List ℕ
