-- What an object of several threads stands on, as plain data: contracts say by it that two ends belong together.
use Rattle.std.specs.Prelude.{ℕ, List}

-- one table of shared words, by the numbers that no other table shares with it
pub record TableName : Type 0 where
  pub words : ℕ
  pub slots : ℕ
  pub views_name : ℕ
  pub atom : ℕ
  pub block : ℕ
  pub offset : ℕ
  pub slot_names : List ℕ

-- where a supply has its segments from, or a keep its records: from itself alone, or from a shared table
pub data Origin : Type 0 where
  own : Origin
  shared : TableName → Origin
