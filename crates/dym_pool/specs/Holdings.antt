-- What a worker has of a share.
use Rattle.std.specs.Prelude.{◌≡◌, ℕ, ◌+◌, List, []}
use Rattle.std.specs.declared.alloc.Global.{Global}
use Rattle.atomic_blocks.specs.Lent.{RowsId}
use Rattle.dym_pool.specs.Deques.{HasAll}

-- a way to one deque, with the jobs that were taken from it and have ended
pub record Holding (O : Type 0) : Type 0 where
  -- which deque
  pub deque : RowsId × Global
  -- the number and the origin of each job of the share
  pub list : List (ℕ × O)
  -- the number and the origin of each job that ended here
  pub hand : List (ℕ × O)
  -- the part of the whole
  pub part : ℕ
  -- how many jobs there is room for
  pub room : ℕ
  -- how many were put into the deque this way
  pub pushed : ℕ

module _ {O : Type 0} where
  -- the share and the part stay: only which jobs ended here may be another
  pub record KeepsShare (before after : Holding O) : Type 0 where
    pub deque : after.deque ≡ before.deque
    pub list : after.list ≡ before.list
    pub part : after.part ≡ before.part

  -- the deque and its room stay, while its jobs come
  pub record KeepsDeque (before after : Holding O) : Type 0 where
    pub deque : after.deque ≡ before.deque
    pub part : after.part ≡ before.part
    pub room : after.room ≡ before.room

  -- a steal share that nothing was taken by yet
  pub record IsNewStealShare (share steal_share : Holding O) : Type 0 where
    pub deque : steal_share.deque ≡ share.deque
    pub hand : steal_share.hand ≡ []
    pub room : steal_share.room ≡ share.room

  -- a steal share with a part of one
  pub record IsStealShareOf (share steal_share : Holding O) : Type 0 where
    pub deque : steal_share.deque ≡ share.deque
    pub part : steal_share.part ≡ 1

  -- so many parts were lent
  pub record Lends (parts : ℕ) (before after : Holding O) : Type 0 where
    pub deque : after.deque ≡ before.deque
    pub list : after.list ≡ before.list
    pub part : after.part + parts ≡ before.part
    pub room : after.room ≡ before.room

  -- so many parts came back
  pub record Joins (parts : ℕ) (before after : Holding O) : Type 0 where
    pub deque : after.deque ≡ before.deque
    pub list : after.list ≡ before.list
    pub part : after.part ≡ before.part + parts

  -- all jobs of the share have ended, and are here
  pub record IsFinished (before after : Holding O) : Type 0 where
    pub list : after.list ≡ before.list
    pub all : HasAll after.list after.hand
