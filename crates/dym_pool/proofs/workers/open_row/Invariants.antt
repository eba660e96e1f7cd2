use Rattle.std.proofs.Common.{◌≡◌, take, vec_len, vec_capacity}
use Rattle.std.specs.List.{AllZip}
use Rattle.dym_pool.specs.Holdings.{IsNewStealShare}
use Rattle.dym_pool.proofs.workers.open_row.Given as goal

abbrev pub invariant-loop-share : goal.invariant-loop-share
invariant-loop-share g l = record {
  len : vec_len l.row ≡ l.share-index;
  room : vec_capacity l.row ≡ vec_len l.shares;
  guests : AllZip IsNewStealShare (take l.share-index l.shares.items) l.row.items;
}
