use Rattle.std.proofs.Common.{◌≡◌, ℕ}
use Rattle.dym_base.specs.Packed.{Logged, packed}
use Rattle.dym_base.specs.Recorded.{IsRecorded}
use Rattle.dym_heap.specs.Shelves.{IsTidy}
use Rattle.dym_heap.proofs.AreaSteps.{UpTo}
use Rattle.dym_heap.proofs.Fetches.{Fetched}
use Rattle.dym_heap.proofs.record_fetch.fetch_record.Given as goal

abbrev pub invariant-loop-k : goal.invariant-loop-k
invariant-loop-k g l = record {
  same : l.shelf ≡ record l.fn.shelf { state = l.shelf.state };
  tidy : IsTidy l.shelf;
  upto : (log : Logged) → IsRecorded log → packed log ≡ l.rec → (q : ℕ) → UpTo (Fetched log) log.copy l.fn.shelf.state l.shelf.state l.k q;
}
