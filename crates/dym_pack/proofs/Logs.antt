-- The log that packing makes of what is lent.
use Rattle.std.proofs.Common.{◌≡◌, ℕ, ◌^◌, ◌<◌, true, sym, ◌∙◌}
use Rattle.std.specs.Ordering.{nat_cmp}
use Rattle.std.specs.FinMap.{contains_key}
use Rattle.std.specs.FinSet.{contains, contains-empty}
use Rattle.std.proofs.lemmas.Bool.{true≢false}
use Rattle.dym_base.specs.declared.command.Kind.{Kind}
use Rattle.dym_base.specs.declared.command.Kind.TheVariants.{Full, Inc}
use Rattle.dym_pack.specs.Areas.{AreasMeaning, IsPackable, found_by, logged}
use Rattle.dym_base.specs.Recorded.{IsRecorded}
use Rattle.dym_pack.proofs.Chunks.{parts}

pub lent : (m : AreasMeaning) (kind : Kind) (time : ℕ) → IsPackable m → IsPackable (parts (logged m kind time))
lent m kind time ok = record {
  sized = ok.sized;
  touched_live = elim kind as (λ d. (k : ℕ) → contains (found_by d m.touched) k ≡ true → contains_key m.live k ≡ true) [
    | Full ↦ λ k has. absurd (true≢false (sym has ∙ contains-empty nat_cmp k))
    | Inc ↦ ok.touched_live
  ];
  few = ok.few;
}

pub recorded : (m : AreasMeaning) (kind : Kind) (time : ℕ) → IsPackable m → time < 2 ^ 64 → IsRecorded (logged m kind time)
recorded m kind time ok short =
    let lends = lent m kind time ok in
    record { sized = lends.sized; found_live = lends.touched_live; few = lends.few; time = short }
