-- The queue of segments that several berths share: what each pass of it knows, and what holds at every moment.
use Rattle.std.specs.Prelude.{◌≡◌, ◌≢◌, ℕ, ◌≤◌, ◌⊎◌, true, false, List, [], ◌++◌, length, flat_map, sum_by, IsPermutation}
use mathlib.Core.Option.{some}
use lib.ListN.{get_elem?}
use Rattle.dym_region.specs.declared.segment.SegmentId.{SegmentId}
use Rattle.dym_region.specs.Identity.{AreDistinct}
use Rattle.dym_quota.specs.declared.pass_view.PassView.{PassView}

-- the view of the first pass, before anything is stocked
abbrev pub first_pass : PassView
first_pass = record { quota = 0; held = []; stock = []; opens = true }

-- the view of a pass that was given up: no quota, nothing held, and it doesn't open
abbrev pub spent : PassView
spent = record { quota = 0; held = []; stock = []; opens = false }

-- the view of the pass with this number
abbrev pub IsViewAt : List PassView → ℕ → PassView → Type 0
IsViewAt views pass v = get_elem? views pass ≡ some v

-- the identities that all views hold
abbrev pub all_held : List PassView → List SegmentId
all_held views = flat_map (λ v. v.held) views

-- what holds at every moment of the identities in the queue, oldest first, and of the views of all passes
pub record SegmentRule (queued : List SegmentId) (views : List PassView) : Type 0 where
  pub stock : List SegmentId
  -- the stock is the same in all views that aren't spent
  pub known : (pass : ℕ) (v : PassView) → IsViewAt views pass v → (v ≡ spent) ⊎ (v.stock ≡ stock)
  -- its identities differ
  pub distinct : AreDistinct stock
  -- the identities in the queue and those in all views are together those of the stock, each once
  pub each_once : IsPermutation stock (queued ++ all_held views)
  -- each view holds at most as many identities as its quota
  pub within : (pass : ℕ) (v : PassView) → IsViewAt views pass v → length v.held ≤ v.quota
  -- the quotas of all views sum to the length of the stock
  pub quotas : sum_by (λ v. v.quota) views ≡ length stock
  -- where a view opens, every other view is spent
  pub alone : (pass other : ℕ) (v w : PassView) → IsViewAt views pass v → IsViewAt views other w → v.opens ≡ true → other ≢ pass → w ≡ spent
