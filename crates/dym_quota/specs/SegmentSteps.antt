-- The kinds of step that the queue of segments takes. Each moves one identity at one end of the queue, or changes views alone.
use Rattle.std.specs.Prelude.{◌≡◌, ◌≢◌, ◌+◌, ◌<◌, ◌≤◌, true, false, [], ◌∷◌, ◌++◌, length, All, IsPermutation}
use Rattle.dym_region.specs.declared.segment.SegmentId.{SegmentId}
use Rattle.dym_quota.specs.declared.pass_view.PassView.{PassView}
use Rattle.dym_quota.specs.HeldIds.{GivesBack}

-- stocking, of a view that opens: an identity that isn't in its stock goes to the back; the stock gains it and the quota rises by one
pub record IsStocking (one : SegmentId) (old new : PassView) : Type 0 where
  pub opens : old.opens ≡ true
  pub fresh : All (λ x. x ≢ one) old.stock
  pub is : new ≡ record { quota = old.quota + 1; held = old.held; stock = old.stock ++ one ∷ []; opens = old.opens }

-- pop, of a view that holds fewer identities than its quota: the identity at the front moves into the view
pub record IsPop (one : SegmentId) (old new : PassView) : Type 0 where
  pub below : length old.held < old.quota
  pub is : new ≡ record { quota = old.quota; held = old.held ++ one ∷ []; stock = old.stock; opens = old.opens }

-- push: an identity moves from the view to the back
pub record IsPush (one : SegmentId) (old new : PassView) : Type 0 where
  pub gives : GivesBack old.held new.held one
  pub is : new ≡ record { quota = old.quota; held = new.held; stock = old.stock; opens = old.opens }

-- split: one view's quota and identities are cut in two, so that each half holds at most its quota; the stock stays; neither half opens
pub record IsSplit (old left right : PassView) : Type 0 where
  pub quota : left.quota + right.quota ≡ old.quota
  pub held : IsPermutation old.held (left.held ++ right.held)
  pub left_within : length left.held ≤ left.quota
  pub right_within : length right.held ≤ right.quota
  pub stock : (left.stock ≡ old.stock) × (right.stock ≡ old.stock)
  pub closed : (left.opens ≡ false) × (right.opens ≡ false)

-- join: two views are put together, and a spent one is left; the stock stays; the view that is made doesn't open
pub record IsJoin (one other both : PassView) : Type 0 where
  pub same : other.stock ≡ one.stock
  pub is : both ≡ record { quota = one.quota + other.quota; held = one.held ++ other.held; stock = one.stock; opens = false }
