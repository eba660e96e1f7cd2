-- The rule of the deque of one share: who has which of its jobs.
use Rattle.std.specs.Prelude.{◌≡◌, ℕ, ◌+◌, ◌<◌, ◌≤◌, ◌⊎◌, List, [], ◌++◌, map, length, sum_by}
use mathlib.Core.Option.{some}
use lib.ListN.{get_elem?}
use Rattle.dym_pool.specs.Shares.{Has, Within}
use Rattle.dym_pool.specs.declared.view.ShareView.{ShareView}

module _ {O : Type 0} where
  abbrev pub share_view : List (ℕ × O) → List (ℕ × O) → ℕ → ShareView O
  share_view list hand part = record { list = list; hand = hand; part = part }

  -- the whole of a share that has no jobs yet: a part for each of at most 64 workers, and one that stays with its own worker
  abbrev pub first_share : ShareView O
  first_share = share_view [] [] 65

  -- what is left of a view that went into another
  abbrev pub spent : ShareView O
  spent = share_view [] [] 0

  -- the view at that place
  abbrev pub IsViewAt : List (ShareView O) → ℕ → ShareView O → Type 0
  IsViewAt views pass v = get_elem? views pass ≡ some v

  -- a view is spent, or it has a part and knows the share
  abbrev pub Knows : List (ℕ × O) → ShareView O → Type 0
  Knows list v = (v ≡ spent) ⊎ ((v.list ≡ list) × (0 < v.part))

  -- the jobs in the deque and those in all hands are together those of the share, each once: every weighing of numbers and
  -- origins gives both the same sum, and each of them is one of the share
  pub record InOneHand {T : Type 0} (label : T → ℕ × O) (items : List T) (views : List (ShareView O)) : Type 0 where
    pub list : List (ℕ × O)
    pub once : (h : ℕ × O → ℕ) → sum_by (λ v. sum_by h v.hand) views + sum_by h (map label items) ≡ sum_by h list
    pub held : (pass : ℕ) (v : ShareView O) → IsViewAt views pass v → Within list v.hand
    pub queued : Within list (map label items)
    pub whole : sum_by (λ v. v.part) views ≡ 65
    pub known : (pass : ℕ) (v : ShareView O) → IsViewAt views pass v → Knows list v

  -- some jobs come into the hand, which then has no more than the share
  pub record IsTaking (taken : List (ℕ × O)) (before after : ShareView O) : Type 0 where
    pub is : after ≡ share_view before.list (before.hand ++ taken) before.part
    pub few : length after.hand ≤ length after.list

  -- the last jobs that came into the hand leave it
  pub record IsReturn (returned : List (ℕ × O)) (before after : ShareView O) : Type 0 where
    pub hand : before.hand ≡ after.hand ++ returned
    pub list : after.list ≡ before.list
    pub part : after.part ≡ before.part

  -- the hand has jobs of the share alone, and one of each number that the share has
  pub record HasAll (list hand : List (ℕ × O)) : Type 0 where
    pub within : Within list hand
    pub each : (x : ℕ × O) → Has list x → (o : O) × Has hand (x.0, o)

  -- who has the whole where the deque is empty has all jobs
  abbrev pub HasAllAtLast : ShareView O → Type 0
  HasAllAtLast v = v.part ≡ 65 → HasAll v.list v.hand
