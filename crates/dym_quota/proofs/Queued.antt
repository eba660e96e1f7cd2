-- What the kit's ruled queue asks of each step, for a queue of things with identities, and what the rule tells its holder.
use Rattle.std.proofs.Common.{◌≡◌, ◌≢◌, ℕ, ◌+◌, ◌<◌, ◌≤◌, true, false, List, [], ◌∷◌, ◌++◌, length, map, set, sum_by, refl, sym, ap, ◌∙◌, subst, arith, append-nil, length-append, ◌-◌}
use Rattle.std.specs.Prelude.{All, IsPermutation}
use Rattle.std.proofs.lemmas.List.{map-append, length-map}
use Rattle.std.proofs.lemmas.List.Sums.{sum_by-append}
use Rattle.std.proofs.lemmas.List.Sorted.{IsPermutation-refl, length_permutation}
use Rattle.crossbeam_queue.specs.Fifo.{Pushes, Pops, Forks, Merges, Learns}
use Rattle.crossbeam_queue.proofs.Lists.{set_else}
use Rattle.dym_region.specs.declared.segment.SegmentId.{SegmentId}
use Rattle.dym_quota.specs.declared.pass_view.PassView.{PassView}
use Rattle.dym_quota.specs.HeldIds.{IsHeld, GivesBack}
use Rattle.dym_quota.specs.SegmentRule.{spent, IsViewAt, SegmentRule}
use Rattle.dym_quota.specs.SegmentSteps.{IsStocking, IsPop, IsPush, IsSplit}
use Rattle.dym_quota.proofs.Weights.{sum_by-one, same_weights}
use Rattle.dym_quota.proofs.Views.{sum-gap, sum-part, sum-alone}
use Rattle.dym_quota.proofs.KeepsRule.{weight, quota_of, weights, knows, has_quota, has_stock, is_open, stocking_keeps, pop_keeps, push_keeps, split_keeps, join_keeps}

weightless : (h : SegmentId → ℕ) (xs : List SegmentId) → length xs ≡ 0 → sum_by h xs ≡ 0
weightless h [] e = refl
weightless h (x ∷ xs) e = absurd (omega arith)

-- a list that holds one isn't empty
pub held_some : (xs : List SegmentId) (x : SegmentId) → IsHeld xs x → 0 < length xs
held_some xs x held =
    let longer : length xs ≡ length (held.front ++ x ∷ held.back) = ap length held.is in
    omega (arith, length-append held.front (x ∷ held.back))

module _ {X : Type 0} (id : X → SegmentId) where
  abbrev Ruled : List X → List PassView → Type 0
  Ruled items views = SegmentRule (map id items) views

  pub stocks : (places pass : ℕ) (v : PassView) (x : X) → v.opens ≡ true → All (λ y. y ≢ id x) v.stock → Pushes Ruled places pass v x (λ w. IsStocking (id x) v w)
  stocks places pass v x opens fresh items views room r at =
      let w : PassView = record { quota = v.quota + 1; held = v.held; stock = v.stock ++ id x ∷ []; opens = v.opens } in
      let step : IsStocking (id x) v w = record { opens = opens; fresh = fresh; is = refl } in
      (w, subst (λ (l : List SegmentId). SegmentRule l (set views pass w)) (sym (map-append id items (x ∷ []))) (stocking_keeps (map id items) views pass v w (id x) r at step), step)

  -- the queue holds no more than was stocked
  pub stocked_few : (pass : ℕ) (v : PassView) → v.opens ≡ true → Learns Ruled pass v (λ items. length items ≤ length v.stock)
  stocked_few pass v opens items views r at =
      let all = weights (map id items) views r (λ _. 1) in
      let same : length v.stock ≡ length r.stock = ap length (knows r.stock v (r.known pass v at) (is_open v opens)) in
      omega (arith, sum_by-one (map id items), sum_by-one r.stock, length-map items id)

  pub pops : (pass : ℕ) (v : PassView) → length v.held < v.quota → Pops Ruled pass v (λ x w. IsPop (id x) v w)
  pops pass v below x items views r at =
      let w : PassView = record { quota = v.quota; held = v.held ++ id x ∷ []; stock = v.stock; opens = v.opens } in
      let step : IsPop (id x) v w = record { below = below; is = refl } in
      (w, pop_keeps (map id items) views pass v w (id x) r at step, step)

  -- a view that holds fewer than its quota finds one in the queue
  pub finds : (pass : ℕ) (v : PassView) → length v.held < v.quota → Learns Ruled pass v (λ items. 0 < length items)
  finds pass v below items views r at =
      let one : SegmentId → ℕ = λ _. 1 in
      let gap = sum-gap (weight one) quota_of views pass v (λ j u e. let within = r.within j u e in omega (arith, sum_by-one u.held)) at in
      let all = weights (map id items) views r one in
      let quotas = r.quotas in
      omega (arith, sum_by-one v.held, sum_by-one (map id items), sum_by-one r.stock, length-map items id)

  pub pushes : (places pass : ℕ) (v : PassView) (x : X) → IsHeld v.held (id x) → Pushes Ruled places pass v x (λ w. IsPush (id x) v w)
  pushes places pass v x held items views room r at =
      let w : PassView = record { quota = v.quota; held = held.front ++ held.back; stock = v.stock; opens = v.opens } in
      let gives : GivesBack v.held w.held (id x) = record { front = held.front; back = held.back; was = held.is; is = refl } in
      let step : IsPush (id x) v w = record { gives = gives; is = refl } in
      (w, subst (λ (l : List SegmentId). SegmentRule l (set views pass w)) (sym (map-append id items (x ∷ []))) (push_keeps (map id items) views pass v w (id x) r at step), step)

  -- while a view holds one, the queue has fewer than the stock
  pub has_room : (pass : ℕ) (v : PassView) → 0 < length v.held → Learns Ruled pass v (λ items. length items < length v.stock)
  has_room pass v much items views r at =
      let one : SegmentId → ℕ = λ _. 1 in
      let part = sum-part (weight one) views pass v at in
      let all = weights (map id items) views r one in
      let within = r.within pass v at in
      let same : length v.stock ≡ length r.stock = ap length (knows r.stock v (r.known pass v at) (has_quota v (omega arith))) in
      omega (arith, sum_by-one v.held, sum_by-one (map id items), sum_by-one r.stock, length-map items id)

  pub forks : (pass : ℕ) (v left right : PassView) → IsSplit v left right → Forks Ruled pass v left right
  forks pass v left right step items views r at = split_keeps (map id items) views pass v left right r at step

  -- a part of the quota goes to a half that holds nothing
  pub forks_part : (pass : ℕ) (v : PassView) (n : ℕ) → length v.held + n ≤ v.quota
      → Forks Ruled pass v (record { quota = v.quota - n; held = v.held; stock = v.stock; opens = false }) (record { quota = n; held = []; stock = v.stock; opens = false })
  forks_part pass v n enough =
      let left : PassView = record { quota = v.quota - n; held = v.held; stock = v.stock; opens = false } in
      let right : PassView = record { quota = n; held = []; stock = v.stock; opens = false } in
      forks pass v left right (record {
        quota = omega arith;
        held = subst (λ (l : List SegmentId). IsPermutation v.held l) (sym (append-nil v.held)) (IsPermutation-refl v.held);
        left_within = omega arith;
        right_within = omega arith;
        stock = (refl, refl);
        closed = (refl, refl);
      })

  -- two views that aren't spent have one stock, by the rule
  pub merges : (pass : ℕ) (v : PassView) (other : ℕ) (w : PassView) → 0 < length v.stock → 0 < w.quota
      → Merges Ruled pass v other w (record { quota = v.quota + w.quota; held = v.held ++ w.held; stock = v.stock; opens = false }) spent
  merges pass v other w stocked much items views r at apart at_other =
      let b : PassView = record { quota = v.quota + w.quota; held = v.held ++ w.held; stock = v.stock; opens = false } in
      let there : IsViewAt views other w = sym (set_else views pass other b apart) ∙ at_other in
      let same : w.stock ≡ v.stock = knows r.stock w (r.known other w there) (has_quota w much) ∙ sym (knows r.stock v (r.known pass v at) (has_stock v stocked)) in
      join_keeps (map id items) views pass v other w b r at apart there (record { same = same; is = refl })

  -- with the whole quota, what a view holds and what the queue has are together the stock
  pub holds_all : (pass : ℕ) (v : PassView) → 0 < v.quota → v.quota ≡ length v.stock → Learns Ruled pass v (λ items. IsPermutation v.stock (map id items ++ v.held))
  holds_all pass v much whole items views r at =
      let same = knows r.stock v (r.known pass v at) (has_quota v much) in
      let all : sum_by quota_of views ≡ v.quota = r.quotas ∙ sym (ap length same) ∙ sym whole in
      same_weights v.stock (map id items ++ v.held) (λ h.
      let alone = sum-alone (weight h) quota_of views pass v (λ j u e none. let within = r.within j u e in weightless h u.held (omega arith)) at all in
      let once = weights (map id items) views r h in
      let stock : sum_by h v.stock ≡ sum_by h r.stock = ap (sum_by h) same in
      omega (arith, sum_by-append h (map id items) v.held))

  -- where as many are held as were stocked, the queue is empty
  pub queue_empty : (stock held : List SegmentId) (items : List X) → length held ≡ length stock → IsPermutation stock (map id items ++ held) → IsPermutation stock held
  queue_empty stock held [] same all = all
  queue_empty stock held (x ∷ items) same all =
      let longer = length_permutation stock (map id (x ∷ items) ++ held) all in
      absurd (omega (arith, length-append (map id (x ∷ items)) held, length-map (x ∷ items) id))
