-- Each kind of step keeps the segment rule.
use Rattle.std.proofs.Common.{◌≡◌, ◌≢◌, ℕ, ◌+◌, ◌<◌, ◌≤◌, ◌⊎◌, true, false, true≢false, List, [], ◌∷◌, ◌++◌, length, set, get_or, sum_by, refl, sym, ap, ◌∙◌, subst, inl, inr, ⊎_elim, arith, length-append}
use Rattle.std.specs.Prelude.{IsPermutation}
use Rattle.std.proofs.lemmas.List.Sums.{sum_by-cons, sum_by-append}
use Rattle.std.proofs.lemmas.List.Sorted.{sum_by-IsPermutation}
use Rattle.std.proofs.lemmas.List.Quantifiers.{all_pairs_push}
use mathlib.Core.Option.{some}
use lib.ListN.{get_elem?}
use Rattle.crossbeam_queue.proofs.Lists.{at_set, at_snoc, set_else}
use Rattle.dym_region.specs.declared.segment.SegmentId.{SegmentId}
use Rattle.dym_quota.specs.declared.pass_view.PassView.{PassView}
use Rattle.dym_quota.specs.SegmentRule.{spent, IsViewAt, all_held, SegmentRule}
use Rattle.dym_quota.specs.SegmentSteps.{IsStocking, IsPop, IsPush, IsSplit, IsJoin}
use Rattle.dym_quota.proofs.Weights.{same_weights}
use Rattle.dym_quota.proofs.Views.{sum-set, sum-push, weigh-all, each-set, each-push}

abbrev pub weight : (SegmentId → ℕ) → PassView → ℕ
weight h v = sum_by h v.held

abbrev pub quota_of : PassView → ℕ
quota_of v = v.quota

abbrev pub KnowsStock : List SegmentId → PassView → Type 0
KnowsStock stock v = (v ≡ spent) ⊎ (v.stock ≡ stock)

abbrev Within : PassView → Type 0
Within v = length v.held ≤ v.quota

abbrev Alone : List PassView → Type 0
Alone views = (pass other : ℕ) (v w : PassView) → IsViewAt views pass v → IsViewAt views other w → v.opens ≡ true → other ≢ pass → w ≡ spent

-- views that are the same agree in each part
same_quota : {v w : PassView} → v ≡ w → v.quota ≡ w.quota
same_quota e j = (e j).quota

same_stock : {v w : PassView} → v ≡ w → v.stock ≡ w.stock
same_stock e j = (e j).stock

same_opens : {v w : PassView} → v ≡ w → v.opens ≡ w.opens
same_opens e j = (e j).opens

-- each identity once, said by weights
pub weights : (queued : List SegmentId) (views : List PassView) (r : SegmentRule queued views) (h : SegmentId → ℕ) → sum_by h r.stock ≡ sum_by h queued + sum_by (weight h) views
weights queued views r h =
    let all = sum_by-IsPermutation h r.stock (queued ++ all_held views) r.each_once in
    omega (arith, sum_by-append h queued (all_held views), weigh-all h views)

once : (stock queued : List SegmentId) (views : List PassView) → ((h : SegmentId → ℕ) → sum_by h stock ≡ sum_by h queued + sum_by (weight h) views) → IsPermutation stock (queued ++ all_held views)
once stock queued views all = same_weights stock (queued ++ all_held views) (λ h. let a = all h in omega (arith, sum_by-append h queued (all_held views), weigh-all h views))

-- a view that isn't spent knows the stock
pub knows : (stock : List SegmentId) (v : PassView) → KnowsStock stock v → ¬ (v ≡ spent) → v.stock ≡ stock
knows stock v k not = ⊎_elim (λ (e : v ≡ spent). absurd (not e)) (λ (e : v.stock ≡ stock). e) k

pub has_quota : (v : PassView) → 0 < v.quota → ¬ (v ≡ spent)
has_quota v much e = let none : v.quota ≡ 0 = same_quota e in absurd (omega arith)

pub has_stock : (v : PassView) → 0 < length v.stock → ¬ (v ≡ spent)
has_stock v much e = let none : length v.stock ≡ 0 = ap length (same_stock e) in absurd (omega arith)

pub is_open : (v : PassView) → v.opens ≡ true → ¬ (v ≡ spent)
is_open v o e = true≢false (sym o ∙ same_opens e)

alone-set : (views : List PassView) (pass : ℕ) (v w : PassView) → IsViewAt views pass v → (w.opens ≡ true → v.opens ≡ true) → (v ≡ spent → w ≡ spent) → Alone views → Alone (set views pass w)
alone-set views pass v w at opens goes alone a b p q ea eb o n =
    ⊎_elim
    (λ (x : (a ≡ pass) × (w ≡ p)).
    ⊎_elim (λ (y : (b ≡ pass) × (w ≡ q)). absurd (n (y.0 ∙ sym x.0)))
    (λ (y : (b ≢ pass) × (get_elem? views b ≡ some q)). alone pass b v q at y.1 (opens (same_opens x.1 ∙ o)) y.0)
    (at_set views pass b w q eb))
    (λ (x : (a ≢ pass) × (get_elem? views a ≡ some p)).
    ⊎_elim (λ (y : (b ≡ pass) × (w ≡ q)). sym y.1 ∙ goes (alone a pass p v x.1 at o (λ e. x.0 (sym e))))
    (λ (y : (b ≢ pass) × (get_elem? views b ≡ some q)). alone a b p q x.1 y.1 o n)
    (at_set views pass b w q eb))
    (at_set views pass a w p ea)

-- ---- stocking
pub stocking_keeps : (queued : List SegmentId) (views : List PassView) (pass : ℕ) (v w : PassView) (one : SegmentId) → SegmentRule queued views → IsViewAt views pass v → IsStocking one v w
    → SegmentRule (queued ++ one ∷ []) (set views pass w)
stocking_keeps queued views pass v w one r at s =
    let same = knows r.stock v (r.known pass v at) (is_open v s.opens) in
    let stock = r.stock ++ one ∷ [] in
    let quota : w.quota ≡ v.quota + 1 = same_quota s.is in
    let held : length w.held ≡ length v.held = λ j. length (s.is j).held in
    let mine = r.within pass v at in
    record {
      stock = stock;
      known = each-set (KnowsStock stock) views pass w (inr (same_stock s.is ∙ ap (λ (l : List SegmentId). l ++ one ∷ []) same)) (λ j u n e. inl (r.alone pass j v u at e s.opens n));
      distinct = all_pairs_push (λ a b. a ≢ b) r.stock one r.distinct (subst (λ (l : List SegmentId). (k : ℕ) (d : SegmentId) → k < length l → get_or l k d ≢ one) same s.fresh);
      each_once = once stock (queued ++ one ∷ []) (set views pass w) (λ h.
          let sum = sum-set (weight h) views pass v w at in
          let same : weight h w ≡ weight h v = ap (weight h) s.is in
          let before = weights queued views r h in
          omega (arith, sum_by-append h queued (one ∷ []), sum_by-append h r.stock (one ∷ [])));
      within = each-set Within views pass w (omega arith) (λ j u n e. r.within j u e);
      quotas = (let sum = sum-set quota_of views pass v w at in let before = r.quotas in omega (arith, length-append r.stock (one ∷ [])));
      alone = alone-set views pass v w at (λ o. s.opens) (λ e. absurd (is_open v s.opens e)) r.alone;
    }

-- ---- pop
pub pop_keeps : (queued : List SegmentId) (views : List PassView) (pass : ℕ) (v w : PassView) (one : SegmentId) → SegmentRule (one ∷ queued) views → IsViewAt views pass v → IsPop one v w → SegmentRule queued (set views pass w)
pop_keeps queued views pass v w one r at s =
    let not = has_quota v (let b = s.below in omega arith) in
    let same = knows r.stock v (r.known pass v at) not in
    let quota : w.quota ≡ v.quota = same_quota s.is in
    let held : length w.held ≡ length (v.held ++ one ∷ []) = λ j. length (s.is j).held in
    let below = s.below in
    record {
      stock = r.stock;
      known = each-set (KnowsStock r.stock) views pass w (inr (same_stock s.is ∙ same)) (λ j u n e. r.known j u e);
      distinct = r.distinct;
      each_once = once r.stock queued (set views pass w) (λ h.
          let sum = sum-set (weight h) views pass v w at in
          let more : weight h w ≡ sum_by h (v.held ++ one ∷ []) = ap (weight h) s.is in
          let before = weights (one ∷ queued) views r h in
          omega (arith, sum_by-append h v.held (one ∷ []), sum_by-cons h one queued, sum_by-cons h one []));
      within = each-set Within views pass w (omega (arith, length-append v.held (one ∷ []))) (λ j u n e. r.within j u e);
      quotas = (let sum = sum-set quota_of views pass v w at in let before = r.quotas in omega arith);
      alone = alone-set views pass v w at (λ o. sym (same_opens s.is) ∙ o) (λ e. absurd (not e)) r.alone;
    }

-- ---- push
pub push_keeps : (queued : List SegmentId) (views : List PassView) (pass : ℕ) (v w : PassView) (one : SegmentId) → SegmentRule queued views → IsViewAt views pass v → IsPush one v w
    → SegmentRule (queued ++ one ∷ []) (set views pass w)
push_keeps queued views pass v w one r at s =
    let g = s.gives in
    let longer : length v.held ≡ length (g.front ++ one ∷ g.back) = ap length g.was in
    let shorter : length w.held ≡ length (g.front ++ g.back) = ap length g.is in
    let mine = r.within pass v at in
    let not = has_quota v (omega (arith, length-append g.front (one ∷ g.back))) in
    let same = knows r.stock v (r.known pass v at) not in
    let quota : w.quota ≡ v.quota = same_quota s.is in
    record {
      stock = r.stock;
      known = each-set (KnowsStock r.stock) views pass w (inr (same_stock s.is ∙ same)) (λ j u n e. r.known j u e);
      distinct = r.distinct;
      each_once = once r.stock (queued ++ one ∷ []) (set views pass w) (λ h.
          let sum = sum-set (weight h) views pass v w at in
          let was : weight h v ≡ sum_by h (g.front ++ one ∷ g.back) = ap (sum_by h) g.was in
          let is : weight h w ≡ sum_by h (g.front ++ g.back) = ap (sum_by h) g.is in
          let before = weights queued views r h in
          omega (arith, sum_by-append h g.front (one ∷ g.back), sum_by-append h g.front g.back, sum_by-append h queued (one ∷ []), sum_by-cons h one g.back, sum_by-cons h one []));
      within = each-set Within views pass w (omega (arith, length-append g.front (one ∷ g.back), length-append g.front g.back)) (λ j u n e. r.within j u e);
      quotas = (let sum = sum-set quota_of views pass v w at in let before = r.quotas in omega arith);
      alone = alone-set views pass v w at (λ o. sym (same_opens s.is) ∙ o) (λ e. absurd (not e)) r.alone;
    }

-- ---- split
nothing : {X : Type 0} (xs : List X) → length xs ≡ 0 → xs ≡ []
nothing [] e = refl
nothing (x ∷ xs) e = absurd (omega arith)

-- a half of a spent view is spent
half_spent : (v u : PassView) → v ≡ spent → u.quota ≤ v.quota → length u.held ≤ u.quota → u.stock ≡ v.stock → u.opens ≡ false → u ≡ spent
half_spent v u e less within stock closed =
    let none : v.quota ≡ 0 = same_quota e in
    let quota : u.quota ≡ 0 = omega arith in
    let held : u.held ≡ [] = nothing u.held (omega arith) in
    let empty : u.stock ≡ [] = stock ∙ same_stock e in
    λ i. record { quota = quota i; held = held i; stock = empty i; opens = closed i }

half_knows : (stock : List SegmentId) (v u : PassView) → KnowsStock stock v → (v ≡ spent → u ≡ spent) → u.stock ≡ v.stock → KnowsStock stock u
half_knows stock v u k goes same = ⊎_elim (λ (e : v ≡ spent). inl (goes e)) (λ (e : v.stock ≡ stock). inr (same ∙ e)) k

closed_not : (u : PassView) → u.opens ≡ false → u.opens ≢ true
closed_not u closed o = true≢false (sym o ∙ closed)

alone-push : (views : List PassView) (t : PassView) → t.opens ≡ false → ((pass : ℕ) (p : PassView) → IsViewAt views pass p → p.opens ≡ true → t ≡ spent) → Alone views → Alone (views ++ t ∷ [])
alone-push views t closed goes alone a b p q ea eb o n =
    ⊎_elim
    (λ (x : get_elem? views a ≡ some p).
    ⊎_elim (λ (y : get_elem? views b ≡ some q). alone a b p q x y o n) (λ (y : t ≡ q). sym y ∙ goes a p x o) (at_snoc views t q b eb))
    (λ (x : t ≡ p). absurd (closed_not t closed (same_opens x ∙ o)))
    (at_snoc views t p a ea)

pub split_keeps : (queued : List SegmentId) (views : List PassView) (pass : ℕ) (v left right : PassView) → SegmentRule queued views → IsViewAt views pass v → IsSplit v left right
    → SegmentRule queued (set views pass left ++ right ∷ [])
split_keeps queued views pass v left right r at s =
    let vs = set views pass left in
    let parts = s.quota in
    let left_in = s.left_within in
    let right_in = s.right_within in
    let mine = r.known pass v at in
    let goes_left : v ≡ spent → left ≡ spent = λ e. half_spent v left e (omega arith) left_in s.stock.0 s.closed.0 in
    let goes_right : v ≡ spent → right ≡ spent = λ e. half_spent v right e (omega arith) right_in s.stock.1 s.closed.1 in
    let known = each-set (KnowsStock r.stock) views pass left (half_knows r.stock v left mine goes_left s.stock.0) (λ j u n e. r.known j u e) in
    let within = each-set Within views pass left left_in (λ j u n e. r.within j u e) in
    let alone = alone-set views pass v left at (λ o. absurd (closed_not left s.closed.0 o)) goes_left r.alone in
    let others_open : (j : ℕ) (p : PassView) → IsViewAt vs j p → p.opens ≡ true → right ≡ spent = λ j p e o.
    ⊎_elim
    (λ (x : (j ≡ pass) × (left ≡ p)). absurd (closed_not left s.closed.0 (same_opens x.1 ∙ o)))
    (λ (x : (j ≢ pass) × (get_elem? views j ≡ some p)). goes_right (r.alone j pass p v x.1 at o (λ e. x.0 (sym e))))
    (at_set views pass j left p e) in
    record {
      stock = r.stock;
      known = each-push (KnowsStock r.stock) vs right (half_knows r.stock v right mine goes_right s.stock.1) known;
      distinct = r.distinct;
      each_once = once r.stock queued (vs ++ right ∷ []) (λ h.
          let sum = sum-set (weight h) views pass v left at in
          let cut = sum_by-IsPermutation h v.held (left.held ++ right.held) s.held in
          let before = weights queued views r h in
          omega (arith, sum-push (weight h) vs right, sum_by-append h left.held right.held));
      within = each-push Within vs right right_in within;
      quotas = (let sum = sum-set quota_of views pass v left at in let before = r.quotas in omega (arith, sum-push quota_of vs right));
      alone = alone-push vs right s.closed.1 others_open alone;
    }

-- ---- join
both_spent : (v w b : PassView) → v ≡ spent → w ≡ spent → b ≡ record { quota = v.quota + w.quota; held = v.held ++ w.held; stock = v.stock; opens = false } → b ≡ spent
both_spent v w b e f is = is ∙ (λ k. record { quota = (e k).quota + (f k).quota; held = (e k).held ++ (f k).held; stock = (e k).stock; opens = false })

pub join_keeps : (queued : List SegmentId) (views : List PassView) (pass : ℕ) (v : PassView) (other : ℕ) (w b : PassView) → SegmentRule queued views → IsViewAt views pass v → other ≢ pass → IsViewAt views other w
    → IsJoin v w b → SegmentRule queued (set (set views pass b) other spent)
join_keeps queued views pass v other w b r at apart at_other s =
    let vs = set views pass b in
    let there : IsViewAt vs other w = set_else views pass other b apart ∙ at_other in
    let quota : b.quota ≡ v.quota + w.quota = same_quota s.is in
    let held : length b.held ≡ length (v.held ++ w.held) = λ j. length (s.is j).held in
    let closed : b.opens ≡ false = same_opens s.is in
    let stock : b.stock ≡ v.stock = same_stock s.is in
    let mine = r.within pass v at in
    let theirs = r.within other w at_other in
    let knows_b : KnowsStock r.stock b =
    ⊎_elim
    (λ (e : v ≡ spent). ⊎_elim (λ (f : w ≡ spent). inl (both_spent v w b e f s.is)) (λ (f : w.stock ≡ r.stock). inr (stock ∙ sym s.same ∙ f)) (r.known other w at_other))
    (λ (e : v.stock ≡ r.stock). inr (stock ∙ e))
    (r.known pass v at) in
    let was : (a : ℕ) (p : PassView) → IsViewAt (set vs other spent) a p → p.opens ≡ true → (a ≢ pass) × (a ≢ other) × (IsViewAt views a p) = λ a p e o.
    ⊎_elim (λ (x : (a ≡ other) × (spent ≡ p)). absurd (true≢false (sym o ∙ sym (same_opens x.1))))
    (λ (x : (a ≢ other) × (get_elem? vs a ≡ some p)).
    ⊎_elim (λ (y : (a ≡ pass) × (b ≡ p)). absurd (closed_not b closed (same_opens y.1 ∙ o)))
    (λ (y : (a ≢ pass) × (get_elem? views a ≡ some p)). (y.0, x.0, y.1))
    (at_set views pass a b p x.1))
    (at_set vs other a spent p e) in
    record {
      stock = r.stock;
      known = each-set (KnowsStock r.stock) vs other spent (inl refl) (λ j u n e. each-set (KnowsStock r.stock) views pass b knows_b (λ j u n e. r.known j u e) j u e);
      distinct = r.distinct;
      each_once = once r.stock queued (set vs other spent) (λ h.
          let first = sum-set (weight h) views pass v b at in
          let second = sum-set (weight h) vs other w spent there in
          let together : weight h b ≡ sum_by h (v.held ++ w.held) = ap (weight h) s.is in
          let before = weights queued views r h in
          omega (arith, sum_by-append h v.held w.held));
      within = each-set Within vs other spent (omega arith) (λ j u n e. each-set Within views pass b (omega (arith, length-append v.held w.held)) (λ j u n e. r.within j u e) j u e);
      quotas = (let first = sum-set quota_of views pass v b at in let second = sum-set quota_of vs other w spent there in let before = r.quotas in omega arith);
      alone = λ a c p q ea ec o n.
          let x = was a p ea o in
          ⊎_elim (λ (y : (c ≡ other) × (spent ≡ q)). sym y.1)
          (λ (y : (c ≢ other) × (get_elem? vs c ≡ some q)).
          ⊎_elim
          (λ (z : (c ≡ pass) × (b ≡ q)). sym z.1 ∙ both_spent v w b (r.alone a pass p v x.2 at o (λ e. x.0 (sym e))) (r.alone a other p w x.2 at_other o (λ e. x.1 (sym e))) s.is)
          (λ (z : (c ≢ pass) × (get_elem? views c ≡ some q)). r.alone a c p q x.2 z.1 o n)
          (at_set views pass c b q y.1))
          (at_set vs other c spent q ec);
    }
