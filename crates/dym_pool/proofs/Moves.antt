-- Each kind of step keeps the rule of one deque.
use Rattle.std.proofs.Common.{◌≡◌, ◌≢◌, ℕ, zero, suc, ◌+◌, ◌-◌, ◌<◌, ◌≤◌, List, [], ◌∷◌, ◌++◌, map, length, set, sum_by, sym, refl, ap, ◌∙◌, subst, inl, inr, arith}
use Rattle.std.proofs.lemmas.List.{map-append}
use Rattle.std.proofs.lemmas.List.Sums.{sum_by-cons, sum_by-append}
use mathlib.Core.Option.{some, some-ne-none}
use lib.ListN.{get_elem?}
use Rattle.crossbeam_deque.specs.Tasks.{Pushes, Takes, Pops, Finds, Learns, Admits, Forks, Merges}
use Rattle.crossbeam_deque.proofs.Lists.{set_else}
use Rattle.dym_pool.specs.Shares.{Has, Within}
use Rattle.dym_pool.specs.Deques.{share_view, first_share, spent, IsViewAt, Knows, InOneHand, IsTaking, IsReturn, HasAllAtLast}
use Rattle.dym_pool.specs.declared.view.ShareView.{ShareView}
use Rattle.dym_pool.proofs.Elements.{has-left, has-right, has-split}
use Rattle.dym_pool.proofs.Views.{sum-set, sum-push, sum-part, sum-alone, each-set, each-push, sum-one, has_number, there_weighs, weighs_there}

module _ {O : Type 0} where
  abbrev weight : (ℕ × O → ℕ) → ShareView O → ℕ
  weight h v = sum_by h v.hand

  abbrev part_of : ShareView O → ℕ
  part_of v = v.part

  abbrev Holds : List (ℕ × O) → ShareView O → Type 0
  Holds list v = Within list v.hand

  known_list : (list : List (ℕ × O)) (v : ShareView O) → Knows list v → 0 < v.part → v.list ≡ list
  known_list list v k much = elim k [ inl e ↦ let z : v.part ≡ 0 = ap part_of e in absurd (omega arith) | inr e ↦ e.0 ]

  -- what is spent holds nothing
  nothing_held : (list : List (ℕ × O)) (h : ℕ × O → ℕ) (v : ShareView O) → Knows list v → v.part ≡ 0 → weight h v ≡ 0
  nothing_held list h v k none = elim k [ inl e ↦ ap (weight h) e | inr e ↦ let p = e.1 in absurd (omega arith) ]

  -- the parts of two are in the whole
  two_parts : (views : List (ShareView O)) (i j : ℕ) (v u : ShareView O) → IsViewAt views i v → IsViewAt views j u → j ≢ i → part_of v + part_of u ≤ sum_by part_of views
  two_parts views i j v u at at' n =
      let s = sum-set part_of views i v spent at in
      let p = sum-part part_of (set views i spent) j u (set_else views i j spent n ∙ at') in
      omega arith

  within_both : (list xs ys : List (ℕ × O)) → Within list xs → Within list ys → Within list (xs ++ ys)
  within_both list xs ys a b x h = elim (has-split xs ys x h) [ inl l ↦ a x l | inr r ↦ b x r ]

  only_first : (j : ℕ) (u : ShareView O) → j ≢ 0 → get_elem? (first_share ∷ []) j ≡ some u → ⊥
  only_first zero u n e = n refl
  only_first (suc j) u n e = some-ne-none u (sym e)

  module _ {T : Type 0} (label : T → ℕ × O) where
    pub begins : InOneHand label [] (first_share ∷ [])
    begins = record {
      list = [];
      once = λ h. omega (arith, sum_by-cons (weight h) first_share []);
      held = λ pass v at x h. each-set (λ (u : ShareView O). Within [] u.hand) (first_share ∷ []) 0 first_share (λ x h. h) (λ j u n e. absurd (only_first j u n e)) pass v at x h;
      queued = λ x h. h;
      whole = omega (arith, sum_by-cons part_of first_share []);
      known = each-set (Knows []) (first_share ∷ []) 0 first_share (inr (refl, omega arith)) (λ j u n e. absurd (only_first j u n e));
    }

    pub loads : (pass : ℕ) (v : ShareView O) (xs : List T) → v.part ≡ 65 → Pushes (InOneHand label) pass v xs (λ w. w ≡ share_view (v.list ++ map label xs) v.hand v.part)
    loads pass v xs all items views r at =
        let w = share_view (v.list ++ map label xs) v.hand v.part in
        let list = r.list ++ map label xs in
        let same = known_list r.list v (r.known pass v at) (omega arith) in (
          w,
          record {
            list = list;
            once = λ h.
                let s = sum-set (weight h) views pass v w at in let c = r.once h in
                let m = ap (sum_by h) (map-append label items xs) in
                omega (arith, sum_by-append h (map label items) (map label xs), sum_by-append h r.list (map label xs));
            held = each-set (Holds list) views pass w (λ x h. has-left r.list (map label xs) x (r.held pass v at x h)) (λ j u n e x h. has-left r.list (map label xs) x (r.held j u e x h));
            queued = λ x h.
                elim (has-split (map label items) (map label xs) x (subst (λ (l : List (ℕ × O)). Has l x) (map-append label items xs) h)) [
                  | inl l ↦ has-left r.list (map label xs) x (r.queued x l)
                  | inr l ↦ has-right r.list (map label xs) x l
                ];
            whole = let s = sum-set part_of views pass v w at in let c = r.whole in omega arith;
            known = each-set (Knows list) views pass w (inr (ap (λ (l : List (ℕ × O)). l ++ map label xs) same, omega arith))
                (λ j u n e. elim (r.known j u e) [
                  | inl x ↦ inl x
                  | inr x ↦ let o = two_parts views pass j v u at e n in let c = r.whole in let p = x.1 in absurd (omega arith)
                ]);
          },
          refl,
        )

    -- some jobs leave the deque for the hand, at whichever end
    leaves : (pass : ℕ) (v : ShareView O) → 0 < v.part → (xs items whole : List T) (views : List (ShareView O))
        → ((h : ℕ × O → ℕ) → sum_by h (map label whole) ≡ sum_by h (map label xs) + sum_by h (map label items)) → Within (map label whole) (map label xs) → Within (map label whole) (map label items)
        → InOneHand label whole views → IsViewAt views pass v → (w : ShareView O) × InOneHand label items (set views pass w) × IsTaking (map label xs) v w
    leaves pass v much xs items whole views weighs gone stay r at =
        let taken = map label xs in
        let w = share_view v.list (v.hand ++ taken) v.part in
        let same = known_list r.list v (r.known pass v at) much in (
          w,
          record {
            list = r.list;
            once = λ h. let s = sum-set (weight h) views pass v w at in let c = r.once h in let m = weighs h in omega (arith, sum_by-append h v.hand taken);
            held = each-set (Holds r.list) views pass w (within_both r.list v.hand taken (r.held pass v at) (λ x h. r.queued x (gone x h))) (λ j u n e. r.held j u e);
            queued = λ x h. r.queued x (stay x h);
            whole = let s = sum-set part_of views pass v w at in let c = r.whole in omega arith;
            known = each-set (Knows r.list) views pass w (inr (same, much)) (λ j u n e. r.known j u e);
          },
          record {
            is = refl;
            few =
                let c = r.once (λ _. 1) in let m = weighs (λ _. 1) in let p = sum-part (weight (λ _. 1)) views pass v at in let l = ap length same in
                omega (arith, sum-one (v.hand ++ taken), sum_by-append (λ _. 1) v.hand taken, sum-one r.list);
          },
        )

    pub takes : (pass : ℕ) (v : ShareView O) → 0 < v.part → Takes (InOneHand label) pass v 1 (λ xs w. IsTaking (map label xs) v w)
    takes pass v much xs items views some_one few =
        let is = map-append label xs items in
        leaves pass v much xs items (xs ++ items) views (λ h. ap (sum_by h) is ∙ sum_by-append h (map label xs) (map label items))
        (λ x h. subst (λ (l : List (ℕ × O)). Has l x) (sym is) (has-left (map label xs) (map label items) x h))
        (λ x h. subst (λ (l : List (ℕ × O)). Has l x) (sym is) (has-right (map label xs) (map label items) x h))

    pub pops : (pass : ℕ) (v : ShareView O) → 0 < v.part → Pops (InOneHand label) pass v (λ xs w. IsTaking (map label xs) v w)
    pops pass v much x items views =
        let is = map-append label items (x ∷ []) in
        leaves pass v much (x ∷ []) items (items ++ x ∷ []) views (λ h. let m = ap (sum_by h) is in omega (arith, sum_by-append h (map label items) (label x ∷ [])))
        (λ y h. subst (λ (l : List (ℕ × O)). Has l y) (sym is) (has-right (map label items) (label x ∷ []) y h))
        (λ y h. subst (λ (l : List (ℕ × O)). Has l y) (sym is) (has-left (map label items) (label x ∷ []) y h))

    -- the whole at an empty deque
    pub finds : (pass : ℕ) (v : ShareView O) → Finds (InOneHand label) pass v (HasAllAtLast v)
    finds pass v views r at all =
        let same = known_list r.list v (r.known pass v at) (omega arith) in
        record {
          within = subst (λ (l : List (ℕ × O)). Within l v.hand) (sym same) (r.held pass v at);
          each = λ x h.
              let f = has_number x.0 in
              let there = there_weighs r.list x (subst (λ (l : List (ℕ × O)). Has l x) same h) in
              let alone = sum-alone (weight f) part_of views pass v (λ j u e. nothing_held r.list f u (r.known j u e)) at (r.whole ∙ sym all) in
              let c = r.once f in
              weighs_there x.0 v.hand (omega arith);
        }

    pub returns : (pass : ℕ) (v : ShareView O) (x : T) (rest : List (ℕ × O)) → 0 < v.part → v.hand ≡ rest ++ label x ∷ [] → Pushes (InOneHand label) pass v (x ∷ []) (λ w. IsReturn (label x ∷ []) v w)
    returns pass v x rest much hand items views r at =
        let w = share_view v.list rest v.part in
        let same = known_list r.list v (r.known pass v at) much in
        let is = map-append label items (x ∷ []) in
        let mine : Within r.list (rest ++ label x ∷ []) = subst (λ (l : List (ℕ × O)). Within r.list l) hand (r.held pass v at) in (
          w,
          record {
            list = r.list;
            once = λ h.
                let s = sum-set (weight h) views pass v w at in let c = r.once h in let m = ap (sum_by h) is in let n = ap (sum_by h) hand in
                omega (arith, sum_by-append h rest (label x ∷ []), sum_by-append h (map label items) (label x ∷ []));
            held = each-set (Holds r.list) views pass w (λ y h. mine y (has-left rest (label x ∷ []) y h)) (λ j u n e. r.held j u e);
            queued = λ y h.
                within_both r.list (map label items) (label x ∷ []) r.queued (λ z k. mine z (has-right rest (label x ∷ []) z k)) y (subst (λ (l : List (ℕ × O)). Has l y) is h);
            whole = let s = sum-set part_of views pass v w at in let c = r.whole in omega arith;
            known = each-set (Knows r.list) views pass w (inr (same, much)) (λ j u n e. r.known j u e);
          },
          record { hand = hand; list = refl; part = refl },
        )

    pub admits : Admits (InOneHand label) spent
    admits items views r = record {
      list = r.list;
      once = λ h. let c = r.once h in omega (arith, sum-push (weight h) views spent);
      held = each-push (Holds r.list) views spent (λ x h. absurd h) r.held;
      queued = r.queued;
      whole = let c = r.whole in omega (arith, sum-push part_of views spent);
      known = each-push (Knows r.list) views spent (inl refl) r.known;
    }

    pub forks : (pass : ℕ) (v : ShareView O) → 1 < v.part → Forks (InOneHand label) pass v (share_view v.list v.hand (v.part - 1)) (share_view v.list [] 1)
    forks pass v much items views r at =
        let l = share_view v.list v.hand (v.part - 1) in
        let t = share_view v.list [] 1 in
        let vs = set views pass l in
        let same = known_list r.list v (r.known pass v at) (omega arith) in
        record {
          list = r.list;
          once = λ h. let s = sum-set (weight h) views pass v l at in let c = r.once h in omega (arith, sum-push (weight h) vs t);
          held = each-push (Holds r.list) vs t (λ x h. absurd h) (each-set (Holds r.list) views pass l (r.held pass v at) (λ j u n e. r.held j u e));
          queued = r.queued;
          whole = let s = sum-set part_of views pass v l at in let c = r.whole in omega (arith, sum-push part_of vs t);
          known = each-push (Knows r.list) vs t (inr (same, omega arith)) (each-set (Knows r.list) views pass l (inr (same, omega arith)) (λ j u n e. r.known j u e));
        }

    pub merges : (pass : ℕ) (v : ShareView O) (other : ℕ) (w : ShareView O) → 0 < v.part → Merges (InOneHand label) pass v other w (share_view v.list (v.hand ++ w.hand) (v.part + w.part)) spent
    merges pass v other w much items views r at apart at' =
        let b = share_view v.list (v.hand ++ w.hand) (v.part + w.part) in
        let vs = set views pass b in
        let there : IsViewAt views other w = sym (set_else views pass other b apart) ∙ at' in
        let same = known_list r.list v (r.known pass v at) much in
        record {
          list = r.list;
          once = λ h.
              let s = sum-set (weight h) views pass v b at in let t = sum-set (weight h) vs other w spent at' in let c = r.once h in
              omega (arith, sum_by-append h v.hand w.hand);
          held = each-set (Holds r.list) vs other spent (λ x h. absurd h)
              (λ j u n e. each-set (Holds r.list) views pass b (within_both r.list v.hand w.hand (r.held pass v at) (r.held other w there)) (λ k y m d. r.held k y d) j u e);
          queued = r.queued;
          whole = let s = sum-set part_of views pass v b at in let t = sum-set part_of vs other w spent at' in let c = r.whole in omega arith;
          known = each-set (Knows r.list) vs other spent (inl refl) (λ j u n e. each-set (Knows r.list) views pass b (inr (same, omega arith)) (λ k y m d. r.known k y d) j u e);
        }

    pub has_few : (pass : ℕ) (v : ShareView O) → 0 < v.part → Learns (InOneHand label) pass v (λ items. length v.hand ≤ length v.list)
    has_few pass v much items views r at =
        let same = known_list r.list v (r.known pass v at) much in
        let c = r.once (λ _. 1) in let p = sum-part (weight (λ _. 1)) views pass v at in let l = ap length same in
        omega (arith, sum-one v.hand, sum-one r.list)
