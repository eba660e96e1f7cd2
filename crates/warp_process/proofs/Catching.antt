-- A stale state is brought forward: from the newest copy on, the events are run once more.
use Rattle.std.proofs.Common.{◌≡◌, ℕ, zero, suc, ◌+◌, ◌-◌, ◌<◌, ◌≤◌, ◌⊎◌, inl, inr, min, Bool, false, List, [], ◌∷◌, ◌++◌, length, take, drop, refl, ap, sym, subst, ◌∙◌, arith, length-append}
use Rattle.std.proofs.lemmas.List.{take-append-drop, take_all, length-drop, drop-take, length-take-le}
use Rattle.std.proofs.lemmas.Bool.{cases_lt}
use Rattle.warp_base.specs.declared.event.Event.{Event}
use Rattle.warp_base.specs.Events.{Each}
use Rattle.warp_base.specs.Histories.{Behaviour, state_from, state_after}
use Rattle.warp_base.proofs.Lists.{Each-append, Each-back}
use Rattle.warp_base.proofs.Folds.{state_from-append, state_after-append}
use Rattle.warp_process.specs.Savers.{AreAscending, IsNewest}
use Rattle.warp_process.specs.Processes.{ProcessFace, IsProcess, IsCopy, done_of}

drop_both : {X : Type 0} (m j : ℕ) (xs ys : List X) → m ≤ length xs → (j ≡ 0) ⊎ (m ≡ length xs) → drop (m + j) (xs ++ ys) ≡ drop m xs ++ drop j ys
drop_both zero j [] ys within which = ap (λ n. drop n ys) (let e : 0 + j ≡ j = omega arith in e)
drop_both zero j (x ∷ xs) ys within (inl none) = ap (λ n. drop n ((x ∷ xs) ++ ys)) (let e : 0 + j ≡ 0 = omega (arith, none) in e) ∙ ap (λ n. (x ∷ xs) ++ drop n ys) (sym none)
drop_both zero j (x ∷ xs) ys within (inr all) = absurd (omega (arith, all))
drop_both (suc m) j [] ys within which = absurd (omega (arith, within))
drop_both (suc m) j (x ∷ xs) ys within (inl none) = ap (λ n. drop n ((x ∷ xs) ++ ys)) (let e : suc m + j ≡ suc (m + j) = omega arith in e) ∙ drop_both m j xs ys (omega (arith, within)) (inl none)
drop_both (suc m) j (x ∷ xs) ys within (inr all) = ap (λ n. drop n ((x ∷ xs) ++ ys)) (let e : suc m + j ≡ suc (m + j) = omega arith in e) ∙ drop_both m j xs ys (omega (arith, within)) (inr (omega (arith, all)))

pub drop_more : {X : Type 0} (m j : ℕ) (xs : List X) → drop j (drop m xs) ≡ drop (m + j) xs
drop_more zero j xs = ap (λ n. drop n xs) (let e : j ≡ 0 + j = omega arith in e)
drop_more (suc m) zero [] = ap (λ n. drop n []) (let e : suc m ≡ suc m + 0 = omega arith in e)
drop_more (suc m) (suc j) [] = ap (λ n. drop n []) (let e : suc (m + suc j) ≡ suc m + suc j = omega arith in e)
drop_more (suc m) j (x ∷ xs) = drop_more m j xs ∙ ap (λ n. drop n (x ∷ xs)) (let e : suc (m + j) ≡ suc m + j = omega arith in e)

newest_late : {S : Type 0} (cs older later : List (ℕ × S)) (first newest : ℕ) (s t : S) → AreAscending cs → cs ≡ (first, t) ∷ later → cs ≡ older ++ (newest, s) ∷ [] → first ≤ newest
newest_late {S} cs [] later first newest s t h begin end =
    let heads : (first, t) ∷ later ≡ (newest, s) ∷ [] = sym begin ∙ end in
    let same : (first, t) ≡ (newest, s) = cc in
    let dates = ap (λ (d : ℕ × S). d.0) same in
    omega (arith, dates)
newest_late {S} cs (c ∷ older) later first newest s t h begin end =
    let up = subst AreAscending end h in
    let less = Each-back (λ (d : ℕ × S). c.0 < d.0) older ((newest, s) ∷ []) up.0 in
    let heads : (first, t) ∷ later ≡ c ∷ (older ++ (newest, s) ∷ []) = sym begin ∙ end in
    let same : (first, t) ≡ c = cc in
    let dates = ap (λ (d : ℕ × S). d.0) same in
    let late = less.0 in
    omega (arith, dates, late)

dates_until_newest : {S : Type 0} (cs older : List (ℕ × S)) (newest date : ℕ) (s : S) → AreAscending cs → cs ≡ older ++ (newest, s) ∷ [] → newest < date → Each (λ c. c.0 < date) cs
dates_until_newest {S} cs [] newest date s h is late = subst (Each (λ (c : ℕ × S). c.0 < date)) (sym is) (late, tt)
dates_until_newest {S} [] (c ∷ older) newest date s h is late = tt
dates_until_newest {S} (d ∷ cs) (c ∷ older) newest date s h is late =
    let rest : cs ≡ older ++ (newest, s) ∷ [] = cc in
    let last = subst (Each (λ (e : ℕ × S). d.0 < e.0)) rest h.0 in
    let less = (Each-back (λ (e : ℕ × S). d.0 < e.0) older ((newest, s) ∷ []) last).0 in
    (omega (arith, less, late), dates_until_newest cs older newest date s h.1 rest late)

ascending_push : {S : Type 0} (cs : List (ℕ × S)) (c : ℕ × S) → AreAscending cs → Each (λ d. d.0 < c.0) cs → AreAscending (cs ++ c ∷ [])
ascending_push [] c h less = (tt, tt)
ascending_push {S} (d ∷ cs) c h less = (Each-append (λ (e : ℕ × S). d.0 < e.0) cs (c ∷ []) h.0 (less.0, tt), ascending_push cs c h.1 less.1)

module _ {P S : Type 0} (words : P → List ℕ) (b : Behaviour P S) (past : List (Event P)) (f : ProcessFace P S) (h : IsProcess words b past f) where
  -- where the newest copy lies
  pub record CopyBounds (newest : ℕ) : Type 0 where
    pub late : f.first_date ≤ newest
    pub soon : newest ≤ f.first_date + length f.fossils + length f.marks

  newest_copy : (newest : ℕ) (s : S) → IsNewest f.copies newest s → IsCopy b f.number (done_of past f) (newest, s)
  newest_copy newest s is = (Each-back (IsCopy b f.number (done_of past f)) is.older ((newest, s) ∷ []) (subst (Each (IsCopy b f.number (done_of past f))) is.last h.kept)).0

  pub copy_bounds : (newest : ℕ) (s : S) → IsNewest f.copies newest s → CopyBounds newest
  copy_bounds newest s is =
      let copy = newest_copy newest s is in
      let soon = copy.0 in
      let all = length-append past (take (length f.marks) f.events) in
      let few = length-take-le (length f.marks) f.events h.ran_within in
      let dates = h.dates in
      record {
        late = newest_late f.copies is.older h.oldest.1 f.first_date newest s h.oldest.0 h.ascending h.oldest.2 is.last;
        soon = omega (arith, soon, all, few, dates);
      }

  pub caught_up : (newest committed : ℕ) (s : S) → IsNewest f.copies newest s → committed ≤ length f.fossils → committed + f.first_date ≤ newest → (committed + f.first_date ≡ newest) ⊎ (committed ≡ length f.fossils) → state_from b f.number (state_from b f.number s (drop committed f.fossils)) (drop (newest - f.first_date - committed) (take (length f.marks) f.events)) ≡ state_after b f.number (done_of past f)
  caught_up newest committed s is within enough which =
      let p = f.number in
      let copy = newest_copy newest s is in
      let done = done_of past f in
      let ran = take (length f.marks) f.events in
      let bounds = copy_bounds newest s is in
      let late = bounds.late in
      let dates = h.dates in
      let rest = newest - f.first_date - committed in
      let skipped : newest ≡ f.first_date + (committed + rest) = omega (arith, late, enough) in
      let choice : (rest ≡ 0) ⊎ (committed ≡ length f.fossils) = elim which as (λ _. (rest ≡ 0) ⊎ (committed ≡ length f.fossils)) [
        | inl all ↦ inl (omega (arith, all))
        | inr all ↦ inr all
      ] in
      let begin : drop f.first_date done ≡ f.fossils ++ ran = ap (λ n. drop n done) (let e : f.first_date ≡ f.first_date + 0 = omega arith in e) ∙ drop_both f.first_date 0 past ran (omega (arith, dates)) (inl refl) ∙ ap (λ l. l ++ ran) (sym h.fossils) in
      let split : drop newest done ≡ drop committed f.fossils ++ drop rest ran = ap (λ n. drop n done) skipped ∙ sym (drop_more f.first_date (committed + rest) done) ∙ ap (drop (committed + rest)) begin ∙ drop_both committed rest f.fossils ran within choice in
      ap (λ t. state_from b p (state_from b p t (drop committed f.fossils)) (drop rest ran)) copy.1 ∙ sym (state_from-append b p (state_after b p (take newest done)) (drop committed f.fossils) (drop rest ran)) ∙ ap (state_from b p (state_after b p (take newest done))) (sym split) ∙ sym (state_after-append b p (take newest done) (drop newest done)) ∙ ap (state_after b p) (take-append-drop newest done)

  -- another state, which is stale or the right one
  pub with_state : (new_state : S) (stale : Bool) (new_copies : List (ℕ × S)) → new_copies ≡ f.copies → (stale ≡ false → new_state ≡ state_after b f.number (done_of past f)) → IsProcess words b past (record f { state = new_state; is_stale = stale; copies = new_copies })
  with_state new_state stale new_copies same is = record {
    in_order = h.in_order;
    own = h.own;
    committed = h.committed;
    pending = h.pending;
    early_own = h.early_own;
    early_from = h.early_from;
    apart = h.apart;
    ran_within = h.ran_within;
    run = h.run;
    fossils = h.fossils;
    dates = h.dates;
    counted = h.counted;
    ascending = subst AreAscending (sym same) h.ascending;
    kept = subst (Each (IsCopy b f.number (done_of past f))) (sym same) h.kept;
    oldest = (h.oldest.0, h.oldest.1, same ∙ h.oldest.2);
    state = is;
    fault = h.fault;
  }

  -- where the newest copy is older than the state, all are
  pub all_older : (newest date : ℕ) (s : S) → IsNewest f.copies newest s → newest < date → Each (λ c. c.0 < date) f.copies
  all_older newest date s is late = dates_until_newest f.copies is.older newest date s h.ascending is.last late

  -- a copy more, of the state after all that is run
  pub saved : (date : ℕ) (new_state : S) (new_copies : List (ℕ × S)) → f.is_stale ≡ false → date ≡ f.first_date + length f.fossils + length f.marks → new_copies ≡ f.copies ++ (date, f.state) ∷ [] → Each (λ c. c.0 < date) f.copies → new_state ≡ f.state → IsProcess words b past (record f { state = new_state; copies = new_copies })
  saved date new_state new_copies fresh date_is copies_are older state_is =
      let all = length-append past (take (length f.marks) f.events) in
      let few = length-take-le (length f.marks) f.events h.ran_within in
      let dates = h.dates in
      let done : date ≡ length (done_of past f) = omega (arith, all, few, dates, date_is) in
      let copy : IsCopy b f.number (done_of past f) (date, f.state) = (omega (arith, done), h.state fresh ∙ ap (state_after b f.number) (sym (take_all date (done_of past f) (omega (arith, done))))) in
      record {
        in_order = h.in_order;
        own = h.own;
        committed = h.committed;
        pending = h.pending;
        early_own = h.early_own;
        early_from = h.early_from;
        apart = h.apart;
        ran_within = h.ran_within;
        run = h.run;
        fossils = h.fossils;
        dates = h.dates;
        counted = h.counted;
        ascending = subst AreAscending (sym copies_are) (ascending_push f.copies (date, f.state) h.ascending older);
        kept = subst (Each (IsCopy b f.number (done_of past f))) (sym copies_are) (Each-append (IsCopy b f.number (done_of past f)) f.copies ((date, f.state) ∷ []) h.kept (copy, tt));
        oldest = (h.oldest.0, h.oldest.1 ++ (date, f.state) ∷ [], copies_are ∙ ap (λ l. l ++ (date, f.state) ∷ []) h.oldest.2);
        state = λ fresh'. state_is ∙ h.state fresh';
        fault = h.fault;
      }

-- the events behind the first ones, of those that are run
pub ran_behind : {X : Type 0} (rest ran : ℕ) (xs : List X) → rest ≤ ran → take (ran - rest) (drop rest xs) ≡ drop rest (take ran xs)
ran_behind rest ran xs few = sym (drop-take rest (ran - rest) xs) ∙ ap (λ n. drop rest (take n xs)) (let e : rest + (ran - rest) ≡ ran = omega (arith, few) in e)

pub least_is : (m k n : ℕ) → m ≡ min k n → (m ≤ k) × (m ≤ n) × ((m ≡ k) ⊎ (m ≡ n))
least_is m k n is =
    elim (cases_lt k n) as (λ _. (m ≤ k) × (m ≤ n) × ((m ≡ k) ⊎ (m ≡ n))) [
      | inl less ↦ (omega (arith, is), omega (arith, is), inl (omega (arith, is, less)))
      | inr more ↦ (omega (arith, is), omega (arith, is), inr (omega (arith, is, more)))
    ]

pub rest_all : {X : Type 0} (k : ℕ) (xs : List X) → take (length xs - k) (drop k xs) ≡ drop k xs
rest_all k xs = take_all (length xs - k) (drop k xs) (let few = length-drop k xs in omega (arith, few))
