-- Each step of a stop keeps its rule.
use Rattle.std.proofs.Common.{◌≡◌, ◌≢◌, ℕ, zero, suc, ◌+◌, ◌<◌, true, false, true≢false, List, [], ◌∷◌, length, set, sym, refl, ap, ◌∙◌, subst, inl, inr, ⊎_elim, arith}
use Rattle.std.specs.Prelude.{slice_index}
use Rattle.std.proofs.lemmas.Bool.{cases_Bool, cases_eq}
use Rattle.std.proofs.lemmas.List.{length-set, get_or-set_same, set-get_or}
use mathlib.Core.Option.{some, some-injective, some-ne-none}
use lib.ListN.{get_elem?}
use Rattle.atomic_table.specs.Table.{State, Me, keeps, stepped, Allows, Splits, opening}
use Rattle.atomic_table.proofs.Lists.{at_set, at_snoc, at_longer, set_here, set_else}
use Rattle.dym_prune.specs.declared.stop_view.StopView.{StopView}
use Rattle.dym_prune.specs.Stops.{stop_view, flag, HasAsker, IsStop, Asks, Listens}

-- a place that has a view is below their number
is_below : (views : List StopView) (i : ℕ) (v : StopView) → get_elem? views i ≡ some v → i < length views
is_below [] i v at = absurd (some-ne-none v (sym at))
is_below (x ∷ xs) zero v at = omega arith
is_below (x ∷ xs) (suc i) v at = let below = is_below xs i v at in omega arith

-- only the place of the asker has a view that asks
abbrev OneAsks : List StopView → ℕ → Type 0
OneAsks views asker = (i : ℕ) (v : StopView) → get_elem? views i ≡ some v → v.asks ≡ true → i ≡ asker

-- a view that has heard says that the word is 1
abbrev HeardIsAsked : List StopView → ℕ → Type 0
HeardIsAsked views word = (i : ℕ) (v : StopView) → get_elem? views i ≡ some v → v.heard ≡ true → word ≡ 1

-- one view becomes another, which asks only where the first did
one_asks : (views : List StopView) (id : ℕ) (v w : StopView) (asker : ℕ) → get_elem? views id ≡ some v
    → OneAsks views asker → (w.asks ≡ true → v.asks ≡ true) → OneAsks (set views id w) asker
one_asks views id v w asker at one from i u here asks =
    ⊎_elim
    (λ (x : (i ≡ id) × (w ≡ u)). x.0 ∙ one id v at (from (ap (λ (y : StopView). y.asks) x.1 ∙ asks)))
    (λ (x : (i ≢ id) × (get_elem? views i ≡ some u)). one i u x.1 asks)
    (at_set views id i w u here)

-- and is the asker's view where the first was
has_asker : (word : ℕ) (views : List StopView) (id : ℕ) (v w : StopView) (asker : ℕ) → get_elem? views id ≡ some v
    → HasAsker word asker views → w.asks ≡ v.asks → w.asked ≡ v.asked → HasAsker word asker (set views id w)
has_asker word views id v w asker at has asks asked =
    ⊎_elim
    (λ (same : asker ≡ id).
    let own : has.0 ≡ v = some-injective has.0 v (sym has.1 ∙ ap (get_elem? views) same ∙ at) in (
      w,
      subst (λ (k : ℕ). get_elem? (set views id w) k ≡ some w) (sym same) (set_here views id w (is_below views id v at)),
      asks ∙ ap (λ (y : StopView). y.asks) (sym own) ∙ has.2,
      has.3 ∙ ap (λ (y : StopView). flag y.asked) own ∙ ap flag (sym asked),
    ))
    (λ (other : asker ≢ id). (has.0, set_else views id asker w other ∙ has.1, has.2, has.3))
    (cases_eq asker id)

-- and has heard only where the word is 1
heard_is_asked : (word : ℕ) (views : List StopView) (id : ℕ) (w : StopView) → (w.heard ≡ true → word ≡ 1)
    → HeardIsAsked views word → HeardIsAsked (set views id w) word
heard_is_asked word views id w mine others i v here heard =
    ⊎_elim
    (λ (x : (i ≡ id) × (w ≡ v)). mine (ap (λ (y : StopView). y.heard) x.1 ∙ heard))
    (λ (x : (i ≢ id) × (get_elem? views i ≡ some v)). others i v x.1 heard)
    (at_set views id i w v here)

-- an ask is allowed to the end that asks
pub may_ask : {S : Type 0} → (slots id : ℕ) (me : Me S StopView) → me.0.asks ≡ true → Allows IsStop slots id me 0 (λ _. 1) (λ _. Asks me)
may_ask slots id me asks s is homes at fits =
    let v = me.0 in
    let w = stop_view true true v.heard v.misses in
    let word : slice_index (set s.words 0 1) 0 ≡ 1 = get_or-set_same s.words 0 1 0 (let count = is.0 in omega arith) in (
      w,
      keeps,
      tt,
      (
        length-set s.words 0 1 ∙ is.0,
        id,
        (w, set_here s.views id w (is_below s.views id v at), refl, word),
        one_asks s.views id v w id at (λ i u here o. is.3 i u here o ∙ sym (is.3 id v at asks)) (λ _. asks),
        (λ i u here o. word),
      ),
      refl,
    )

-- a load changes its own view alone
after_load : {S : Type 0} → (s : State S StopView) (id : ℕ) (v w : StopView) (carried : List (ℕ × S)) → IsStop s → get_elem? s.views id ≡ some v
    → w.asks ≡ v.asks → w.asked ≡ v.asked → (w.heard ≡ true → slice_index s.words 0 ≡ 1)
    → IsStop (stepped s 0 (slice_index s.words 0) id carried w keeps)
after_load s id v w carried is at asks asked heard =
    let n = slice_index s.words 0 in
    let words : set s.words 0 n ≡ s.words = set-get_or s.words 0 0 in
    let word : slice_index (set s.words 0 n) 0 ≡ n = ap (λ (l : List ℕ). slice_index l 0) words in (
      ap length words ∙ is.0,
      is.1,
      subst (λ (k : ℕ). HasAsker k is.1 (set s.views id w)) (sym word) (has_asker n s.views id v w is.1 at is.2 asks asked),
      one_asks s.views id v w is.1 at is.3 (λ o. sym asks ∙ o),
      (λ i u here o. word ∙ heard_is_asked n s.views id w heard is.4 i u here o),
    )

-- a listening is allowed to each end
pub may_listen : {S : Type 0} → (slots id : ℕ) (me : Me S StopView) → Allows IsStop slots id me 0 (λ n. n) (Listens me)
may_listen {S} slots id me s is homes at fits =
    let v = me.0 in
    let n = slice_index s.words 0 in
    ⊎_elim
    (λ (asked : is.2.0.asked ≡ true).
    let one : n ≡ 1 = is.2.3 ∙ ap flag asked in
    let w = stop_view v.asks v.asked true v.misses in
    (w, keeps, tt, after_load s id v w me.1 is at refl refl (λ _. one), inr (one, refl)))
    (λ (unasked : is.2.0.asked ≡ false).
    let none : n ≡ 0 = is.2.3 ∙ ap flag unasked in
    let deaf : v.heard ≡ false =
    ⊎_elim (λ (o : v.heard ≡ true). let one = is.4 id v at o in absurd (omega arith)) (λ o. o) (cases_Bool v.heard) in
    let w = stop_view v.asks v.asked false (v.misses + 1) in
    (w, keeps, tt, after_load s id v w me.1 is at refl refl (λ o. absurd (true≢false (sym o))), inl (none, deaf, refl)))
    (cases_Bool is.2.0.asked)

first_asks : (i : ℕ) (v : StopView) → get_elem? (stop_view true false false 0 ∷ []) i ≡ some v → v.asks ≡ true → i ≡ 0
first_asks zero v here o = refl
first_asks (suc i) v here o = absurd (some-ne-none v (sym here))

none_heard : (i : ℕ) (v : StopView) → get_elem? (stop_view true false false 0 ∷ []) i ≡ some v → v.heard ≡ true → zero ≡ 1
none_heard zero v here o = absurd (true≢false (sym o ∙ ap (λ (y : StopView). y.heard) (sym (some-injective (stop_view true false false 0) v here))))
none_heard (suc i) v here o = absurd (some-ne-none v (sym here))

-- the rule holds at the start
pub begins : (S : Type 0) → IsStop (opening {S = S} (0 ∷ []) [] (stop_view true false false 0))
begins S = (refl, 0, (stop_view true false false 0, refl, refl, refl), first_asks, none_heard)

-- the end that asks is cut in two: itself, and an end that has heard nothing
pub splits : {S : Type 0} → (id : ℕ) (v : StopView) → v.asks ≡ true
    → Splits {S = S} IsStop id v (stop_view true v.asked false 0) (stop_view false false false 0)
splits id v asks s is at =
    let l = stop_view true v.asked false 0 in
    let r = stop_view false false false 0 in
    let views = set s.views id l in
    let word = slice_index s.words 0 in
    let left = has_asker word s.views id v l is.1 at is.2 (sym asks) refl in (
      is.0,
      is.1,
      (left.0, at_longer views (r ∷ []) is.1 left.0 left.1, left.2, left.3),
      (λ i u here o.
          ⊎_elim
          (λ (x : get_elem? views i ≡ some u). one_asks s.views id v l is.1 at is.3 (λ _. asks) i u x o)
          (λ (x : r ≡ u). absurd (true≢false (sym o ∙ ap (λ (y : StopView). y.asks) (sym x))))
          (at_snoc views r u i here)),
      (λ i u here o.
          ⊎_elim
          (λ (x : get_elem? views i ≡ some u). heard_is_asked word s.views id l (λ p. absurd (true≢false (sym p))) is.4 i u x o)
          (λ (x : r ≡ u). absurd (true≢false (sym o ∙ ap (λ (y : StopView). y.heard) (sym x))))
          (at_snoc views r u i here)),
    )
