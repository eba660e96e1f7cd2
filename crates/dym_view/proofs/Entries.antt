-- Chunks in the order of their numbers: what is found among them, and how far a walk over them has come.
use Rattle.std.proofs.Common.{◌≡◌, ◌≢◌, ℕ, ◌+◌, ◌<◌, ◌≤◌, Bool, true, false, cond, ◌&&◌, T, List, [], ◌∷◌, ◌++◌, length, get_or, refl, sym, ap, subst, ◌∙◌, arith, Some, None, ◌⊎◌, inl, inr, append_assoc, zero, suc}
use Rattle.std.proofs.lemmas.Bool.Decides.{nat_tests}
use Rattle.std.proofs.lemmas.Bool.{cases_eq, cases_lt}
use Rattle.std.proofs.lemmas.List.{append-nil}
use Rattle.std.specs.Ordering.{nat_cmp, eq_by_cmp, is_lt}
use Rattle.std.specs.FinMap.{get, contains_key, entries, entries_sorted, find, is_sorted, get-entries}
use Rattle.std.specs.FinMap.Entries.{below_all}
use Rattle.dym_base.specs.Heaps.{Live}
use Rattle.dym_chain.proofs.Stands.{none_of}

abbrev pub Chunks : Type 0
Chunks = List (ℕ × List ℕ)

-- each number is above x, from x on, or below x
abbrev pub Above : ℕ → Chunks → Type 0
Above x [] = Unit {0}
Above x (e ∷ es) = (x < e.0) × Above x es

abbrev pub From : ℕ → Chunks → Type 0
From x [] = Unit {0}
From x (e ∷ es) = (x ≤ e.0) × From x es

abbrev pub Below : ℕ → Chunks → Type 0
Below x [] = Unit {0}
Below x (e ∷ es) = (e.0 < x) × Below x es

abbrev pub Rising : Chunks → Type 0
Rising [] = Unit {0}
Rising (e ∷ es) = Above e.0 es × Rising es

first : (a b : Bool) → T (a && b) → T a
first true b p = tt
first false b p = p

second : (a b : Bool) → T (a && b) → T b
second true b p = p
second false b p = absurd p

less : (a b : ℕ) → T (is_lt (nat_cmp a b)) → a < b
less a b h = grind (arith, nat_tests)

above : (x : ℕ) (es : Chunks) → T (below_all nat_cmp x es) → Above x es
above x [] h = tt
above x (e ∷ es) h = (less x e.0 (first _ _ h), above x es (second _ _ h))

pub rising : (es : Chunks) → T (is_sorted nat_cmp es) → Rising es
rising [] h = tt
rising (e ∷ es) h = (above e.0 es (first _ _ h), rising es (second _ _ h))

-- ---- what is found

pub find_head : (q : ℕ) (e : ℕ × List ℕ) (es : Chunks) → q ≡ e.0 → find nat_cmp q (e ∷ es) ≡ Some e.1
find_head q e es is = let t : eq_by_cmp nat_cmp q e.0 ≡ true = grind (arith, nat_tests) in ap (λ b. cond b (Some e.1) (find nat_cmp q es)) t

pub find_tail : (q : ℕ) (e : ℕ × List ℕ) (es : Chunks) → q ≢ e.0 → find nat_cmp q (e ∷ es) ≡ find nat_cmp q es
find_tail q e es ne = let t : eq_by_cmp nat_cmp q e.0 ≡ false = grind (arith, nat_tests) in ap (λ b. cond b (Some e.1) (find nat_cmp q es)) t

pub find_above : (q : ℕ) (es : Chunks) → Above q es → find nat_cmp q es ≡ None
find_above q [] h = refl
find_above q (e ∷ es) h = let ne : q ≢ e.0 = grind (arith, h.0) in find_tail q e es ne ∙ find_above q es h.1

-- behind smaller ones
pub find_behind : (q from : ℕ) (before es : Chunks) → from ≤ q → Below from before → find nat_cmp q (before ++ es) ≡ find nat_cmp q es
find_behind q from [] es le h = refl
find_behind q from (e ∷ before) es le h = let ne : q ≢ e.0 = grind (arith, h.0) in find_tail q e (before ++ es) ne ∙ find_behind q from before es le h.1

some_none : {P : Type 0} {x : List ℕ} → Some x ≡ None → P
some_none e = absurd (cc (e))

above_at : (x : ℕ) (es : Chunks) (i : ℕ) (d : ℕ × List ℕ) → Above x es → i < length es → x < (get_or es i d).0
above_at x [] i d h lt = absurd (omega arith)
above_at x (e ∷ es) zero d h lt = h.0
above_at x (e ∷ es) (suc i) d h lt = above_at x es i d h.1 (omega arith)

-- the one in a place is found under its number
pub find_at : (es : Chunks) (i : ℕ) (d : ℕ × List ℕ) → Rising es → i < length es → find nat_cmp (get_or es i d).0 es ≡ Some (get_or es i d).1
find_at [] i d r lt = absurd (omega arith)
find_at (e ∷ es) zero d r lt = find_head e.0 e es refl
find_at (e ∷ es) (suc i) d r lt =
    let more = above_at e.0 es i d r.0 (omega arith) in
    let ne : (get_or es i d).0 ≢ e.0 = grind (arith, more) in
    find_tail (get_or es i d).0 e es ne ∙ find_at es i d r.1 (omega arith)

-- of two places the later has the greater number
pub rising_at : (es : Chunks) (i j : ℕ) (d : ℕ × List ℕ) → Rising es → i < j → j < length es → (get_or es i d).0 < (get_or es j d).0
rising_at [] i j d r lt within = absurd (omega arith)
rising_at (e ∷ es) i zero d r lt within = absurd (omega arith)
rising_at (e ∷ es) zero (suc j) d r lt within = above_at e.0 es j d r.0 (omega arith)
rising_at (e ∷ es) (suc i) (suc j) d r lt within = rising_at es i j d r.1 (omega arith) (omega arith)

-- where no number is q, nothing is found
pub find_none : (q : ℕ) (es : Chunks) (d : ℕ × List ℕ) → ((i : ℕ) → i < length es → q ≢ (get_or es i d).0) → find nat_cmp q es ≡ None
find_none q [] d h = refl
find_none q (e ∷ es) d h = find_tail q e es (h 0 (omega arith)) ∙ find_none q es d (λ i lt. h (suc i) (omega arith))

-- ---- how far a walk has come

-- of these chunks those below a number were met, and the others are still to come
pub record IsMet (all met : Chunks) (from : ℕ) : Type 0 where
  pub left : Chunks
  pub whole : all ≡ met ++ left
  pub before : Below from met
  pub after : From from left
  pub rising : Rising left

from_zero : (es : Chunks) → From 0 es
from_zero [] = tt
from_zero (e ∷ es) = (omega arith, from_zero es)

-- at the start all are to come
pub met_none : (live : Live) → IsMet (entries live) [] 0
met_none live = record { left = entries live; whole = refl; before = tt; after = from_zero (entries live); rising = rising (entries live) (entries_sorted live) }

below_more : (x y : ℕ) (es : Chunks) → x ≤ y → Below x es → Below y es
below_more x y [] le h = tt
below_more x y (e ∷ es) le h = (omega (arith, h.0), below_more x y es le h.1)

below_added : (x : ℕ) (es : Chunks) (e : ℕ × List ℕ) → Below x es → e.0 < x → Below x (es ++ e ∷ [])
below_added x [] e h lt = (lt, tt)
below_added x (f ∷ es) e h lt = (h.0, below_added x es e h.1 lt)

from_above : (x : ℕ) (es : Chunks) → Above x es → From (x + 1) es
from_above x [] h = tt
from_above x (e ∷ es) h = (omega (arith, h.0), from_above x es h.1)

-- where no chunk is left from there on, all were met
nothing_left : (from : ℕ) (es : Chunks) → From from es → ((q : ℕ) → from ≤ q → find nat_cmp q es ≡ None) → es ≡ []
nothing_left from [] h none = refl
nothing_left from (e ∷ es) h none = some_none (sym (find_head e.0 e es refl) ∙ none e.0 h.0)

pub met_all : (live : Live) (met : Chunks) (from : ℕ) → IsMet (entries live) met from → ((q : ℕ) → from ≤ q → contains_key live q ≡ false) → met ≡ entries live
met_all live met from is none =
    let end : is.left ≡ [] = nothing_left from is.left is.after
    (λ q le. sym (find_behind q from met is.left le is.before) ∙ (ap (find nat_cmp q) (sym is.whole) ∙ (sym (get-entries live q) ∙ none_of (get live q) (none q le)))) in
    sym (is.whole ∙ (ap (λ es. met ++ es) end ∙ append-nil met))

-- the least chunk from there on comes first of those that are left
comes_first : (from k : ℕ) (bytes : List ℕ) (es : Chunks) → From from es → Rising es → from ≤ k → find nat_cmp k es ≡ Some bytes
    → ((q : ℕ) → from ≤ q → q < k → find nat_cmp q es ≡ None) → (rest : Chunks) × (es ≡ (k, bytes) ∷ rest) × Above k rest × Rising rest
comes_first from k bytes [] h r le is least = absurd (cc (is))
comes_first from k bytes (e ∷ es) h r le is least = elim (cases_eq k e.0) as (λ _. (rest : Chunks) × (e ∷ es ≡ (k, bytes) ∷ rest) × Above k rest × Rising rest) [
  | inl same ↦ (
      let one : e.1 ≡ bytes = cc (find_head k e es same, is) in
      (es, (λ i. (sym same i, one i) ∷ es), subst (λ x. Above x es) (sym same) r.0, r.1))
  | inr ne ↦ apart ne (order k e.0 ne)
]
  where
    order : (a b : ℕ) → a ≢ b → (a < b) ⊎ (b < a)
    order a b ne = elim (cases_lt a b) [ inl lt ↦ inl lt | inr ge ↦ inr (grind (arith, ne, ge)) ]

    above_less : (x y : ℕ) (cs : Chunks) → x < y → Above y cs → Above x cs
    above_less x y [] lt a = tt
    above_less x y (c ∷ cs) lt a = (omega (arith, a.0), above_less x y cs lt a.1)

    apart : k ≢ e.0 → (k < e.0) ⊎ (e.0 < k) → (rest : Chunks) × (e ∷ es ≡ (k, bytes) ∷ rest) × Above k rest × Rising rest
    apart ne (inl base_logs) = some_none (sym is ∙ (find_tail k e es ne ∙ find_above k es (above_less k e.0 es base_logs r.0)))
    apart ne (inr past) = some_none (sym (find_head e.0 e es refl) ∙ least e.0 h.0 past)

-- and once it was met, those above it are to come
pub met_more : (live : Live) (met more : Chunks) (from n k : ℕ) (bytes : List ℕ) → more ≡ met ++ (n, bytes) ∷ [] → n ≡ k → IsMet (entries live) met from → from ≤ k
    → get live k ≡ Some bytes → ((q : ℕ) → from ≤ q → q < k → contains_key live q ≡ false) → IsMet (entries live) more (k + 1)
met_more live met more from n k bytes put same is le there least =
    let at : (q : ℕ) → from ≤ q → find nat_cmp q is.left ≡ get live q =
    λ q reach. sym (find_behind q from met is.left reach is.before) ∙ (ap (find nat_cmp q) (sym is.whole) ∙ sym (get-entries live q)) in
    let next = comes_first from k bytes is.left is.after is.rising le (at k le ∙ there) (λ q reach lt. at q reach ∙ none_of (get live q) (least q reach lt)) in
    let added : met ++ (k, bytes) ∷ [] ≡ more = sym (put ∙ ap (λ m. met ++ (m, bytes) ∷ []) same) in
    record {
      left = next.0;
      whole = is.whole ∙ ap (λ es. met ++ es) next.1 ∙ sym (append_assoc met ((k, bytes) ∷ []) next.0) ∙ ap (λ es. es ++ next.0) added;
      before = subst (Below (k + 1)) added (below_added (k + 1) met (k, bytes) (below_more from (k + 1) met (omega arith) is.before) (omega arith));
      after = from_above k next.0 next.2;
      rising = next.3;
    }
