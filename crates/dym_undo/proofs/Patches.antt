-- A map, patched by changes.
use Rattle.std.proofs.Common.{◌≡◌, ℕ, Bool, true, false, cond, ◌||◌, ◌==◌, List, [], ◌∷◌, ◌++◌, Option, None, Some, refl, sym, ap, ◌∙◌, eqb-true, true≢false}
use Rattle.std.specs.FinMap.{get, same_map, nat_cmp-IsAntisymmetric}
use Rattle.std.specs.Cmp.{nat_cmp_total}
use Rattle.dym_base.specs.Heaps.{Live}
use Rattle.dym_base.proofs.Maps.{get_insert, get_remove}
use Rattle.dym_undo.specs.Changes.{Change, put_at, patched, is_noted}

pub get-put_at : (live : Live) (k : ℕ) (before : Option (List ℕ)) (q : ℕ) → get (put_at live k before) q ≡ cond (q == k) before (get live q)
get-put_at live k None q = get_remove live k q
get-put_at live k (Some bytes) q = get_insert live k bytes q

pub same_live : (a b : Live) → ((q : ℕ) → get a q ≡ get b q) → a ≡ b
same_live a b is = same_map nat_cmp_total nat_cmp-IsAntisymmetric a b is

-- what a chunk was before the first of these changes of it, and else this
abbrev pub first_of : ℕ → List Change → Option (List ℕ) → Option (List ℕ)
first_of q [] other = other
first_of q (c ∷ cs) other = cond (q == c.key) c.before (first_of q cs other)

pub get-patched : (cs : List Change) (live : Live) (q : ℕ) → get (patched cs live) q ≡ first_of q cs (get live q)
get-patched [] live q = refl
get-patched (c ∷ cs) live q = get-put_at (patched cs live) c.key c.before q ∙ ap (cond (q == c.key) c.before) (get-patched cs live q)

-- of a chunk that is noted, what else there is doesn't count
pub first_of-noted : (q : ℕ) (cs : List Change) (x y : Option (List ℕ)) → is_noted q cs ≡ true → first_of q cs x ≡ first_of q cs y
first_of-noted q [] x y noted = absurd (true≢false (sym noted))
first_of-noted q (c ∷ cs) x y noted =
    elim (q == c.key) as (λ b. (b || is_noted q cs) ≡ true → cond b c.before (first_of q cs x) ≡ cond b c.before (first_of q cs y)) [
      | true ↦ λ _. refl
      | false ↦ λ is. first_of-noted q cs x y is
    ] noted

pub first_of-unnoted : (q : ℕ) (cs : List Change) (x : Option (List ℕ)) → is_noted q cs ≡ false → first_of q cs x ≡ x
first_of-unnoted q [] x new = refl
first_of-unnoted q (c ∷ cs) x new =
    elim (q == c.key) as (λ b. (b || is_noted q cs) ≡ false → cond b c.before (first_of q cs x) ≡ x) [
      | true ↦ λ is. absurd (true≢false is)
      | false ↦ λ is. first_of-unnoted q cs x is
    ] new

pub patched-append : (cs ds : List Change) (live : Live) → patched (cs ++ ds) live ≡ patched cs (patched ds live)
patched-append [] ds live = refl
patched-append (c ∷ cs) ds live = ap (λ (m : Live). put_at m c.key c.before) (patched-append cs ds live)

-- to put back what a chunk is changes nothing
pub put_at-itself : (live : Live) (k : ℕ) → put_at live k (get live k) ≡ live
put_at-itself live k = same_live _ _ (λ q. get-put_at live k (get live k) q ∙ by q (q == k) refl)
  where
    by : (q : ℕ) (b : Bool) → (q == k) ≡ b → cond b (get live k) (get live q) ≡ get live q
    by q true e = ap (get live) (sym (eqb-true q k e))
    by q false e = refl

-- two maps that are alike but at one chunk, which is noted, are alike behind the changes
pub patched-noted : (cs : List Change) (k : ℕ) (a b : Live) → is_noted k cs ≡ true → ((q : ℕ) → (q == k) ≡ false → get a q ≡ get b q) → patched cs a ≡ patched cs b
patched-noted cs k a b noted alike = same_live _ _ (λ q. get-patched cs a q ∙ by q (q == k) refl ∙ sym (get-patched cs b q))
  where
    by : (q : ℕ) (t : Bool) → (q == k) ≡ t → first_of q cs (get a q) ≡ first_of q cs (get b q)
    by q true e = first_of-noted q cs (get a q) (get b q) (ap (λ j. is_noted j cs) (eqb-true q k e) ∙ noted)
    by q false e = ap (first_of q cs) (alike q e)

pub is_noted-append : (k : ℕ) (cs ds : List Change) → is_noted k (cs ++ ds) ≡ (is_noted k cs || is_noted k ds)
is_noted-append k [] ds = refl
is_noted-append k (c ∷ cs) ds = ap (λ b. (k == c.key) || b) (is_noted-append k cs ds) ∙ assoc (k == c.key) (is_noted k cs) (is_noted k ds)
  where
    assoc : (a b c : Bool) → (a || (b || c)) ≡ ((a || b) || c)
    assoc true b c = refl
    assoc false b c = refl
