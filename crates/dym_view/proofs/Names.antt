-- What seats know of what is published: its history's name.
use Rattle.std.proofs.Common.{◌≡◌, ◌≢◌, ℕ, List, [], ◌∷◌, Result, Ok, Err, MatchResult, IfOk, set, sym, refl, ap, subst, ◌∙◌, ⊎_elim, Option, None, Some}
use mathlib.Core.Option.{some}
use Rattle.core.specs.Result.{result_and}
use lib.ListN.{get_elem?}
use Rattle.left_right.specs.Register.{Admits, TurnsAt, Forks, Merges}
use Rattle.atomic_table.proofs.Lists.{at_set, at_snoc}
use Rattle.dym_view.specs.Histories.{HistoryName, Beginning}
use Rattle.dym_view.specs.Rules.{AreOfPublished, Takes, HasSeen, AreOf, AreThis, last_of}

-- a seat that comes has seen nothing
pub admits : Admits AreOfPublished None
admits x views h seat seen at = ⊎_elim (h seat seen) (λ (e : None ≡ Some seen). absurd cc) (at_snoc views None (Some seen) seat at)

-- a seat takes what is published, or publishes another beginning of the same history
pub takes : (seat : ℕ) (v : Option Beginning) (x y : Beginning) → y.history ≡ x.history → TurnsAt AreOfPublished seat v x y Takes
takes seat v x y same views h at = (
  Some y,
  (λ j seen e. ⊎_elim
      (λ (t : (j ≡ seat) × (Some y ≡ Some seen)). let one : y ≡ seen = cc (t.1) in ap (λ (b : Beginning). b.history) (sym one))
      (λ (t : (j ≢ seat) × (get_elem? views j ≡ some (Some seen))). h j seen t.1 ∙ sym same)
      (at_set views seat j (Some y) (Some seen) e)),
  (refl, λ seen is. h seat seen (at ∙ ap some is)),
)

-- a view that is cut in two leaves what each knows
pub forks : (seat : ℕ) (v : Option Beginning) → Forks AreOfPublished seat v v v
forks seat v x views h at j seen e =
    ⊎_elim
    (λ (k : get_elem? (set views seat v) j ≡ some (Some seen)). ⊎_elim
    (λ (t : (j ≡ seat) × (v ≡ Some seen)). h seat seen (at ∙ ap some t.1))
    (λ (t : (j ≢ seat) × (get_elem? views j ≡ some (Some seen))). h j seen t.1)
    (at_set views seat j v (Some seen) k))
    (λ (same : v ≡ Some seen). h seat seen (at ∙ ap some same))
    (at_snoc (set views seat v) v (Some seen) j e)

-- a view that takes in another's knows what that one knew
pub merges : (seat : ℕ) (v : Option Beginning) (other : ℕ) (w : Option Beginning) → Merges AreOfPublished seat v other w w None
merges seat v other w x views h at apart there j seen e =
    ⊎_elim
    (λ (t : (j ≡ other) × (None ≡ Some seen)). absurd (cc (t.1)))
    (λ (t : (j ≢ other) × (get_elem? (set views seat w) j ≡ some (Some seen))).
    let was : get_elem? views other ≡ some w =
    ⊎_elim (λ (u : (other ≡ seat) × (w ≡ w)). absurd (apart u.0)) (λ (u : (other ≢ seat) × (get_elem? views other ≡ some w)). u.1) (at_set views seat other w w there) in
    ⊎_elim
    (λ (u : (j ≡ seat) × (w ≡ Some seen)). h other seen (was ∙ ap some u.1))
    (λ (u : (j ≢ seat) × (get_elem? views j ≡ some (Some seen))). h j seen u.1)
    (at_set views seat j w (Some seen) t.1))
    (at_set (set views seat w) other j None (Some seen) e)

-- what is published in the end is of the history of what stood and of all that waited
pub published_of : (name : HistoryName) (shown : Beginning) (waiting : List Beginning) → shown.history ≡ name → AreOf name waiting → (last_of shown waiting).history ≡ name
published_of name shown [] is all = is
published_of name shown (known ∷ waiting) is all = published_of name known waiting all.0 all.1

-- what stands after a publication, and what then waits
module _ {E : Type 0} (shown shown' : Beginning) (waiting waiting' : List Beginning) where
  abbrev pub Published : Result (Unit {0}) E → Type 0
  Published r = MatchResult r (λ _. (shown' ≡ last_of shown waiting) × (waiting' ≡ [])) (λ _. (shown' ≡ shown) × (waiting' ≡ waiting))

  shown_kept : (r : Result (Unit {0}) E) → AreOf shown.history waiting → Published r → shown'.history ≡ shown.history
  shown_kept (Ok u) all is = ap (λ (b : Beginning). b.history) is.0 ∙ published_of shown.history shown waiting refl all
  shown_kept (Err e) all is = ap (λ (b : Beginning). b.history) is.0

  pub seen_after : (r : Result (Unit {0}) E) (v v' : Option Beginning) → AreOf shown.history waiting → Published r
      → MatchResult r (λ _. Takes v shown shown' v') (λ _. v' ≡ v) → IfOk r (λ _. HasSeen shown.history v')
  seen_after (Ok u) v v' all is rule = subst (HasSeen shown.history) (sym rule.0) (shown_kept (Ok u) all is)
  seen_after (Err e) v v' all is rule = tt

-- where all that waits is what stands, nothing changes
pub last_of_these : (known shown : Beginning) (waiting : List Beginning) → shown ≡ known → AreThis known waiting → last_of shown waiting ≡ known
last_of_these known shown [] is all = is
last_of_these known shown (b ∷ waiting) is all = last_of_these known b waiting all.0 all.1

-- what stands after two publications where all that waits is what stands
pub shown_after : (known first second third : Beginning) (waiting then : List Beginning) → first ≡ known → AreThis known waiting → second ≡ last_of first waiting
    → then ≡ [] → third ≡ last_of second then → third ≡ known
shown_after known first second third waiting then is all once none twice =
    let stands : second ≡ known = once ∙ last_of_these known first waiting is all in
    twice ∙ last_of_these known second then stands (subst (AreThis known) (sym none) tt)

-- what is true of the second where both went well
pub both_went : {T U E : Type 0} (P : U → Type 0) (r : Result T E) (s : Result U E) (u : U) → result_and r s ≡ Ok u → IfOk s P → P u
both_went P (Ok x) s u is all = subst (λ t. IfOk t P) is all
both_went P (Err e) s u is all = absurd (cc (is))
