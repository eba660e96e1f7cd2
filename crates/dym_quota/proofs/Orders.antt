-- The order in which a list of segments goes into the queue.
use Rattle.std.proofs.Common.{◌≡◌, ◌≢◌, ℕ, ◌<◌, List, [], ◌∷◌, ◌++◌, length, map, reverse, take, drop, get_or, refl, sym, ap, ◌∙◌, subst, arith, append_assoc, length-append}
use Rattle.std.proofs.lemmas.List.{map-append, reverse-append}
use Rattle.std.proofs.Math.ListN.{get_or-append}
use Rattle.std.proofs.Math.Seq.{get_or-append_seam, take-append_seam, drop-append_seam}
use Rattle.std.specs.Prelude.{IsPermutation}
use Rattle.std.proofs.lemmas.List.Sorted.{IsPermutation-trans, IsPermutation-append_left, IsPermutation-append_comm}
use mathlib.Core.List.{reverse_aux}
use Rattle.dym_region.specs.declared.segment.SegmentId.{SegmentId}
use Rattle.dym_region.specs.Identity.{AreDistinct}

map-reverse_aux : {X A : Type 0} (f : X → A) (xs r : List X) → map f (reverse_aux xs r) ≡ reverse_aux (map f xs) (map f r)
map-reverse_aux f [] r = refl
map-reverse_aux f (x ∷ xs) r = map-reverse_aux f xs (x ∷ r)

pub map-reverse : {X A : Type 0} (f : X → A) (xs : List X) → map f (reverse xs) ≡ reverse (map f xs)
map-reverse f xs = map-reverse_aux f xs []

-- the last of the list goes behind what is in the queue
pub next_order : {X : Type 0} (id : X → SegmentId) (stock : List SegmentId) (old new : List X) (x : X) → old ≡ new ++ x ∷ []
    → (stock ++ id x ∷ []) ++ reverse (map id new) ≡ stock ++ reverse (map id old)
next_order id stock old new x is =
    append_assoc stock (id x ∷ []) (reverse (map id new))
    ∙ ap (λ (l : List SegmentId). stock ++ l) (sym (ap (λ (l : List _). reverse (map id l)) is ∙ ap reverse (map-append id new (x ∷ [])) ∙ reverse-append (map id new) (id x ∷ [])))

-- what comes next stands nowhere in the queue
pub next_fresh : (stock rest all : List SegmentId) (one : SegmentId) → AreDistinct all → stock ++ one ∷ rest ≡ all → (k : ℕ) (d : SegmentId) → k < length stock → get_or stock k d ≢ one
next_fresh stock rest all one distinct is k d less same =
    let there : AreDistinct (stock ++ one ∷ rest) = subst AreDistinct (sym is) distinct in
    there k (length stock) d less (omega (arith, length-append stock (one ∷ rest)))
    (get_or-append stock (one ∷ rest) d k less ∙ same ∙ sym (get_or-append_seam stock one rest d))

-- what is in the queue is the list's beginning, and what isn't is the rest
pub beginning : (stock rest all : List SegmentId) (n : ℕ) → length stock ≡ n → stock ++ rest ≡ all → stock ≡ take n all
beginning stock rest all n long is = sym (ap (λ (m : ℕ). take m all) (sym long) ∙ ap (take (length stock)) (sym is) ∙ take-append_seam stock rest)

pub remainder : (stock rest all : List SegmentId) (n : ℕ) → length stock ≡ n → stock ++ rest ≡ all → rest ≡ drop n all
remainder stock rest all n long is = sym (ap (λ (m : ℕ). drop m all) (sym long) ∙ ap (drop (length stock)) (sym is) ∙ drop-append_seam stock rest)

-- where what is held is all that was stocked, the list has all segments again
pub all_back : (stocked aside held back : List SegmentId) → IsPermutation stocked held → back ≡ aside ++ held → IsPermutation (stocked ++ aside) back
all_back stocked aside held back all is =
    subst (λ (l : List SegmentId). IsPermutation (stocked ++ aside) l) (sym is)
    (IsPermutation-trans (stocked ++ aside) (held ++ aside) (aside ++ held) (IsPermutation-append_left aside stocked held all) (IsPermutation-append_comm held aside))
