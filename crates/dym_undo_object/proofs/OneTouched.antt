-- A write of all bytes of a chunk as they stand touches it, and nothing else.
use Rattle.std.proofs.Common.{◌≡◌, ℕ, ◌+◌, ◌<◌, inl, inr, Bool, true, false, cond, ◌&&◌, ◌||◌, ◌==◌, Option, None, Some, IsSome}
use Rattle.std.proofs.Common.{List, [], ◌∷◌, ◌++◌, length, drop, refl, sym, ap, ◌∙◌, arith, eqb-true, append-nil}
use Rattle.std.proofs.lemmas.Bool.{cases_eq, le-ltb}
use Rattle.std.proofs.lemmas.Map.Views.{any-filter_same}
use Rattle.std.specs.Cmp.{nat_cmp_total, unsigned_tied}
use Rattle.std.specs.FinMap.{get, insert, contains_key, keys, contains_key-keys, same_map, nat_cmp-IsAntisymmetric}
use Rattle.std.specs.FinSet as set
use Rattle.std.specs.FinSet.{contains, contains-from_list, contains-insert, contains-union, from_list, same_set}
use Rattle.std.specs.List.{filter}
use Rattle.std.specs.Ordering.{nat_cmp, eq_by_cmp}
use Rattle.dym_base.specs.Heaps.{Live, Touched, HeapState}
use Rattle.dym_base.specs.HeapStep.{key, refused, written, with_chunk, splice, write, write_live}
use Rattle.dym_base.specs.declared.handle.Handle.{Handle}
use Rattle.dym_base.specs.declared.reply.Reply.TheVariants.{Done}
use Rattle.dym_base.specs.declared.reply.Refusal.TheVariants.{Range}
use Rattle.dym_base.proofs.Maps.{get_insert_here, get_insert_apart}
use Rattle.dym_heap.specs.Touches.{has_byte_in, touched_in, with_touch}
use Rattle.dym_undo_object.specs.Touches.{all_of}

-- ---- bytes

drop_all : (xs : List ℕ) → drop (length xs) xs ≡ []
drop_all [] = refl
drop_all (x ∷ xs) = drop_all xs

spliced_same : (bytes : List ℕ) → splice 0 bytes bytes ≡ bytes
spliced_same bytes =
    ap (λ (l : List ℕ). bytes ++ l) (ap (λ n. drop n bytes) (let e : 0 + length bytes ≡ length bytes = omega arith in e) ∙ drop_all bytes) ∙ append-nil bytes

-- ---- the chunk stays, and is touched

put_same : (m : Live) (k : ℕ) (bytes : List ℕ) → get m k ≡ Some bytes → insert m k bytes ≡ m
put_same m k bytes is =
    same_map nat_cmp_total nat_cmp-IsAntisymmetric (insert m k bytes) m (λ q. elim (cases_eq q k) as (λ _. get (insert m k bytes) q ≡ get m q) [
      | inl e ↦ get_insert_here m k bytes q e ∙ sym (ap (get m) e ∙ is)
      | inr ne ↦ get_insert_apart m k bytes q ne
    ])

module _ (quota from end : ℕ) (s : HeapState) (k : ℕ) (live : contains_key s.live k ≡ true) (only : (q : ℕ) → has_byte_in quota s.live from end q ≡ (q == k)) where
  abbrev p : ℕ → Bool
  p = has_byte_in quota s.live from end

  in_range : (q : ℕ) → contains (from_list {R = nat_cmp} (filter p (keys s.live))) q ≡ ((q == k) && contains_key s.live q)
  in_range q =
      contains-from_list nat_cmp_total (filter p (keys s.live)) q
      ∙ any-filter_same (eq_by_cmp nat_cmp q) p (p q) (λ x tied. ap p (sym (eqb-true q x (sym (unsigned_tied q x) ∙ tied)))) (keys s.live)
      ∙ ap (λ b. p q && b) (sym (contains_key-keys s.live q))
      ∙ ap (λ b. b && contains_key s.live q) (only q)

  either : (q : ℕ) (same was : Bool) → (q == k) ≡ same → (same || was) ≡ (was || (same && contains_key s.live q))
  either q true true is = refl
  either q true false is = sym (ap (contains_key s.live) (eqb-true q k is) ∙ live)
  either q false true is = refl
  either q false false is = refl

  one_in_range : set.insert s.touched k ≡ (touched_in quota from end s).touched
  one_in_range = same_set nat_cmp_total nat_cmp-IsAntisymmetric (set.insert s.touched k) (touched_in quota from end s).touched (λ q.
      contains-insert nat_cmp_total s.touched k q ∙ ap (λ b. b || contains s.touched q) (unsigned_tied q k) ∙ either q (q == k) (contains s.touched q) refl
      ∙ sym (contains-union nat_cmp_total s.touched (from_list (filter p (keys s.live))) q ∙ ap (λ b. contains s.touched q || b) (in_range q)))

written_same : (s : HeapState) (k : ℕ) (bytes : List ℕ) → 0 < length bytes → get s.live k ≡ Some bytes → written s k 0 bytes bytes ≡ with_touch s k
written_same s k [] some is = absurd (omega (arith, some))
written_same s k (b ∷ bs) some is =
    ap (with_chunk s k) (spliced_same (b ∷ bs)) ∙ (λ i. record { live = put_same s.live k (b ∷ bs) is i; touched = set.insert s.touched k })

-- a write of all bytes of a chunk as they stand touches it
pub first_touched : (s : HeapState) (h : Handle) (bytes : List ℕ) → 0 < length bytes → get s.live (key h) ≡ Some bytes
    → write s h 0 (all_of (get s.live (key h))) ≡ record { heap = with_touch s (key h); reply = Done }
first_touched s h bytes some is =
    ap (λ (o : Option (List ℕ)). write_live s h 0 (all_of o) o) is
    ∙ ap (λ b. cond b (refused s Range) (record { heap = written s (key h) 0 bytes bytes; reply = Done })) (le-ltb (length bytes) (0 + length bytes) (omega arith))
    ∙ ap (λ (x : HeapState). record { heap = x; reply = Done }) (written_same s (key h) bytes some is)

-- ---- a chunk that is touched stays as it is

mark_same : (touched : Touched) (k : ℕ) → contains touched k ≡ true → set.insert touched k ≡ touched
mark_same touched k has = same_set nat_cmp_total nat_cmp-IsAntisymmetric (set.insert touched k) touched (λ q.
    contains-insert nat_cmp_total touched k q ∙ ap (λ b. b || contains touched q) (unsigned_tied q k)
    ∙ at q (q == k) (contains touched q) refl refl)
  where
    at : (q : ℕ) (same was : Bool) → (q == k) ≡ same → contains touched q ≡ was → (same || was) ≡ was
    at q true true is now = refl
    at q true false is now = sym has ∙ ap (contains touched) (sym (eqb-true q k is)) ∙ now
    at q false true is now = refl
    at q false false is now = refl

written_stays : (s : HeapState) (k : ℕ) (bytes : List ℕ) → get s.live k ≡ Some bytes → contains s.touched k ≡ true
    → written s k 0 bytes bytes ≡ s
written_stays s k [] is has = refl
written_stays s k (b ∷ bs) is has =
    written_same s k (b ∷ bs) (omega arith) is ∙ (λ i. record { live = s.live; touched = mark_same s.touched k has i })

stays_at : (s : HeapState) (h : Handle) (o : Option (List ℕ)) → get s.live (key h) ≡ o → IsSome o
    → contains s.touched (key h) ≡ true → write_live s h 0 (all_of o) o ≡ record { heap = s; reply = Done }
stays_at s h None is some has = absurd cc
stays_at s h (Some bytes) is some has =
    ap (λ b. cond b (refused s Range) (record { heap = written s (key h) 0 bytes bytes; reply = Done }))
    (le-ltb (length bytes) (0 + length bytes) (omega arith))
    ∙ ap (λ (x : HeapState). record { heap = x; reply = Done }) (written_stays s (key h) bytes is has)

-- a write of all bytes of a touched chunk as they stand changes nothing
pub touched_stays : (s : HeapState) (h : Handle) → IsSome (get s.live (key h)) → contains s.touched (key h) ≡ true
    → write s h 0 (all_of (get s.live (key h))) ≡ record { heap = s; reply = Done }
touched_stays s h some has = stays_at s h (get s.live (key h)) refl some has

-- the heap with the chunk touched that alone has bytes in the range
pub one_touched : (quota from end : ℕ) (s : HeapState) (k : ℕ) → contains_key s.live k ≡ true → ((q : ℕ) → has_byte_in quota s.live from end q ≡ (q == k))
    → with_touch s k ≡ touched_in quota from end s
one_touched quota from end s k live only = λ i. record { live = s.live; touched = one_in_range quota from end s k live only i }
