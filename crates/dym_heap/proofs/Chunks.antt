-- Heaps by their chunks: what a heap has at each number after a chunk is put, and where it is that of a function.
use Rattle.std.proofs.Common.{◌≡◌, ℕ, zero, suc, ◌*◌, ◌^◌, ◌<◌, ◌≤◌, inl, inr, Bool, true, false, cond, not, ◌||◌, ◌&&◌, Option, Some, None, List, is_some, IsSome, ◌==◌, refl, sym, ap, ◌∙◌, arith}
use Rattle.std.specs.Ordering.{nat_cmp}
use Rattle.std.specs.Cmp.{nat_cmp_total, unsigned_tied}
use Rattle.std.specs.FinSet as fset
use Rattle.std.specs.FinSet.{contains-insert, contains-remove, contains-empty, same_set}
use Rattle.std.specs.FinMap.{get, get-insert, get-remove, get-empty, same_map, nat_cmp-IsAntisymmetric}
use Rattle.std.proofs.lemmas.Bool.{cases_eq, cases_lt, eq-eqb, ne_eqb}
use Rattle.dym_base.specs.Heaps.{Live, Touched, HeapState}
use Rattle.dym_base.specs.Objects.{empty_heap}
use Rattle.dym_heap.specs.Touches.{with_touch}
use Rattle.dym_heap.specs.Undo.{without_touch}
use Rattle.dym_heap.specs.Chunks.{ChunkMeaning, heap_chunk, no_chunk, with_bytes, with_mark, put, heap_below, heap_of}

-- two heaps with the same chunks are one
pub same_heap : (s t : HeapState) → ((k : ℕ) → heap_chunk s k ≡ heap_chunk t k) → s ≡ t
same_heap s t same =
    let live = same_map nat_cmp_total nat_cmp-IsAntisymmetric s.live t.live (λ k. ap (λ (c : ChunkMeaning). c.bytes) (same k)) in
    let touched = same_set nat_cmp_total nat_cmp-IsAntisymmetric s.touched t.touched (λ k. ap (λ (c : ChunkMeaning). c.touched) (same k)) in
    λ i. record { live = live i; touched = touched i }

pub none_of : {X : Type 0} (o : Option X) → is_some o ≡ false → o ≡ None
none_of None h = refl
none_of (Some x) h = absurd cc

pub some_of : {X : Type 0} (o : Option X) → IsSome o → (x : X) × (o ≡ Some x)
some_of None h = absurd cc
some_of (Some x) h = (x, refl)

-- ---- one chunk is put

get-with_bytes : (m : Live) (k : ℕ) (o : Option (List ℕ)) (q : ℕ) → get (with_bytes m k o) q ≡ cond (q == k) o (get m q)
get-with_bytes m k None q = get-remove nat_cmp_total m k q ∙ ap (λ b. cond b None (get m q)) (unsigned_tied q k)
get-with_bytes m k (Some bytes) q = get-insert nat_cmp_total m k bytes q ∙ ap (λ b. cond b (Some bytes) (get m q)) (unsigned_tied q k)

contains-with_mark : (m : Touched) (k : ℕ) (b : Bool) (q : ℕ) → fset.contains (with_mark m k b) q ≡ cond (q == k) b (fset.contains m q)
contains-with_mark m k false q =
    contains-remove nat_cmp_total m k q ∙ ap (λ t. not t && fset.contains m q) (unsigned_tied q k)
    ∙ elim (q == k) as (λ t. (not t && fset.contains m q) ≡ cond t false (fset.contains m q)) [ true ↦ refl | false ↦ refl ]
contains-with_mark m k true q =
    contains-insert nat_cmp_total m k q ∙ ap (λ t. t || fset.contains m q) (unsigned_tied q k)
    ∙ elim (q == k) as (λ t. (t || fset.contains m q) ≡ cond t true (fset.contains m q)) [ true ↦ refl | false ↦ refl ]

pub put_here : (s : HeapState) (k : ℕ) (c : ChunkMeaning) → heap_chunk (put s k c) k ≡ c
put_here s k c =
    let b = get-with_bytes s.live k c.bytes k ∙ ap (λ t. cond t c.bytes (get s.live k)) (eq-eqb k k refl) in
    let m = contains-with_mark s.touched k c.touched k ∙ ap (λ t. cond t c.touched (fset.contains s.touched k)) (eq-eqb k k refl) in
    λ i. record { bytes = b i; touched = m i }

pub put_other : (s : HeapState) (k : ℕ) (c : ChunkMeaning) (q : ℕ) → (q ≡ k → ⊥) → heap_chunk (put s k c) q ≡ heap_chunk s q
put_other s k c q ne =
    let b = get-with_bytes s.live k c.bytes q ∙ ap (λ t. cond t c.bytes (get s.live q)) (ne_eqb q k ne) in
    let m = contains-with_mark s.touched k c.touched q ∙ ap (λ t. cond t c.touched (fset.contains s.touched q)) (ne_eqb q k ne) in
    λ i. record { bytes = b i; touched = m i }

-- a heap that has this chunk there, and the others of s, is s with it
pub put_is : (s t : HeapState) (k : ℕ) (c : ChunkMeaning) → heap_chunk t k ≡ c → ((q : ℕ) → (q ≡ k → ⊥) → heap_chunk t q ≡ heap_chunk s q) → t ≡ put s k c
put_is s t k c here others =
    same_heap t (put s k c) (λ q.
    elim (cases_eq q k) as (λ _. heap_chunk t q ≡ heap_chunk (put s k c) q) [
      | inl e ↦ ap (heap_chunk t) e ∙ here ∙ sym (ap (heap_chunk (put s k c)) e ∙ put_here s k c)
      | inr ne ↦ others q ne ∙ sym (put_other s k c q ne)
    ])

-- a chunk that is put as it is
pub put_same : (s : HeapState) (k : ℕ) (c : ChunkMeaning) → heap_chunk s k ≡ c → s ≡ put s k c
put_same s k c here = put_is s s k c here (λ q ne. refl)

pub put_twice : (s : HeapState) (k : ℕ) (c d : ChunkMeaning) → put (put s k c) k d ≡ put s k d
put_twice s k c d = put_is s (put (put s k c) k d) k d (put_here (put s k c) k d) (λ q ne. put_other (put s k c) k d q ne ∙ put_other s k c q ne)

-- a chunk's mark alone changes
marked_is : (s : HeapState) (k : ℕ) (b : Bool) → record { live = s.live; touched = with_mark s.touched k b } ≡ put s k (record { bytes = get s.live k; touched = b })
marked_is s k b =
    put_is s (record { live = s.live; touched = with_mark s.touched k b }) k (record { bytes = get s.live k; touched = b })
    (λ i. record { bytes = get s.live k; touched = (contains-with_mark s.touched k b k ∙ ap (λ t. cond t b (fset.contains s.touched k)) (eq-eqb k k refl)) i })
    (λ q ne i. record { bytes = get s.live q; touched = (contains-with_mark s.touched k b q ∙ ap (λ t. cond t b (fset.contains s.touched q)) (ne_eqb q k ne)) i })

-- a chunk that isn't touched any more
pub forgotten_is : (s : HeapState) (k : ℕ) → without_touch s k ≡ put s k (record { bytes = get s.live k; touched = false })
forgotten_is s k = marked_is s k false

-- a chunk that is touched besides
pub touched_is : (s : HeapState) (k : ℕ) → with_touch s k ≡ put s k (record { bytes = get s.live k; touched = true })
touched_is s k = marked_is s k true

pub quiet_is : (s : HeapState) (k : ℕ) → fset.contains s.touched k ≡ false → s ≡ without_touch s k
quiet_is s k quiet = put_same s k (record { bytes = get s.live k; touched = false }) (λ i. record { bytes = get s.live k; touched = quiet i }) ∙ sym (forgotten_is s k)

-- what is live after a chunk with bytes is put
pub put_some : (s : HeapState) (k : ℕ) (bytes : List ℕ) (b : Bool) (q : ℕ) → IsSome (get s.live q) → IsSome (get (put s k (record { bytes = Some bytes; touched = b })).live q)
put_some s k bytes b q some =
    let c : ChunkMeaning = record { bytes = Some bytes; touched = b } in
    elim (cases_eq q k) as (λ _. IsSome (get (put s k c).live q)) [
      | inl e ↦ ap (λ x. is_some (get (put s k c).live x)) e ∙ ap (λ (x : ChunkMeaning). is_some x.bytes) (put_here s k c)
      | inr ne ↦ ap (λ (x : ChunkMeaning). is_some x.bytes) (put_other s k c q ne) ∙ some
    ]

-- ---- the heap of a function

pub chunk_empty : (q : ℕ) → heap_chunk empty_heap q ≡ no_chunk
chunk_empty q =
    let b = get-empty {X = List ℕ} nat_cmp q in
    let m = contains-empty nat_cmp q in
    λ i. record { bytes = b i; touched = m i }

below_past : (n : ℕ) (f : ℕ → ChunkMeaning) (q : ℕ) → n ≤ q → heap_chunk (heap_below n f) q ≡ no_chunk
unfolding heap_below
below_past zero f q l = chunk_empty q
below_past (suc n) f q l = put_other (heap_below n f) n (f n) q (λ e. omega arith) ∙ below_past n f q (omega arith)

below_at : (n : ℕ) (f : ℕ → ChunkMeaning) (q : ℕ) → q < n → heap_chunk (heap_below n f) q ≡ f q
unfolding heap_below
below_at zero f q l = absurd (omega arith)
below_at (suc n) f q l =
    elim (cases_eq q n) as (λ _. heap_chunk (put (heap_below n f) n (f n)) q ≡ f q) [
      | inl e ↦ ap (heap_chunk (put (heap_below n f) n (f n))) e ∙ put_here (heap_below n f) n (f n) ∙ ap f (sym e)
      | inr ne ↦ put_other (heap_below n f) n (f n) q ne ∙ below_at n f q (omega arith)
    ]

pub heap_at : (f : ℕ → ChunkMeaning) (q : ℕ) → (17 * 2 ^ 32 ≤ q → f q ≡ no_chunk) → heap_chunk (heap_of f) q ≡ f q
heap_at f q past =
    elim (cases_lt q (17 * 2 ^ 32)) as (λ _. heap_chunk (heap_of f) q ≡ f q) [
      | inl l ↦ below_at (17 * 2 ^ 32) f q l
      | inr far ↦ below_past (17 * 2 ^ 32) f q far ∙ sym (past far)
    ]
