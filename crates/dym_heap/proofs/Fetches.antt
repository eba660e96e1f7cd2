-- A shelf in which a record's chunks are marked, or to which those that are touched are fetched, area by area.
use Rattle.std.proofs.Common.{◌≡◌, ℕ, zero, suc, ◌+◌, ◌-◌, ◌%◌, ◌<◌, ◌≤◌, ◌&&◌, inl, inr, Bool, true, false, cond, ltb, is_some, Some, None, List, [], ◌∷◌, ◌++◌, length, refl, sym, ap, subst, ◌∙◌, arith, length-append}
use Rattle.std.specs.Prelude.{unwrap_or, ◌==◌}
use Rattle.std.proofs.lemmas.Nat.{pow_pos, mod_below}
use Rattle.std.specs.Int.{to_le_bytes, w32}
use Rattle.std.specs.List.{flat_map, filter, range_with_len}
use Rattle.std.specs.FinMap.{get, contains_key}
use Rattle.std.proofs.lemmas.Bool.{cases_eq, eqb-true, lt-ltb}
use Rattle.dym_base.specs.Numbers.{per, exponent_of, index_of}
use Rattle.dym_base.specs.Heaps.{HeapState}
use Rattle.dym_base.specs.Laws.{IsLengthOf}
use Rattle.dym_base.specs.Packed.{Logged, packs_by, packed_chunk}
use Rattle.dym_base.specs.Recorded.{IsRecorded}
use Rattle.dym_base.specs.StandsFor.{packed_by}
use Rattle.dym_base.specs.declared.command.Version.{Version}
use Rattle.dym_base.specs.declared.command.Version.TheVariants.{One, Two}
use Rattle.dym_bits.specs.Bits.{bit_in}
use Rattle.dym_pack.specs.Areas.{area_at, chunks_of, chunk_number, bytes_at}
use Rattle.dym_pack.specs.ParsedAreas.{packs_at, body_from}
use Rattle.dym_heap.specs.Chunks.{ChunkMeaning, heap_chunk}
use Rattle.dym_heap.specs.Shelves.{ShelfMeaning, IsValidShelf, IsTidy}
use Rattle.dym_heap.specs.Fetches.{marked, fetched, packed_at, IsReshaped, IsChangedArea, IsAreaChange}
use Rattle.dym_heap.proofs.AreaSteps.{tidy_changed}
use Rattle.dym_heap.proofs.RecordLoads.{packs_live, packed_is, packed_gone, some_bytes, area_as, number_in, bit_is}
use Rattle.dym_heap.proofs.Sizes.{size_least}
use Rattle.dym_heap.proofs.Reshapes.{class_of}
use Rattle.dym_heap.proofs.Wants.{marked_again, marked_none, fetched_again, fetched_none, fetched_some}

-- the chunk of number q after a log was marked, or fetched
abbrev pub Marked : Logged → ℕ → ChunkMeaning → ChunkMeaning → Type 0
Marked log q old new = new ≡ marked (is_some (packed_by log q)) old

abbrev pub Fetched : Logged → ℕ → ChunkMeaning → ChunkMeaning → Type 0
Fetched log q old new = new ≡ fetched (packed_by log q) old

pub marked_twice : (log : Logged) (q : ℕ) (a b c : ChunkMeaning) → Marked log q a b → Marked log q b c → Marked log q a c
marked_twice log q a b c first second = second ∙ ap (marked (is_some (packed_by log q))) first ∙ marked_again (is_some (packed_by log q)) a

pub fetched_twice : (log : Logged) (q : ℕ) (a b c : ChunkMeaning) → Fetched log q a b → Fetched log q b c → Fetched log q a c
fetched_twice log q a b c first second = second ∙ ap (fetched (packed_by log q)) first ∙ fetched_again (packed_by log q) a

-- ---- what a log packs

pub packs_some : (log : Logged) → IsRecorded log → (q : ℕ) → is_some (packed_by log q) ≡ packs_by log.kind log.copy log.found q
packs_some log is q =
    elim (packs_by log.kind log.copy log.found q) as (λ b. packs_by log.kind log.copy log.found q ≡ b → is_some (packed_by log q) ≡ b) [
      | true ↦ λ h. ap is_some (packed_is is q true h)
      | false ↦ λ h. ap is_some (packed_is is q false h)
    ] refl

pub marked_idle : (log : Logged) → IsRecorded log → (q : ℕ) (a : ChunkMeaning) → contains_key log.copy q ≡ false → Marked log q a a
marked_idle log is q a gone = sym (ap (λ o. marked (is_some o) a) (packed_gone log is q gone) ∙ marked_none a)

pub fetched_idle : (log : Logged) → IsRecorded log → (q : ℕ) (a : ChunkMeaning) → contains_key log.copy q ≡ false → Fetched log q a a
fetched_idle log is q a gone = sym (ap (λ o. fetched o a) (packed_gone log is q gone) ∙ fetched_none a)

pub classes : (log : Logged) → IsRecorded log → (q : ℕ) → contains_key log.copy q ≡ true → (5 ≤ exponent_of q) × (exponent_of q ≤ 16)
classes log is = class_of log.version log.copy is.sized

-- ---- the shelf stays tidy

pub tidy_marked : (log : Logged) (k : ℕ) {mid new : ShelfMeaning} → IsTidy mid → IsValidShelf new → new ≡ record mid { state = new.state } → IsAreaChange log.copy k mid.state new.state (Marked log) → IsTidy new
tidy_marked log k tidy valid same changes = tidy_changed tidy valid same changes (λ q e some. ap (λ (x : ChunkMeaning). is_some x.bytes) e ∙ some)

pub tidy_fetched : (log : Logged) (k : ℕ) {mid new : ShelfMeaning} → IsTidy mid → IsValidShelf new → new ≡ record mid { state = new.state } → IsAreaChange log.copy k mid.state new.state (Fetched log) → IsTidy new
tidy_fetched log k {mid} tidy valid same changes =
    tidy_changed tidy valid same changes
    (λ q e some. ap (λ (x : ChunkMeaning). is_some x.bytes) e ∙ fetched_some (packed_by log q) (heap_chunk mid.state q) (tidy.valid_shelf.touched_live q) ∙ some)

-- ---- one area

module _ {log : Logged} (is : IsRecorded log) (k : ℕ) {e o : ℕ} (e_is : e ≡ (area_at log.copy k).exponent) (o_is : o ≡ (area_at log.copy k).ordinal) (bits : List Bool)
    (packs : (i : ℕ) → bit_in bits i ≡ (ltb i (chunks_of log.copy k) && packs_at log k i)) {old new : HeapState} where
  pub area_marked : IsChangedArea old new e o (λ i a b. b ≡ marked (bit_in bits i) a) → IsAreaChange log.copy k old new (Marked log)
  area_marked =
      area_as log k (λ i a b. b ≡ marked (bit_in bits i) a) (Marked log) e_is o_is
      (λ i a b l h. h ∙ ap (λ x. marked x a) (bit_is log k e_is bits packs i l ∙ sym (packs_some log is (chunk_number log.copy k i))))

  pub area_fetched : IsChangedArea old new e o (λ i a b. b ≡ fetched (packed_at bits (bytes_at log.copy k) i) a) → IsAreaChange log.copy k old new (Fetched log)
  area_fetched =
      area_as log k (λ i a b. b ≡ fetched (packed_at bits (bytes_at log.copy k) i) a) (Fetched log) e_is o_is
      (λ i a b l h.
      let q : ℕ = chunk_number log.copy k i in
      h ∙ ap (λ x. fetched x a) (ap (λ x. cond x (Some (bytes_at log.copy k i)) None) (bit_is log k e_is bits packs i l) ∙ sym (packed_is is q (packs_by log.kind log.copy log.found q) refl)))

-- ---- an area of which nothing is packed

pub empty_is : (xs : List ℕ) (b : Bool) → b ≡ (length xs == 0) → b ≡ true → xs ≡ []
empty_is [] b is h = refl
empty_is (x ∷ xs) b is h = let n = eqb-true (length (x ∷ xs)) 0 (sym is ∙ h) in absurd (omega arith)

nothing_in_front : (xs ys : List ℕ) → xs ++ ys ≡ [] → xs ≡ []
nothing_in_front [] ys h = refl
nothing_in_front (x ∷ xs) ys h = absurd cc

nothing : (p : ℕ → Bool) (f : ℕ → List ℕ) → ((i : ℕ) → p i ≡ true → f i ≡ [] → ⊥) → (a n : ℕ) → flat_map f (filter p (range_with_len a n)) ≡ [] → (i : ℕ) → a ≤ i → i < a + n → p i ≡ false
nothing p f each a zero none i low high = absurd (omega arith)
nothing p f each a (suc n) none i low high =
    elim (p a) as (λ b. p a ≡ b → p i ≡ false) [
      | true ↦ λ h.
          absurd (each a h (nothing_in_front (f a) (flat_map f (filter p (range_with_len (a + 1) n)))
          (sym (ap (λ b. flat_map f (cond b (a ∷ filter p (range_with_len (a + 1) n)) (filter p (range_with_len (a + 1) n)))) h) ∙ none)))
      | false ↦ λ h.
          elim (cases_eq i a) as (λ _. p i ≡ false) [
            | inl same ↦ ap p same ∙ h
            | inr ne ↦
                nothing p f each (a + 1) n
                (sym (ap (λ b. flat_map f (cond b (a ∷ filter p (range_with_len (a + 1) n)) (filter p (range_with_len (a + 1) n)))) h) ∙ none) i (omega arith) (omega arith)
          ]
    ] refl

no_bytes : (v : Version) (e : ℕ) (bytes : List ℕ) → 5 ≤ e → IsLengthOf v e (length bytes) → packed_chunk v bytes ≡ [] → ⊥
no_bytes One e bytes low is none = let n = ap length none in let s = size_least e low in omega arith
no_bytes Two e bytes low is none = let n = ap length none in let l = length-append (to_le_bytes w32 (length bytes)) bytes in omega arith

pub none_packed : (log : Logged) → IsRecorded log → (k : ℕ) → body_from log k 0 ≡ [] → (i : ℕ) → i < chunks_of log.copy k → packed_by log (chunk_number log.copy k i) ≡ None
none_packed log is k none i l =
    let p : ℕ → Bool = packs_at log k in
    let clear : p i ≡ false =
    nothing p (λ j. packed_chunk log.version (bytes_at log.copy k j))
    (λ j h.
    let q : ℕ = chunk_number log.copy k j in
    let fits = is.sized q (unwrap_or (get log.copy q) []) (some_bytes (get log.copy q) (packs_live is q h)) in
    no_bytes log.version (exponent_of q) (bytes_at log.copy k j) fits.0 fits.2)
    0 (chunks_of log.copy k - 0) none i (omega arith) (omega arith) in
    packed_is is (chunk_number log.copy k i) false clear

idle_area : (log : Logged) (k : ℕ) (s : HeapState) (C : ℕ → ChunkMeaning → ChunkMeaning → Type 0) → ((i : ℕ) (a : ChunkMeaning) → i < chunks_of log.copy k → C (chunk_number log.copy k i) a a) → IsAreaChange log.copy k s s C
idle_area log k s C each = record {
  here = λ q at.
      let e : ℕ = (area_at log.copy k).exponent in
      subst (λ x. C x (heap_chunk s q) (heap_chunk s q)) (number_in log.copy k q at) (each (index_of q % per e) (heap_chunk s q) (mod_below (index_of q) (per e) (pow_pos (16 - e))));
  others = λ q apart. refl;
}

pub idle_marked : (log : Logged) → IsRecorded log → (k : ℕ) (s : HeapState) → body_from log k 0 ≡ [] → IsAreaChange log.copy k s s (Marked log)
idle_marked log is k s none = idle_area log k s (Marked log) (λ i a b. sym (ap (λ o. marked (is_some o) a) (none_packed log is k none i b) ∙ marked_none a))

pub idle_fetched : (log : Logged) → IsRecorded log → (k : ℕ) (s : HeapState) → body_from log k 0 ≡ [] → IsAreaChange log.copy k s s (Fetched log)
idle_fetched log is k s none = idle_area log k s (Fetched log) (λ i a b. sym (ap (λ o. fetched o a) (none_packed log is k none i b) ∙ fetched_none a))

-- ---- use bits

pub reshaped_bit : (log : Logged) (k : ℕ) {e : ℕ} → e ≡ (area_at log.copy k).exponent → (i : ℕ) {b : Bool} → b ≡ (ltb i (chunks_of log.copy k) && contains_key log.copy (chunk_number log.copy k i)) → i < per e → {x y : ChunkMeaning} → IsReshaped b x y
    → IsReshaped (contains_key log.copy (chunk_number log.copy k i)) x y
reshaped_bit log k e_is i b_is l {x} {y} is =
    subst (λ u. IsReshaped u x y) (b_is ∙ ap (λ t. t && contains_key log.copy (chunk_number log.copy k i)) (lt-ltb i (chunks_of log.copy k) (let p = ap per e_is in omega arith))) is
