-- What a loop keeps that loads a record area by area.
use Rattle.std.proofs.Common.{◌≡◌, ℕ, zero, suc, ◌+◌, ◌-◌, ◌*◌, ◌/◌, ◌%◌, ◌^◌, ◌<◌, ◌≤◌, ◌&&◌, Bool, true, false, cond, ltb, is_some, IsSome, Option, Some, None, List, [], ◌∷◌, length, refl, sym, ap, subst, ◌∙◌, arith}
use Rattle.std.specs.Prelude.{unwrap_or}
use Rattle.std.specs.List.{flat_map, filter, range_with_len}
use Rattle.std.proofs.lemmas.Bool.{lt-ltb, ltb-true, true≢false}
use Rattle.std.specs.Cmp.{nat_cmp_total}
use Rattle.std.specs.FinMap.{get, contains_key, nat_cmp-IsAntisymmetric}
use Rattle.std.specs.FinSet.{same_set}
use Rattle.std.proofs.lemmas.Nat.{pow_pos, mod_below, div-add-mod'}
use Rattle.dym_base.specs.Numbers.{per, number, exponent_of, index_of}
use Rattle.dym_base.specs.Heaps.{Live, HeapState, held}
use Rattle.dym_base.specs.Laws.{IsLengthOf}
use Rattle.dym_base.specs.Packed.{Logged, packs_by, packed_chunk}
use Rattle.dym_base.specs.StandsFor.{packed_by, or_else}
use Rattle.dym_base.specs.declared.command.Version.{Version}
use Rattle.dym_base.specs.declared.command.Version.TheVariants.{One, Two}
use Rattle.dym_base.specs.declared.command.Kind.TheVariants.{Full, Inc}
use Rattle.dym_bits.specs.Bits.{bit_in, IsSet}
use Rattle.dym_pack.specs.Areas.{area_at, chunks_of, chunk_number, bytes_at}
use Rattle.dym_base.specs.Recorded.{IsRecorded}
use Rattle.dym_pack.specs.ParsedAreas.{packs_at, body_from}
use Rattle.dym_heap.specs.Meaning.{IsSizeOf}
use Rattle.dym_heap.specs.Chunks.{ChunkMeaning, heap_chunk}
use Rattle.dym_heap.specs.Bodies.{IsBodyOf, loaded_over, loaded_chunk}
use Rattle.dym_heap.specs.Fetches.{IsOfArea, IsChangedArea, IsAreaChange}
use Rattle.dym_heap.proofs.AreaLists.{Named, named, number_k, small_k}

filter_same : (p q : ℕ → Bool) (a n : ℕ) → ((i : ℕ) → a ≤ i → i < a + n → p i ≡ q i) → filter p (range_with_len a n) ≡ filter q (range_with_len a n)
filter_same p q a zero same = refl
filter_same p q a (suc n) same =
    ap (λ b. cond b (a ∷ filter p (range_with_len (a + 1) n)) (filter p (range_with_len (a + 1) n))) (same a (omega arith) (omega arith))
    ∙ ap (λ xs. cond (q a) (a ∷ xs) xs) (filter_same p q (a + 1) n (λ i low high. same i (omega arith) (omega arith)))

length_of : (v : Version) (e n : ℕ) → IsLengthOf v e n → IsSizeOf v e n
length_of One e n is = is
length_of Two e n is = is

-- ---- what a log packs is live in its copy

pub packs_live : {log : Logged} → IsRecorded log → (q : ℕ) → packs_by log.kind log.copy log.found q ≡ true → contains_key log.copy q ≡ true
packs_live {log} is q h =
    elim log.kind as (λ k. packs_by k log.copy log.found q ≡ true → contains_key log.copy q ≡ true) [
      | Full ↦ λ e. e
      | Inc ↦ λ e. is.found_live q e
    ] h

pub some_bytes : (o : Option (List ℕ)) → is_some o ≡ true → o ≡ Some (unwrap_or o [])
some_bytes None h = absurd cc
some_bytes (Some x) h = refl

pub packed_is : {log : Logged} → IsRecorded log → (q : ℕ) (b : Bool) → packs_by log.kind log.copy log.found q ≡ b → packed_by log q ≡ cond b (Some (unwrap_or (get log.copy q) [])) None
packed_is {log} is q true h = ap (λ b. cond b (get log.copy q) None) h ∙ some_bytes (get log.copy q) (packs_live is q h)
packed_is {log} is q false h = ap (λ b. cond b (get log.copy q) None) h

-- ---- what loading does to a chunk

-- the chunk of number q after a log was loaded
abbrev pub after_load : Option (List ℕ) → ChunkMeaning → ChunkMeaning
after_load packed old = record old { bytes = cond (is_some old.bytes) (or_else packed old.bytes) None }

abbrev pub Loaded : Logged → ℕ → ChunkMeaning → ChunkMeaning → Type 0
Loaded log q old new = new ≡ after_load (packed_by log q) old

-- a chunk that was loaded has what the log says
over_is : {log : Logged} → IsRecorded log → (q : ℕ) (o : Option (List ℕ)) → loaded_over (packs_by log.kind log.copy log.found q) (unwrap_or (get log.copy q) []) o ≡ cond (is_some o) (or_else (packed_by log q) o) None
over_is is q None = refl
over_is {log} is q (Some old) =
    elim (packs_by log.kind log.copy log.found q) as (λ b. packs_by log.kind log.copy log.found q ≡ b → loaded_over b (unwrap_or (get log.copy q) []) (Some old) ≡ or_else (packed_by log q) (Some old)) [
      | true ↦ λ h. sym (ap (λ o. or_else o (Some old)) (packed_is is q true h))
      | false ↦ λ h. sym (ap (λ o. or_else o (Some old)) (packed_is is q false h))
    ] refl

-- loading again changes nothing
again : (packed o : Option (List ℕ)) (b : Bool) → after_load packed (after_load packed (record { bytes = o; touched = b })) ≡ after_load packed (record { bytes = o; touched = b })
again packed None b = refl
again None (Some old) b = refl
again (Some new) (Some old) b = refl

pub loaded_twice : (log : Logged) (q : ℕ) (a b c : ChunkMeaning) → Loaded log q a b → Loaded log q b c → Loaded log q a c
loaded_twice log q a b c first second = second ∙ ap (after_load (packed_by log q)) first ∙ again (packed_by log q) a.bytes a.touched

pub packed_gone : (log : Logged) → IsRecorded log → (q : ℕ) → contains_key log.copy q ≡ false → packed_by log q ≡ None
packed_gone log is q gone =
    elim (packs_by log.kind log.copy log.found q) as (λ b. packs_by log.kind log.copy log.found q ≡ b → packed_by log q ≡ None) [
      | true ↦ λ h. absurd (true≢false (sym (packs_live is q h) ∙ gone))
      | false ↦ λ h. packed_is is q false h
    ] refl

as_it_is : (o : Option (List ℕ)) → cond (is_some o) o None ≡ o
as_it_is None = refl
as_it_is (Some x) = refl

-- where the log packs nothing the old bytes stay
pub loaded_idle : {log : Logged} → IsRecorded log → (q : ℕ) (a : ChunkMeaning) → contains_key log.copy q ≡ false → Loaded log q a a
loaded_idle {log} is q a gone = sym (ap (λ o. after_load o a) (packed_gone log is q gone) ∙ (λ i. record { bytes = as_it_is a.bytes i; touched = a.touched }))

-- ---- the body of an area

module _ {log : Logged} (is : IsRecorded log) (k : ℕ) (l : k < held log.copy) where
  area_k : Named log.copy k
  area_k = named log.copy k l

  exponent_k : (area_at log.copy k).exponent ≡ area_k.e
  exponent_k = ap (λ a. a.exponent) area_k.is

  index_small : (i : ℕ) → i < per area_k.e → area_k.o * per area_k.e + i < 2 ^ 32
  index_small i b = small_k i area_k is.few l b

  pub body_k : {v : Version} {e : ℕ} (bits : List Bool) {body : List ℕ} → log.version ≡ v → e ≡ (area_at log.copy k).exponent → ((i : ℕ) → bit_in bits i ≡ (ltb i (chunks_of log.copy k) && packs_at log k i))
      → body ≡ body_from log k 0 → IsBodyOf v e bits body (bytes_at log.copy k)
  body_k {v} {e} bits version exponent packs body_is =
      let e_is : e ≡ area_k.e = exponent ∙ exponent_k in
      let chunks : chunks_of log.copy k ≡ per e = ap per (sym exponent) in
      let both : (i : ℕ) → IsSet bits i → (i < per e) × (packs_at log k i ≡ true) = λ i h.
      elim (ltb i (chunks_of log.copy k)) as (λ b. ltb i (chunks_of log.copy k) ≡ b → (b && packs_at log k i) ≡ true → (i < per e) × (packs_at log k i ≡ true)) [
        | true ↦ λ t p. ((let m = ltb-true i (chunks_of log.copy k) t in omega arith), p)
        | false ↦ λ t p. absurd cc
      ] refl (sym (packs i) ∙ h) in
      record {
        below = λ i h. (both i h).0;
        sized = λ i h.
            let b = both i h in
            let inside : i < per area_k.e = (let m = b.0 in let x = ap per e_is in omega arith) in
            let q : ℕ = chunk_number log.copy k i in
            let some = some_bytes (get log.copy q) (packs_live is q b.1) in
            let fits = is.sized q (unwrap_or (get log.copy q) []) some in
            let same : exponent_of q ≡ e = ap exponent_of (number_k i area_k) ∙ (let s = index_small i inside in let x : exponent_of (number area_k.e (area_k.o * per area_k.e + i)) ≡ area_k.e = omega arith in x) ∙ sym e_is in
            subst (λ w. IsSizeOf w e (length (bytes_at log.copy k i))) version
            (subst (λ x. IsSizeOf log.version x (length (bytes_at log.copy k i))) same (length_of log.version (exponent_of q) (length (bytes_at log.copy k i)) fits.2));
        is =
            let z : chunks_of log.copy k - 0 ≡ per e = omega arith in
            body_is
            ∙ ap (λ n. flat_map (λ i. packed_chunk log.version (bytes_at log.copy k i)) (filter (packs_at log k) (range_with_len 0 n))) z
            ∙ ap (λ w. flat_map (λ i. packed_chunk w (bytes_at log.copy k i)) (filter (packs_at log k) (range_with_len 0 (per e)))) version
            ∙ ap (flat_map (λ i. packed_chunk v (bytes_at log.copy k i)))
            (sym (filter_same (bit_in bits) (packs_at log k) 0 (per e) (λ i low high. packs i ∙ ap (λ b. b && packs_at log k i) (lt-ltb i (chunks_of log.copy k) (omega arith)))));
      }

-- ---- the loop

-- the number of a chunk of an area
pub number_in : (copy : Live) (k q : ℕ) → IsOfArea copy k q → chunk_number copy k (index_of q % per (area_at copy k).exponent) ≡ q
number_in copy k q at =
    let e : ℕ = (area_at copy k).exponent in
    let class = at.0 in
    let parts = div-add-mod' (index_of q) (per e) in
    let m : index_of q / per e * per e ≡ (area_at copy k).ordinal * per e = ap (λ x. x * per e) at.1 in
    omega arith

-- an area of a shelf, by its class and ordinal, is that of the record
pub area_as : (log : Logged) (k : ℕ) {old new : HeapState} {e o : ℕ} (Change C : ℕ → ChunkMeaning → ChunkMeaning → Type 0) → e ≡ (area_at log.copy k).exponent → o ≡ (area_at log.copy k).ordinal
    → ((i : ℕ) (a b : ChunkMeaning) → i < per e → Change i a b → C (chunk_number log.copy k i) a b) → IsChangedArea old new e o Change → IsAreaChange log.copy k old new C
area_as log k {old} {new} {e} {o} Change C e_is o_is means changes =
    let there : (q : ℕ) → (exponent_of q ≡ e → index_of q / per e ≡ o → IsOfArea log.copy k q) = λ q class area. (class ∙ e_is, ap (λ x. index_of q / per x) (sym e_is) ∙ area ∙ o_is) in
    record {
      here = λ q at.
          let class = at.0 ∙ sym e_is in
          let i : ℕ = index_of q % per e in
          let q_is : chunk_number log.copy k i ≡ q = ap (λ x. chunk_number log.copy k (index_of q % per x)) e_is ∙ number_in log.copy k q at in
          subst (λ x. C x (heap_chunk old q) (heap_chunk new q)) q_is
          (means i (heap_chunk old q) (heap_chunk new q) (mod_below (index_of q) (per e) (pow_pos (16 - e))) (changes.here q class (ap (λ x. index_of q / per x) e_is ∙ at.1 ∙ sym o_is)));
      others = λ q apart. changes.others q (λ class area. apart (there q class area));
    }

-- the bits of an area say what the log packs
pub bit_is : (log : Logged) (k : ℕ) {e : ℕ} → e ≡ (area_at log.copy k).exponent → (bits : List Bool) → ((i : ℕ) → bit_in bits i ≡ (ltb i (chunks_of log.copy k) && packs_at log k i))
    → (i : ℕ) → i < per e → bit_in bits i ≡ packs_by log.kind log.copy log.found (chunk_number log.copy k i)
bit_is log k e_is bits packs i b = packs i ∙ ap (λ x. x && packs_at log k i) (lt-ltb i (chunks_of log.copy k) (let p = ap per e_is in omega arith))

pub area_loaded : {log : Logged} → IsRecorded log → (k : ℕ) {mid new : HeapState} {e o : ℕ} (bits : List Bool) → e ≡ (area_at log.copy k).exponent → o ≡ (area_at log.copy k).ordinal
    → ((i : ℕ) → bit_in bits i ≡ (ltb i (chunks_of log.copy k) && packs_at log k i)) → IsChangedArea mid new e o (λ i old new. new ≡ loaded_chunk bits (bytes_at log.copy k) i old) → IsAreaChange log.copy k mid new (Loaded log)
area_loaded {log} is k bits e_is o_is packs =
    area_as log k (λ i a b. b ≡ loaded_chunk bits (bytes_at log.copy k) i a) (Loaded log) e_is o_is
    (λ i a b inside h. h ∙ (λ j. record { bytes = (ap (λ x. loaded_over x (bytes_at log.copy k i) a.bytes) (bit_is log k e_is bits packs i inside) ∙ over_is is (chunk_number log.copy k i) a.bytes) j; touched = a.touched }))

-- as many chunks are live as before
pub loaded_some : (log : Logged) (q : ℕ) (a b : ChunkMeaning) → Loaded log q a b → IsSome a.bytes → IsSome b.bytes
loaded_some log q a b h some = ap (λ (x : ChunkMeaning). is_some x.bytes) h ∙ some_over (packed_by log q) a.bytes some
  where
    some_over : (packed o : Option (List ℕ)) → IsSome o → IsSome (cond (is_some o) (or_else packed o) None)
    some_over packed None some = absurd cc
    some_over None (Some x) some = refl
    some_over (Some y) (Some x) some = refl

pub touched_loaded : (log : Logged) (old new : HeapState) → ((q : ℕ) → Loaded log q (heap_chunk old q) (heap_chunk new q)) → new.touched ≡ old.touched
touched_loaded log old new each = same_set nat_cmp_total nat_cmp-IsAntisymmetric new.touched old.touched (λ q. ap (λ (x : ChunkMeaning). x.touched) (each q))
