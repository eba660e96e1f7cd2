-- The last area of a class, after no chunk of it is in use.
use Rattle.std.proofs.Common.{◌≡◌, ℕ, ◌+◌, ◌-◌, ◌/◌, ◌%◌, ◌<◌, ◌≤◌, false, length, take, replicate, get_or-set_same, sym, ap, ◌∙◌, arith}
use Rattle.std.specs.FinMap.{get}
use Rattle.std.proofs.lemmas.Bool.{true≢false}
use Rattle.std.proofs.lemmas.List.{take-replicate}
use Rattle.dym_base.specs.Numbers.{per, exponent_of, index_of}
use Rattle.dym_bits.specs.Bits.{bit_in, bits_of_bytes, IsSet}
use Rattle.dym_heap.specs.Chunks.{heap_chunk}
use Rattle.dym_heap.specs.Fetches.{IsChangedArea, IsReshaped}
use Rattle.dym_heap.specs.Shelves.{ShelfMeaning, EndsFree, count_of, with_count}
use Rattle.dym_heap.proofs.Chunks.{none_of}
use Rattle.dym_heap.proofs.PlaceShapes.{zero_bits}

pub no_chunk_set : (n m i : ℕ) → n ≤ m → bit_in (bits_of_bytes (take n (replicate m 0))) i ≡ false
no_chunk_set n m i fits = ap (λ xs. bit_in (bits_of_bytes xs) i) (take-replicate n m 0 fits) ∙ zero_bits n i

pub none_set : (n m i k : ℕ) → n ≤ m → IsSet (bits_of_bytes (take n (replicate m 0))) i → i < k
none_set n m i k fits h = absurd (true≢false (sym h ∙ no_chunk_set n m i fits))

module _ {old mid : ShelfMeaning} {e r : ℕ} (n m : ℕ) (fits : n ≤ m) (last : r + 1 ≡ count_of old e) (same : mid ≡ record old { state = mid.state })
    (shaped : IsChangedArea old.state mid.state e r (λ i old now. IsReshaped (bit_in (bits_of_bytes (take n (replicate m 0))) i) old now)) where
  count_mid : count_of mid e ≡ count_of old e
  count_mid = ap (λ (s : ShelfMeaning). count_of s e) same

  pub emptied : EndsFree mid e
  emptied = record {
    some = (let c = count_mid in omega arith);
    free = λ k class area.
        let count = count_mid in
        none_of (get mid.state.live k) ((shaped.here k class (omega arith)).used ∙ no_chunk_set n m (index_of k % per e) fits);
  }

  module _ {new : ShelfMeaning} (dropped : new ≡ with_count mid e (count_of mid e - 1) new.held_ids) where
    pub given : new ≡ record (with_count old e (count_of old e - 1) new.held_ids) { state = new.state }
    given =
        dropped ∙ ap (λ (s : ShelfMeaning). record (with_count s e (count_of s e - 1) new.held_ids) { state = mid.state }) same
        ∙ ap (λ st. record (with_count old e (count_of old e - 1) new.held_ids) { state = st }) (sym (ap (λ (s : ShelfMeaning). s.state) dropped))

    pub count_new : e - 5 < length mid.counts → count_of new e ≡ r
    count_new small = ap (λ (s : ShelfMeaning). count_of s e) dropped ∙ get_or-set_same mid.counts (e - 5) (count_of mid e - 1) 0 small ∙ (let c = count_mid in let h : count_of mid e - 1 ≡ r = omega arith in h)

    -- the chunks of the other areas stay as they are
    pub stay : (k : ℕ) → (exponent_of k ≡ e → index_of k / per e < count_of new e) → count_of new e ≡ r → heap_chunk new.state k ≡ heap_chunk old.state k
    stay k within count = ap (λ (s : ShelfMeaning). heap_chunk s.state k) dropped ∙ shaped.others k (λ class area. let l = within class in omega arith)
