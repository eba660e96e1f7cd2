-- The bitmaps that bytes begin with.
use Rattle.std.proofs.Common.{◌≡◌, ℕ, zero, suc, ◌+◌, ◌*◌, ◌/◌, ◌<◌, ◌≤◌, max, Bool, true, false, nat_lt, ◌||◌, cond, List, [], ◌∷◌, ◌++◌, length, take, drop, refl, sym, ap, ◌∙◌, arith, inl, inr}
use Rattle.std.specs.List.{filter, list_any, range_with_len}
use Rattle.std.proofs.lemmas.Bool.{cases_lt, and_left, le-ltb, lt-ltb, true≢false}
use Rattle.std.proofs.lemmas.List.{length-append, take-append-drop, drop_at, take_at}
use Rattle.dym_base.specs.Numbers.{per}
use Rattle.dym_base.specs.Packed.{bitmap, touched_bits}
use Rattle.dym_base.specs.declared.command.Kind.{Kind}
use Rattle.dym_base.specs.declared.command.Kind.TheVariants.{Full, Inc}
use Rattle.dym_bits.specs.Bits.{bit_in, bits_of_bytes, set_count}
use Rattle.dym_pack.specs.Contents.{IsMaps, picks, picked, has_some}
use Rattle.dym_pack.specs.declared.parsed_area.ParsedMaps.{ParsedMaps}
use Rattle.dym_pack.proofs.Bitmaps.{length_bitmap, bitmap_tells, bits_of_bitmap}
use Rattle.dym_pack.proofs.Ranges.{filter_same, count_is_filter}
use Rattle.dym_pack.proofs.Unique.{split_same, per_room}
use Rattle.dym_pack.proofs.Named.{most_per}

-- one is set exactly where those that are set are some
any_counted : (p : ℕ → Bool) (xs : List ℕ) → list_any p xs ≡ nat_lt 0 (length (filter p xs))
any_counted p [] = refl
any_counted p (x ∷ xs) =
    elim (p x) as (λ b. (b || list_any p xs) ≡ nat_lt 0 (length (cond b (x ∷ filter p xs) (filter p xs)))) [
      | true ↦ sym (lt-ltb 0 (suc (length (filter p xs))) (omega arith))
      | false ↦ any_counted p xs
    ]

pub some_counted : (n : ℕ) (p : ℕ → Bool) → has_some n p ≡ nat_lt 0 (length (picked n p))
some_counted n p = any_counted p (range_with_len 0 n)

pub picked_same : (n : ℕ) (p q : ℕ → Bool) → ((i : ℕ) → i < n → p i ≡ q i) → picked n p ≡ picked n q
picked_same n p q same = filter_same p q n 0 (λ j low high. same j (omega arith))

pub some_same : (n : ℕ) (p q : ℕ → Bool) → ((i : ℕ) → i < n → p i ≡ q i) → has_some n p ≡ has_some n q
some_same n p q same = some_counted n p ∙ ap (λ xs. nat_lt 0 (length xs)) (picked_same n p q same) ∙ sym (some_counted n q)

-- no bit past the last chunk is set in a bitmap
pub clear_in_bitmap : (n i : ℕ) (f : ℕ → Bool) (bytes : List ℕ) → n ≤ 8 * max 1 (n / 8) → bytes ≡ bitmap n f → n ≤ i → bit_in (bits_of_bytes bytes) i ≡ false
clear_in_bitmap n i f bytes room is past =
    ap (λ ys. bit_in (bits_of_bytes ys) i) is ∙ bits_of_bitmap n f i room ∙ and_left (nat_lt i n) (f i) (le-ltb i n past)

-- how many bits are set
pub count_picked : (n : ℕ) (bits : List Bool) → set_count (take n bits) ≡ length (picked n (bit_in bits))
count_picked n bits = count_is_filter bits n

touched_long : (kind : Kind) (n : ℕ) (f g : ℕ → Bool) → length (touched_bits kind n f) ≡ length (touched_bits kind n g)
touched_long Full n f g = refl
touched_long Inc n f g = length_bitmap n f ∙ sym (length_bitmap n g)

picks_same : (kind : Kind) (n : ℕ) (f g s t : ℕ → Bool) → n ≤ 8 * max 1 (n / 8) → ((i : ℕ) → i < n → f i ≡ g i) → touched_bits kind n s ≡ touched_bits kind n t → (i : ℕ) → i < n → picks kind f s i ≡ picks kind g t i
picks_same Full n f g s t room used touched i inside = used i inside
picks_same Inc n f g s t room used touched i inside = bitmap_tells n s t room touched i inside

abbrev pub made : Bool → ℕ → ℕ → ParsedMaps
made used packed len = record { used = used; packed = packed; len = len }

-- bytes begin with the bitmaps of one area alone
pub maps_one : (kind : Kind) (e : ℕ) (bytes : List ℕ) (s t : ParsedMaps) → 5 ≤ e → e ≤ 16 → IsMaps kind e bytes s → IsMaps kind e bytes t → s ≡ t
maps_one kind e bytes s t least most is also =
    let n = per e in
    let room = per_room e least most in
    let first = split_same (bitmap n is.used) (bitmap n also.used) (touched_bits kind n is.touched ++ is.rest) (touched_bits kind n also.touched ++ also.rest)
    (length_bitmap n is.used ∙ sym (length_bitmap n also.used)) (sym is.are ∙ also.are) in
    let used = bitmap_tells n is.used also.used room first.0 in
    let second = split_same (touched_bits kind n is.touched) (touched_bits kind n also.touched) is.rest also.rest (touched_long kind n is.touched also.touched) first.1 in
    let picked_too = picks_same kind n is.used also.used is.touched also.touched room used second.0 in
    let some : s.used ≡ t.used = is.some ∙ some_same n is.used also.used used ∙ sym also.some in
    let count : s.packed ≡ t.packed
    = is.count ∙ ap length (picked_same n (picks kind is.used is.touched) (picks kind also.used also.touched) picked_too) ∙ sym also.count in
    let long : s.len ≡ t.len
    = omega (arith, is.long, also.long, length_bitmap n is.used, length_bitmap n also.used, touched_long kind n is.touched also.touched) in
    ap (λ u. made u s.packed s.len) some ∙ ap (λ p. made t.used p s.len) count ∙ ap (made t.used t.packed) long

-- ---- a full record

pub full_is : (e map packed : ℕ) (bytes : List ℕ) (bits : List Bool) → map ≡ max 1 (per e / 8) → map ≤ length bytes → take map bytes ≡ bitmap (per e) (bit_in bits) → packed ≡ set_count (take (per e) bits) → IsMaps Full e bytes (made (nat_lt 0 packed) packed map)
full_is e map packed bytes bits size room is count = record {
  used = bit_in bits;
  touched = λ i. false;
  rest = drop map bytes;
  within = λ i below no. absurd (true≢false (sym no));
  are = sym (take-append-drop map bytes) ∙ ap (λ ys. ys ++ drop map bytes) is;
  some = ap (nat_lt 0) (count ∙ count_picked (per e) bits) ∙ sym (some_counted (per e) (bit_in bits));
  count = count ∙ count_picked (per e) bits;
  long = omega (arith, length_bitmap (per e) (bit_in bits));
}

-- the use bits stand first
pub used_first : (kind : Kind) (e map : ℕ) (bytes : List ℕ) (parsed : ParsedMaps) → map ≡ max 1 (per e / 8) → (is : IsMaps kind e bytes parsed) → take map bytes ≡ bitmap (per e) is.used
used_first kind e map bytes parsed size is =
    ap (take map) is.are ∙ take_at (bitmap (per e) is.used) (touched_bits kind (per e) is.touched ++ is.rest) map (length_bitmap (per e) is.used ∙ sym size)

pub maps_room : (kind : Kind) (e map : ℕ) (bytes : List ℕ) (parsed : ParsedMaps) → map ≡ max 1 (per e / 8) → (is : IsMaps kind e bytes parsed) → map + length (touched_bits kind (per e) is.touched) ≤ length bytes
maps_room kind e map bytes parsed size is =
    omega (arith, ap length is.are, length-append (bitmap (per e) is.used) (touched_bits kind (per e) is.touched ++ is.rest), length-append (touched_bits kind (per e) is.touched) is.rest, length_bitmap (per e) is.used)

-- ---- an incremental one

pub inc_is : (e map packed count : ℕ) (bytes : List ℕ) (used touched : List Bool) → map ≡ max 1 (per e / 8) → 2 * map ≤ length bytes → take map bytes ≡ bitmap (per e) (bit_in used) → take map (drop map bytes) ≡ bitmap (per e) (bit_in touched) → ((k : ℕ) → bit_in touched k ≡ true → bit_in used k ≡ true) → count ≡ set_count (take (per e) used) → packed ≡ set_count (take (per e) touched) → IsMaps Inc e bytes (made (nat_lt 0 count) packed (2 * map))
inc_is e map packed count bytes used touched size room is also within counted packs = record {
  used = bit_in used;
  touched = bit_in touched;
  rest = drop map (drop map bytes);
  within = λ i below. within i;
  are = sym (take-append-drop map bytes)
      ∙ ap (λ ys. ys ++ drop map bytes) is
      ∙ ap (λ ys. bitmap (per e) (bit_in used) ++ ys) (sym (take-append-drop map (drop map bytes)) ∙ ap (λ ys. ys ++ drop map (drop map bytes)) also);
  some = ap (nat_lt 0) (counted ∙ count_picked (per e) used) ∙ sym (some_counted (per e) (bit_in used));
  count = packs ∙ count_picked (per e) touched;
  long = omega (arith, length_bitmap (per e) (bit_in used), length_bitmap (per e) (bit_in touched));
}

pub touched_next : (e map : ℕ) (bytes : List ℕ) (parsed : ParsedMaps) → map ≡ max 1 (per e / 8) → (is : IsMaps Inc e bytes parsed) → take map (drop map bytes) ≡ bitmap (per e) is.touched
touched_next e map bytes parsed size is =
    ap (λ ys. take map (drop map ys)) is.are
    ∙ ap (take map) (drop_at (bitmap (per e) is.used) (bitmap (per e) is.touched ++ is.rest) map (length_bitmap (per e) is.used ∙ sym size))
    ∙ take_at (bitmap (per e) is.touched) is.rest map (length_bitmap (per e) is.touched ∙ sym size)

-- no touched bit stands outside
pub none_outside : (e map k : ℕ) (bytes : List ℕ) (parsed : ParsedMaps) (used touched : List Bool) → 5 ≤ e → e ≤ 16 → map ≡ max 1 (per e / 8) → IsMaps Inc e bytes parsed → take map bytes ≡ bitmap (per e) (bit_in used) → take map (drop map bytes) ≡ bitmap (per e) (bit_in touched) → ((i : ℕ) → per e ≤ i → bit_in touched i ≡ false) → bit_in touched k ≡ true → bit_in used k ≡ false → ⊥
none_outside e map k bytes parsed used touched least most size is first next clear set unset =
    elim (cases_lt k (per e)) [
      | inl below ↦ (
          let room = per_room e least most in
          let t : bit_in touched k ≡ is.touched k = bitmap_tells (per e) (bit_in touched) is.touched room (sym next ∙ touched_next e map bytes parsed size is) k below in
          let u : bit_in used k ≡ is.used k = bitmap_tells (per e) (bit_in used) is.used room (sym first ∙ used_first Inc e map bytes parsed size is) k below in
          true≢false (sym (is.within k below (sym t ∙ set)) ∙ sym u ∙ unset))
      | inr past ↦ true≢false (sym set ∙ clear k past)
    ]

-- ---- how many are packed

pub picked_few : (n : ℕ) (p : ℕ → Bool) → length (picked n p) ≤ n
picked_few n p = few n 0
  where
    few : (n from : ℕ) → length (filter p (range_with_len from n)) ≤ n
    few zero from = omega arith
    few (suc n) from = elim (p from) as (λ b. length (cond b (from ∷ filter p (range_with_len (from + 1) n)) (filter p (range_with_len (from + 1) n))) ≤ suc n) [
      | true ↦ omega (arith, few n (from + 1))
      | false ↦ omega (arith, few n (from + 1))
    ]

pub packed_few : (kind : Kind) (e : ℕ) (bytes : List ℕ) (parsed : ParsedMaps) → 5 ≤ e → IsMaps kind e bytes parsed → parsed.packed ≤ 2048
packed_few kind e bytes parsed least is = omega (arith, is.count, picked_few (per e) (picks kind is.used is.touched), most_per e least)
