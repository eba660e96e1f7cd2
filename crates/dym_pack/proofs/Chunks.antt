-- The chunks that a log packs, and how long they are.
use Rattle.std.proofs.Common.{◌≡◌, ℕ, ◌+◌, ◌-◌, ◌*◌, ◌^◌, ◌<◌, ◌≤◌, Bool, true, false, is_some, Some, None, unwrap_or, List, [], ◌∷◌, ◌++◌, length, refl, sym, ◌∙◌, ap, subst, arith, nat_lt, ◌&&◌, get_or, take, drop, map}
use Rattle.std.specs.List.{range_with_len, flat_map, filter, count_by}
use Rattle.std.specs.FinMap.{get}
use Rattle.std.proofs.lemmas.Bool.{true≢false, and_parts, lt-ltb, ltb-true}
use Rattle.std.proofs.lemmas.List.{length-append, length-map, append-nil, take_all, take_at, drop_at}
use Rattle.std.proofs.lemmas.List.Concat.{flat_map-append}
use Rattle.std.proofs.Math.Pow.{pow_mono}
use mathlib.Core.Path.{fun_ext}
use Rattle.dym_base.specs.Numbers.{size, per}
use Rattle.dym_base.specs.Heaps.{held}
use Rattle.dym_base.specs.Laws.{IsLengthOf}
use Rattle.dym_base.specs.Packed.{Logged, packs_by, packed_chunk}
use Rattle.dym_base.specs.declared.command.Version.{Version}
use Rattle.dym_base.specs.declared.command.Version.TheVariants.{One, Two}
use Rattle.dym_base.specs.declared.command.Kind.TheVariants.{Full, Inc}
use Rattle.dym_base.proofs.Classes.{cls_class}
use Rattle.dym_base.specs.Recorded.{IsRecorded}
use Rattle.dym_pack.specs.Areas.{AreasMeaning, IsPackable, area_at, chunks_of, chunk_number, is_used_at, bytes_at}
use Rattle.dym_pack.specs.ParsedAreas.{packs_at, IsPackedBits, packed_from, body_from, IsNth}
use Rattle.dym_pack.proofs.Ranges.{all_picked, passing, passing_from, passing_one, passing_none, passing_run, length_each, length_most, filter_none, filter_same, filter_split, count_is_filter}
use Rattle.dym_pack.proofs.Bitmaps.{clear_past}
use Rattle.dym_bits.specs.Bits.{IsNextSet}
use Rattle.dym_pack.proofs.Named.{area_is, exponent_at, few_chunks, whole_area}

-- what a log packs of, as what was lent to be packed
abbrev pub parts : Logged → AreasMeaning
parts log = record { version = log.version; live = log.copy; touched = log.found }

-- a log that a record can hold is such as can be packed
pub packable : (log : Logged) → IsRecorded log → IsPackable (parts log)
packable log is = record { sized = is.sized; touched_live = is.found_live; few = is.few }

len_within : (v : Version) (e n : ℕ) → IsLengthOf v e n → n ≤ size e
len_within One e n is = omega arith
len_within Two e n is = (cls_class n e is).2

pub size_most : (e : ℕ) → e ≤ 16 → size e ≤ 65536
size_most e greatest = pow_mono {i = e} {j = 16} greatest

-- a used chunk of an area
module _ (m : AreasMeaning) (ok : IsPackable m) (k i : ℕ) (within : k < held m.live) (inside : i < chunks_of m.live k) (used : is_used_at m.live k i ≡ true) where
  chunk_fits : IsLengthOf m.version (area_at m.live k).exponent (length (bytes_at m.live k i))
  chunk_fits =
      elim (get m.live (chunk_number m.live k i)) as (λ o. get m.live (chunk_number m.live k i) ≡ o → is_some o ≡ true → IsLengthOf m.version (area_at m.live k).exponent (length (unwrap_or o []))) [
        | Some b ↦ λ is has. subst (λ e. IsLengthOf m.version e (length b)) (exponent_at m ok k i within inside) (ok.sized (chunk_number m.live k i) b is).2
        | None ↦ λ is has. absurd (true≢false (sym has))
      ] refl used

  chunk_len_one : m.version ≡ One → length (bytes_at m.live k i) ≡ size (area_at m.live k).exponent
  chunk_len_one one = subst (λ v. IsLengthOf v (area_at m.live k).exponent (length (bytes_at m.live k i))) one chunk_fits

  chunk_len_within : length (bytes_at m.live k i) ≤ size (area_at m.live k).exponent
  chunk_len_within = len_within m.version (area_at m.live k).exponent _ chunk_fits

  pub chunk_len_most : length (bytes_at m.live k i) ≤ 65536
  chunk_len_most = omega (arith, chunk_len_within, size_most (area_at m.live k).exponent (area_is m.live k within).most)

packed_within : (v : Version) (bytes : List ℕ) → length (packed_chunk v bytes) ≤ length bytes + 4
packed_within One bytes = omega arith
packed_within Two bytes = omega (arith, length-append {A = ℕ})

two_len : (bytes : List ℕ) → length (packed_chunk Two bytes) ≡ 4 + length bytes
two_len bytes = omega (arith, length-append {A = ℕ})

many_map : (f : ℕ → List ℕ) (xs : List ℕ) → flat_map (λ i. packed_chunk Two (f i)) xs ≡ flat_map (packed_chunk Two) (map f xs)
many_map f [] = refl
many_map f (x ∷ xs) = ap (λ ys. packed_chunk Two (f x) ++ ys) (many_map f xs)

module _ (log : Logged) where
  -- ---- the packed bytes of an area

  abbrev pub chunk_bytes : ℕ → ℕ → List ℕ
  chunk_bytes k i = packed_chunk log.version (bytes_at log.copy k i)

  abbrev all_bytes : ℕ → List ℕ → List ℕ
  all_bytes k = flat_map (chunk_bytes k)

  abbrev count : ℕ → ℕ
  count = chunks_of log.copy

  -- the chunks before chunk i
  abbrev pub before_chunk : ℕ → ℕ → List ℕ
  before_chunk k i = filter (packs_at log k) (range_with_len 0 i)

  -- in version 1 the packed bytes of a chunk are its bytes
  pub chunk_bytes_one : log.version ≡ One → (k : ℕ) → chunk_bytes k ≡ bytes_at log.copy k
  chunk_bytes_one one k = fun_ext (λ i. ap (λ v. packed_chunk v (bytes_at log.copy k i)) one)

  pub chunk_bytes_two : log.version ≡ Two → (k i : ℕ) → chunk_bytes k i ≡ packed_chunk Two (bytes_at log.copy k i)
  chunk_bytes_two two k i = ap (λ v. packed_chunk v (bytes_at log.copy k i)) two

  pub step_len_two : log.version ≡ Two → (k from i : ℕ) → body_from log k from ≡ chunk_bytes k i ++ body_from log k (i + 1) → length (body_from log k from) ≡ 4 + length (bytes_at log.copy k i) + length (body_from log k (i + 1))
  step_len_two two k from i split =
      ap length split
      ∙ length-append (chunk_bytes k i) (body_from log k (i + 1))
      ∙ ap (λ n. n + length (body_from log k (i + 1))) (ap length (chunk_bytes_two two k i) ∙ two_len (bytes_at log.copy k i))

  -- bytes from a chunk on are no more than all
  body_split : (k i : ℕ) → i ≤ count k → body_from log k 0 ≡ all_bytes k (before_chunk k (i - 0)) ++ body_from log k i
  body_split k i within =
      ap (all_bytes k) (passing_from (packs_at log k) (count k) 0 i (omega arith) within)
      ∙ flat_map-append (chunk_bytes k) (before_chunk k (i - 0)) (passing (packs_at log k) (count k) i)

  -- a packed chunk in its body
  body_nth : (k i : ℕ) → i < count k → packs_at log k i ≡ true → body_from log k 0 ≡ all_bytes k (before_chunk k i) ++ (chunk_bytes k i ++ body_from log k (i + 1))
  body_nth k i inside packs =
      body_split k i (omega arith)
      ∙ ap (λ m. all_bytes k (before_chunk k m) ++ body_from log k i) (omega arith)
      ∙ ap (λ ys. all_bytes k (before_chunk k i) ++ ys) (ap (all_bytes k) (passing_one (packs_at log k) (count k) i i (omega arith) inside (λ j l h. absurd (omega arith)) packs))

  -- ---- a body from its first chunk on

  module _ (k : ℕ) (bits : List Bool) (told : IsPackedBits log k bits) where
    told_packs : (i : ℕ) → get_or bits i false ≡ true → (i < count k) × (packs_at log k i ≡ true)
    told_packs i set =
        let both = and_parts (nat_lt i (count k)) (packs_at log k i) (sym (told i) ∙ set) in
        (ltb-true i (count k) both.0, both.1)

    -- no bit is set from the count of chunks on
    pub limit_clear : (n : ℕ) → n ≡ count k → (i : ℕ) → n ≤ i → get_or bits i false ≡ false
    limit_clear n all i past = clear_past (count k) bits (packs_at log k) told i (omega arith)

    told_below : (i : ℕ) → i < count k → get_or bits i false ≡ packs_at log k i
    told_below i below = told i ∙ ap (λ t. t && packs_at log k i) (lt-ltb i (count k) below)

    fails_before : (from i : ℕ) → i ≤ count k → ((j : ℕ) → from ≤ j → j < i → get_or bits j false ≡ false) → (j : ℕ) → from ≤ j → j < i → packs_at log k j ≡ false
    fails_before from i within clear j l h = sym (told_below j (omega arith)) ∙ clear j l h

    -- the next packed chunk
    pub next_packed : (from i : ℕ) → IsNextSet bits from i → (i < count k) × (packs_at log k i ≡ true) × (body_from log k from ≡ chunk_bytes k i ++ body_from log k (i + 1))
    next_packed from i next =
        let here = told_packs i next.is_set in
        let low : i ≤ count k = omega (arith, here.0) in
        (here.0, here.1, ap (all_bytes k) (passing_one (packs_at log k) (count k) from i next.at_least here.0 (fails_before from i low next.least) here.1))

    pub next_smaller : k < held log.copy → (from i : ℕ) → IsNextSet bits from i → 2048 - (i + 1) < 2048 - from
    next_smaller within from i next =
        let at_least = next.at_least in
        omega (arith, few_chunks log.copy k within, (told_packs i next.is_set).0)

    -- no packed chunk is left
    pub none_packed : (from : ℕ) → ((j : ℕ) → from ≤ j → get_or bits j false ≡ false) → body_from log k from ≡ []
    none_packed from clear =
        ap (all_bytes k) (passing_none (packs_at log k) (count k) from (fails_before from (count k) (omega arith) (λ j l h. clear j l)))

    -- the end of the run of packed chunks that begins at `first`
    pub record IsRunEnd (first end : ℕ) : Type 0 where
      pub after : first < end
      pub within : end ≤ count k
      pub packed : (j : ℕ) → first ≤ j → j < end → packs_at log k j ≡ true

    pub run_end_all : (first most : ℕ) → first < most → ((j : ℕ) → first ≤ j → j < most → get_or bits j false ≡ true) → IsRunEnd first most
    run_end_all first most below all =
        record {
          after = below;
          within = omega (arith, (told_packs (most - 1) (all (most - 1) (omega arith) (omega arith))).0);
          packed = λ j l h. (told_packs j (all j l h)).1;
        }

    -- the run of packed chunks, and those after it
    pub run_packed : (from first end : ℕ) → IsNextSet bits from first → IsRunEnd first end → body_from log k from ≡ all_bytes k (range_with_len first (end - first)) ++ body_from log k end
    run_packed from first end next run =
        let low : first ≤ count k = omega (arith, (told_packs first next.is_set).0) in
        ap (all_bytes k) (passing_run (packs_at log k) (count k) from first end next.at_least (omega (arith, run.after)) run.within (fails_before from first low next.least) run.packed)
        ∙ flat_map-append (chunk_bytes k) (range_with_len first (end - first)) (passing (packs_at log k) (count k) end)

    -- ---- counts

    pub count_below_is : (i : ℕ) → i ≤ count k → count_by (λ b. b) (take i bits) ≡ length (before_chunk k i)
    count_below_is i within =
        count_is_filter bits i
        ∙ ap length (filter_same (λ j. get_or bits j false) (packs_at log k) i 0 (λ j l h. told_below j (omega arith)))

    -- the bits of an area's chunks count what is packed, whatever bits stand past them
    pub count_of_area_is : (n : ℕ) → n ≡ count k → count_by (λ b. b) (take n bits) ≡ length (packed_from log k 0)
    count_of_area_is n all =
        ap (λ m. count_by (λ b. b) (take m bits)) {x = n} {y = count k - 0} (omega (arith, all))
        ∙ count_below_is (count k - 0) (omega arith)

    pub count_is : count_by (λ b. b) bits ≡ length (packed_from log k 0)
    count_is =
        let n = count k - 0 in
        let p : ℕ → Bool = λ j. get_or bits j false in
        ap (count_by (λ b. b)) (sym (take_all (n + length bits) bits (omega arith)))
        ∙ count_is_filter bits (n + length bits)
        ∙ ap length (filter_split p 0 n (length bits)
        ∙ ap (λ xs. filter p (range_with_len 0 n) ++ xs) (filter_none p (length bits) (0 + n) (λ j l h. clear_past (count k) bits (packs_at log k) told j (omega arith)))
        ∙ append-nil (filter p (range_with_len 0 n))
        ∙ filter_same p (packs_at log k) n 0 (λ j l h. told_below j (omega arith)))

  -- ---- lengths

  module _ (ok : IsPackable (parts log)) where
    -- what is packed is in use
    pub packs_used : (k i : ℕ) → packs_at log k i ≡ true → is_used_at log.copy k i ≡ true
    packs_used k i packs =
        elim log.kind as (λ d. packs_by d log.copy log.found (chunk_number log.copy k i) ≡ true → is_used_at log.copy k i ≡ true) [
          | Full ↦ λ h. h
          | Inc ↦ λ h. ok.touched_live (chunk_number log.copy k i) h
        ] packs

    pub packed_len_most : (k i : ℕ) → k < held log.copy → i < count k → packs_at log k i ≡ true → length (bytes_at log.copy k i) ≤ 65536
    packed_len_most k i within inside packs = chunk_len_most (parts log) ok k i within inside (packs_used k i packs)

    pub body_most : (k : ℕ) → k < held log.copy → length (body_from log k 0) ≤ 73728
    body_most k within =
        let e = (area_at log.copy k).exponent in
        let is = area_is log.copy k within in
        let whole : count k - 0 ≡ count k = omega arith in
        let most = length_most (packs_at log k) (chunk_bytes k) (size e + 4) (count k - 0) 0
        (λ i l h packs. omega (arith, packed_within log.version (bytes_at log.copy k i), chunk_len_within (parts log) ok k i within (omega arith) (packs_used k i packs))) in
        let spread : (per e) * (size e + 4) ≡ per e * size e + 4 * per e = omega arith in
        let cut = ap (λ n. n * (size e + 4)) whole in
        omega (arith, few_chunks log.copy k within, whole_area e is.most)

    -- in version 1 each chunk has the size of its class
    module _ (one : log.version ≡ One) (k : ℕ) (within : k < held log.copy) where
      abbrev class_size : ℕ
      class_size = size (area_at log.copy k).exponent

      here_len_one : (i : ℕ) → i < count k → packs_at log k i ≡ true → length (chunk_bytes k i) ≡ class_size
      here_len_one i inside packs =
          ap (λ f. length (f i)) (chunk_bytes_one one k)
          ∙ chunk_len_one (parts log) ok k i within inside (packs_used k i packs) one

      -- the body is as long as its chunks
      body_len_one : length (body_from log k 0) ≡ length (packed_from log k 0) * class_size
      body_len_one = length_each (packs_at log k) (chunk_bytes k) class_size (count k - 0) 0 (λ i l h. here_len_one i (omega arith))

      pub body_len_counted : (n s e : ℕ) → n ≡ length (packed_from log k 0) → s ≡ size e → e ≡ (area_at log.copy k).exponent → n * s ≡ length (body_from log k 0)
      body_len_counted n s e many sized class = (λ i. many i * (sized ∙ ap size class) i) ∙ sym body_len_one

      before_len_one : (i : ℕ) → i < count k → length (all_bytes k (before_chunk k i)) ≡ length (before_chunk k i) * class_size
      before_len_one i inside = length_each (packs_at log k) (chunk_bytes k) class_size i 0 (λ j l h. here_len_one j (omega arith))

      -- the part of a body that is chunk i
      module _ (i : ℕ) (inside : i < count k) (packs : packs_at log k i ≡ true) where
        pub nth_room_one : length (before_chunk k i) * class_size + class_size ≤ length (body_from log k 0)
        nth_room_one =
            omega (arith, ap length (body_nth k i inside packs), length-append (all_bytes k (before_chunk k i)) (chunk_bytes k i ++ body_from log k (i + 1)), length-append (chunk_bytes k i) (body_from log k (i + 1)), before_len_one i inside, here_len_one i inside packs)

        pub nth_read_one : (at len : ℕ) → at ≡ length (before_chunk k i) * class_size → len ≡ class_size → take len (drop at (body_from log k 0)) ≡ bytes_at log.copy k i
        nth_read_one at len at_is len_is =
            ap (λ ys. take len (drop at ys)) (body_nth k i inside packs)
            ∙ ap (take len) (drop_at (all_bytes k (before_chunk k i)) (chunk_bytes k i ++ body_from log k (i + 1)) at (before_len_one i inside ∙ sym at_is))
            ∙ take_at (chunk_bytes k i) (body_from log k (i + 1)) len (here_len_one i inside packs ∙ sym len_is)
            ∙ ap (λ f. f i) (chunk_bytes_one one k)

    -- and in version 2
    pub nth_two : log.version ≡ Two → (k i n : ℕ) → k < held log.copy → i < count k → packs_at log k i ≡ true → n ≡ length (before_chunk k i) → IsNth (body_from log k 0) n (bytes_at log.copy k i)
    nth_two two k i n within inside packs many =
        let bytes = bytes_at log.copy k in
        record {
          before = map bytes (before_chunk k i);
          rest = body_from log k (i + 1);
          count = length-map (before_chunk k i) bytes ∙ sym many;
          fits = all_picked (λ chunk. length chunk < 2 ^ 32) bytes (packs_at log k) i 0 (λ j l h is. omega (arith, packed_len_most k j within (omega arith) is));
          small = omega (arith, packed_len_most k i within inside packs);
          is = body_nth k i inside packs
              ∙ ap (λ v. flat_map (λ j. packed_chunk v (bytes j)) (before_chunk k i) ++ (packed_chunk v (bytes i) ++ body_from log k (i + 1))) two
              ∙ ap (λ ys. ys ++ (packed_chunk Two (bytes i) ++ body_from log k (i + 1))) (many_map bytes (before_chunk k i));
        }
