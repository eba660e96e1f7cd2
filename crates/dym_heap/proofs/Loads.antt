-- What a loop keeps that loads the packed chunks of one area.
use Rattle.std.proofs.Common.{◌≡◌, ℕ, zero, suc, ◌+◌, ◌-◌, ◌*◌, ◌^◌, ◌<◌, ◌≤◌, ◌⊎◌, inl, inr, Bool, true, false, cond, List, [], ◌∷◌, ◌++◌, length, get_or, set, get_or-set_same, get_or-set_other, take, drop, refl, sym, ap, subst, ◌∙◌, arith, append_assoc}
use Rattle.std.specs.Int.{to_le_bytes, from_le_bytes, w32}
use Rattle.std.specs.List.{flat_map, filter, between, range_with_len}
use Rattle.std.proofs.lemmas.Bool.{cases_eq, cases_lt, true≢false}
use Rattle.std.proofs.lemmas.List.{same_lists, append-nil, length-append, length-drop, take_at, drop_at, drop-drop, drop_all}
use Rattle.std.proofs.lemmas.List.Concat.{flat_map-append}
use Rattle.std.proofs.lemmas.List.FromFn.{length-range_with_len, get_or-range_with_len}
use Rattle.std.proofs.lemmas.Nat.{row_fits, mul-le, from_le_bytes-to_le_bytes_4}
use Rattle.std.proofs.Math.Nat.{add-mul}
use Rattle.dym_base.specs.Numbers.{size, per}
use Rattle.dym_base.specs.Packed.{packed_chunk}
use Rattle.dym_base.specs.declared.command.Version.{Version}
use Rattle.dym_base.specs.declared.command.Version.TheVariants.{One, Two}
use Rattle.dym_bits.specs.Bits.{bit_in, IsSet, IsClear, IsNextSet}
use Rattle.dym_region.specs.Content.{part_of, with_part}
use Rattle.dym_area.specs.Area.{AreaMeaning, IsValidArea, with_loaded}
use Rattle.dym_heap.specs.Bodies.{IsBodyOf, IsBody, HoldsLoaded, IsLoadedRange, NotesLoaded}
use Rattle.dym_heap.proofs.Flats.{length-flat, get_or-flat}
use Rattle.dym_heap.proofs.Parts.{length-part_of, get_or-part_of, part_of-apart, part_of-inside, length-with_part}
use Rattle.dym_heap.proofs.Sizes.{size_fits, size_most, whole_area, chunk_fits, chunks_apart, per_fits}

-- the lengths of the wanted chunks below `from` are noted
abbrev pub NotedTo : List ℕ → List ℕ → List Bool → (ℕ → List ℕ) → ℕ → Type 0
NotedTo old new bits f from =
    ((i : ℕ) → i < from → IsSet bits i → get_or new i 0 ≡ length (f i)) × ((i : ℕ) → (from ≤ i) ⊎ IsClear bits i → get_or new i 0 ≡ get_or old i 0)

-- ---- the set bits of a range

pub filter_skip : (p : ℕ → Bool) (a n m : ℕ) → ((k : ℕ) → a ≤ k → k < a + m → p k ≡ false) → m ≤ n → filter p (range_with_len a n) ≡ filter p (range_with_len (a + m) (n - m))
filter_skip p a n zero none l = let x : a ≡ a + zero = omega arith in let y : n ≡ n - zero = omega arith in ap (λ k. filter p (range_with_len k n)) x ∙ ap (λ k. filter p (range_with_len (a + zero) k)) y
filter_skip p a zero (suc m) none l = absurd (omega arith)
filter_skip p a (suc n) (suc m) none l =
    let x : a + 1 + m ≡ a + suc m = omega arith in
    let y : n - m ≡ suc n - suc m = omega arith in
    ap (λ b. cond b (a ∷ filter p (range_with_len (a + 1) n)) (filter p (range_with_len (a + 1) n))) (none a (omega arith) (omega arith))
    ∙ filter_skip p (a + 1) n m (λ k low high. none k (omega arith) (omega arith)) (omega arith)
    ∙ ap (λ k. filter p (range_with_len k (n - m))) x ∙ ap (λ k. filter p (range_with_len (a + suc m) k)) y

pub filter_run : (p : ℕ → Bool) (a n m : ℕ) → ((k : ℕ) → a ≤ k → k < a + m → p k ≡ true) → m ≤ n → filter p (range_with_len a n) ≡ range_with_len a m ++ filter p (range_with_len (a + m) (n - m))
filter_run p a n zero all l = let x : a ≡ a + zero = omega arith in let y : n ≡ n - zero = omega arith in ap (λ k. filter p (range_with_len k n)) x ∙ ap (λ k. filter p (range_with_len (a + zero) k)) y
filter_run p a zero (suc m) all l = absurd (omega arith)
filter_run p a (suc n) (suc m) all l =
    let x : a + 1 + m ≡ a + suc m = omega arith in
    let y : n - m ≡ suc n - suc m = omega arith in
    ap (λ b. cond b (a ∷ filter p (range_with_len (a + 1) n)) (filter p (range_with_len (a + 1) n))) (all a (omega arith) (omega arith))
    ∙ ap (λ xs. a ∷ xs) (filter_run p (a + 1) n m (λ k low high. all k (omega arith) (omega arith)) (omega arith)
    ∙ ap (λ k. range_with_len (a + 1) m ++ filter p (range_with_len k (n - m))) x ∙ ap (λ k. range_with_len (a + 1) m ++ filter p (range_with_len (a + suc m) k)) y)

-- ---- parts of what was written

pub written_whole : (xs : List ℕ) (a : ℕ) (ys : List ℕ) → a + length ys ≤ length xs → part_of (with_part xs a ys) a (length ys) ≡ ys
written_whole xs a ys fits =
    let z : a + 0 ≡ a = omega arith in
    let gone : drop (0 + length ys) (part_of xs a (length ys)) ≡ [] = drop_all (0 + length ys) (part_of xs a (length ys)) (omega (arith, length-part_of xs a (length ys) fits)) in
    ap (λ b. part_of (with_part xs b ys) a (length ys)) (sym z)
    ∙ part_of-inside xs a (length ys) 0 ys fits (omega arith) ∙ ap (λ zs. ys ++ zs) gone ∙ append-nil ys

pub written_part : (xs : List ℕ) (a at n : ℕ) (ys : List ℕ) → a + length ys ≤ length xs → at + n ≤ length ys → part_of (with_part xs a ys) (a + at) n ≡ part_of ys at n
written_part xs a at n ys fits within =
    let long = length-with_part xs a ys fits in
    same_lists (part_of (with_part xs a ys) (a + at) n) (part_of ys at n)
    (length-part_of (with_part xs a ys) (a + at) n (omega arith) ∙ sym (length-part_of ys at n within))
    (λ k d l.
    let below : k < n = omega (arith, length-part_of (with_part xs a ys) (a + at) n (omega arith)) in
    get_or-part_of (with_part xs a ys) (a + at) n k d below
    ∙ (let e : a + at + k ≡ a + (at + k) = omega arith in ap (λ i. get_or (with_part xs a ys) i d) e)
    ∙ sym (get_or-part_of (with_part xs a ys) a (length ys) (at + k) d (omega arith))
    ∙ ap (λ zs. get_or zs (at + k) d) (written_whole xs a ys fits)
    ∙ sym (get_or-part_of ys at n k d below))

-- ---- the loop

module _ (v : Version) (old : AreaMeaning) (bits wanted : List Bool) (body : List ℕ) (f : ℕ → List ℕ) where
  abbrev pub packs : List ℕ → List ℕ
  packs is = flat_map (λ i. packed_chunk v (f i)) is

  -- the packed chunks from `from` on
  abbrev pub after : ℕ → List ℕ
  after from = packs (filter (bit_in bits) (range_with_len from (per old.exponent - from)))

  -- the wanted chunks below `from` are loaded, and the body from place `at` on has the others
  pub record LoadedTo (now : AreaMeaning) (from at : ℕ) : Type 0 where
    pub same : now ≡ record old { content = now.content }
    pub rest : drop at body ≡ after from
    pub done : (i : ℕ) → i < from → IsSet wanted i → part_of now.content (i * size old.exponent) (length (f i)) ≡ f i
    pub others : (i n : ℕ) → i < per old.exponent → n ≤ size old.exponent → (from ≤ i) ⊎ IsClear wanted i → part_of now.content (i * size old.exponent) n ≡ part_of old.content (i * size old.exponent) n

  -- the bits from start up to end are the first that are set from `from` on
  pub record NextRun (from start end : ℕ) : Type 0 where
    pub low : from ≤ start
    pub some : start < end
    pub clear : (k : ℕ) → from ≤ k → k < start → IsClear bits k
    pub set : (k : ℕ) → start ≤ k → k < end → IsSet bits k

  module _ (is : IsBodyOf v old.exponent bits body f) (sub : (i : ℕ) → IsSet wanted i → IsSet bits i) (valid : IsValidArea old) where
    pub loaded_all : {now : AreaMeaning} {from at : ℕ} → LoadedTo now from at → ((k : ℕ) → from ≤ k → IsClear wanted k) → HoldsLoaded old now wanted f
    loaded_all {now} {from} done none = record {
      same = done.same;
      loaded = λ i h.
          elim (cases_lt i from) as (λ _. part_of now.content (i * size old.exponent) (length (f i)) ≡ f i) [
            | inl l ↦ done.done i l h
            | inr past ↦ absurd (true≢false (sym h ∙ none i past))
          ];
      others = λ i n l m clear. done.others i n l m (inr clear);
    }

    -- the chunks up to i aren't wanted, and the body from place at' on has those from i on
    pub loaded_on : {now : AreaMeaning} {from at : ℕ} (i at' : ℕ) → LoadedTo now from at → from ≤ i → ((k : ℕ) → from ≤ k → k < i → IsClear wanted k) → drop at' body ≡ after i → LoadedTo now i at'
    loaded_on {now} {from} i at' done low none rest = record {
      same = done.same;
      rest = rest;
      done = λ k l h.
          elim (cases_lt k from) as (λ _. part_of now.content (k * size old.exponent) (length (f k)) ≡ f k) [
            | inl before ↦ done.done k before h
            | inr past ↦ absurd (true≢false (sym h ∙ none k past l))
          ];
      others = λ k n l m out. done.others k n l m (elim out as (λ _. (from ≤ k) ⊎ IsClear wanted k) [ inl past ↦ inl (omega arith) | inr clear ↦ inr clear ]);
    }

    module _ {now : AreaMeaning} {from at start end : ℕ} (done : LoadedTo now from at) (run : NextRun from start end) where
      pub end_in : end ≤ per old.exponent
      end_in = let some = run.some in let l = is.below (end - 1) (run.set (end - 1) (omega arith) (omega arith)) in omega arith

      pub split_rest : drop at body ≡ packs (range_with_len start (end - start)) ++ after end
      split_rest =
          let low = run.low in
          let some = run.some in
          let top = end_in in
          let p : ℕ = per old.exponent in
          let a : from + (start - from) ≡ start = omega arith in
          let b : p - from - (start - from) ≡ p - start = omega arith in
          let c : start + (end - start) ≡ end = omega arith in
          let d : p - start - (end - start) ≡ p - end = omega arith in
          done.rest
          ∙ ap packs (filter_skip (bit_in bits) from (p - from) (start - from) (λ k l h. run.clear k l (omega arith)) (omega arith)
          ∙ ap (λ k. filter (bit_in bits) (range_with_len k (p - from - (start - from)))) a ∙ ap (λ k. filter (bit_in bits) (range_with_len start k)) b
          ∙ filter_run (bit_in bits) start (p - start) (end - start) (λ k l h. run.set k l (omega arith)) (omega arith)
          ∙ ap (λ k. range_with_len start (end - start) ++ filter (bit_in bits) (range_with_len k (p - start - (end - start)))) c
          ∙ ap (λ k. range_with_len start (end - start) ++ filter (bit_in bits) (range_with_len end k)) d)
          ∙ flat_map-append (λ i. packed_chunk v (f i)) (range_with_len start (end - start)) (filter (bit_in bits) (range_with_len end (p - end)))

      pub exponent_now : now.exponent ≡ old.exponent
      exponent_now = ap (λ (a : AreaMeaning). a.exponent) done.same

      -- the wanted ones of a run were put
      pub loaded_more : {now' : AreaMeaning} (at' : ℕ) {g : ℕ → List ℕ} → IsLoadedRange now now' wanted start end g → ((i : ℕ) → start ≤ i → i < end → g i ≡ f i) → drop at' body ≡ after end → LoadedTo now' end at'
      loaded_more {now'} at' {g} range same_bytes rest =
          let e : ℕ = old.exponent in
          let low = run.low in
          let some = run.some in
          let at_old : (i n : ℕ) → i < per e → n ≤ size e → (start ≤ i → i < end → IsSet wanted i → ⊥) → part_of now'.content (i * size e) n ≡ part_of now.content (i * size e) n =
          λ i n l m out.
          subst (λ x. part_of now'.content (i * size x) n ≡ part_of now.content (i * size x) n) exponent_now
          (range.others i n (subst (λ x. i < per x) (sym exponent_now) l) (subst (λ x. n ≤ size x) (sym exponent_now) m) out) in
          record {
            same = range.same ∙ ap (λ (a : AreaMeaning). record a { content = now'.content }) done.same;
            rest = rest;
            done = λ i l h.
                let below = is.below i (sub i h) in
                let fits = size_fits v e (length (f i)) (is.sized i (sub i h)) in
                elim (cases_lt i start) as (λ _. part_of now'.content (i * size e) (length (f i)) ≡ f i) [
                  | inl before ↦
                      at_old i (length (f i)) below fits (λ x y z. omega arith)
                      ∙ elim (cases_lt i from) as (λ _. part_of now.content (i * size e) (length (f i)) ≡ f i) [
                        | inl m ↦ done.done i m h
                        | inr between ↦ absurd (true≢false (sym (sub i h) ∙ run.clear i between before))
                      ]
                  | inr inside ↦
                      subst (λ x. part_of now'.content (i * size e) (length x) ≡ x) (same_bytes i inside l)
                      (subst (λ x. part_of now'.content (i * size x) (length (g i)) ≡ g i) exponent_now (range.loaded i inside l h))
                ];
            others = λ i n l m out.
                at_old i n l m (λ x y z. elim out as (λ _. ⊥) [ inl past ↦ omega arith | inr clear ↦ true≢false (sym z ∙ clear) ])
                ∙ done.others i n l m (elim out as (λ _. (from ≤ i) ⊎ IsClear wanted i) [ inl past ↦ inl (omega arith) | inr clear ↦ inr clear ]);
          }

-- ---- version 1: a run by one copy

module _ {old : AreaMeaning} {bits wanted : List Bool} {body : List ℕ} {f : ℕ → List ℕ} (is : IsBodyOf One old.exponent bits body f) (sub : (i : ℕ) → IsSet wanted i → IsSet bits i) (valid : IsValidArea old)
    {now : AreaMeaning} {from at start end : ℕ} (done : LoadedTo One old bits wanted body f now from at) (run : NextRun One old bits wanted body f from start end) where
  abbrev run_bytes : List ℕ
  run_bytes = flat_map f (range_with_len start (end - start))

  each_whole : (k d : ℕ) → k < length (range_with_len start (end - start)) → length (f (get_or (range_with_len start (end - start)) k d)) ≡ size old.exponent
  each_whole k d l =
      let n = length-range_with_len start (end - start) in
      ap (λ i. length (f i)) (get_or-range_with_len start (end - start) k d (omega arith)) ∙ is.sized (start + k) (run.set (start + k) (omega arith) (omega arith))

  run_len : length run_bytes ≡ (end - start) * size old.exponent
  run_len = length-flat f (size old.exponent) (range_with_len start (end - start)) each_whole ∙ ap (λ n. n * size old.exponent) (length-range_with_len start (end - start))

  split_one : drop at body ≡ run_bytes ++ after One old bits wanted body f end
  split_one = split_rest One old bits wanted body f is sub valid done run

  pub run_fits : (n : ℕ) → n ≡ (end - start) * size old.exponent → at ≤ length body → at + n ≤ length body
  run_fits n many low =
      let all = ap length split_one in
      omega (arith, length-drop at body, length-append run_bytes (after One old bits wanted body f end), run_len)

  taken_run : (n : ℕ) → n ≡ (end - start) * size old.exponent → between at (at + n) body ≡ run_bytes
  taken_run n many =
      let e : at + n - at ≡ length run_bytes = (let r = run_len in omega arith) in
      ap (λ k. take k (drop at body)) e ∙ ap (take (length run_bytes)) split_one ∙ take_at run_bytes (after One old bits wanted body f end) (length run_bytes) refl

  rest_run : (n : ℕ) → n ≡ (end - start) * size old.exponent → drop (at + n) body ≡ after One old bits wanted body f end
  rest_run n many =
      sym (drop-drop n at body) ∙ ap (drop n) split_one ∙ drop_at run_bytes (after One old bits wanted body f end) n (let r = run_len in omega arith)

  -- the bytes of chunk i in a run
  run_part : (ys : List ℕ) → ys ≡ run_bytes → (i : ℕ) → start ≤ i → i < end → part_of ys ((i - start) * size old.exponent) (size old.exponent) ≡ f i
  run_part ys same i low high =
      let n : ℕ = size old.exponent in
      let long : length (f i) ≡ n = is.sized i (run.set i low high) in
      let r = run_len in
      let o : ℕ = i - start in
      let inside = row_fits o n (end - start) n (omega arith) (omega arith) in
      ap (λ xs. part_of xs (o * n) n) same
      ∙ same_lists (part_of run_bytes (o * n) n) (f i) (length-part_of run_bytes (o * n) n (omega arith) ∙ sym long)
      (λ k d l.
      let below : k < n = omega (arith, length-part_of run_bytes (o * n) n (omega arith)) in
      get_or-part_of run_bytes (o * n) n k d below
      ∙ get_or-flat f n (range_with_len start (end - start)) o k 0 d each_whole (let m = length-range_with_len start (end - start) in omega arith) below
      ∙ ap (λ q. get_or (f q) k d) (get_or-range_with_len start (end - start) o 0 (omega arith) ∙ (let y : start + o ≡ i = omega arith in y)))

  pub more_run : {now' : AreaMeaning} {n : ℕ} {ys : List ℕ} → n ≡ (end - start) * size old.exponent → ys ≡ between at (at + n) body → IsLoadedRange now now' wanted start end (λ i. part_of ys ((i - start) * size now.exponent) (size now.exponent))
      → LoadedTo One old bits wanted body f now' end (at + n)
  more_run {now'} {n} {ys} many read range =
      let same : ys ≡ run_bytes = read ∙ taken_run n many in
      let exponent = exponent_now One old bits wanted body f is sub valid done run in
      loaded_more One old bits wanted body f is sub valid done run (at + n) range
      (λ i low high. (λ j. part_of ys ((i - start) * size (exponent j)) (size (exponent j))) ∙ run_part ys same i low high) (rest_run n many)

-- ---- version 2: a chunk after its length

small_length : (e n : ℕ) → e ≤ 16 → n ≤ size e → n < 2 ^ 32
small_length e n high l = let m = size_most e high in omega arith

module _ {old : AreaMeaning} {bits wanted : List Bool} {body : List ℕ} {f : ℕ → List ℕ} (is : IsBodyOf Two old.exponent bits body f) (sub : (i : ℕ) → IsSet wanted i → IsSet bits i) (valid : IsValidArea old)
    {now : AreaMeaning} {from at i : ℕ} (done : LoadedTo Two old bits wanted body f now from at) (run : NextRun Two old bits wanted body f from i (i + 1)) where
  abbrev head : List ℕ
  head = to_le_bytes w32 (length (f i))

  abbrev left : List ℕ
  left = after Two old bits wanted body f (i + 1)

  packed_i : IsSet bits i
  packed_i = run.set i (omega arith) (omega arith)

  pub len_i : length (f i) ≤ size old.exponent
  len_i = size_fits Two old.exponent (length (f i)) (is.sized i packed_i)

  split_two : drop at body ≡ head ++ (f i ++ left)
  split_two =
      let one : i + 1 - i ≡ 1 = omega arith in
      split_rest Two old bits wanted body f is sub valid done run
      ∙ ap (λ n. flat_map (λ k. packed_chunk Two (f k)) (range_with_len i n) ++ left) one
      ∙ ap (λ xs. xs ++ left) (append-nil (head ++ f i))
      ∙ append_assoc head (f i) left

  head_len : length head ≡ 4
  head_len = refl

  pub two_fits : at ≤ length body → at + 4 + length (f i) ≤ length body
  two_fits low =
      let all = ap length split_two in
      omega (arith, length-drop at body, length-append head (f i ++ left), length-append (f i) left, head_len)

  pub number_is : (four : List ℕ) (n : ℕ) → four ≡ between at (at + 4) body → n ≡ from_le_bytes w32 four → n ≡ length (f i)
  number_is four n read is_n =
      let e : at + 4 - at ≡ 4 = omega arith in
      let same : four ≡ head = read ∙ ap (λ k. take k (drop at body)) e ∙ ap (take 4) split_two ∙ take_at head (f i ++ left) 4 head_len in
      is_n ∙ ap (from_le_bytes w32) same ∙ from_le_bytes-to_le_bytes_4 (length (f i)) (small_length old.exponent (length (f i)) valid.greatest len_i)

  after_head : drop (at + 4) body ≡ f i ++ left
  after_head = sym (drop-drop 4 at body) ∙ ap (drop 4) split_two ∙ drop_at head (f i ++ left) 4 head_len

  pub more_two : {now' : AreaMeaning} {n : ℕ} {ys : List ℕ} → n ≡ length (f i) → ys ≡ between (at + 4) (at + 4 + n) body → IsLoadedRange now now' wanted i (i + 1) (λ _. ys)
      → LoadedTo Two old bits wanted body f now' (i + 1) (at + 4 + n)
  more_two {now'} {n} {ys} many read range =
      let e : at + 4 + n - (at + 4) ≡ length (f i) = omega arith in
      let same : ys ≡ f i = read ∙ ap (λ k. take k (drop (at + 4) body)) e ∙ ap (take (length (f i))) after_head ∙ take_at (f i) left (length (f i)) refl in
      loaded_more Two old bits wanted body f is sub valid done run (at + 4 + n) range
      (λ k low high. let same_k : i ≡ k = omega arith in same ∙ ap f same_k)
      (sym (drop-drop n (at + 4) body) ∙ ap (drop n) after_head ∙ drop_at (f i) left n (sym many))

  -- the bytes of the chunk in the body
  pub bytes_two : (n : ℕ) → n ≡ length (f i) → between (at + 4) (at + 4 + n) body ≡ f i
  bytes_two n many =
      let e : at + 4 + n - (at + 4) ≡ length (f i) = omega arith in
      ap (λ k. take k (drop (at + 4) body)) e ∙ ap (take (length (f i))) after_head ∙ take_at (f i) left (length (f i)) refl

-- ---- what the loops ask for

-- version 1, with the bytes that the body has
module _ {old : AreaMeaning} {bits wanted : List Bool} {body : List ℕ} (sub : (i : ℕ) → IsSet wanted i → IsSet bits i) (valid : IsValidArea old) (has : IsBody One old.exponent bits body) {now : AreaMeaning} {from at : ℕ}
    (inv : (f : ℕ → List ℕ) → IsBodyOf One old.exponent bits body f → LoadedTo One old bits wanted body f now from at) {start end : ℕ} (next : IsNextSet bits from start) (more : start < end)
    (all : (k : ℕ) → start ≤ k → k < end → IsSet bits k) where
  next_run : (f : ℕ → List ℕ) → NextRun One old bits wanted body f from start end
  next_run f = record { low = next.at_least; some = more; clear = next.least; set = all }

  pub one_end : end ≤ per old.exponent
  one_end = end_in One old bits wanted body has.0 has.1 sub valid (inv has.0 has.1) (next_run has.0)

  pub one_exponent : now.exponent ≡ old.exponent
  one_exponent = exponent_now One old bits wanted body has.0 has.1 sub valid (inv has.0 has.1) (next_run has.0)

  pub one_size : (s : ℕ) → s ≡ size old.exponent → (end - start) * s ≤ 65536
  one_size s is_s =
      let top = one_end in
      let all = mul-le (end - start) (size old.exponent) (per old.exponent) (size old.exponent) (omega arith) (omega arith) in
      let whole = whole_area valid.greatest in
      let e = ap (λ k. (end - start) * k) is_s in
      omega arith

  pub one_fits : {s : ℕ} → s ≡ size old.exponent → at ≤ length body → at + (end - start) * s ≤ length body
  one_fits {s} is_s low =
      run_fits has.1 sub valid (inv has.0 has.1) (next_run has.0) ((end - start) * s) (ap (λ k. (end - start) * k) is_s) low

  pub one_more : (s : ℕ) (now' : AreaMeaning) → s ≡ size old.exponent
      → IsLoadedRange now now' wanted start end (λ i. part_of (between at (at + (end - start) * s) body) ((i - start) * size now.exponent) (size now.exponent))
      → (f : ℕ → List ℕ) → IsBodyOf One old.exponent bits body f → LoadedTo One old bits wanted body f now' end (at + (end - start) * s)
  one_more s now' is_s range f is = more_run is sub valid (inv f is) (next_run f) (ap (λ k. (end - start) * k) is_s) refl range

pub first_below : {v : Version} {e : ℕ} {bits : List Bool} {body : List ℕ} (i : ℕ) → 5 ≤ e → IsBody v e bits body → IsSet bits i → i < 2048
first_below {e} i low has h = let l = has.1.below i h in let p = per_fits low in omega arith

-- version 2
module _ {old : AreaMeaning} {bits wanted : List Bool} {body : List ℕ} (sub : (i : ℕ) → IsSet wanted i → IsSet bits i) (valid : IsValidArea old) (has : IsBody Two old.exponent bits body) {now : AreaMeaning} {from at : ℕ}
    (inv : (f : ℕ → List ℕ) → IsBodyOf Two old.exponent bits body f → LoadedTo Two old bits wanted body f now from at) {i : ℕ} (next : IsNextSet bits from i) where
  next_one : (f : ℕ → List ℕ) → NextRun Two old bits wanted body f from i (i + 1)
  next_one f = record {
    low = next.at_least;
    some = omega arith;
    clear = next.least;
    set = λ k low high. (let e : k ≡ i = omega arith in ap (bit_in bits) e ∙ next.is_set);
  }

  pub two_end : i + 1 ≤ per old.exponent
  two_end = end_in Two old bits wanted body has.0 has.1 sub valid (inv has.0 has.1) (next_one has.0)

  pub two_exponent : now.exponent ≡ old.exponent
  two_exponent = exponent_now Two old bits wanted body has.0 has.1 sub valid (inv has.0 has.1) (next_one has.0)

  pub two_four : at ≤ length body → at + 4 ≤ length body
  two_four low = let a = two_fits has.1 sub valid (inv has.0 has.1) (next_one has.0) low in omega arith

  pub two_number : {n : ℕ} → n ≡ from_le_bytes w32 (between at (at + 4) body) → {f : ℕ → List ℕ} → IsBodyOf Two old.exponent bits body f → n ≡ length (f i)
  two_number {n} is_n {f} is = number_is is sub valid (inv f is) (next_one f) (between at (at + 4) body) n refl is_n

  pub two_whole : (n : ℕ) → n ≡ from_le_bytes w32 (between at (at + 4) body) → at ≤ length body → at + 4 + n ≤ length body
  two_whole n is_n low =
      let a = two_fits has.1 sub valid (inv has.0 has.1) (next_one has.0) low in
      let e = two_number is_n has.1 in
      omega arith

  -- the chunk's bytes fit into it, and are as many as their number says
  pub two_bytes : (n : ℕ) → n ≡ from_le_bytes w32 (between at (at + 4) body) → length (between (at + 4) (at + 4 + n) body) ≡ n
  two_bytes n is_n =
      let e = two_number is_n has.1 in
      ap length (bytes_two has.1 sub valid (inv has.0 has.1) (next_one has.0) n e) ∙ sym e

  pub two_room : (n : ℕ) → n ≡ from_le_bytes w32 (between at (at + 4) body) → length (between (at + 4) (at + 4 + n) body) ≤ size now.exponent
  two_room n is_n =
      let e = two_number is_n has.1 in
      let b = two_bytes n is_n in
      let fits = len_i has.1 sub valid (inv has.0 has.1) (next_one has.0) in
      let x = ap size two_exponent in
      omega arith

  pub two_more : (n : ℕ) (now' : AreaMeaning) → n ≡ from_le_bytes w32 (between at (at + 4) body) → IsLoadedRange now now' wanted i (i + 1) (λ _. between (at + 4) (at + 4 + n) body)
      → (f : ℕ → List ℕ) → IsBodyOf Two old.exponent bits body f → LoadedTo Two old bits wanted body f now' (i + 1) (at + 4 + n)
  two_more n now' is_n range f is = more_two is sub valid (inv f is) (next_one f) (two_number is_n is) refl range

  pub two_noted : {n m : ℕ} (ls : List ℕ) {ls' : List ℕ} (ls0 : List ℕ) → i < length ls → n ≡ from_le_bytes w32 (between at (at + 4) body) → m ≡ n → ls' ≡ cond (bit_in wanted i) (set ls i m) ls
      → {f : ℕ → List ℕ} → IsBodyOf Two old.exponent bits body f → NotedTo ls0 ls wanted f from → NotedTo ls0 ls' wanted f (i + 1)
  two_noted {n} {m} ls {ls'} ls0 l is_n m_is step {f} is noted =
      let low = next.at_least in
      -- another chunk's length stays
      let other : (k : ℕ) → (k ≡ i → ⊥) → get_or ls' k 0 ≡ get_or ls k 0 = λ k ne.
      ap (λ xs. get_or xs k 0) step
      ∙ elim (bit_in wanted i) as (λ b. get_or (cond b (set ls i m) ls) k 0 ≡ get_or ls k 0) [ true ↦ get_or-set_other ls i k m 0 ne | false ↦ refl ] in
      let here : IsSet wanted i → get_or ls' i 0 ≡ length (f i) = λ h.
      ap (λ xs. get_or xs i 0) (step ∙ ap (λ b. cond b (set ls i m) ls) h) ∙ get_or-set_same ls i m 0 l ∙ m_is ∙ two_number is_n is in
      let stays : IsClear wanted i → get_or ls' i 0 ≡ get_or ls i 0 = λ h. ap (λ xs. get_or xs i 0) (step ∙ ap (λ b. cond b (set ls i m) ls) h) in (
        λ k below h.
            elim (cases_eq k i) as (λ _. get_or ls' k 0 ≡ length (f k)) [
              | inl same ↦ subst (λ j. get_or ls' j 0 ≡ length (f j)) (sym same) (here (sym (ap (bit_in wanted) same) ∙ h))
              | inr ne ↦
                  other k ne
                  ∙ elim (cases_lt k from) as (λ _. get_or ls k 0 ≡ length (f k)) [
                    | inl before ↦ noted.0 k before h
                    | inr past ↦ absurd (true≢false (sym (sub k h) ∙ next.least k past (omega arith)))
                  ]
            ],
        λ k out.
            elim (cases_eq k i) as (λ _. get_or ls' k 0 ≡ get_or ls0 k 0) [
              | inl same ↦
                  let clear : IsClear wanted k = elim out as (λ _. IsClear wanted k) [ inl past ↦ absurd (omega arith) | inr c ↦ c ] in
                  subst (λ j. get_or ls' j 0 ≡ get_or ls0 j 0) (sym same) (stays (sym (ap (bit_in wanted) same) ∙ clear) ∙ noted.1 i (inl low))
              | inr ne ↦ other k ne ∙ noted.1 k (elim out as (λ _. (from ≤ k) ⊎ IsClear wanted k) [ inl past ↦ inl (omega arith) | inr clear ↦ inr clear ])
            ],
      )

pub noted_all : (ls0 ls : List ℕ) (wanted : List Bool) (f : ℕ → List ℕ) (from : ℕ) → NotedTo ls0 ls wanted f from → ((k : ℕ) → from ≤ k → IsClear wanted k) → NotesLoaded ls0 ls wanted f
noted_all ls0 ls wanted f from noted none = record {
  noted = λ i h. elim (cases_lt i from) as (λ _. get_or ls i 0 ≡ length (f i)) [ inl l ↦ noted.0 i l h | inr past ↦ absurd (true≢false (sym h ∙ none i past)) ];
  others = λ i clear. noted.1 i (inr clear);
}

-- none of the chunks up to i is wanted
pub noted_on : (ls0 ls : List ℕ) (wanted : List Bool) (f : ℕ → List ℕ) (from i : ℕ) → NotedTo ls0 ls wanted f from → from ≤ i → ((k : ℕ) → from ≤ k → k < i → IsClear wanted k) → NotedTo ls0 ls wanted f i
noted_on ls0 ls wanted f from i noted low none = (
  λ k l h. elim (cases_lt k from) as (λ _. get_or ls k 0 ≡ length (f k)) [ inl before ↦ noted.0 k before h | inr past ↦ absurd (true≢false (sym h ∙ none k past l)) ],
  λ k out. noted.1 k (elim out as (λ _. (from ≤ k) ⊎ IsClear wanted k) [ inl past ↦ inl (omega arith) | inr clear ↦ inr clear ]),
)

-- what isn't packed isn't wanted
pub clear_too : (bits wanted : List Bool) (k : ℕ) → (IsSet wanted k → IsSet bits k) → IsClear bits k → IsClear wanted k
clear_too bits wanted k sub clear = elim (bit_in wanted k) as (λ b. (b ≡ true → IsSet bits k) → b ≡ false) [ true ↦ λ set. absurd (true≢false (sym (set refl) ∙ clear)) | false ↦ λ set. refl ] sub

-- ---- the wanted ones of a run, each run of them by one copy

module _ (old : AreaMeaning) (wanted : List Bool) (first end : ℕ) (bytes : List ℕ) where
  -- the bytes of chunk i
  abbrev part : ℕ → List ℕ
  part i = part_of bytes ((i - first) * size old.exponent) (size old.exponent)

  -- the wanted chunks below `from` are loaded
  pub record RangeTo (now : AreaMeaning) (from : ℕ) : Type 0 where
    pub same : now ≡ record old { content = now.content }
    pub low : first ≤ from
    pub high : from ≤ end
    pub done : (i : ℕ) → first ≤ i → i < from → IsSet wanted i → part_of now.content (i * size old.exponent) (length (part i)) ≡ part i
    pub others : (i n : ℕ) → i < per old.exponent → n ≤ size old.exponent → (first ≤ i → i < from → IsSet wanted i → ⊥) → part_of now.content (i * size old.exponent) n ≡ part_of old.content (i * size old.exponent) n

  module _ (valid : IsValidArea old) (within : end ≤ per old.exponent) (long : length bytes ≡ (end - first) * size old.exponent) where
    part_len : (i : ℕ) → first ≤ i → i < end → length (part i) ≡ size old.exponent
    part_len i low high =
        let r = row_fits (i - first) (size old.exponent) (end - first) (size old.exponent) (omega arith) (omega arith) in
        length-part_of bytes ((i - first) * size old.exponent) (size old.exponent) (omega arith)

    -- the bytes are at most an area's
    pub range_room : (s : ℕ) → s ≡ size old.exponent → length bytes ≤ 65536
    range_room s is_s =
        let a = mul-le (end - first) (size old.exponent) (per old.exponent) (size old.exponent) (omega arith) (omega arith) in
        let w = whole_area valid.greatest in
        omega arith

    pub range_none : first ≤ end → RangeTo old first
    range_none l = record { same = refl; low = omega arith; high = l; done = λ i a b. absurd (omega arith); others = λ i n l m out. refl }

    pub range_all : {now : AreaMeaning} {from : ℕ} → RangeTo now from → ((k : ℕ) → from ≤ k → k < end → IsClear wanted k) → IsLoadedRange old now wanted first end part
    range_all {now} {from} done none = record {
      same = done.same;
      loaded = λ i a b h.
          elim (cases_lt i from) as (λ _. part_of now.content (i * size old.exponent) (length (part i)) ≡ part i) [
            | inl l ↦ done.done i a l h
            | inr past ↦ absurd (true≢false (sym h ∙ none i past b))
          ];
      others = λ i n l m out. done.others i n l m (λ a b h. out a (let top = done.high in omega arith) h);
    }

    module _ {now : AreaMeaning} {from start : ℕ} (stop : ℕ) (done : RangeTo now from) (next : IsNextSet wanted from start) (some : start < stop) (top : stop ≤ end) (all : (k : ℕ) → start ≤ k → k < stop → IsSet wanted k) where
      pub range_exponent : now.exponent ≡ old.exponent
      range_exponent = ap (λ (a : AreaMeaning). a.exponent) done.same

      -- where the run lies among the bytes, and in the area
      pub range_sizes : {s : ℕ} → s ≡ size old.exponent → ((start - first) * s + (stop - start) * s ≤ length bytes) × (start * s + (stop - start) * s ≤ 65536)
      range_sizes {s} is_s =
          let low = done.low in
          let least = next.at_least in
          let a = add-mul (start - first) (stop - start) s in
          let b = mul-le (start - first + (stop - start)) s (end - first) s (omega arith) (omega arith) in
          let c = ap (λ x. (end - first) * x) is_s in
          let d = add-mul start (stop - start) s in
          let f = mul-le (start + (stop - start)) s (per old.exponent) s (omega arith) (omega arith) in
          let g = ap (λ x. per old.exponent * x) is_s in
          let w = whole_area valid.greatest in
          (omega arith, omega arith)

      pub range_more : {s at len : ℕ} {now' : AreaMeaning} {ys : List ℕ} → s ≡ size old.exponent → at ≡ (start - first) * s → len ≡ (stop - start) * s → ys ≡ between at (at + len) bytes → length now.content ≡ 65536 → now' ≡ with_loaded now start ys → RangeTo now' stop
      range_more {at} {len} {now'} {ys} is_s at_is len_is read whole step =
          let e : ℕ = old.exponent in
          let n : ℕ = size e in
          let low = done.low in
          let least = next.at_least in
          let sizes = range_sizes refl in
          let at_n : at ≡ (start - first) * n = at_is ∙ ap (λ x. (start - first) * x) is_s in
          let len_n : len ≡ (stop - start) * n = len_is ∙ ap (λ x. (stop - start) * x) is_s in
          let fits = sizes.0 in
          let room = sizes.1 in
          let ys_is : ys ≡ part_of bytes at len = read in
          let ys_len : length ys ≡ (stop - start) * n = ap length ys_is ∙ length-part_of bytes at len (omega arith) ∙ len_n in
          let step' : now' ≡ record now { content = with_part now.content (start * n) ys } = step ∙ ap (λ k. record now { content = with_part now.content (start * size k) ys }) range_exponent in
          let content : now'.content ≡ with_part now.content (start * n) ys = ap (λ (a : AreaMeaning). a.content) step' in
          let sum = add-mul start (stop - start) n in
          let outside : (i m : ℕ) → i < per e → m ≤ n → (i < start) ⊎ (stop ≤ i) → part_of now'.content (i * n) m ≡ part_of now.content (i * n) m =
          λ i m l short out.
          let lies = chunk_fits e i valid.greatest l in
          ap (λ xs. part_of xs (i * n) m) content
          ∙ part_of-apart now.content (i * n) m (start * n) ys (omega arith) (omega arith)
          (elim out as (λ _. (i * n + m ≤ start * n) ⊎ (start * n + length ys ≤ i * n)) [
            | inl before ↦ inl (let r = row_fits i n start n before (omega arith) in omega arith)
            | inr past ↦ inr (let r = mul-le stop n i n past (omega arith) in let x : start + (stop - start) ≡ stop = omega arith in let y = ap (λ k. k * n) x in omega arith)
          ]) in
          record {
            same =
                step' ∙ ap (λ (a : AreaMeaning). record a { content = with_part now.content (start * n) ys }) done.same
                ∙ ap (λ xs. record old { content = xs }) (sym content);
            low = omega arith;
            high = top;
            done = λ i a b h.
                let l : i < per e = omega arith in
                let long_i = part_len i a (omega arith) in
                elim (cases_lt i start) as (λ _. part_of now'.content (i * n) (length (part i)) ≡ part i) [
                  | inl before ↦
                      outside i (length (part i)) l (omega arith) (inl before)
                      ∙ elim (cases_lt i from) as (λ _. part_of now.content (i * n) (length (part i)) ≡ part i) [
                        | inl m ↦ done.done i a m h
                        | inr between ↦ absurd (true≢false (sym h ∙ next.least i between before))
                      ]
                  | inr inside ↦
                      let o : ℕ = i - start in
                      let x : i * n ≡ start * n + o * n = (let t = add-mul start o n in let y : start + o ≡ i = omega arith in let z = ap (λ k. k * n) y in omega arith) in
                      let y : (i - first) * n ≡ (start - first) * n + o * n = (let t = add-mul (start - first) o n in let z : start - first + o ≡ i - first = omega arith in let w = ap (λ k. k * n) z in omega arith) in
                      let r = row_fits o n (stop - start) n (omega arith) (omega arith) in
                      ap (part_of now'.content (i * n)) long_i
                      ∙ ap (λ xs. part_of xs (i * n) n) content
                      ∙ ap (λ k. part_of (with_part now.content (start * n) ys) k n) x
                      ∙ written_part now.content (start * n) (o * n) n ys (omega arith) (omega arith)
                      ∙ ap (λ xs. part_of xs (o * n) n) ys_is
                      ∙ same_lists (part_of (part_of bytes at len) (o * n) n) (part i)
                      (length-part_of (part_of bytes at len) (o * n) n (omega (arith, length-part_of bytes at len (omega arith))) ∙ sym long_i)
                      (λ k d below.
                      let small : k < n = omega (arith, length-part_of (part_of bytes at len) (o * n) n (omega (arith, length-part_of bytes at len (omega arith)))) in
                      get_or-part_of (part_of bytes at len) (o * n) n k d small
                      ∙ get_or-part_of bytes at len (o * n + k) d (omega arith)
                      ∙ (let z : at + (o * n + k) ≡ (i - first) * n + k = omega arith in ap (λ q. get_or bytes q d) z)
                      ∙ sym (get_or-part_of bytes ((i - first) * n) n k d small))
                ];
            others = λ i m l short out.
                elim (cases_lt i start) as (λ _. part_of now'.content (i * n) m ≡ part_of old.content (i * n) m) [
                  | inl before ↦ outside i m l short (inl before) ∙ done.others i m l short (λ a b h. out a (omega arith) h)
                  | inr at_least ↦
                      elim (cases_lt i stop) as (λ _. part_of now'.content (i * n) m ≡ part_of old.content (i * n) m) [
                        | inl inside ↦ absurd (out (omega arith) inside (all i at_least inside))
                        | inr past ↦ outside i m l short (inr past) ∙ done.others i m l short (λ a b h. out a (omega arith) h)
                      ]
                ];
          }

-- ---- one chunk

pub loaded_chunk : (old now : AreaMeaning) (wanted : List Bool) (i : ℕ) (bytes : List ℕ) → IsValidArea old → i < per old.exponent → length bytes ≤ size old.exponent → IsSet wanted i → now ≡ with_loaded old i bytes → IsLoadedRange old now wanted i (i + 1) (λ _. bytes)
loaded_chunk old now wanted i bytes valid within fits set step =
    let e : ℕ = old.exponent in
    let n : ℕ = size e in
    let content : now.content ≡ with_part old.content (i * n) bytes = ap (λ (a : AreaMeaning). a.content) step in
    let whole = valid.content_len in
    let here = chunk_fits e i valid.greatest within in
    record {
      same = step ∙ ap (λ xs. record old { content = xs }) (sym content);
      loaded = λ k low high h.
          let same : k ≡ i = omega arith in
          ap (λ j. part_of now.content (j * n) (length bytes)) same ∙ ap (λ xs. part_of xs (i * n) (length bytes)) content ∙ written_whole old.content (i * n) bytes (omega arith);
      others = λ k m l short out.
          let lies = chunk_fits e k valid.greatest l in
          elim (cases_eq k i) as (λ _. part_of now.content (k * n) m ≡ part_of old.content (k * n) m) [
            | inl same ↦ absurd (out (omega arith) (omega arith) (ap (bit_in wanted) same ∙ set))
            | inr ne ↦
                ap (λ xs. part_of xs (k * n) m) content
                ∙ part_of-apart old.content (k * n) m (i * n) bytes (omega arith) (omega arith)
                (elim (chunks_apart e ne) as (λ _. (k * n + m ≤ i * n) ⊎ (i * n + length bytes ≤ k * n)) [ inl before ↦ inl (omega arith) | inr past ↦ inr (omega arith) ])
          ];
    }
