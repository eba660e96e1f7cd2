-- The packed chunks that bytes begin with.
use Rattle.std.proofs.Common.{◌≡◌, ℕ, zero, suc, ◌+◌, ◌*◌, ◌^◌, ◌<◌, ◌≤◌, Some, List, [], ◌∷◌, ◌++◌, length, take, drop, refl, sym, ap, subst, ◌∙◌, arith}
use Rattle.std.specs.Int.{w32, to_le_bytes, from_le_bytes}
use Rattle.std.specs.List.{flat_map, AllByRecursion}
use Rattle.std.proofs.lemmas.List.{drop_at, append_assoc, append-nil, length-append, length-take, length-drop, take-append-drop}
use Rattle.std.proofs.lemmas.List.Concat.{flat_map-append}
use Rattle.std.proofs.lemmas.Nat.{le_bytes_4}
use Rattle.std.proofs.Math.Nat.{suc-mul}
use Rattle.std.proofs.Math.Pow.{pow_mono}
use Rattle.std.proofs.Common.{get_or}
use Rattle.dym_base.specs.Numbers.{size, cls}
use Rattle.dym_base.specs.Laws.{IsLengthOf}
use Rattle.dym_base.specs.Packed.{packed_chunk}
use Rattle.dym_base.specs.declared.command.Version.{Version}
use Rattle.dym_base.specs.declared.command.Version.TheVariants.{One, Two}
use Rattle.dym_base.proofs.Classes.{cls_class}
use Rattle.dym_pack.specs.Contents.{IsBody}
use Rattle.dym_pack.proofs.Walks.{length_read, chunk_long}

abbrev Sized : Version → ℕ → List (List ℕ) → Type 0
Sized v e chunks = AllByRecursion (λ (chunk : List ℕ). IsLengthOf v e (length chunk)) chunks

sized_append : (v : Version) (e : ℕ) (xs ys : List (List ℕ)) → Sized v e xs → Sized v e ys → Sized v e (xs ++ ys)
sized_append v e [] ys each others = others
sized_append v e (x ∷ xs) ys each others = (each.0, sized_append v e xs ys each.1 others)

-- no chunks
pub body_none : (v : Version) (e : ℕ) (bytes : List ℕ) → IsBody v e 0 bytes 0
body_none v e bytes = record { chunks = []; rest = bytes; count = refl; sized = tt; are = refl; long = refl }

pub body_none_only : (v : Version) (e : ℕ) (bytes : List ℕ) (len : ℕ) → IsBody v e 0 bytes len → len ≡ 0
body_none_only v e bytes len is = none v len is.chunks is.count is.long
  where
    none : (v : Version) (len : ℕ) (chunks : List (List ℕ)) → length chunks ≡ 0 → len ≡ length (flat_map (packed_chunk v) chunks) → len ≡ 0
    none v len [] count long = long
    none v len (x ∷ xs) count long = absurd (omega arith)

pub body_within : (v : Version) (e n : ℕ) (bytes : List ℕ) (len : ℕ) → IsBody v e n bytes len → len ≤ length bytes
body_within v e n bytes len is = omega (arith, is.long, ap length is.are, length-append (flat_map (packed_chunk v) is.chunks) is.rest)

-- what stands behind a body
pub body_left : (v : Version) (e n : ℕ) (bytes : List ℕ) (len : ℕ) (is : IsBody v e n bytes len) → drop len bytes ≡ is.rest
body_left v e n bytes len is = ap (drop len) is.are ∙ drop_at (flat_map (packed_chunk v) is.chunks) is.rest len (sym is.long)

-- a body behind another
pub body_append : (v : Version) (e n m : ℕ) (bytes : List ℕ) (at more : ℕ) → IsBody v e n bytes at → IsBody v e m (drop at bytes) more → IsBody v e (n + m) bytes (at + more)
body_append v e n m bytes at more is next = record {
  chunks = is.chunks ++ next.chunks;
  rest = next.rest;
  count = omega (arith, length-append is.chunks next.chunks, is.count, next.count);
  sized = sized_append v e is.chunks next.chunks is.sized next.sized;
  are = is.are
      ∙ ap (λ ys. flat_map (packed_chunk v) is.chunks ++ ys) (sym (body_left v e n bytes at is) ∙ next.are)
      ∙ sym (append_assoc (flat_map (packed_chunk v) is.chunks) (flat_map (packed_chunk v) next.chunks) next.rest)
      ∙ ap (λ ys. ys ++ next.rest) (sym (flat_map-append (packed_chunk v) is.chunks next.chunks));
  long = omega (arith, is.long, next.long, ap length (flat_map-append (packed_chunk v) is.chunks next.chunks), length-append (flat_map (packed_chunk v) is.chunks) (flat_map (packed_chunk v) next.chunks));
}

-- the first chunk of a body, and the others
pub record Split (v : Version) (e n : ℕ) (bytes : List ℕ) (len : ℕ) : Type 0 where
  pub first : ℕ
  pub more : ℕ
  pub one : IsBody v e 1 bytes first
  pub others : IsBody v e n (drop first bytes) more
  pub sum : len ≡ first + more

pub body_split : (v : Version) (e n : ℕ) (bytes : List ℕ) (len : ℕ) → IsBody v e (suc n) bytes len → Split v e n bytes len
body_split v e n bytes len is = split v e n bytes len is.chunks is.rest is.count is.sized is.are is.long
  where
    split : (v : Version) (e n : ℕ) (bytes : List ℕ) (len : ℕ) (chunks : List (List ℕ)) (rest : List ℕ) → length chunks ≡ suc n → Sized v e chunks → bytes ≡ flat_map (packed_chunk v) chunks ++ rest → len ≡ length (flat_map (packed_chunk v) chunks) → Split v e n bytes len
    split v e n bytes len [] rest count sized are long = absurd (omega arith)
    split v e n bytes len (x ∷ xs) rest count sized are long =
        let part = packed_chunk v x in
        let others = flat_map (packed_chunk v) xs in
        let apart : bytes ≡ part ++ (others ++ rest) = are ∙ append_assoc part others rest in
        record {
          first = length part;
          more = length others;
          one = record {
            chunks = x ∷ [];
            rest = others ++ rest;
            count = refl;
            sized = (sized.0, tt);
            are = apart ∙ ap (λ ys. ys ++ (others ++ rest)) (sym (append-nil part));
            long = ap length (sym (append-nil part));
          };
          others = record {
            chunks = xs;
            rest = rest;
            count = omega arith;
            sized = sized.1;
            are = ap (drop (length part)) apart ∙ drop_at part (others ++ rest) (length part) refl;
            long = refl;
          };
          sum = long ∙ length-append part others;
        }

-- ---- version 1

sized_long : (e : ℕ) (chunks : List (List ℕ)) → Sized One e chunks → length (flat_map (packed_chunk One) chunks) ≡ length chunks * size e
sized_long e [] sized = omega arith
sized_long e (x ∷ xs) sized =
    length-append x (flat_map (packed_chunk One) xs)
    ∙ omega (arith, sized.0, sized_long e xs sized.1, suc-mul (length xs) (size e))

pub body_one_only : (e n : ℕ) (bytes : List ℕ) (len : ℕ) → IsBody One e n bytes len → len ≡ n * size e
body_one_only e n bytes len is = is.long ∙ sized_long e is.chunks is.sized ∙ ap (λ m. m * size e) is.count

pub body_one_is : (e n : ℕ) (bytes : List ℕ) → n * size e ≤ length bytes → IsBody One e n bytes (n * size e)
body_one_is e zero bytes room = (let none : 0 ≡ 0 * size e = omega arith in subst (IsBody One e 0 bytes) none (body_none One e bytes))
body_one_is e (suc n) bytes room =
    let s = size e in
    let all = suc-mul n (size e) in
    let first : IsBody One e 1 bytes s = record {
      chunks = take s bytes ∷ [];
      rest = drop s bytes;
      count = refl;
      sized = (length-take s bytes ∙ omega arith, tt);
      are = sym (take-append-drop s bytes) ∙ ap (λ ys. ys ++ drop s bytes) (sym (append-nil (take s bytes)));
      long = sym (ap length (append-nil (take s bytes)) ∙ length-take s bytes ∙ omega arith);
    } in
    let others : IsBody One e n (drop s bytes) (n * s) = body_one_is e n (drop s bytes) (omega (arith, length-drop s bytes)) in
    let sum : s + n * s ≡ suc n * s = omega arith in
    let more : 1 + n ≡ suc n = omega arith in
    subst (λ m. IsBody One e m bytes (suc n * s)) more (subst (IsBody One e (1 + n) bytes) sum (body_append One e 1 n bytes s (n * s) first others))

-- ---- version 2

len_small : (e n : ℕ) → cls n ≡ Some e → n < 2 ^ 32
len_small e n is =
    let found = cls_class n e is in
    let most : 2 ^ e ≤ 2 ^ 16 = pow_mono {i = e} {j = 16} found.1 in
    omega (arith, found.2)

-- a chunk in its place
pub chunk_two_is : (e n : ℕ) (bytes : List ℕ) → ((i : ℕ) → get_or bytes i 0 < 256) → n ≡ from_le_bytes w32 (take 4 (drop 0 bytes)) → cls n ≡ Some e → 4 + n ≤ length bytes → IsBody Two e 1 bytes (4 + n)
chunk_two_is e n bytes small is class room =
    let chunk = take n (drop 4 bytes) in
    let long : length chunk ≡ n = length-take n (drop 4 bytes) ∙ omega (arith, length-drop 4 bytes) in
    let number : to_le_bytes w32 n ≡ take 4 bytes = le_bytes_4 (take 4 bytes) n (length-take 4 bytes ∙ omega arith) (front_small bytes small 4) is in
    let packed : packed_chunk Two chunk ≡ take 4 bytes ++ chunk = ap (λ m. to_le_bytes w32 m ++ chunk) long ∙ ap (λ ys. ys ++ chunk) number in
    record {
      chunks = chunk ∷ [];
      rest = drop n (drop 4 bytes);
      count = refl;
      sized = (ap cls long ∙ class, tt);
      are = sym (take-append-drop 4 bytes)
          ∙ ap (λ ys. take 4 bytes ++ ys) (sym (take-append-drop n (drop 4 bytes)))
          ∙ sym (append_assoc (take 4 bytes) chunk (drop n (drop 4 bytes)))
          ∙ ap (λ ys. ys ++ drop n (drop 4 bytes)) (sym (append-nil (packed_chunk Two chunk) ∙ packed));
      long = omega (arith, ap length (append-nil (packed_chunk Two chunk)), ap length packed, length-append (take 4 bytes) chunk, length-take 4 bytes);
    }
  where
    front_small : (bytes : List ℕ) → ((i : ℕ) → get_or bytes i 0 < 256) → (n i : ℕ) → get_or (take n bytes) i 0 < 256
    front_small bytes small zero i = omega arith
    front_small [] small (suc n) i = omega arith
    front_small (b ∷ bytes) small (suc n) zero = small 0
    front_small (b ∷ bytes) small (suc n) (suc i) = front_small bytes (λ j. small (suc j)) n i

pub record IsChunkHere (e : ℕ) (bytes : List ℕ) (len : ℕ) : Type 0 where
  pub room : len ≤ length bytes
  pub four : 4 ≤ len
  pub number : from_le_bytes w32 (take 4 (drop 0 bytes)) + 4 ≡ len
  pub class : cls (from_le_bytes w32 (take 4 (drop 0 bytes))) ≡ Some e

pub chunk_two_only : (e : ℕ) (bytes : List ℕ) (len : ℕ) → IsBody Two e 1 bytes len → IsChunkHere e bytes len
chunk_two_only e bytes len is = here is.chunks is.rest is.count is.sized is.are is.long
  where
    here : (chunks : List (List ℕ)) (rest : List ℕ) → length chunks ≡ 1 → Sized Two e chunks → bytes ≡ flat_map (packed_chunk Two) chunks ++ rest → len ≡ length (flat_map (packed_chunk Two) chunks) → IsChunkHere e bytes len
    here [] rest count sized are long = absurd (omega arith)
    here (x ∷ y ∷ xs) rest count sized are long = absurd (omega arith)
    here (x ∷ []) rest count sized are long =
        let one : bytes ≡ packed_chunk Two x ++ rest = are ∙ ap (λ ys. ys ++ rest) (append-nil (packed_chunk Two x)) in
        let number : from_le_bytes w32 (take 4 (drop 0 bytes)) ≡ length x
        = ap (λ ys. from_le_bytes w32 (take 4 ys)) one ∙ length_read x rest (len_small e (length x) sized.0) in
        let size : len ≡ 4 + length x = long ∙ ap length (append-nil (packed_chunk Two x)) ∙ length-append (to_le_bytes w32 (length x)) x in
        record {
          room = omega (arith, ap length one, chunk_long x rest);
          four = omega arith;
          number = omega arith;
          class = ap cls number ∙ sized.0;
        }
