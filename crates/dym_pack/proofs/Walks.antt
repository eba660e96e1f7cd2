-- The chunk after some others, in bytes of version 2.
use Rattle.std.proofs.Common.{◌≡◌, ℕ, suc, ◌+◌, ◌<◌, ◌≤◌, ◌^◌, List, [], ◌∷◌, ◌++◌, length, take, drop, refl, sym, ap, ◌∙◌, arith}
use Rattle.std.specs.Int.{w32, to_le_bytes, from_le_bytes}
use Rattle.std.specs.List.{flat_map, AllByRecursion}
use Rattle.std.proofs.lemmas.List.{take_at, drop_at, drop-drop, append_assoc, length-append, length-drop}
use Rattle.std.proofs.lemmas.Nat.{from_le_bytes-to_le_bytes_4}
use Rattle.dym_base.specs.Packed.{packed_chunk}
use Rattle.dym_base.specs.declared.command.Version.TheVariants.{Two}
use Rattle.dym_pack.specs.ParsedAreas.{IsNth}

-- the length that stands before a chunk
pub length_read : (x rest : List ℕ) → length x < 2 ^ 32 → from_le_bytes w32 (take 4 (packed_chunk Two x ++ rest)) ≡ length x
length_read x rest small =
    ap (λ bytes. from_le_bytes w32 (take 4 bytes)) (append_assoc (to_le_bytes w32 (length x)) x rest)
    ∙ from_le_bytes-to_le_bytes_4 (length x) small

after_length : (x rest : List ℕ) → drop 4 (packed_chunk Two x ++ rest) ≡ x ++ rest
after_length x rest = ap (drop 4) (append_assoc (to_le_bytes w32 (length x)) x rest)

pub chunk_long : (x rest : List ℕ) → length (packed_chunk Two x ++ rest) ≡ 4 + length x + length rest
chunk_long x rest = ap length (append_assoc (to_le_bytes w32 (length x)) x rest) ∙ omega (arith, length-append x rest)

-- what a chunk in its place says
pub record IsHere (bytes : List ℕ) (at len : ℕ) : Type 0 where
  pub room : at + 4 + len ≤ length bytes
  pub long : from_le_bytes w32 (take 4 (drop at bytes)) ≡ len

-- the last one
pub here_last : (bytes : List ℕ) (at : ℕ) (x : List ℕ) → at ≤ length bytes → IsNth (drop at bytes) 0 x → IsHere bytes at (length x) × (take (length x) (drop (at + 4) bytes) ≡ x)
here_last bytes at x within is = last bytes at x within is.before is.rest is.count is.small is.is
  where
    last : (bytes : List ℕ) (at : ℕ) (x : List ℕ) → at ≤ length bytes → (before : List (List ℕ)) (rest : List ℕ) → length before ≡ 0 → length x < 2 ^ 32 → drop at bytes ≡ flat_map (packed_chunk Two) before ++ (packed_chunk Two x ++ rest) → IsHere bytes at (length x) × (take (length x) (drop (at + 4) bytes) ≡ x)
    last bytes at x within [] rest none small is = (
      record {
        room = omega (arith, ap length is, length-drop at bytes, chunk_long x rest);
        long = ap (λ ys. from_le_bytes w32 (take 4 ys)) is ∙ length_read x rest small;
      },
      ap (take (length x)) (sym (drop-drop 4 at bytes) ∙ ap (drop 4) is ∙ after_length x rest) ∙ take_at x rest (length x) refl,
    )
    last bytes at x within (c ∷ cs) rest none small is = absurd (omega arith)

-- one before it
pub here_more : (bytes : List ℕ) (at n : ℕ) (x : List ℕ) → at ≤ length bytes → IsNth (drop at bytes) (suc n) x → (len : ℕ) × IsHere bytes at len × IsNth (drop (at + (4 + len)) bytes) n x
here_more bytes at n x within is = more bytes at n x within is.before is.rest is.count is.fits is.small is.is
  where
    more : (bytes : List ℕ) (at n : ℕ) (x : List ℕ) → at ≤ length bytes → (before : List (List ℕ)) (rest : List ℕ) → length before ≡ suc n → AllByRecursion (λ chunk. length chunk < 2 ^ 32) before → length x < 2 ^ 32 → drop at bytes ≡ flat_map (packed_chunk Two) before ++ (packed_chunk Two x ++ rest) → (len : ℕ) × IsHere bytes at len × IsNth (drop (at + (4 + len)) bytes) n x
    more bytes at n x within [] rest some fits small is = absurd (omega arith)
    more bytes at n x within (c ∷ cs) rest some fits small is =
        let later = flat_map (packed_chunk Two) cs ++ (packed_chunk Two x ++ rest) in
        let split : drop at bytes ≡ packed_chunk Two c ++ later = is ∙ append_assoc (packed_chunk Two c) (flat_map (packed_chunk Two) cs) (packed_chunk Two x ++ rest) in (
          length c,
          record {
            room = omega (arith, ap length split, length-drop at bytes, chunk_long c later);
            long = ap (λ ys. from_le_bytes w32 (take 4 ys)) split ∙ length_read c later fits.0;
          },
          record {
            before = cs;
            rest = rest;
            count = omega arith;
            fits = fits.1;
            small = small;
            is = sym (drop-drop (4 + length c) at bytes) ∙ ap (drop (4 + length c)) split ∙ drop_at (packed_chunk Two c) later (4 + length c) (omega (arith, length-append {A = ℕ}));
          },
        )
