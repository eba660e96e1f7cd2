-- Sizes of classes, and where chunks lie in an area.
use Rattle.std.proofs.Common.{◌≡◌, ℕ, ◌+◌, ◌-◌, ◌*◌, ◌^◌, min, ◌<◌, ◌≤◌, ◌⊎◌, inl, inr, Bool, true, false, cond, Some, None, List, [], ◌∷◌, refl, sym, ap, ◌∙◌, arith}
use Rattle.std.specs.Prelude.{find, nat_le}
use Rattle.std.proofs.Math.Nat.{pow-le-pow_right}
use Rattle.std.proofs.lemmas.Nat.{pow-add, row_fits}
use Rattle.std.proofs.lemmas.Bool.{cases_lt, lt-leb, leb-true}
use Rattle.dym_base.specs.Numbers.{size, per, cls, classes}
use Rattle.dym_base.specs.Heaps.{HeapState}
use Rattle.dym_base.specs.HeapStep.{refused, malloc, malloc_in}
use Rattle.dym_base.specs.declared.reply.Refusal.TheVariants.{TooLarge}
use Rattle.dym_base.specs.declared.command.Version.{Version}
use Rattle.dym_base.specs.declared.command.Version.TheVariants.{One, Two}
use Rattle.dym_heap.specs.Meaning.{IsSizeOf}

-- what is found passes
passes : (p : ℕ → Bool) (xs : List ℕ) (e : ℕ) → find p xs ≡ Some e → p e ≡ true
passes p [] e is = absurd cc
passes p (x ∷ xs) e is =
    elim (p x) as (λ b. p x ≡ b → cond b (Some x) (find p xs) ≡ Some e → p e ≡ true) [
      | true ↦ λ h found. (let same : x ≡ e = cc in ap p (sym same) ∙ h)
      | false ↦ λ h found. passes p xs e found
    ] refl is

-- no length above that of the greatest class has one
abbrev All : (ℕ → Type 0) → List ℕ → Type 0
All P [] = Unit {0}
All P (x ∷ xs) = P x × All P xs

none_in : (p : ℕ → Bool) (xs : List ℕ) → All (λ e. p e ≡ false) xs → find p xs ≡ None
none_in p [] all = refl
none_in p (x ∷ xs) all = ap (λ b. cond b (Some x) (find p xs)) all.0 ∙ none_in p xs all.1

pub size_fits : (v : Version) (e n : ℕ) → IsSizeOf v e n → n ≤ size e
unfolding cls
size_fits One e n is = omega arith
size_fits Two e n is = leb-true n (size e) (passes (λ e. nat_le n (size e)) classes e is)

-- ---- chunks in an area

pub whole_area : {e : ℕ} → e ≤ 16 → per e * size e ≡ 65536
whole_area {e} high = sym (pow-add 2 (16 - e) e) ∙ (let s : 16 - e + e ≡ 16 = omega arith in ap (λ k. 2 ^ k) s)

pub chunk_fits : (e i : ℕ) → e ≤ 16 → i < per e → i * size e + size e ≤ 65536
chunk_fits e i high l = omega (arith, row_fits i (size e) (per e) (size e) l (omega arith), whole_area high)

pub chunks_apart : (e : ℕ) {i k : ℕ} → (k ≡ i → ⊥) → (k * size e + size e ≤ i * size e) ⊎ (i * size e + size e ≤ k * size e)
chunks_apart e {i} {k} ne =
    elim (cases_lt k i) as (λ _. (k * size e + size e ≤ i * size e) ⊎ (i * size e + size e ≤ k * size e)) [
      | inl l ↦ inl (row_fits k (size e) i (size e) l (omega arith))
      | inr past ↦ inr (row_fits i (size e) k (size e) (omega arith) (omega arith))
    ]

pub per_fits : {e : ℕ} → 5 ≤ e → per e ≤ 2048
per_fits {e} low = pow-le-pow_right {n = 2} (omega arith) {i = 16 - e} {j = 11} (omega arith)

pub size_least : (e : ℕ) → 5 ≤ e → 32 ≤ size e
size_least e low = pow-le-pow_right {n = 2} (omega arith) {i = 5} {j = e} low

pub size_most : (e : ℕ) → e ≤ 16 → size e ≤ 65536
size_most e high = pow-le-pow_right {n = 2} (omega arith) {i = e} {j = 16} high

above_classes : (n : ℕ) → 65536 < n → All (λ e. nat_le n (size e) ≡ false) classes
above_classes n l =
    (lt-leb n (size 5) (omega arith), (lt-leb n (size 6) (omega arith), (lt-leb n (size 7) (omega arith), (lt-leb n (size 8) (omega arith), (lt-leb n (size 9) (omega arith), (lt-leb n (size 10) (omega arith), (lt-leb n (size 11) (omega arith), (lt-leb n (size 12) (omega arith), (lt-leb n (size 13) (omega arith), (lt-leb n (size 14) (omega arith), (lt-leb n (size 15) (omega arith), (lt-leb n (size 16) (omega arith), tt))))))))))))

pub too_large : (n : ℕ) → 65536 < n → cls n ≡ None
unfolding cls
too_large n l = none_in (λ e. nat_le n (size e)) classes (above_classes n l)

-- what is too large is refused, however large
too_large_alike : (v : Version) (quota : ℕ) (s : HeapState) (n : ℕ) → 65536 < n → malloc v quota s n ≡ refused s TooLarge
too_large_alike v quota s n big = ap (malloc_in v quota s n) (too_large n big)

-- a length that stops at the greatest number of 64 bits
pub malloc_saturated : (v : Version) (quota : ℕ) (s : HeapState) (n : ℕ) → malloc v quota s (min n (2 ^ 64 - 1)) ≡ malloc v quota s n
malloc_saturated v quota s n =
    elim (cases_lt n (2 ^ 64)) as (λ _. malloc v quota s (min n (2 ^ 64 - 1)) ≡ malloc v quota s n) [
      | inl small ↦ ap (malloc v quota s) (let is : min n (2 ^ 64 - 1) ≡ n = omega arith in is)
      | inr big ↦
          too_large_alike v quota s (min n (2 ^ 64 - 1)) (omega arith)
          ∙ sym (too_large_alike v quota s n (omega arith))
    ]
