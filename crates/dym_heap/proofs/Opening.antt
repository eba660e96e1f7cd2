-- A shelf with no area, and the empty heap.
use Rattle.std.proofs.Common.{◌≡◌, ℕ, zero, ◌+◌, ◌-◌, ◌<◌, ◌≤◌, inl, inr, Bool, List, [], length, get_or, replicate, sym, ap, subst, ◌∙◌, arith}
use Rattle.std.specs.Prelude.{IsPermutation}
use Rattle.std.proofs.lemmas.List.Sorted.{IsPermutation-refl}
use Rattle.std.proofs.lemmas.Bool.{cases_lt, true≢false}
use Rattle.std.proofs.lemmas.List.{ext_get_or, get_or_past, length-replicate, get_or-replicate}
use Rattle.dym_base.specs.Numbers.{exponent_of}
use Rattle.dym_base.specs.Origins.{Origin}
use Rattle.dym_base.specs.Objects.{empty_heap}
use Rattle.dym_base.specs.declared.command.Version.{Version}
use Rattle.dym_region.specs.declared.segment.SegmentId.{SegmentId}
use Rattle.dym_heap.specs.Chunks.{heap_chunk}
use Rattle.dym_heap.specs.Shelves.{ShelfMeaning, IsValidShelf, IsTidy}
use Rattle.dym_heap.specs.SizedAreas.{SizedAreaMeaning}
use Rattle.dym_heap.specs.Arrangement.{HasTables, AreClear, shelf_of, chunk_among, heap_among, counts_of}
use Rattle.dym_heap.proofs.Chunks.{same_heap, chunk_empty}
use Rattle.dym_heap.proofs.Starts.{lies, heap_is}
use Rattle.dym_heap.proofs.Starts.Lies.{outside, inside}
use Rattle.dym_heap.proofs.Arranged.{length-counts, count_at}
use Rattle.dym_heap.proofs.ShelfParts.{IsShelfOf}

nowhere : (n c : ℕ) → get_or {A = ℕ} (replicate n 0) c 0 ≡ zero
nowhere n c =
    elim (cases_lt c n) as (λ _. get_or {A = ℕ} (replicate n 0) c 0 ≡ zero) [
      | inl l ↦ get_or-replicate n c 0 0 l
      | inr past ↦ get_or_past (replicate n 0) c 0 (omega (arith, length-replicate {A = ℕ} n 0))
    ]

-- the thirteen starts of no area
pub record NoStarts (starts : List ℕ) : Type 0 where
  pub long : length starts ≡ 13
  pub zeros : (c : ℕ) → get_or starts c 0 ≡ 0

pub no_starts : {starts : List ℕ} → starts ≡ replicate 13 0 → NoStarts starts
no_starts is = record {
  long = ap length is ∙ length-replicate {A = ℕ} 13 0;
  zeros = λ c. ap (λ xs. get_or xs c 0) is ∙ nowhere 13 c;
}

pub no_areas : (v : Version) (quota : ℕ) {ids : List SegmentId} {starts : List ℕ} {sized_areas : List SizedAreaMeaning} {full : List (List Bool)} (room spare spare_room : ℕ) → NoStarts starts → sized_areas ≡ [] → AreClear full → ids ≡ [] → 1 ≤ quota → quota ≤ 1024 → quota ≤ room
    → HasTables v quota 0 spare spare_room → IsShelfOf v quota ids starts sized_areas full room spare spare_room
no_areas v quota {ids} {starts} {full} room spare spare_room none empty clear held least most fits tables =
    subst (λ ps. IsShelfOf v quota ids starts ps full room spare spare_room) (sym empty) (record {
      arranged = record {
        starts_len = none.long;
        first = none.zeros 0;
        rising = λ c l. (let a = none.zeros c in let b = none.zeros (c + 1) in omega arith);
        last = none.zeros 12;
        placed = λ c o d l within. absurd (let b = none.zeros (c + 1) in omega arith);
        full_len = clear.classes;
        bits_len = clear.long;
        marked = λ c o d l within. absurd (let b = none.zeros (c + 1) in omega arith);
        mark_within = λ c o l h. absurd (let gone = clear.clear c o l in true≢false (sym h ∙ gone));
      };
      supplied = record {
        least = least;
        most = most;
        within = omega arith;
        has_room = fits;
        tables = tables;
        owned = subst (λ xs. IsPermutation xs []) (sym held) (IsPermutation-refl []);
      };
    })

pub opened : (v : Version) (quota : ℕ) {ids : List SegmentId} (origin : Origin) {starts : List ℕ} (sized_areas : List SizedAreaMeaning) → NoStarts starts → ids ≡ []
    → shelf_of v quota ids origin starts sized_areas ≡ record { version = v; quota = quota; held_ids = []; origin = origin; counts = replicate 12 0; state = empty_heap }
opened v quota origin {starts} sized_areas none held =
    let state : heap_among starts sized_areas ≡ empty_heap =
    same_heap (heap_among starts sized_areas) empty_heap (λ q.
    heap_is starts sized_areas q none.long
    ∙ elim (lies starts q none.long) as (λ _. chunk_among starts sized_areas q ≡ heap_chunk empty_heap q) [
      | outside _ gone ↦ gone sized_areas ∙ sym (chunk_empty q)
      | inside at ↦ absurd (let a = at.within in let z = none.zeros (exponent_of q - 5 + 1) in omega arith)
    ]) in
    let counts : counts_of starts ≡ replicate 12 0 =
    ext_get_or 0 (counts_of starts) (replicate 12 0) (length-counts starts ∙ sym (length-replicate {A = ℕ} 12 0)) (λ c l.
    let small : c < 12 = omega (arith, length-counts starts) in
    count_at starts c small ∙ (let a = none.zeros (c + 1) in let b : get_or {A = ℕ} (replicate 12 0) c 0 ≡ 0 = get_or-replicate 12 c 0 0 small in omega arith)) in
    λ j. record { version = v; quota = quota; held_ids = held j; origin = origin; counts = counts j; state = state j }

pub empty_tidy : (s : ShelfMeaning) → IsValidShelf s → s.counts ≡ replicate 12 0 → IsTidy s
empty_tidy s valid is = record { valid_shelf = valid; trimmed = λ e class n some. absurd (let z = ap (λ cs. get_or cs (e - 5) 0) is ∙ nowhere 12 (e - 5) in omega arith) }
