-- The next chunk in use, area by area.
use Rattle.std.proofs.Common.{◌≡◌, ℕ, ◌+◌, ◌-◌, ◌*◌, ◌^◌, ◌<◌, ◌≤◌, inl, inr, Bool, false, is_some, IsSome, None, List, length, get_or, sym, ap, subst, ◌∙◌, arith}
use Rattle.std.specs.FinMap.{get}
use Rattle.std.proofs.lemmas.Bool.{cases_lt}
use Rattle.std.proofs.lemmas.List.{get_or_past}
use Rattle.std.proofs.Math.Nat.{add-mul}
use Rattle.std.proofs.lemmas.Nat.{pow_pos, le-div, mul-le}
use Rattle.dym_base.specs.Numbers.{per, number}
use Rattle.dym_base.specs.Heaps.{HeapState}
use Rattle.dym_base.specs.Origins.{Origin}
use Rattle.dym_base.specs.declared.command.Version.{Version}
use Rattle.dym_region.specs.declared.segment.SegmentId.{SegmentId}
use Rattle.dym_heap.specs.Chunks.{ChunkMeaning}
use Rattle.dym_heap.specs.Shelves.{ShelfMeaning, IsNextUsed}
use Rattle.dym_heap.specs.SizedAreas.{SizedAreaMeaning, IsUsedFrom}
use Rattle.dym_heap.specs.Arrangement.{shelf_of}
use Rattle.dym_heap.proofs.Sizes.{per_fits}
use Rattle.dym_heap.proofs.Starts.{is_number}
use Rattle.dym_heap.proofs.ShelfCalls as calls
use Rattle.dym_heap.proofs.ShelfParts.{IsShelfOf}

-- no chunk of class e is live from index `from` up to `to`
abbrev pub FreeUpTo : HeapState → ℕ → ℕ → ℕ → Type 0
FreeUpTo s e from to = (i : ℕ) → from ≤ i → i < to → get s.live (number e i) ≡ None

module _ {v : Version} {quota : ℕ} {ids : List SegmentId} {origin : Origin} {starts : List ℕ} {sized_areas : List SizedAreaMeaning} {full : List (List Bool)} {room spare spare_room : ℕ}
    {s : ShelfMeaning} (view : shelf_of v quota ids origin starts sized_areas ≡ s) (is : IsShelfOf v quota ids starts sized_areas full room spare spare_room) {e : ℕ} (low : 5 ≤ e) (high : e ≤ 16) where
  -- how many areas class k has
  abbrev many_of : ℕ → ℕ
  many_of k = get_or starts (k + 1) 0 - get_or starts k 0

  pub count_n : {k : ℕ} → k ≡ e - 5 → (many_of k ≤ 1024) × (get_or starts k 0 ≤ get_or starts (k + 1) 0) × (get_or starts (k + 1) 0 ≤ length sized_areas)
  count_n {k} same =
      let n = calls.limit_k view is low high k same in
      let up = subst (λ x. get_or starts x 0 ≤ get_or starts (x + 1) 0) (sym same) (calls.rising_e view is low high) in
      let top = calls.end_k view is low high same in
      (let few = calls.few_s view is in omega arith, up, top)

  pub few_chunks : (k r : ℕ) → k ≡ e - 5 → r ≡ per e → many_of k * r ≤ 2097152
  few_chunks k r same is_r = let c = (count_n same).0 in let p = per_fits low in mul-le (many_of k) r 1024 2048 c (omega arith)

  pub per_least : {r : ℕ} → r ≡ per e → 0 < r
  per_least is_r = let p : 0 < per e = pow_pos (16 - e) in omega arith

  pub per_most : (r : ℕ) → r ≡ per e → r ≤ 2048
  per_most r is_r = let p = per_fits low in omega arith

  -- past the areas of the class
  pub past_all : {k r : ℕ} (i : ℕ) → i < 2 ^ 32 → k ≡ e - 5 → r ≡ per e → many_of k * r ≤ i → get s.state.live (number e i) ≡ None
  past_all {k} {r} i small same is_r far =
      let m : many_of k * r ≡ many_of (e - 5) * per e = ap (λ x. many_of x * r) same ∙ ap (λ x. many_of (e - 5) * x) is_r in
      let d = le-div (many_of (e - 5)) i (per e) (pow_pos (16 - e)) (omega arith) in
      calls.past_e view is low high i small (omega arith)

  module _ {k r : ℕ} (o : ℕ) (same : k ≡ e - 5) (is_r : r ≡ per e) (l : o < many_of k) {q : SizedAreaMeaning} (here : q ≡ get_or sized_areas (get_or starts k 0 + o) q) where
    chunk_n : (j : ℕ) → j < r → get s.state.live (number e (o * r + j)) ≡ get_or q.chunks j None
    chunk_n j below =
        let st = calls.stands_a view is low high same l in
        ap (λ x. get s.state.live (number e (o * x + j))) is_r
        ∙ ap (λ (c : ChunkMeaning). c.bytes) (calls.chunk_q view is st here (is_number o j low (calls.few_o view is st) (omega arith)))

    inside_q : (j : ℕ) → IsSome (get_or q.chunks j None) → j < r
    inside_q j some =
        elim (cases_lt j r) as (λ _. j < r) [
          | inl below ↦ below
          | inr past ↦
              (let gone : is_some (get_or q.chunks j None) ≡ false = ap is_some (get_or_past q.chunks j None (let n = calls.long_q view is (calls.stands_a view is low high same l) here in omega arith)) in absurd cc)
        ]

    pub found_n : (from : ℕ) {ch f : ℕ} → FreeUpTo s.state e from (o * r + ch) → from ≤ o * r + ch → ch < r → IsUsedFrom q.chunks ch f → (f < r) × IsNextUsed s.state e from (o * r + f)
    found_n from {ch} {f} free start small found =
        let below : f < r = inside_q f found.used in
        let at = found.at_least in (
          below,
          record {
            at_least = omega arith;
            used = ap is_some (chunk_n f below) ∙ found.used;
            least = λ i a b.
                elim (cases_lt i (o * r + ch)) as (λ _. get s.state.live (number e i) ≡ None) [
                  | inl before ↦ free i a before
                  | inr past ↦ (let h : i ≡ o * r + (i - o * r) = omega arith in ap (λ x. get s.state.live (number e x)) h ∙ chunk_n (i - o * r) (omega arith) ∙ found.least (i - o * r) (omega arith) (omega arith))
                ];
          },
        )

    pub none_n : (from ch : ℕ) → FreeUpTo s.state e from (o * r + ch) → ch < r → ((j : ℕ) → ch ≤ j → get_or q.chunks j None ≡ None) → FreeUpTo s.state e from ((o + 1) * r + 0)
    none_n from ch free small none i a b =
        let m = add-mul o 1 r in
        elim (cases_lt i (o * r + ch)) as (λ _. get s.state.live (number e i) ≡ None) [
          | inl before ↦ free i a before
          | inr past ↦ (let h : i ≡ o * r + (i - o * r) = omega arith in ap (λ x. get s.state.live (number e x)) h ∙ chunk_n (i - o * r) (omega arith) ∙ none (i - o * r) (omega arith))
        ]

  pub fits_n : {k r : ℕ} (o : ℕ) → k ≡ e - 5 → r ≡ per e → o < many_of k → o * r ≤ 2097152
  fits_n {k} {r} o same is_r l = let c = (count_n same).0 in let p = per_fits low in mul-le o r 1024 2048 (omega arith) (omega arith)

  pub end_n : (k r o i : ℕ) → i < 2 ^ 32 → k ≡ e - 5 → r ≡ per e → many_of k ≤ o → o * r ≤ i → get s.state.live (number e i) ≡ None
  end_n k r o i small same is_r past far = past_all i small same is_r (let m = mul-le (many_of k) r o r past (omega arith) in omega arith)
