-- A heap that becomes as another one is, chunk by chunk.
use Rattle.std.proofs.Common.{◌≡◌, ℕ, ◌+◌, ◌/◌, ◌^◌, ◌<◌, ◌≤◌, inl, inr, Bool, true, false, if◌then◌else◌, is_some, Some, List, refl, sym, ap, subst, ◌∙◌}
use Rattle.std.proofs.Common.{arith, true≢false}
use Rattle.std.proofs.lemmas.Bool.{cases_Bool, cases_eq, cases_lt}
use Rattle.std.specs.FinMap.{get, contains_key, insert, remove}
use Rattle.std.specs.FinSet as set
use Rattle.dym_base.specs.Heaps.{Live, HeapState, held}
use Rattle.dym_base.proofs.Heaps.{held_grows}
use Rattle.dym_base.proofs.Maps.{get_insert_here, get_insert_apart, has_removed, has_cases}
use Rattle.dym_heap.specs.Meaning.{HeapMeaning, IsSound}
use Rattle.dym_undo.specs.UndoLogs.{UndoMeaning, Belongs}
use Rattle.dym_undo_files.specs.BroughtHeaps.{IsAmong, IsKeptHeap}
use Rattle.dym_undo_files.proofs.Maps.{same_live, none_there}

pub small_key : (k : ℕ) → k / 2 ^ 32 ≤ 16 → k + 1 ≤ 2 ^ 37
small_key k within = omega (arith, within)

-- the heap with its parts as they are after a step
pub kept_heap : (a b : HeapMeaning) (u : UndoMeaning) (s : HeapState) → IsSound b → b ≡ record a { state = s; held_ids = b.held_ids } → s.touched ≡ set.empty
    → Belongs a.version a.quota s u → IsKeptHeap b u
kept_heap a b u s sound is none belongs = record {
  sound = sound;
  belongs = subst (λ (h : HeapMeaning). Belongs h.version h.quota h.state u) (sym is) belongs;
  untouched = ap (λ (h : HeapMeaning). h.state.touched) is ∙ none;
}

-- ---- chunks below a number are live in the other map too

abbrev pub AreChecked : Live → Live → ℕ → Type 0
AreChecked live other from = (q : ℕ) → q < from → contains_key live q ≡ true → contains_key other q ≡ true

module _ (live other : Live) (from k : ℕ) (checked : AreChecked live other from) (least : (q : ℕ) → from ≤ q → q < k → contains_key live q ≡ false) where
  below : (q : ℕ) → q < k → contains_key live q ≡ true → contains_key other q ≡ true
  below q lt has = elim (cases_lt q from) [
    | inl low ↦ checked q low has
    | inr past ↦ absurd (true≢false (sym has ∙ least q past lt))
  ]

  pub checked_kept : contains_key other k ≡ true → AreChecked live other (k + 1)
  checked_kept there q lt has = elim (cases_lt q k) [
    | inl low ↦ below q low has
    | inr past ↦ ap (contains_key other) (let same : q ≡ k = omega (arith, lt, past) in same) ∙ there
  ]

  pub checked_gone : AreChecked (remove live k) other (k + 1)
  checked_gone q lt has = let was = has_removed live k q has in elim (cases_lt q k) [
    | inl low ↦ below q low was.1
    | inr past ↦ absurd (was.0 (omega (arith, lt, past)))
  ]

pub checked_all : (live other : Live) (from : ℕ) → AreChecked live other from → ((q : ℕ) → from ≤ q → contains_key live q ≡ false) → IsAmong live other
checked_all live other from checked none q has = elim (cases_lt q from) [
  | inl low ↦ checked q low has
  | inr past ↦ absurd (true≢false (sym has ∙ none q past))
]

-- ---- chunks below a number are as in the other map

abbrev pub ArePut : Live → Live → ℕ → Type 0
ArePut live other from = (q : ℕ) → q < from → get live q ≡ get other q

among_none : (live other : Live) (q : ℕ) → IsAmong live other → contains_key other q ≡ false → get live q ≡ get other q
among_none live other q among gone = elim (cases_Bool (contains_key live q)) [
  | inl has ↦ absurd (true≢false (sym (among q has) ∙ gone))
  | inr none ↦ none_there (get live q) none ∙ sym (none_there (get other q) gone)
]

module _ (live other : Live) (from k : ℕ) (bytes : List ℕ) (put : ArePut live other from) (among : IsAmong live other) (is : get other k ≡ Some bytes)
    (least : (q : ℕ) → from ≤ q → q < k → contains_key other q ≡ false) where
  pub put_more : ArePut (insert live k bytes) other (k + 1)
  put_more q lt = elim (cases_eq q k) [
    | inl e ↦ get_insert_here live k bytes q e ∙ sym is ∙ ap (get other) (sym e)
    | inr ne ↦ get_insert_apart live k bytes q ne ∙ elim (cases_lt q from) [
      | inl low ↦ put q low
      | inr past ↦ among_none live other q among (least q past (omega (arith, lt, ne)))
    ]
  ]

  pub among_more : IsAmong (insert live k bytes) other
  among_more q has = elim (has_cases live k bytes q has) [
    | inl e ↦ ap (contains_key other) e ∙ ap is_some is
    | inr was ↦ among q was
  ]

  pub within_more : held (insert live k bytes) ≤ held other
  within_more = held_grows (insert live k bytes) other among_more

pub put_all : (live other : Live) (from : ℕ) → ArePut live other from → IsAmong live other → ((q : ℕ) → from ≤ q → contains_key other q ≡ false) → live ≡ other
put_all live other from put among none = same_live live other (λ q. elim (cases_lt q from) [
  | inl low ↦ put q low
  | inr past ↦ among_none live other q among (none q past)
])

pub checked_next : (live other new : Live) (from k : ℕ) → AreChecked live other from → ((q : ℕ) → from ≤ q → q < k → contains_key live q ≡ false)
    → new ≡ (if contains_key other k then live else remove live k) → AreChecked new other (k + 1)
checked_next live other new from k checked least is = by (contains_key other k) refl is
  where
    by : (b : Bool) → contains_key other k ≡ b → new ≡ (if b then live else remove live k) → AreChecked new other (k + 1)
    by true there is = subst (λ (l : Live). AreChecked l other (k + 1)) (sym is) (checked_kept live other from k checked least there)
    by false gone is = subst (λ (l : Live). AreChecked l other (k + 1)) (sym is) (checked_gone live other from k checked least)
