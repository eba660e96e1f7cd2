-- An arrangement after one of its areas changed, came or went.
use Rattle.std.proofs.Common.{◌≡◌, ℕ, zero, suc, ◌+◌, ◌-◌, ◌/◌, ◌%◌, ◌<◌, ◌≤◌, ◌⊎◌, ◌↔◌, inl, inr, Bool, true, false, cond, IsTrue, is_some, IsSome, Option, Some, None, List, [], ◌∷◌, length, get_or, set, map, sum, refl, sym, ap, subst, ◌∙◌, arith, length-set, get_or-set_same, get_or-set_other, add-zero}
use Rattle.std.specs.List.{insert, remove, range_with_len}
use Rattle.std.proofs.lemmas.Bool.{cases_eq, cases_lt, true≢false}
use Rattle.std.proofs.lemmas.List.{ext_get_or}
use Rattle.std.proofs.lemmas.List.Edits.{length-insert, get_or-insert_below, get_or-insert_at, get_or-insert_above, length-remove, get_or-remove_below, get_or-remove_above}
use Rattle.std.proofs.lemmas.List.FromFn.{length-map-range_with_len, get_or-map-range_with_len}
use Rattle.std.proofs.lemmas.List.Sums.{sum_by-cons}
use Rattle.dym_base.specs.Numbers.{per, exponent_of, index_of}
use Rattle.dym_base.specs.declared.command.Version.{Version}
use Rattle.dym_base.specs.declared.limits.TheConstants.{MOST_CHUNKS}
use Rattle.dym_bits.specs.Bits.{bit_in, IsClear}
use Rattle.dym_heap.specs.Chunks.{no_chunk}
use Rattle.dym_heap.specs.Fetches.{area_chunk}
use Rattle.dym_heap.specs.SizedAreas.{SizedAreaMeaning}
use Rattle.dym_heap.specs.Arrangement.{IsPlaced, IsFullArea, HasFree, IsMarked, IsArranged, Shifts, Unshifts, marks_of_class, place_of_number, no_area, chunk_among, heap_among, counts_of}
use Rattle.dym_heap.proofs.Chunks.{same_heap}
use Rattle.dym_heap.proofs.Starts.{starts_upto, class_end, Inside, lies, among_in, heap_is}
use Rattle.dym_heap.proofs.Starts.Lies.{outside, inside}

-- ---- marks

-- the marks are right for the area o of class c, which is now p, and as before for all others
pub record Remarks (full full' : List (List Bool)) (c o : ℕ) (p : SizedAreaMeaning) : Type 0 where
  pub full_len : length full' ≡ 12
  pub bits_len : (d : ℕ) → d < 12 → length (marks_of_class full' d) ≡ MOST_CHUNKS
  pub others : (d q : ℕ) → (d ≡ c → q ≡ o → ⊥) → bit_in (marks_of_class full' d) q ≡ bit_in (marks_of_class full d) q
  pub mark : IsMarked (bit_in (marks_of_class full' c) o) p

-- a mark is set or cleared
abbrev pub marks_with : List (List Bool) → ℕ → ℕ → Bool → List (List Bool)
marks_with full c o b = set full c (set (marks_of_class full c) o b)

all_of : (x : List ℕ) (cs : List (Option (List ℕ))) → ((i : ℕ) → i < length cs → IsSome (get_or cs i None)) → (i : ℕ) → i < length (Some x ∷ cs) → IsSome (get_or (Some x ∷ cs) i None)
all_of x cs all zero l = refl
all_of x cs all (suc i) l = all i (omega arith)

find_free : (cs : List (Option (List ℕ))) → (((i : ℕ) → i < length cs → IsSome (get_or cs i None)) → ⊥) → (i : ℕ) × (i < length cs) × (get_or cs i None ≡ None)
find_free [] not_all = absurd (not_all (λ i l. absurd (omega arith)))
find_free (None ∷ cs) not_all = (0, omega arith, refl)
find_free (Some x ∷ cs) not_all =
    let rest = find_free cs (λ all. not_all (all_of x cs all)) in
    let l = rest.1 in
    (suc rest.0, omega arith, rest.2)

-- an area that is not full has a free chunk
pub marked_by : {b : Bool} {p : SizedAreaMeaning} → IsTrue b ↔ IsFullArea p → IsMarked b p
marked_by {b} {p} filled = record { full = λ h. filled.0 h; free = λ h. find_free p.chunks (λ all. (let t = filled.1 all in absurd (true≢false (sym t ∙ h)))) }

pub not_both : (p : SizedAreaMeaning) → IsFullArea p → HasFree p → ⊥
not_both p full free = let used = full free.0 free.1 in let gone = ap is_some free.2 in absurd cc

module _ {v : Version} {starts : List ℕ} {sized_areas : List SizedAreaMeaning} {full : List (List Bool)} (is : IsArranged v starts sized_areas full) where
  pub remarks_with : (c o : ℕ) (p : SizedAreaMeaning) (b : Bool) → c < 12 → o < MOST_CHUNKS → IsMarked b p → Remarks full (marks_with full c o b) c o p
  remarks_with c o p b l small mark =
      let many = is.full_len in
      let long = is.bits_len c l in
      let full' : List (List Bool) = marks_with full c o b in
      let row : marks_of_class full' c ≡ set (marks_of_class full c) o b = get_or-set_same full c (set (marks_of_class full c) o b) [] (omega arith) in
      let other : (d : ℕ) → (d ≡ c → ⊥) → (marks_of_class full' d ≡ marks_of_class full d) = λ d ne. get_or-set_other full c d (set (marks_of_class full c) o b) [] ne in
      record {
        full_len = length-set full c _ ∙ is.full_len;
        bits_len = λ d m.
            elim (cases_eq d c) as (λ _. length (marks_of_class full' d) ≡ MOST_CHUNKS) [
              | inl same ↦ ap (λ x. length (marks_of_class full' x)) same ∙ ap length row ∙ length-set (marks_of_class full c) o b ∙ long
              | inr ne ↦ ap length (other d ne) ∙ is.bits_len d m
            ];
        others = λ d q apart.
            elim (cases_eq d c) as (λ _. bit_in (marks_of_class full' d) q ≡ bit_in (marks_of_class full d) q) [
              | inl same ↦
                  ap (λ x. bit_in (marks_of_class full' x) q) same ∙ ap (λ bits. bit_in bits q) row
                  ∙ get_or-set_other (marks_of_class full c) o q b false (apart same) ∙ sym (ap (λ x. bit_in (marks_of_class full x) q) same)
              | inr ne ↦ ap (λ bits. bit_in bits q) (other d ne)
            ];
        mark = subst (λ x. IsMarked x p) (sym (ap (λ bits. bit_in bits o) row ∙ get_or-set_same (marks_of_class full c) o b false (omega arith))) mark;
      }

  remarks_stay : (c o : ℕ) {p : SizedAreaMeaning} → IsMarked (bit_in (marks_of_class full c) o) p → Remarks full full c o p
  remarks_stay c o mark = record { full_len = is.full_len; bits_len = is.bits_len; others = λ _ _ _. refl; mark = mark }

  -- a free chunk was taken, and a mark is set where the area is full now
  pub remarks_taken : {full' : List (List Bool)} (c o : ℕ) (p : SizedAreaMeaning) (b : Bool) → c < 12 → o < MOST_CHUNKS
      → IsClear (marks_of_class full c) o → full' ≡ cond b (marks_with full c o true) full → IsTrue b ↔ IsFullArea p → Remarks full full' c o p
  remarks_taken {full'} c o p b l small clear after filled =
      elim b as (λ x. IsMarked x p → full' ≡ cond x (marks_with full c o true) full → Remarks full full' c o p) [
        | true ↦ λ mark now. subst (λ f. Remarks full f c o p) (sym now) (remarks_with c o p true l small mark)
        | false ↦ λ mark now. subst (λ f. Remarks full f c o p) (sym now) (remarks_stay c o (subst (λ x. IsMarked x p) (sym clear) mark))
      ] (marked_by filled) after

  -- as many chunks are in use as before
  pub remarks_kept : {c o : ℕ} {q p : SizedAreaMeaning} → c < 12 → get_or starts c 0 + o < get_or starts (c + 1) 0 → q ≡ get_or sized_areas (get_or starts c 0 + o) q
      → length p.chunks ≡ length q.chunks → ((i : ℕ) → is_some (get_or p.chunks i None) ≡ is_some (get_or q.chunks i None)) → Remarks full full c o p
  remarks_kept {c} {o} {q} {p} l within here long same =
      let was : IsMarked (bit_in (marks_of_class full c) o) q = subst (IsMarked (bit_in (marks_of_class full c) o)) (sym here) (is.marked c o q l within) in
      remarks_stay c o (record {
        full = λ h i m. same i ∙ was.full h i (omega arith);
        free = λ h. let free = was.free h in (free.0, (let m = free.1 in omega arith), none_of (get_or p.chunks free.0 None) (same free.0 ∙ ap is_some free.2));
      })
    where
      none_of : (o : Option (List ℕ)) → is_some o ≡ false → o ≡ None
      none_of None h = refl
      none_of (Some x) h = absurd cc

  -- ---- an area changes

  -- two classes don't share a place
  pub apart : {c d : ℕ} (o q : ℕ) → c < 12 → d < 12
      → get_or starts c 0 + o < get_or starts (c + 1) 0 → get_or starts d 0 + q < get_or starts (d + 1) 0 → get_or starts c 0 + o ≡ get_or starts d 0 + q → (c ≡ d) × (o ≡ q)
  apart {c} {d} o q l m within within' same =
      elim (cases_eq c d) as (λ _. (c ≡ d) × (o ≡ q)) [
        | inl one ↦ (one, (let e = ap (λ k. get_or starts k 0) one in omega arith))
        | inr ne ↦ absurd (elim (cases_lt c d) as (λ _. ⊥) [
          | inl low ↦ (let up = starts_upto (c + 1) d is (omega arith) (omega arith) in omega arith)
          | inr high ↦ (let up = starts_upto (d + 1) c is (omega arith) (omega arith) in omega arith)
        ])
      ]

  -- what is true of the new area, and of each other one as it was
  replaced : {c o k : ℕ} {p : SizedAreaMeaning} (P : ℕ → ℕ → SizedAreaMeaning → Type 0) → c < 12 → get_or starts c 0 + o < get_or starts (c + 1) 0 → k ≡ get_or starts c 0 + o → P c o p
      → ((d q : ℕ) (z : SizedAreaMeaning) → d < 12 → get_or starts d 0 + q < get_or starts (d + 1) 0 → (d ≡ c → q ≡ o → ⊥) → P d q (get_or sized_areas (get_or starts d 0 + q) z))
      → (d q : ℕ) (z : SizedAreaMeaning) → d < 12 → get_or starts d 0 + q < get_or starts (d + 1) 0 → P d q (get_or (set sized_areas k p) (get_or starts d 0 + q) z)
  replaced {c} {o} {k} {p} P l within at new others d q z m within' =
      let top = class_end is l in
      elim (cases_eq (get_or starts d 0 + q) k) as (λ _. P d q (get_or (set sized_areas k p) (get_or starts d 0 + q) z)) [
        | inl same ↦
            let both = apart q o m l within' within (same ∙ at) in
            subst (P d q) (sym (ap (λ i. get_or (set sized_areas k p) i z) same ∙ get_or-set_same sized_areas k p z (omega arith)))
            (subst (λ x. P x q p) (sym both.0) (subst (λ x. P c x p) (sym both.1) new))
        | inr ne ↦
            subst (P d q) (sym (get_or-set_other sized_areas k (get_or starts d 0 + q) p z ne))
            (others d q z m within' (λ x y. ne (ap (λ i. get_or starts i 0 + q) x ∙ ap (λ i. get_or starts c 0 + i) y ∙ sym at)))
      ]

  pub arranged-put : {full' : List (List Bool)} {c o k : ℕ} {p : SizedAreaMeaning} → c < 12
      → get_or starts c 0 + o < get_or starts (c + 1) 0 → k ≡ get_or starts c 0 + o → IsPlaced v (c + 5) o p → Remarks full full' c o p → IsArranged v starts (set sized_areas k p) full'
  arranged-put {full'} {c} {o} {k} {p} l within at placed marks = record {
    starts_len = is.starts_len;
    first = is.first;
    rising = is.rising;
    last = is.last ∙ sym (length-set sized_areas k p);
    placed = replaced (λ d q. IsPlaced v (d + 5) q) l within at placed (λ d q z m w ne. is.placed d q z m w);
    full_len = marks.full_len;
    bits_len = marks.bits_len;
    marked = replaced (λ d q. IsMarked (bit_in (marks_of_class full' d) q)) l within at marks.mark
        (λ d q z m w ne. subst (λ b. IsMarked b (get_or sized_areas (get_or starts d 0 + q) z)) (sym (marks.others d q ne)) (is.marked d q z m w));
    mark_within = λ d q m h.
        elim (cases_eq d c) as (λ _. get_or starts d 0 + q < get_or starts (d + 1) 0) [
          | inr ne ↦ is.mark_within d q m (sym (marks.others d q (λ x y. ne x)) ∙ h)
          | inl one ↦
              elim (cases_eq q o) as (λ _. get_or starts d 0 + q < get_or starts (d + 1) 0) [
                | inr ne ↦ is.mark_within d q m (sym (marks.others d q (λ x y. ne y)) ∙ h)
                | inl two ↦ (let a = ap (λ x. get_or starts x 0) one in let b = ap (λ x. get_or starts (x + 1) 0) one in omega arith)
              ]
        ];
  }

-- ---- the areas of each class

pub length-counts : (starts : List ℕ) → length (counts_of starts) ≡ 12
unfolding counts_of
length-counts starts = length-map-range_with_len (λ c. get_or starts (c + 1) 0 - get_or starts c 0) 0 12

pub count_at : (starts : List ℕ) (c : ℕ) → c < 12 → get_or (counts_of starts) c 0 ≡ get_or starts (c + 1) 0 - get_or starts c 0
unfolding counts_of
count_at starts c l = get_or-map-range_with_len (λ c. get_or starts (c + 1) 0 - get_or starts c 0) 0 12 c c 0 l (omega arith)

counts_set : (starts starts' : List ℕ) (c n : ℕ) → c < 12 → get_or starts' (c + 1) 0 - get_or starts' c 0 ≡ n
    → ((d : ℕ) → d < 12 → (d ≡ c → ⊥) → get_or starts' (d + 1) 0 - get_or starts' d 0 ≡ get_or starts (d + 1) 0 - get_or starts d 0) → counts_of starts' ≡ set (counts_of starts) c n
counts_set starts starts' c n l here others =
    let twelve = length-counts starts in
    ext_get_or 0 (counts_of starts') (set (counts_of starts) c n) (length-counts starts' ∙ sym (length-set (counts_of starts) c n ∙ twelve)) (λ d m.
    let within : d < 12 = omega (arith, length-counts starts') in
    count_at starts' d within ∙ elim (cases_eq d c) as (λ _. get_or starts' (d + 1) 0 - get_or starts' d 0 ≡ get_or (set (counts_of starts) c n) d 0) [
      | inl same ↦
          ap (λ x. get_or starts' (x + 1) 0 - get_or starts' x 0) same ∙ here
          ∙ sym (ap (λ x. get_or (set (counts_of starts) c n) x 0) same ∙ get_or-set_same (counts_of starts) c n 0 (omega arith))
      | inr ne ↦ others d within ne ∙ sym (get_or-set_other (counts_of starts) c d n 0 ne ∙ count_at starts d within)
    ])

sum_steps : (f : ℕ → ℕ) (a n : ℕ) → ((i : ℕ) → a ≤ i → i < a + n → f i ≤ f (i + 1)) → sum (map (λ c. f (c + 1) - f c) (range_with_len a n)) + f a ≡ f (a + n)
sum_steps f a zero rising = omega (arith, ap f (add-zero a))
sum_steps f a (suc n) rising =
    let rest = sum_steps f (a + 1) n (λ i low high. rising i (omega arith) (omega arith)) in
    let up = rising a (omega arith) (omega arith) in
    let e : f (a + 1 + n) ≡ f (a + suc n) = ap f (let h : a + 1 + n ≡ a + suc n = omega arith in h) in
    let s = sum_by-cons (λ y. y) (f (a + 1) - f a) (map (λ c. f (c + 1) - f c) (range_with_len (a + 1) n)) in
    omega arith

pub sum_counts : {v : Version} {starts : List ℕ} {sized_areas : List SizedAreaMeaning} {full : List (List Bool)} → IsArranged v starts sized_areas full → sum (counts_of starts) ≡ length sized_areas
unfolding counts_of
sum_counts {starts = starts} is =
    let all = sum_steps (λ c. get_or starts c 0) 0 12 (λ i low high. is.rising i high) in
    let first = is.first in
    let last = is.last in
    omega arith

-- ---- an area comes or goes

-- where each number has its chunk as before, the heap is as before
same_among : {starts starts' : List ℕ} (sized_areas sized_areas' : List SizedAreaMeaning) → length starts ≡ 13 → length starts' ≡ 13
    → ((q : ℕ) → Inside starts q → Inside starts' q → get_or sized_areas' (place_of_number starts' q) no_area ≡ get_or sized_areas (place_of_number starts q) no_area)
    → ((q : ℕ) → Inside starts q → (Inside starts' q → ⊥) → chunk_among starts sized_areas q ≡ no_chunk)
    → ((q : ℕ) → (Inside starts q → ⊥) → Inside starts' q → chunk_among starts' sized_areas' q ≡ no_chunk) → heap_among starts' sized_areas' ≡ heap_among starts sized_areas
same_among {starts} {starts'} sized_areas sized_areas' long long' both before after =
    same_heap (heap_among starts' sized_areas') (heap_among starts sized_areas) (λ q.
    heap_is starts' sized_areas' q long'
    ∙ elim (lies starts q long) as (λ _. chunk_among starts' sized_areas' q ≡ chunk_among starts sized_areas q) [
      | outside not_in none ↦
          elim (lies starts' q long') as (λ _. chunk_among starts' sized_areas' q ≡ chunk_among starts sized_areas q) [
            | outside not_in' none' ↦ none' sized_areas' ∙ sym (none sized_areas)
            | inside at' ↦ after q not_in at' ∙ sym (none sized_areas)
          ]
      | inside at ↦
          elim (lies starts' q long') as (λ _. chunk_among starts' sized_areas' q ≡ chunk_among starts sized_areas q) [
            | outside not_in' none' ↦ none' sized_areas' ∙ sym (before q at not_in')
            | inside at' ↦
                among_in q sized_areas' at' ∙ ap (λ (p : SizedAreaMeaning). area_chunk p (index_of q % per (exponent_of q))) (both q at at') ∙ sym (among_in q sized_areas at)
          ]
    ]
    ∙ sym (heap_is starts sized_areas q long))

module _ {v : Version} {starts : List ℕ} {sized_areas : List SizedAreaMeaning} {full : List (List Bool)} (is : IsArranged v starts sized_areas full) (starts' : List ℕ) {c : ℕ} (l : c < 12) where
  -- where class c begins, before and after
  abbrev start_of : ℕ → ℕ
  start_of d = get_or starts d 0

  abbrev start' : ℕ → ℕ
  start' d = get_or starts' d 0

  module _ (p : SizedAreaMeaning) (shift : Shifts starts starts' c) where
    abbrev with_p : List SizedAreaMeaning
    with_p = insert sized_areas (start_of (c + 1)) p

    pub length-more : length starts' ≡ 13
    length-more = shift.len ∙ is.starts_len

    -- an area of class d after: it stood there before, or is the new one
    split : (d q : ℕ) → d < 12 → start' d + q < start' (d + 1) → (start_of d + q < start_of (d + 1)) ⊎ ((d ≡ c) × (start_of d + q ≡ start_of (c + 1)))
    split d q m within =
        elim (cases_eq d c) as (λ _. (start_of d + q < start_of (d + 1)) ⊎ ((d ≡ c) × (start_of d + q ≡ start_of (c + 1)))) [
          | inl same ↦
              let a = shift.low d (omega arith) in
              let b = shift.high (d + 1) (omega arith) (omega arith) in
              let e = ap (λ k. start_of (k + 1)) same in
              elim (cases_lt (start_of d + q) (start_of (d + 1))) as (λ _. (start_of d + q < start_of (d + 1)) ⊎ ((d ≡ c) × (start_of d + q ≡ start_of (c + 1)))) [ inl low ↦ inl low | inr high ↦ inr (same, omega arith) ]
          | inr ne ↦ inl (elim (cases_lt c d) as (λ _. start_of d + q < start_of (d + 1)) [
            | inl past ↦ (let a = shift.high d past (omega arith) in let b = shift.high (d + 1) (omega arith) (omega arith) in omega arith)
            | inr upto ↦ (let a = shift.low d upto in let b = shift.low (d + 1) (omega arith) in omega arith)
          ])
        ]

    -- an area that was there still is
    stays : (d q : ℕ) → d < 12 → start_of d + q < start_of (d + 1) → start' d + q < start' (d + 1)
    stays d q m within =
        elim (cases_lt c d) as (λ _. start' d + q < start' (d + 1)) [
          | inl past ↦ (let a = shift.high d past (omega arith) in let b = shift.high (d + 1) (omega arith) (omega arith) in omega arith)
          | inr upto ↦ (let a = shift.low d upto in elim (cases_eq d c) as (λ _. start' d + q < start' (d + 1)) [
            | inl same ↦ (let b = shift.high (d + 1) (omega arith) (omega arith) in omega arith)
            | inr ne ↦ (let b = shift.low (d + 1) (omega arith) in omega arith)
          ])
        ]

    shifted : (d q : ℕ) (z : SizedAreaMeaning) → d < 12 → start_of d + q < start_of (d + 1) → get_or with_p (start' d + q) z ≡ get_or sized_areas (start_of d + q) z
    shifted d q z m within =
        let top = class_end is l in
        elim (cases_lt c d) as (λ _. get_or with_p (start' d + q) z ≡ get_or sized_areas (start_of d + q) z) [
          | inl past ↦
              let s = shift.high d past (omega arith) in
              let up = starts_upto (c + 1) d is (omega arith) (omega arith) in
              (let g : start' d + q ≡ start_of d + q + 1 = omega arith in ap (λ i. get_or with_p i z) g)
              ∙ get_or-insert_above sized_areas (start_of (c + 1)) p z (start_of d + q) (omega arith) top
          | inr upto ↦
              let up = starts_upto (d + 1) (c + 1) is (omega arith) (omega arith) in
              ap (λ i. get_or with_p (i + q) z) (shift.low d (omega arith))
              ∙ get_or-insert_below sized_areas (start_of (c + 1)) p z (start_of d + q) (omega arith) top
        ]

    new_at : (d q : ℕ) (z : SizedAreaMeaning) → d ≡ c → start_of d + q ≡ start_of (c + 1) → get_or with_p (start' d + q) z ≡ p
    new_at d q z same at =
        (let g : start' d + q ≡ start_of (c + 1) = (let a = shift.low d (omega arith) in omega arith) in ap (λ i. get_or with_p i z) g) ∙ get_or-insert_at sized_areas (start_of (c + 1)) p z (class_end is l)

    -- what is true of the new area and of each other one
    inserted : (P : ℕ → ℕ → SizedAreaMeaning → Type 0) → P c (start_of (c + 1) - start_of c) p → ((d q : ℕ) (z : SizedAreaMeaning) → d < 12 → start_of d + q < start_of (d + 1) → P d q (get_or sized_areas (start_of d + q) z))
        → (d q : ℕ) (z : SizedAreaMeaning) → d < 12 → start' d + q < start' (d + 1) → P d q (get_or with_p (start' d + q) z)
    inserted P new old d q z m within =
        elim (split d q m within) as (λ _. P d q (get_or with_p (start' d + q) z)) [
          | inl before ↦ subst (P d q) (sym (shifted d q z m before)) (old d q z m before)
          | inr it ↦
              let e = ap (λ k. start_of k) it.0 in
              let at = it.1 in
              let o : start_of (c + 1) - start_of c ≡ q = omega arith in
              subst (P d q) (sym (new_at d q z it.0 it.1)) (subst (λ x. P x q p) (sym it.0) (subst (λ x. P c x p) o new))
        ]

    pub arranged-insert : IsPlaced v (c + 5) (start_of (c + 1) - start_of c) p → HasFree p → IsArranged v starts' with_p full
    arranged-insert placed free =
        let long = length-insert sized_areas (start_of (c + 1)) p (class_end is l) in
        record {
          starts_len = length-more;
          first = shift.low 0 (omega arith) ∙ is.first;
          rising = λ d m.
              let before = is.rising d m in
              elim (cases_lt c d) as (λ _. start' d ≤ start' (d + 1)) [
                | inl past ↦ (let a = shift.high d past (omega arith) in let b = shift.high (d + 1) (omega arith) (omega arith) in omega arith)
                | inr upto ↦ (let a = shift.low d upto in elim (cases_eq d c) as (λ _. start' d ≤ start' (d + 1)) [
                  | inl same ↦ (let b = shift.high (d + 1) (omega arith) (omega arith) in omega arith)
                  | inr ne ↦ (let b = shift.low (d + 1) (omega arith) in omega arith)
                ])
              ];
          last = (let a = shift.high 12 l (omega arith) in let b = is.last in omega arith);
          placed = inserted (λ d q. IsPlaced v (d + 5) q) placed is.placed;
          full_len = is.full_len;
          bits_len = is.bits_len;
          marked = inserted (λ d q. IsMarked (bit_in (marks_of_class full d) q)) (record { full = λ h. absurd (let w = is.mark_within c (start_of (c + 1) - start_of c) l h in let up = is.rising c l in omega arith); free = λ h. free }) is.marked;
          mark_within = λ d q m h. stays d q m (is.mark_within d q m h);
        }

    -- an empty area more changes no chunk
    pub heap-insert : ((j : ℕ) → area_chunk p j ≡ no_chunk) → heap_among starts' with_p ≡ heap_among starts sized_areas
    heap-insert empty =
        same_among sized_areas with_p is.starts_len length-more
        (λ q at at'. shifted (exponent_of q - 5) (index_of q / per (exponent_of q)) no_area (let m = at.most in omega arith) at.within)
        (λ q at not_in. absurd (not_in (record { least = at.least; most = at.most; within = stays (exponent_of q - 5) (index_of q / per (exponent_of q)) (let m = at.most in omega arith) at.within; at = refl })))
        (λ q not_in at'.
        elim (split (exponent_of q - 5) (index_of q / per (exponent_of q)) (let m = at'.most in omega arith) at'.within) as (λ _. chunk_among starts' with_p q ≡ no_chunk) [
          | inl before ↦ absurd (not_in (record { least = at'.least; most = at'.most; within = before; at = refl }))
          | inr it ↦
              among_in q with_p at'
              ∙ ap (λ (x : SizedAreaMeaning). area_chunk x (index_of q % per (exponent_of q))) (new_at (exponent_of q - 5) (index_of q / per (exponent_of q)) no_area it.0 it.1) ∙ empty (index_of q % per (exponent_of q))
        ])

    pub counts-insert : counts_of starts' ≡ set (counts_of starts) c (get_or (counts_of starts) c 0 + 1)
    counts-insert =
        let n = count_at starts c l in
        let up = is.rising c l in
        counts_set starts starts' c (get_or (counts_of starts) c 0 + 1) l
        (let a = shift.low c (omega arith) in let b = shift.high (c + 1) (omega arith) (omega arith) in omega arith)
        (λ d m ne.
        elim (cases_lt c d) as (λ _. start' (d + 1) - start' d ≡ start_of (d + 1) - start_of d) [
          | inl past ↦ (let a = shift.high d past (omega arith) in let b = shift.high (d + 1) (omega arith) (omega arith) in omega arith)
          | inr upto ↦ (let a = shift.low d upto in let b = shift.low (d + 1) (omega arith) in omega arith)
        ])

  module _ {k : ℕ} (shift : Unshifts starts starts' c) (last : k + 1 ≡ start_of (c + 1)) (some : start_of c ≤ k) where
    abbrev less_k : List SizedAreaMeaning
    less_k = remove sized_areas k

    pub length-less : length starts' ≡ 13
    length-less = shift.len ∙ is.starts_len

    -- an area of class d after stood there before
    was : (d q : ℕ) → d < 12 → start' d + q < start' (d + 1) → (start_of d + q < start_of (d + 1)) × (d ≡ c → start_of d + q < k)
    was d q m within =
        elim (cases_lt c d) as (λ _. (start_of d + q < start_of (d + 1)) × (d ≡ c → start_of d + q < k)) [
          | inl past ↦ (let a = shift.high d past (omega arith) in let b = shift.high (d + 1) (omega arith) (omega arith) in (omega arith, λ same. omega arith))
          | inr upto ↦ (let a = shift.low d upto in elim (cases_eq d c) as (λ _. (start_of d + q < start_of (d + 1)) × (d ≡ c → start_of d + q < k)) [
            | inl same ↦ (let b = shift.high (d + 1) (omega arith) (omega arith) in let e = ap (λ x. start_of (x + 1)) same in (omega arith, λ same. omega arith))
            | inr ne ↦ (let b = shift.low (d + 1) (omega arith) in (omega arith, λ same. absurd (ne same)))
          ])
        ]

    -- an area that was there still is, but for the last
    still : (d q : ℕ) → d < 12 → start_of d + q < start_of (d + 1) → (d ≡ c → start_of d + q ≡ k → ⊥) → start' d + q < start' (d + 1)
    still d q m within other =
        elim (cases_lt c d) as (λ _. start' d + q < start' (d + 1)) [
          | inl past ↦ (let a = shift.high d past (omega arith) in let b = shift.high (d + 1) (omega arith) (omega arith) in omega arith)
          | inr upto ↦ (let a = shift.low d upto in elim (cases_eq d c) as (λ _. start' d + q < start' (d + 1)) [
            | inl same ↦ (let b = shift.high (d + 1) (omega arith) (omega arith) in let e = ap (λ x. start_of (x + 1)) same in let ne = other same in omega arith)
            | inr ne ↦ (let b = shift.low (d + 1) (omega arith) in omega arith)
          ])
        ]

    unshifted : (d q : ℕ) (z : SizedAreaMeaning) → d < 12 → start' d + q < start' (d + 1) → get_or less_k (start' d + q) z ≡ get_or sized_areas (start_of d + q) z
    unshifted d q z m within =
        let top = class_end is l in
        let before = was d q m within in
        let inside = before.0 in
        elim (cases_lt c d) as (λ _. get_or less_k (start' d + q) z ≡ get_or sized_areas (start_of d + q) z) [
          | inl past ↦
              let a = shift.high d past (omega arith) in
              let up = starts_upto (c + 1) d is (omega arith) (omega arith) in
              get_or-remove_above sized_areas k z (start' d + q) (omega arith) (omega arith)
              ∙ (let g : start' d + q + 1 ≡ start_of d + q = omega arith in ap (λ i. get_or sized_areas i z) g)
          | inr upto ↦
              let below : start_of d + q < k =
              elim (cases_eq d c) as (λ _. start_of d + q < k) [ inl same ↦ before.1 same | inr ne ↦ (let up = starts_upto (d + 1) c is (omega arith) (omega arith) in omega arith) ] in
              ap (λ i. get_or less_k (i + q) z) (shift.low d upto) ∙ get_or-remove_below sized_areas k z (start_of d + q) below (omega arith)
        ]

    removed : (P : ℕ → ℕ → SizedAreaMeaning → Type 0) → ((d q : ℕ) (z : SizedAreaMeaning) → d < 12 → start_of d + q < start_of (d + 1) → P d q (get_or sized_areas (start_of d + q) z))
        → (d q : ℕ) (z : SizedAreaMeaning) → d < 12 → start' d + q < start' (d + 1) → P d q (get_or less_k (start' d + q) z)
    removed P old d q z m within = subst (P d q) (sym (unshifted d q z m within)) (old d q z m (was d q m within).0)

    pub arranged-remove : (z : SizedAreaMeaning) → HasFree (get_or sized_areas k z) → IsArranged v starts' less_k full
    arranged-remove z free =
        let top = class_end is l in
        let one_less = length-remove sized_areas k (omega arith) in
        record {
          starts_len = length-less;
          first = shift.low 0 (omega arith) ∙ is.first;
          rising = λ d m.
              let before = is.rising d m in
              elim (cases_lt c d) as (λ _. start' d ≤ start' (d + 1)) [
                | inl past ↦ (let a = shift.high d past (omega arith) in let b = shift.high (d + 1) (omega arith) (omega arith) in omega arith)
                | inr upto ↦ (let a = shift.low d upto in elim (cases_eq d c) as (λ _. start' d ≤ start' (d + 1)) [
                  | inl same ↦ (let b = shift.high (d + 1) (omega arith) (omega arith) in let e = ap (λ x. start_of (x + 1)) same in let f = ap (λ x. start_of x) same in omega arith)
                  | inr ne ↦ (let b = shift.low (d + 1) (omega arith) in omega arith)
                ])
              ];
          last = (let a = shift.high 12 l (omega arith) in let b = is.last in omega arith);
          placed = removed (λ d q. IsPlaced v (d + 5) q) is.placed;
          full_len = is.full_len;
          bits_len = is.bits_len;
          marked = removed (λ d q. IsMarked (bit_in (marks_of_class full d) q)) is.marked;
          mark_within = λ d q m h.
              let within = is.mark_within d q m h in
              still d q m within (λ same at. not_both (get_or sized_areas (start_of d + q) z) ((is.marked d q z m within).full h) (subst (λ i. HasFree (get_or sized_areas i z)) (sym at) free));
        }

    -- an area less, of which no chunk is live, changes no chunk
    pub heap-remove : ((q : ℕ) → Inside starts q → place_of_number starts q ≡ k → chunk_among starts sized_areas q ≡ no_chunk) → heap_among starts' less_k ≡ heap_among starts sized_areas
    heap-remove empty =
        same_among sized_areas less_k is.starts_len length-less
        (λ q at at'. unshifted (exponent_of q - 5) (index_of q / per (exponent_of q)) no_area (let m = at.most in omega arith) at'.within)
        (λ q at not_in.
        elim (cases_eq (place_of_number starts q) k) as (λ _. chunk_among starts sized_areas q ≡ no_chunk) [
          | inl same ↦ empty q at same
          | inr ne ↦ absurd (not_in (record { least = at.least; most = at.most; within = still (exponent_of q - 5) (index_of q / per (exponent_of q)) (let m = at.most in omega arith) at.within (λ x. ne); at = refl }))
        ])
        (λ q not_in at'. absurd (not_in (record { least = at'.least; most = at'.most; within = (was (exponent_of q - 5) (index_of q / per (exponent_of q)) (let m = at'.most in omega arith) at'.within).0; at = refl })))

    pub counts-remove : counts_of starts' ≡ set (counts_of starts) c (get_or (counts_of starts) c 0 - 1)
    counts-remove =
        let n = count_at starts c l in
        counts_set starts starts' c (get_or (counts_of starts) c 0 - 1) l
        (let a = shift.low c (omega arith) in let b = shift.high (c + 1) (omega arith) (omega arith) in omega arith)
        (λ d m ne.
        elim (cases_lt c d) as (λ _. start' (d + 1) - start' d ≡ start_of (d + 1) - start_of d) [
          | inl past ↦ (let a = shift.high d past (omega arith) in let b = shift.high (d + 1) (omega arith) (omega arith) in omega arith)
          | inr upto ↦ (let a = shift.low d upto in let b = shift.low (d + 1) (omega arith) in omega arith)
        ])
