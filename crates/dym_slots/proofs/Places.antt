-- The order of the slots: what keeps it, and where an entry of the list stands in it.
use Rattle.std.proofs.Common.{◌≡◌, ◌≢◌, ℕ, ◌<◌, ◌≤◌, ◌⊎◌, inl, inr, List, map, take, length, get_or, set, sym, refl, ap, ◌∙◌, subst, arith}
use Rattle.std.specs.List.{Contains, swap}
use Rattle.std.specs.List.Sorted.{IsPermutation}
use Rattle.std.proofs.lemmas.Bool.{cases_eq, cases_lt}
use Rattle.std.proofs.lemmas.List.{length-set, length-map, length-take, get_or-map, get_or-take, get_or-set_same, get_or-set_other}
use Rattle.std.proofs.lemmas.List.Edits.{swap_is, length-swap}
use Rattle.std.proofs.lemmas.List.Sorted.{IsPermutation-keeps}
use Rattle.dym_base.specs.declared.limits.TheConstants.{LOG_SLOTS}
use Rattle.dym_slots.specs.declared.view.Listed.{Listed}
use Rattle.dym_slots.specs.Meanings.{Numbered, no_record, record_at}
use Rattle.dym_slots.specs.Orders.{IsOrder, slot_at, numbered, slot_of}

-- What keeps the order

-- where the element at a place stood before two places were exchanged
record Moved (xs : List ℕ) (i j k : ℕ) (d : ℕ) : Type 0 where
  pub from : ℕ
  pub inside : from < length xs
  pub is : get_or (swap xs i j) k d ≡ get_or xs from d
  pub place : ((k ≡ j) × (from ≡ i)) ⊎ (((k ≢ j) × ((k ≡ i) × (from ≡ j))) ⊎ ((k ≢ j) × ((k ≢ i) × (from ≡ k))))

moved : (xs : List ℕ) (i j k : ℕ) (d : ℕ) → i < length xs → j < length xs → k < length xs → Moved xs i j k d
moved xs i j k d a b c =
    let is : swap xs i j ≡ set (set xs i (get_or xs j d)) j (get_or xs i d) = sym (swap_is xs i j d a b) in
    let size = length-set xs i (get_or xs j d) in
    elim (cases_eq k j) [
      | inl p ↦ record { from = i; inside = a; is = rw (is, p) (get_or-set_same (set xs i (get_or xs j d)) j (get_or xs i d) d (omega arith)); place = inl (p, refl) }
      | inr n ↦
          let one : get_or (swap xs i j) k d ≡ get_or (set xs i (get_or xs j d)) k d = rw is (get_or-set_other (set xs i (get_or xs j d)) j k (get_or xs i d) d n) in
          elim (cases_eq k i) [
            | inl p ↦ record { from = j; inside = b; is = one ∙ rw p (get_or-set_same xs i (get_or xs j d) d a); place = inr (inl (n, (p, refl))) }
            | inr m ↦ record { from = k; inside = c; is = one ∙ get_or-set_other xs i k (get_or xs j d) d m; place = inr (inr (n, (m, refl))) }
          ]
    ]

apart : (i j a b x y : ℕ) → a < b
    → ((a ≡ j) × (x ≡ i)) ⊎ (((a ≢ j) × ((a ≡ i) × (x ≡ j))) ⊎ ((a ≢ j) × ((a ≢ i) × (x ≡ a))))
    → ((b ≡ j) × (y ≡ i)) ⊎ (((b ≢ j) × ((b ≡ i) × (y ≡ j))) ⊎ ((b ≢ j) × ((b ≢ i) × (y ≡ b))))
    → x ≢ y
apart i j a b x y lt (inl p) (inl q) e = let u = p.0 in let v = q.0 in omega arith
apart i j a b x y lt (inl p) (inr (inl q)) e = let u = p.0 in let v = q.1.0 in let s = p.1 in let t = q.1.1 in omega arith
apart i j a b x y lt (inl p) (inr (inr q)) e = let s = p.1 in let t = q.1.1 in q.1.0 (omega arith)
apart i j a b x y lt (inr (inl p)) (inl q) e = let u = p.1.0 in let v = q.0 in let s = p.1.1 in let t = q.1 in omega arith
apart i j a b x y lt (inr (inl p)) (inr (inl q)) e = let u = p.1.0 in let v = q.1.0 in omega arith
apart i j a b x y lt (inr (inl p)) (inr (inr q)) e = let s = p.1.1 in let t = q.1.1 in q.0 (omega arith)
apart i j a b x y lt (inr (inr p)) (inl q) e = let s = p.1.1 in let t = q.1 in p.1.0 (omega arith)
apart i j a b x y lt (inr (inr p)) (inr (inl q)) e = let s = p.1.1 in let t = q.1.1 in p.0 (omega arith)
apart i j a b x y lt (inr (inr p)) (inr (inr q)) e = let s = p.1.1 in let t = q.1.1 in omega arith

-- two places of one slot are one place
pub differ : (order : List ℕ) → IsOrder order → (i j : ℕ) (d : ℕ) → i < length order → j < length order → i ≢ j → get_or order i d ≢ get_or order j d
differ order o i j d a b n e = elim (cases_lt i j) [
  | inl lt ↦ o.differ i j d lt b e
  | inr ge ↦ elim (cases_lt j i) [
    | inl lt ↦ o.differ j i d lt a (sym e)
    | inr le ↦ n (omega arith)
  ]
]

pub order_swap : (order : List ℕ) (i j : ℕ) → i < length order → j < length order → IsOrder order → IsOrder (swap order i j)
order_swap order i j a b o =
    let size = length-swap order i j in
    record {
      size = size ∙ o.size;
      inside = λ k d lt.
          let m = moved order i j k d a b (omega arith) in
          subst (λ (s : ℕ). s < LOG_SLOTS) (sym m.is) (o.inside m.from d m.inside);
      differ = λ x y d lt within e.
          let m = moved order i j x d a b (omega arith) in
          let n = moved order i j y d a b (omega arith) in
          differ order o m.from n.from d m.inside n.inside (apart i j x y m.from n.from lt m.place n.place)
          (sym m.is ∙ e ∙ n.is);
    }

pub order_permutation : (order after : List ℕ) → IsOrder order → IsPermutation order after → IsOrder after
order_permutation order after o p = IsPermutation-keeps order IsOrder o (λ l i j a b at. order_swap l i j a b at) after p

-- Where an entry stands

pub list_size : (list : List Listed) (order : List ℕ) (len : ℕ) → map slot_of list ≡ take len order → len ≤ length order → length list ≡ len
list_size list order len same fits = sym (length-map list slot_of) ∙ ap length same ∙ (let t = length-take len order in omega arith)

-- an entry of the list has the place of its slot
pub place_of : (list : List Listed) (order : List ℕ) (len : ℕ) (x : Listed) → map slot_of list ≡ take len order → len ≤ length order → Contains list x
    → (k : ℕ) × (k < len) × (x ≡ get_or list k x) × (x.entry.slot ≡ slot_at order k)
place_of list order len x same fits (k, lt, is) =
    let size = list_size list order len same fits in
    let inside : k < len = omega arith in
    let at : get_or (map slot_of list) k 0 ≡ x.entry.slot = get_or-map slot_of list k x 0 lt ∙ ap slot_of is in
    (k, inside, sym is, sym at ∙ ap (λ (l : List ℕ). get_or l k 0) same ∙ get_or-take len order k 0 inside)

-- a slot past the list's is in no entry
pub spare_slot : (list : List Listed) (order : List ℕ) (len place : ℕ) (x : Listed) → IsOrder order → map slot_of list ≡ take len order → len ≤ place → place < length order → Contains list x
    → x.entry.slot ≢ slot_at order place
spare_slot list order len place x o same past inside has e =
    let p = place_of list order len x same (omega arith) has in
    differ order o p.0 place 0 (let a = p.1 in omega arith) inside (let a = p.1 in λ q. omega arith) (sym p.3 ∙ e)

-- the record of the slot at a place of the list is the one at that place
pub bytes_at : (list : List Listed) (order : List ℕ) (len place : ℕ) (x : Listed) → IsOrder order → map slot_of list ≡ take len order → len ≤ length order → place < len → Contains list x
    → x.entry.slot ≡ slot_at order place → x.bytes ≡ (record_at (map numbered list) place).bytes
bytes_at list order len place x o same fits lt has e =
    let p = place_of list order len x same fits has in
    let size = list_size list order len same fits in
    elim (cases_eq p.0 place) [
      | inl q ↦
          let at : get_or (map numbered list) p.0 no_record ≡ numbered x = get_or-map numbered list p.0 x no_record (let a = p.1 in omega arith) ∙ ap numbered (sym p.2) in
          ap (λ (r : Numbered). r.bytes) (sym at) ∙ ap (λ (k : ℕ). (record_at (map numbered list) k).bytes) q
      | inr n ↦ absurd (differ order o p.0 place 0 (let a = p.1 in omega arith) (omega arith) n (sym p.3 ∙ e))
    ]
