-- What the owner's fields say after each of its calls.
use Rattle.std.proofs.Common.{◌≡◌, ◌≢◌, ℕ, zero, suc, ◌+◌, ◌-◌, ◌<◌, ◌≤◌, List, [], ◌∷◌, ◌++◌, map, take, drop, length, get_or, set, sym, refl, ap, ◌∙◌, subst, arith, Option, Some, None}
use Rattle.std.specs.List.{swap, filter, Contains}
use Rattle.std.specs.Prelude.{nat_le}
use Rattle.std.proofs.lemmas.List.{length-map, length-take, length-take-le, length-drop, length-append, take_more, map-append, take-map, drop-map, take-set-le, take-take, take-append-le, get_or-map, get_or-take, get_or-set_same, get_or-set_other, get_or_read}
use Rattle.std.proofs.lemmas.List.Elements.{Contains-get_or}
use Rattle.std.proofs.lemmas.List.Edits.{swap_is}
use Rattle.dym_base.specs.declared.limits.TheConstants.{LOG_SLOTS, RECORD_ROOM}
use Rattle.dym_slots.specs.declared.machine.Entry.{Entry}
use Rattle.dym_slots.specs.declared.machine.TheConstants.{RECORD_NUMBERS}
use Rattle.dym_slots.specs.Slots.{entry}
use Rattle.dym_slots.specs.declared.view.Listed.{Listed}
use Rattle.dym_slots.specs.declared.view.OwnerSeat.{OwnerSeat}
use Rattle.dym_slots.specs.declared.view.SeatView.TheVariants.{Owns}
use Rattle.dym_slots.specs.SeatViews.{owner_of, with_put, raised_to, holding, no_listed, newest_of, older_of}
use Rattle.dym_slots.specs.TableStates.{Held, Knowing}
use Rattle.atomic_table.specs.Seated.{TableId}
use Rattle.dym_slots.specs.Owners.{OutIs}
use Rattle.dym_slots.specs.Moves.{SitsAt, SameList, IsUnlisted, HasEntry, IsBytesOf}
use Rattle.dym_slots.specs.Meanings.{Numbered, KeepMeaning, no_record, record_at, NumbersRise}
use Rattle.dym_slots.specs.Orders.{IsOrder, slot_at, numbered, slot_of, number_of, retired, Stands, HasLeft}
use Rattle.dym_slots.proofs.Rising.{below_made, from_place, rise_push, rise_drop, rise_take}
use Rattle.dym_slots.proofs.Places.{order_swap, list_size, spare_slot, bytes_at, differ}

-- the list that the seat knows, and its records
abbrev list_of : Knowing → List Listed
list_of me = (owner_of me.0).list

abbrev records_of : Knowing → List Numbered
records_of me = map numbered (owner_of me.0).list

up_one : (n top : ℕ) → n < top → n + 1 ≤ top
up_one n top lt = omega arith

-- a number below the next one is below the most
below_most : (n m next top : ℕ) → n ≡ m → m < next → next ≤ top → n < top
below_most n m next top is below most = omega arith

pub cut_records : (list : List Listed) (kept : ℕ) → map numbered (take kept list) ≡ take kept (map numbered list)
cut_records list kept = sym (take-map numbered kept list)

window : (n m len : ℕ) (xs ys : List ℕ) → m + n ≡ len → len ≤ length xs → drop n (take len xs) ≡ take m (drop n xs ++ ys)
window zero m len xs ys e le = let same : len ≡ m = omega arith in rw same (sym (take-append-le m xs ys (omega arith)))
window (suc n) m zero xs ys e le = absurd (omega arith)
window (suc n) m (suc len) [] ys e le = absurd (omega arith)
window (suc n) m (suc len) (x ∷ xs) ys e le = window n m len xs ys (omega arith) (omega arith)

pub raised_records : (list kept : List Listed) (place : ℕ) → kept ≡ drop place list → map numbered kept ≡ drop place (map numbered list)
raised_records list kept place is = ap (map numbered) is ∙ sym (drop-map numbered place list)

-- the newest entry is one of the list
pub newest_listed : (o : OwnerSeat) (s n : ℕ) → 1 < length o.list → (newest_of o.list).entry ≡ entry s n → HasEntry s n o
newest_listed o s n more is =
    (newest_of o.list, Contains-get_or o.list (length o.list - 1) no_listed (omega arith), ap (λ (x : Entry). x.slot) is, ap (λ (x : Entry). x.number) is)

module _ {order numbers : List ℕ} {made : ℕ} {me : Knowing} (s : Stands order numbers made me) where
  -- a list is shorter than the table
  pub fits : length numbers + 2 ≤ length order
  fits = let a = s.order_is.size in let b = s.few in omega arith

  pub size_of_list : length (list_of me) ≡ length numbers
  size_of_list = list_size (list_of me) order (length numbers) s.slots (let f = fits in omega arith)

  pub count_of_records : length (records_of me) ≡ length numbers
  count_of_records = length-map (list_of me) numbered ∙ size_of_list

  -- The place of an entry

  slot_got : (place : ℕ) → place < length numbers → (get_or (list_of me) place no_listed).entry.slot ≡ slot_at order place
  slot_got place lt =
      sym (get_or-map slot_of (list_of me) place no_listed 0 (let n = size_of_list in omega arith))
      ∙ ap (λ (l : List ℕ). get_or l place 0) s.slots
      ∙ get_or-take (length numbers) order place 0 lt

  number_got : (place : ℕ) → place < length numbers → (get_or (list_of me) place no_listed).entry.number ≡ get_or numbers place 0
  number_got place lt =
      sym (get_or-map number_of (list_of me) place no_listed 0 (let n = size_of_list in omega arith))
      ∙ ap (λ (l : List ℕ). get_or l place 0) s.numbers_are

  shown_got : (place : ℕ) → place < length numbers → numbered (get_or (list_of me) place no_listed) ≡ record_at (records_of me) place
  shown_got place lt = sym (get_or-map numbered (list_of me) place no_listed no_record (let n = size_of_list in omega arith))

  there_got : (place : ℕ) → place < length numbers → Contains (list_of me) (get_or (list_of me) place no_listed)
  there_got place lt = Contains-get_or (list_of me) place no_listed (let n = size_of_list in omega arith)

  -- what was read at a place stands there
  pub slot_here : (place t : ℕ) → place < length numbers → t ≡ get_or order place t → t ≡ slot_at order place
  slot_here place t lt is = get_or_read order place t (let f = fits in omega arith) is 0

  pub number_here : (place n : ℕ) → place < length numbers → n ≡ get_or numbers place n → n ≡ (record_at (records_of me) place).number
  number_here place n lt is = get_or_read numbers place n lt is 0 ∙ sym (number_got place lt) ∙ ap (λ (r : Numbered). r.number) (shown_got place lt)

  pub number_fits : (place n : ℕ) → place < length numbers → n ≡ get_or numbers place n → n < RECORD_NUMBERS
  number_fits place n lt is =
      let below = below_made (records_of me) made place s.rise (let n = count_of_records in omega arith) in
      below_most _ _ made RECORD_NUMBERS (number_here place n lt is) below s.most

  entry_here : (place t n : ℕ) → place < length numbers → t ≡ get_or order place t → n ≡ get_or numbers place n → (get_or (list_of me) place no_listed).entry ≡ entry t n
  entry_here place t n lt slot number =
      let a : (get_or (list_of me) place no_listed).entry.slot ≡ t = slot_got place lt ∙ sym (slot_here place t lt slot) in
      let b : (get_or (list_of me) place no_listed).entry.number ≡ n = number_got place lt ∙ sym (get_or_read numbers place n lt number 0) in
      λ j. entry (a j) (b j)

  pub has_entry : (place t n : ℕ) → place < length numbers → t ≡ get_or order place t → n ≡ get_or numbers place n → HasEntry t n (owner_of me.0)
  has_entry place t n lt slot number =
      let e = entry_here place t n lt slot number in
      (get_or (list_of me) place no_listed, there_got place lt, ap (λ (x : Entry). x.slot) e, ap (λ (x : Entry). x.number) e)

  -- the bytes of the entry at a place are those of the record there
  pub bytes_here : (place t n : ℕ) (bytes : List ℕ) → place < length numbers → t ≡ get_or order place t → IsBytesOf t n (owner_of me.0) bytes → bytes ≡ (record_at (records_of me) place).bytes
  bytes_here place t n bytes lt slot (x, has, at, number, own) =
      sym own ∙ bytes_at (list_of me) order (length numbers) place x s.order_is s.slots (let f = fits in omega arith) lt has (at ∙ slot_here place t lt slot)

  pub is_bytes : (place t n : ℕ) (bytes : List ℕ) → place < length numbers → t ≡ get_or order place t → n ≡ get_or numbers place n → bytes ≡ (record_at (records_of me) place).bytes
      → IsBytesOf t n (owner_of me.0) bytes
  is_bytes place t n bytes lt slot number own =
      let e = entry_here place t n lt slot number in
      (get_or (list_of me) place no_listed, there_got place lt, ap (λ (x : Entry). x.slot) e, ap (λ (x : Entry). x.number) e, ap (λ (r : Numbered). r.bytes) (shown_got place lt) ∙ sym own)

  -- Spare slots

  pub swapped : (len : ℕ) → len ≡ length numbers → Stands (swap order len (len + 1)) numbers made me × (slot_at (swap order len (len + 1)) len ≡ slot_at order (len + 1))
  swapped len all =
      let f = fits in
      let spare = get_or order (len + 1) 0 in
      let is : swap order len (len + 1) ≡ set (set order len spare) (len + 1) (get_or order len 0) = sym (swap_is order len (len + 1) 0 (omega arith) (omega arith)) in
      let front : take (length numbers) (swap order len (len + 1)) ≡ take (length numbers) order =
      rw is (take-set-le (length numbers) (set order len spare) (len + 1) (get_or order len 0) (omega arith) ∙ take-set-le (length numbers) order len spare (omega arith)) in (
        record {
          seat = s.seat;
          order_is = order_swap order len (len + 1) (omega arith) (omega arith) s.order_is;
          slots = s.slots ∙ sym front;
          numbers_are = s.numbers_are;
          few = s.few;
          next = s.next;
          most = s.most;
          rise = s.rise;
          remembered = s.remembered;
        },
        rw is (get_or-set_other (set order len spare) (len + 1) len (get_or order len 0) 0 (λ e. omega arith) ∙ get_or-set_same order len spare 0 (omega arith)),
      )

  pub unlisted_here : (after : Knowing) → SameList me after → IsUnlisted (slot_at order (length numbers)) (owner_of after.0).list
  unlisted_here after same =
      let f = fits in
      subst (IsUnlisted (slot_at order (length numbers))) (sym same.list)
      (λ x has. spare_slot (list_of me) order (length numbers) (length numbers) x s.order_is s.slots (omega arith) (omega arith) has)

  -- the two slots behind the list's
  pub two_spare : (len x y : ℕ) → len ≡ length numbers → x ≡ get_or order len x → y ≡ get_or order (len + 1) y → (x < LOG_SLOTS) × (y < LOG_SLOTS) × (x ≢ y)
  two_spare len x y all a b =
      let f = fits in
      let p : x ≡ get_or order len 0 = get_or_read order len x (omega arith) a 0 in
      let q : y ≡ get_or order (len + 1) 0 = get_or_read order (len + 1) y (omega arith) b 0 in (
        subst (λ (t : ℕ). t < LOG_SLOTS) (sym p) (s.order_is.inside len 0 (omega arith)),
        subst (λ (t : ℕ). t < LOG_SLOTS) (sym q) (s.order_is.inside (len + 1) 0 (omega arith)),
        (λ e. differ order s.order_is len (len + 1) 0 (omega arith) (omega arith) (λ n. omega arith) (sym p ∙ e ∙ q)),
      )

  -- Puts

  put_records : (mid : Knowing) (slot : ℕ) (bytes : List ℕ) → SameList me mid
      → map numbered (with_put slot bytes (owner_of mid.0)).list ≡ records_of me ++ record { number = made; bytes = bytes } ∷ []
  put_records mid slot bytes same =
      let next : (owner_of mid.0).next ≡ made = same.next ∙ s.next in
      map-append numbered (list_of mid) (record { entry = entry slot (owner_of mid.0).next; bytes = bytes } ∷ [])
      ∙ (λ j. map numbered (same.list j) ++ record { number = next j; bytes = bytes } ∷ [])

  pub put_stands : (mid : Knowing) (slot : ℕ) (bytes : List ℕ) → SameList me mid → length numbers < RECORD_ROOM → made < RECORD_NUMBERS → slot ≡ slot_at order (length numbers)
      → Stands order (numbers ++ made ∷ []) (made + 1) (Owns (with_put slot bytes (owner_of mid.0)), [])
  put_stands mid slot bytes same room left at =
      let f = fits in
      let new : Listed = record { entry = entry slot (owner_of mid.0).next; bytes = bytes } in
      let next : (owner_of mid.0).next ≡ made = same.next ∙ s.next in
      let slots : map slot_of (list_of mid) ≡ take (length numbers) order = ap (map slot_of) same.list ∙ s.slots in
      let old : map number_of (list_of mid) ≡ numbers = ap (map number_of) same.list ∙ s.numbers_are in
      let more : length (numbers ++ made ∷ []) ≡ length numbers + 1 = length-append numbers (made ∷ []) in
      record {
        seat = refl;
        order_is = s.order_is;
        slots = map-append slot_of (list_of mid) (new ∷ [])
            ∙ (λ j. slots j ++ at j ∷ [])
            ∙ sym (take_more order (length numbers) 0 (omega arith))
            ∙ ap (λ (n : ℕ). take n order) (sym more);
        numbers_are = map-append number_of (list_of mid) (new ∷ []) ∙ (λ j. old j ++ next j ∷ []);
        few = omega arith;
        next = ap (λ (n : ℕ). n + 1) next;
        most = up_one made RECORD_NUMBERS left;
        rise = subst (λ (l : List Numbered). NumbersRise l (made + 1)) (sym (put_records mid slot bytes same)) (rise_push (records_of me) made bytes s.rise);
        remembered = refl;
      }

  pub put_after : (items : List ℕ) (slot : ℕ) (mid after : Knowing) (bytes : List ℕ) → SameList me mid → length numbers < RECORD_ROOM → made < RECORD_NUMBERS
      → slot ≡ slot_at order (length numbers) → items ≡ numbers ++ made ∷ [] → after ≡ (Owns (with_put slot bytes (owner_of mid.0)), [])
      → Stands order items (made + 1) after
  put_after items slot mid after bytes same room left at is new =
      subst (λ (p : List ℕ × Knowing). Stands order p.0 (made + 1) p.1) (λ j. (sym is j, sym new j)) (put_stands mid slot bytes same room left at)

  -- Lifts and lowers

  pub held_stands : (slot : ℕ) (after : Knowing) (home : Held) → after ≡ (Owns (holding slot (owner_of me.0)), (slot, home) ∷ []) → Stands order numbers made after
  held_stands slot after home is =
      subst (Stands order numbers made) (sym is)
      (record { seat = refl; order_is = s.order_is; slots = s.slots; numbers_are = s.numbers_are; few = s.few; next = s.next; most = s.most; rise = s.rise; remembered = s.remembered })

  -- Cuts at the end

  count_of_left : (last : ℕ) (now : Knowing) → last < length numbers → HasLeft (take (last + 1) (list_of me)) me now → length (list_of now) ≡ last + 1
  count_of_left last now lt left =
      let size = size_of_list in
      ap length left.list_is ∙ (let t = length-take (last + 1) (list_of me) in omega arith)

  pub newest_here : (last t n : ℕ) (now : Knowing) → last < length numbers → 0 < last → HasLeft (take (last + 1) (list_of me)) me now → t ≡ get_or order last t → n ≡ get_or numbers last n
      → (1 < length (list_of now)) × ((newest_of (list_of now)).entry ≡ entry t n)
  newest_here last t n now lt some_older left slot number =
      let count = count_of_left last now lt left in
      let at : length (list_of now) - 1 ≡ last = omega arith in (
        omega arith,
        (λ j. (get_or (left.list_is j) (at j) no_listed).entry)
            ∙ ap (λ (x : Listed). x.entry) (get_or-take (last + 1) (list_of me) last no_listed (omega arith))
            ∙ entry_here last t n lt slot number,
      )

  pub dropped_one : (last : ℕ) (now after : Knowing) → last < length numbers → HasLeft (take (last + 1) (list_of me)) me now
      → HasLeft (older_of (list_of now)) now after → HasLeft (take last (list_of me)) me after
  dropped_one last now after lt left new =
      let count = count_of_left last now lt left in
      let at : length (list_of now) - 1 ≡ last = omega arith in
      let older : older_of (list_of now) ≡ take last (list_of me) = (λ j. take (at j) (left.list_is j)) ∙ take-take last (last + 1) (list_of me) (omega arith) in
      record { idle = new.idle; list_is = new.list_is ∙ older; next = new.next ∙ left.next; remembered = new.remembered ∙ left.remembered }

  pub cut_stands : (items : List ℕ) (kept : ℕ) (after : Knowing) → kept ≤ length numbers → items ≡ take kept numbers → HasLeft (take kept (list_of me)) me after → Stands order items made after
  cut_stands items kept after le is left =
      let size : length items ≡ kept = ap length is ∙ length-take-le kept numbers le in
      record {
        seat = left.idle.seat;
        order_is = s.order_is;
        slots = ap (map slot_of) left.list_is ∙ sym (take-map slot_of kept (list_of me)) ∙ ap (take kept) s.slots ∙ take-take kept (length numbers) order le
            ∙ ap (λ (n : ℕ). take n order) (sym size);
        numbers_are = ap (map number_of) left.list_is ∙ sym (take-map number_of kept (list_of me)) ∙ ap (take kept) s.numbers_are ∙ sym is;
        few = (let f = s.few in omega arith);
        next = left.next ∙ s.next;
        most = s.most;
        rise = subst (λ (l : List Numbered). NumbersRise l made) (sym (ap (map numbered) left.list_is ∙ cut_records (list_of me) kept)) (rise_take (records_of me) made kept s.rise);
        remembered = left.remembered ∙ s.remembered;
      }

  -- Cuts at the front

  pub raised_is : (place n : ℕ) → place < length numbers → n ≡ get_or numbers place n → (raised_to n (owner_of me.0)).list ≡ drop place (list_of me)
  raised_is place n lt is =
      let size = size_of_list in
      let at : n ≡ (record_at (records_of me) place).number = number_here place n lt is in
      (λ j. filter (λ (x : Listed). nat_le (at j) x.entry.number) (list_of me)) ∙ from_place (list_of me) made place s.rise (omega arith)

  pub raised_stands : (items : List ℕ) (next_spares place n : ℕ) (after : Knowing) → place < length numbers → length numbers ≤ next_spares → next_spares ≤ length order
      → n ≡ get_or numbers place n → items ≡ drop place numbers → IsOrder (retired next_spares place order) → after ≡ (Owns (raised_to n (owner_of me.0)), [])
      → Stands (retired next_spares place order) items made after
  raised_stands items next_spares place n after lt le inside number left turned new =
      let sum : length items + place ≡ length numbers = let a = ap length left in let b = length-drop place numbers in omega arith in
      let size = length-take next_spares order in
      let list = (raised_to n (owner_of me.0)).list in
      let is = raised_is place n lt number in
      subst (Stands (retired next_spares place order) items made) (sym new) (record {
        seat = refl;
        order_is = turned;
        slots = ap (map slot_of) is ∙ sym (drop-map slot_of place (list_of me)) ∙ ap (drop place) (s.slots ∙ sym (take-take (length numbers) next_spares order le))
            ∙ window place (length items) (length numbers) (take next_spares order) (take place (take next_spares order) ++ drop next_spares order) sum (omega arith);
        numbers_are = ap (map number_of) is ∙ sym (drop-map number_of place (list_of me)) ∙ ap (drop place) s.numbers_are ∙ sym left;
        few = (let r = s.few in omega arith);
        next = s.next;
        most = s.most;
        rise = subst (λ (l : List Numbered). NumbersRise l made) (sym (raised_records (list_of me) list place is)) (rise_drop (records_of me) made place s.rise);
        remembered = s.remembered;
      })

-- The list behind the meaning

pub in_list : {v m : KeepMeaning} {len : ℕ} (place : ℕ) → v ≡ m → length v.records ≡ len → place < length m.records → place < len
in_list place e n lt = let k = ap (λ (o : KeepMeaning). length o.records) e in omega arith

pub put_room : {v m : KeepMeaning} {len : ℕ} → v ≡ m → length v.records ≡ len → length m.records < RECORD_ROOM → len < RECORD_ROOM
put_room e n lt = let k = ap (λ (o : KeepMeaning). length o.records) e in omega arith

-- What the fields say

pub sits_still : {table a b : TableId} → b ≡ a → SitsAt table a → SitsAt table b
sits_still same s = record { same = same ∙ s.same; words = s.words; slots = s.slots }

pub out_idle : (order : List ℕ) {lifted : Option ℕ} (me : Knowing) → lifted ≡ None → OutIs order lifted me → ((owner_of me.0).out ≡ None) × (me.1 ≡ [])
out_idle order me quiet out = subst (λ (l : Option ℕ). OutIs order l me) quiet out

pub idle_out : (order : List ℕ) {lifted : Option ℕ} (me : Knowing) → lifted ≡ None → (owner_of me.0).out ≡ None → me.1 ≡ [] → OutIs order lifted me
idle_out order me quiet out empty = subst (λ (l : Option ℕ). OutIs order l me) (sym quiet) (out, empty)

pub never_inside : {lifted : Option ℕ} (len : ℕ) → lifted ≡ None → (place : ℕ) → lifted ≡ Some place → place < len
never_inside len quiet place is = let wrong : None ≡ Some place = sym quiet ∙ is in absurd cc
