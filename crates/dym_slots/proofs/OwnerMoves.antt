-- Each step of the owner on a table is a step of the machine.
use Rattle.std.proofs.Common.{◌≡◌, ◌≢◌, ℕ, ◌+◌, ◌-◌, ◌*◌, ◌<◌, ◌≤◌, ◌⊎◌, inl, inr, true, false, nat_eq, List, [], ◌∷◌, ◌++◌, map, length, get_or, set, sym, refl, ap, ◌∙◌, subst, arith, Option, Some, None}
use Rattle.std.specs.Prelude.{slice_index, slice_set, ◌==◌, option_map}
use Rattle.std.specs.List.{All, Contains}
use Rattle.std.proofs.lemmas.List.{set-get_or, get_or-set_same, length-map, length-take, map-append}
use Rattle.std.proofs.lemmas.List.Elements.{All-head, All-tail, Contains-push, Contains-get_or}
use Rattle.std.proofs.lemmas.Bool.Decides.{nat_tests}
use mathlib.Core.Option as M
use mathlib.Core.Option.{some, none}
use prog.Atomic.{either}
use lib.ListN.{get_elem?}
use Rattle.atomic_table.specs.Table.{Act, keeps, takes, gives, put_back, rest, stepped, Valid, carried_after, Allows}
use Rattle.dym_base.specs.declared.limits.TheConstants.{RECORD_ROOM}
use Rattle.dym_slots.specs.declared.machine.Slot.{Slot}
use Rattle.dym_slots.specs.declared.machine.Slot.TheVariants.{Free, Live, OutOwner, OutSweeper}
use Rattle.dym_slots.specs.declared.machine.Entry.{Entry}
use Rattle.dym_slots.specs.declared.machine.TheConstants.{RECORD_NUMBERS}
use Rattle.dym_slots.specs.declared.machine.Event.TheVariants.{OwnerLook, OwnerClaim, OwnerTake, OwnerEmpty, OwnerFill, OwnerPut, OwnerLower, OwnerFree, OwnerRaise}
use Rattle.dym_slots.specs.SlotWords.{slot_word}
use Rattle.dym_slots.specs.Slots.{Core, OwnerView, state_of, entry, IsEntry, IsListed}
use Rattle.dym_slots.specs.SlotSteps.{OwnerClaims, OwnerEmpties, OwnerFills, OwnerPuts, OwnerLowers, OwnerFrees, OwnerRaises, remember, without, from_number}
use Rattle.dym_slots.specs.SlotFacts.{Facts, NumbersRise, IsSwept}
use Rattle.dym_slots.specs.SlotNotes.{OwnerNote, forget}
use Rattle.dym_slots.specs.declared.view.Listed.{Listed}
use Rattle.dym_slots.specs.declared.view.OwnerSeat.{OwnerSeat}
use Rattle.dym_slots.specs.declared.view.SeatView.{SeatView}
use Rattle.dym_slots.specs.declared.view.SeatView.TheVariants.{Owns}
use Rattle.dym_slots.specs.SeatViews.{Naming, listed, owner_seat, glimpse, glimpse_of, owner_of, IsOwner, past, looked, holding, with_put, lowered, older_of, newest_freed, raised_to}
use Rattle.dym_slots.specs.TableStates.{Held, Knowing, TableState, Sound, Holds}
use Rattle.dym_slots.specs.Orders.{entry_of}
use Rattle.dym_slots.specs.Moves.{IsIdleOwner, HasOut, HasEntry, OwnerLooked, IsKnownFree, Claimed, TookOwn, TookRetired, IsUnlisted, WasPut, WasLowered, FreedNewest, Raised}
use Rattle.dym_slots.proofs.Showing.{by_state, homes_by_state, words_set, word_at, homes_set, home_at, homes_agree, named}
use Rattle.dym_slots.proofs.Entries.{map_entries, parts, contains_entry, contains_listed, without_newest, from_listed}
use Rattle.dym_slots.proofs.Running.{OwnerIn, owner_in, owner_holds, noted, sound_after, live_numbered, live_below, past_forget, past_twice, look_of, wins, loses}

-- what the seat's view says of the state behind it
module _ {count : ℕ} {st : TableState} {id : ℕ} {o : OwnerSeat} (i : OwnerIn count st id o) where
  out_of : i.state.core.owner.out ≡ o.out
  out_of = ap (λ (v : OwnerSeat). v.out) i.seat

  next_of : i.state.core.owner.next ≡ o.next
  next_of = ap (λ (v : OwnerSeat). v.next) i.seat

  list_of : map (listed i.records) i.state.core.owner.list ≡ o.list
  list_of = ap (λ (v : OwnerSeat). v.list) i.seat

  seen_of : (s : ℕ) (x : Slot) → o.look ≡ Some (glimpse s x) → i.state.owner ≡ Some (record { slot = s; found = x })
  seen_of s x look = look_of i.state.owner s x (ap (λ (v : OwnerSeat). v.look) i.seat ∙ look)

  -- an entry of the seat's list is one of the machine's, under its own record
  entry_in : (x : Listed) → Contains o.list x → IsEntry i.state.core x.entry.slot x.entry.number × (i.records x.entry.number ≡ x.bytes)
  entry_in x has = contains_entry i.records i.state.core.owner.list x (subst (λ (l : List Listed). Contains l x) (sym list_of) has)

  inside_slots : (s : ℕ) → s < count → s < length i.state.core.slots
  inside_slots s inside = let n = i.sound.count_is in omega arith

  word_of : (s : ℕ) → slice_index st.words (s + 1) ≡ slot_word (state_of i.state.core s)
  word_of s = word_at st.words i.state.core.root i.state.core.slots s i.shows.words

  homes_of_slots : st.homes ≡ map (by_state i.records) i.state.core.slots
  homes_of_slots = i.shows.homes ∙ homes_by_state i.records i.state.core i.sound.facts

  home_of_state : (s : ℕ) (x : Slot) → state_of i.state.core s ≡ x → s < count → get_elem? st.homes s ≡ some (by_state i.records x)
  home_of_state s x is inside =
      home_at i.records st.homes i.state.core.slots s homes_of_slots (inside_slots s inside) ∙ ap (λ (y : Slot). some (by_state i.records y)) is

  -- what was written to the home of a slot stands there
  home_written : (s : ℕ) (home : Option ℕ) → s < count → get_or (set i.state.core.homes s home) s None ≡ home
  home_written s home inside = get_or-set_same i.state.core.homes s home None (let k = i.sound.facts.homes in let j = i.sound.count_is in omega arith)

  -- the table after steps that write the slot s
  slot_holds : (s : ℕ) (x : Slot) (records : Naming) (homes : List (Option ℕ)) (v : OwnerView) (note : OwnerNote) (p : OwnerSeat)
      → Sound count (record { core = record i.state.core { slots = set i.state.core.slots s x; homes = homes; owner = v }; owner = note; sweeper = i.state.sweeper })
      → (words : List ℕ) → words ≡ set st.words (s + 1) (slot_word x) → (shown : List (M.Option Held)) → shown ≡ set st.homes s (by_state records x)
      → st.homes ≡ map (by_state records) i.state.core.slots → owner_seat records v note ≡ p → Holds count (record { words = words; homes = shown; views = set st.views id (Owns p) })
  slot_holds s x records homes v note p sound words w shown h old seat =
      let c = i.state.core in
      owner_holds count st id o i (record { core = record c { slots = set c.slots s x; homes = homes; owner = v }; owner = note; sweeper = i.state.sweeper }) records words shown p sound
      (w ∙ words_set st.words c.root c.slots s x i.shows.words)
      (h ∙ homes_set records st.homes c.slots s x old)
      seat
      refl
      (omega arith)

  -- Looks

  own_look : (carried : List (ℕ × Held)) (s : ℕ) → s < count → (k : ℕ) → k ≡ slice_index st.words (s + 1)
      → Holds count (stepped st (s + 1) k id carried (Owns (looked s (state_of i.state.core s) o)) keeps)
  own_look carried s inside k is =
      let a = i.state in
      let c = a.core in
      let x = state_of c s in
      let d : Core = record c { owner = record c.owner { remembered = remember x s c.owner.remembered } } in
      owner_holds count st id o i (noted (OwnerLook s) a d) i.records (set st.words (s + 1) k) st.homes (looked s x o)
      (sound_after count (OwnerLook s) a d (record { exists = inside_slots s inside; after = refl }) i.sound.numbered i.sound)
      (ap (set st.words (s + 1)) is ∙ set-get_or st.words (s + 1) 0 ∙ i.shows.words)
      homes_of_slots
      (ap (looked s x) i.seat)
      refl
      (omega arith)

  -- Claims and takes

  known_free : (s : ℕ) → o.out ≡ None → IsKnownFree s o → state_of i.state.core s ≡ Free
  known_free s quiet (inl look) = i.sound.notes.look.free s (seen_of s Free look)
  known_free s quiet (inr (t, two)) =
      let c = i.state.core in
      let is : c.owner.remembered ≡ s ∷ t ∷ [] = ap (λ (v : OwnerSeat). v.remembered) i.seat ∙ two in
      let has : Contains c.owner.remembered s = subst (λ (l : List ℕ). Contains l s) (sym is) (0, omega arith, refl) in
      let lives : 1 < length c.owner.remembered = (let n = ap length is in omega arith) in
      let past_one : ¬ IsSwept c s = subst (λ (l : List ℕ). ¬ IsSwept c (get_or l 0 0)) is (i.sound.facts.remembered.only_last 0 1 0 (omega arith) lives) in
      elim (i.sound.facts.remembered.state s has) [
        | inl swept ↦ absurd (past_one swept)
        | inr (inl free) ↦ free
        | inr (inr reused) ↦ absurd (let wrong : None ≡ Some s = sym quiet ∙ sym out_of ∙ reused.0 in cc)
      ]

  -- the table after the slot s went out with the owner
  taken : (carried : List (ℕ × Held)) (s n : ℕ) (home : Held)
      → Sound count (record { core = record i.state.core { slots = set i.state.core.slots s (OutOwner n); owner = record i.state.core.owner { out = Some s } }; owner = forget s i.state.owner; sweeper = i.state.sweeper })
      → (word : ℕ) → word ≡ slot_word (OutOwner n) → Holds count (stepped st (s + 1) word id carried (Owns (holding s o)) (takes s home))
  taken carried s n home sound word is =
      let v = i.state.core.owner in
      let view : owner_seat i.records (record v { out = Some s }) (forget s i.state.owner) ≡ holding s (owner_seat i.records v i.state.owner)
      = λ j. record { list = map (listed i.records) v.list; next = v.next; out = Some s; remembered = v.remembered; look = past_forget s i.state.owner j } in
      slot_holds s (OutOwner n) i.records i.state.core.homes (record v { out = Some s }) (forget s i.state.owner) (holding s o) sound
      (set st.words (s + 1) word) (ap (set st.words (s + 1)) is) (set st.homes s none) refl homes_of_slots (view ∙ ap (holding s) i.seat)

  taken_live : (carried : List (ℕ × Held)) (s m : ℕ) → o.out ≡ None → state_of i.state.core s ≡ Live m → (word : ℕ) → word ≡ slot_word (OutOwner m)
      → Holds count (stepped st (s + 1) word id carried (Owns (holding s o)) (takes s (Some (i.records m))))
  taken_live carried s m quiet live word is =
      let c = i.state.core in
      let d : Core = record c { slots = slice_set c.slots s (OutOwner m); owner = record c.owner { out = Some s } } in
      taken carried s m (Some (i.records m))
      (sound_after count (OwnerTake s) i.state d (record { idle = out_of ∙ quiet; number = m; live = live; after = refl }) i.sound.numbered i.sound) word is

  -- Puts

  -- the number of a slot that the owner has out, and that is in no entry, is in no entry either
  unlisted : (s m : ℕ) → state_of i.state.core s ≡ OutOwner m → IsUnlisted s o.list → ¬ IsListed i.state.core m
  unlisted s m out alone (t, e) =
      let c = i.state.core in
      elim (i.sound.facts.owner.number s m out) [
        | inl own ↦
            let has = contains_listed i.records c.owner.list (entry s m) own in
            alone (listed i.records (entry s m)) (subst (λ (l : List Listed). Contains l (listed i.records (entry s m))) list_of has) refl
        | inr (inl lt) ↦ let le = i.sound.facts.list.from_root t m e in omega arith
        | inr (inr is) ↦ let lt = i.sound.facts.list.below_next t m e in omega arith
      ]

  -- Lowers and frees

  -- an entry whose slot is the owner's slot out is out under its own number
  out_number : (s n : ℕ) → o.out ≡ Some s → IsEntry i.state.core s n → state_of i.state.core s ≡ OutOwner n
  out_number s n held e =
      let state = i.sound.facts.owner.out s (out_of ∙ held) in
      elim (i.sound.facts.entries s n e) [
        | inl live ↦ absurd (let wrong : Live n ≡ OutOwner state.0 = sym live ∙ state.1 in cc)
        | inr out ↦ out.0
      ]

  -- the parts of the seat's list are parts of the machine's
  split_list : (a b : List Listed) → o.list ≡ a ++ b
      → (i.state.core.owner.list ≡ map entry_of a ++ map entry_of b) × (map (listed i.records) (map entry_of a) ≡ a) × (map (listed i.records) (map entry_of b) ≡ b)
  split_list a b is =
      let c = i.state.core in
      let shown : map (listed i.records) c.owner.list ≡ a ++ b = list_of ∙ is in
      let es : c.owner.list ≡ map entry_of (a ++ b) = sym (map_entries i.records c.owner.list) ∙ ap (map entry_of) shown in
      let back = parts i.records a b (ap (map (listed i.records)) (sym es) ∙ shown) in
      (es ∙ map-append entry_of a b, back.0, back.1)

pub looks : (count slots id : ℕ) (me : Knowing) (s : ℕ) → IsOwner me.0 → s < count → Allows (Holds count) slots id me (s + 1) (λ k. k) (OwnerLooked (s + 1) me)
looks count slots id me s owner inside st holds len at fits =
    let o = owner_of me.0 in
    let i = owner_in count st id o holds (at ∙ ap some owner) in
    let x = state_of i.state.core s in (
      Owns (looked s x o),
      keeps,
      tt,
      own_look i me.1 s inside (slice_index st.words (s + 1)) refl,
      record {
        slot = s;
        state = x;
        at = refl;
        shown = word_of i s;
        numbered = live_numbered count i.state i.sound s;
        own = λ m out. sym (out_of i) ∙ i.sound.facts.owner.held s m out;
        after_is = refl;
      },
    )

pub claims : (count slots id : ℕ) (me : Knowing) (s num old new : ℕ) → old ≡ slot_word Free → new ≡ slot_word (OutOwner num) → IsIdleOwner me → IsKnownFree s (owner_of me.0) → s < count
    → num ≡ (owner_of me.0).next → num < RECORD_NUMBERS → Allows (Holds count) slots id me (s + 1) (λ k. either (k == old) new k) (λ _ after. Claimed (s + 1) me after)
claims count slots id me s num old new a b idle known inside number fits_number st holds len at fits =
    let o = owner_of me.0 in
    let i = owner_in count st id o holds (at ∙ ap some idle.seat) in
    let c = i.state.core in
    let k = slice_index st.words (s + 1) in
    let is_next : num ≡ c.owner.next = number ∙ sym (next_of i) in
    let free = known_free i s idle.none known in
    let d : Core = record c { slots = slice_set c.slots s (OutOwner c.owner.next); owner = record c.owner { out = Some s } } in
    let h : OwnerClaims s c d = record {
      exists = inside_slots i s inside;
      idle = out_of i ∙ idle.none;
      free = free;
      numbers_left = subst (λ (n : ℕ). n < RECORD_NUMBERS) is_next fits_number;
      after = refl;
    } in (
      Owns (holding s o),
      takes s None,
      home_of_state i s Free free inside,
      taken i me.1 s c.owner.next None (sound_after count (OwnerClaim s) i.state d h i.sound.numbered i.sound) (either (k == old) new k)
          (wins k old new (word_of i s ∙ ap slot_word free ∙ sym a) ∙ b ∙ ap (λ (n : ℕ). 4 * n + 2) is_next),
      record { slot = s; at = refl; after_is = refl },
    )

-- an entry by its slot and number
abbrev pub as_found : ℕ → ℕ → Listed → Listed
as_found s n x = record { entry = entry s n; bytes = x.bytes }

pub takes_own : (count slots id : ℕ) (me : Knowing) (s n old new : ℕ) → old ≡ slot_word (Live n) → new ≡ slot_word (OutOwner n) → IsIdleOwner me → HasEntry s n (owner_of me.0) → s < count
    → Allows (Holds count) slots id me (s + 1) (λ k. either (k == old) new k) (λ _ after. TookOwn (s + 1) old me after)
takes_own count slots id me s n old new a b idle (x, has, slot, number) inside st holds len at fits =
    let o = owner_of me.0 in
    let i = owner_in count st id o holds (at ∙ ap some idle.seat) in
    let k = slice_index st.words (s + 1) in
    let there : Contains o.list (as_found s n x) = subst (Contains o.list) (λ j. record { entry = record { slot = slot j; number = number j }; bytes = x.bytes }) has in
    let e = entry_in i (as_found s n x) there in
    let live : state_of i.state.core s ≡ Live n = elim (i.sound.facts.entries s n e.0) [
      | inl l ↦ l
      | inr out ↦ absurd (let wrong : None ≡ Some s = sym idle.none ∙ sym (out_of i) ∙ out.1 in cc)
    ] in (
      Owns (holding s o),
      takes s (Some (i.records n)),
      home_of_state i s (Live n) live inside,
      taken_live i me.1 s n idle.none live (either (k == old) new k) (wins k old new (word_of i s ∙ ap slot_word live ∙ sym a) ∙ b),
      record { found = as_found s n x; there = there; at = refl; number = a; after_is = ap (λ (l : List ℕ). (Owns (holding s o), (s, Some l) ∷ me.1)) e.1 },
    )

pub apart : (x y : Slot) → slot_word x ≡ slot_word y → x ≡ y
apart Free Free e = refl
apart (Live m) (Live n) e = ap Live (omega arith)
apart (OutOwner m) (OutOwner n) e = ap OutOwner (omega arith)
apart (OutSweeper m) (OutSweeper n) e = ap OutSweeper (omega arith)
apart _ _ e = absurd (omega arith)

pub takes_retired : (count slots id : ℕ) (me : Knowing) (s n old new : ℕ) → old ≡ slot_word (Live n) → new ≡ slot_word (OutOwner n) → IsIdleOwner me → (owner_of me.0).look ≡ Some (glimpse s (Live n)) → s < count
    → Allows (Holds count) slots id me (s + 1) (λ k. either (k == old) new k) (TookRetired (s + 1) me)
takes_retired count slots id me s n old new a b idle look inside st holds len at fits =
    let o = owner_of me.0 in
    let i = owner_in count st id o holds (at ∙ ap some idle.seat) in
    let x = state_of i.state.core s in
    let k = slice_index st.words (s + 1) in
    let lost : ((x ≡ Free) ⊎ ((m : ℕ) × (x ≡ OutSweeper m))) → x ≢ Live n
    → (w : SeatView) × (act : Act Held) × Valid st.homes me.1 act × Holds count (stepped st (s + 1) (either (k == old) new k) id me.1 w act) × TookRetired (s + 1) me k (w, carried_after me.1 act)
    = λ found other. (
      Owns (looked s x o),
      keeps,
      tt,
      own_look i me.1 s inside (either (k == old) new k) (loses k old new (λ e. other (apart x (Live n) (sym (word_of i s) ∙ e ∙ a)))),
      record { slot = s; state = x; at = refl; shown = word_of i s; outcome = inr (found, refl) },
    ) in
    elim (i.sound.notes.look.live s n (seen_of i s (Live n) look)) [
      | inl live ↦ (
        Owns (holding s o),
        takes s (Some (i.records n)),
        home_of_state i s (Live n) live inside,
        taken_live i me.1 s n idle.none live (either (k == old) new k) (wins k old new (word_of i s ∙ ap slot_word live ∙ sym a) ∙ b),
        record { slot = s; state = x; at = refl; shown = word_of i s; outcome = inl (n, i.records n, live, refl) },
      )
      | inr (inl swept) ↦ lost (inr (n, swept)) (λ e. let wrong : Live n ≡ OutSweeper n = sym e ∙ swept in cc)
      | inr (inr free) ↦ lost (inl free) (λ e. let wrong : Live n ≡ Free = sym e ∙ free in cc)
    ]

-- Puts

named_here : (records : Naming) (n : ℕ) (bytes : List ℕ) → named records n bytes n ≡ bytes
named_here records n bytes = let hit : nat_eq n n ≡ true = grind (arith, nat_tests) in rw hit refl

named_else : (records : Naming) (n m : ℕ) (bytes : List ℕ) → m < n → records m ≡ named records n bytes m
named_else records n m bytes lt = let miss : nat_eq m n ≡ false = grind (arith, nat_tests) in rw miss refl

-- a list of entries below a number shows the same with that record named anew
listed_agree : (records : Naming) (n : ℕ) (bytes : List ℕ) (es : List Entry) → All (λ e. e.number < n) es
    → map (listed (named records n bytes)) es ≡ map (listed records) es
listed_agree records n bytes [] all = refl
listed_agree records n bytes (e ∷ es) all =
    let here = named_else records n e.number bytes (All-head (λ (x : Entry). x.number < n) e es all) in
    let rest = listed_agree records n bytes es (All-tail (λ (x : Entry). x.number < n) e es all) in
    λ j. record { entry = e; bytes = sym here j } ∷ rest j

all_below : (c : Core) → Facts c → All (λ e. e.number < c.owner.next) c.owner.list
all_below c f k d lt =
    let e = get_or c.owner.list k d in
    f.list.below_next e.slot e.number (Contains-get_or c.owner.list k d lt)

put_list : (records : Naming) (c : Core) (s : ℕ) (bytes : List ℕ) → Facts c
    → map (listed (named records c.owner.next bytes)) (c.owner.list ++ entry s c.owner.next ∷ []) ≡ map (listed records) c.owner.list ++ record { entry = entry s c.owner.next; bytes = bytes } ∷ []
put_list records c s bytes f =
    let n = c.owner.next in
    let old = listed_agree records n bytes c.owner.list (all_below c f) in
    let new = named_here records n bytes in
    map-append (listed (named records n bytes)) c.owner.list (entry s n ∷ [])
    ∙ (λ j. old j ++ record { entry = entry s n; bytes = new j } ∷ [])

past_both : (s : ℕ) (note : OwnerNote) → option_map glimpse_of (forget s (forget s note)) ≡ past s (option_map glimpse_of note)
past_both s note = past_forget s (forget s note) ∙ ap (past s) (past_forget s note) ∙ past_twice s (option_map glimpse_of note)

put_view : (records : Naming) (c : Core) (note : OwnerNote) (s : ℕ) (bytes : List ℕ) → Facts c
    → owner_seat (named records c.owner.next bytes) (record { list = c.owner.list ++ entry s c.owner.next ∷ []; next = c.owner.next + 1; out = None; remembered = [] }) (forget s (forget s note))
    ≡ with_put s bytes (owner_seat records c.owner note)
put_view records c note s bytes f =
    let list = put_list records c s bytes f in
    λ j. record { list = list j; next = c.owner.next + 1; out = None; remembered = []; look = past_both s note j }

up_one : (n top : ℕ) → n < top → n + 1 ≤ top
up_one n top lt = omega arith

-- the step of a put of these bytes into the slot s, which is out
put_holds : {count : ℕ} {st : TableState} {id : ℕ} {o : OwnerSeat} (i : OwnerIn count st id o) (carried : List (ℕ × Held)) (s word : ℕ) (bytes : List ℕ) → carried ≡ (s, Some bytes) ∷ [] → o.out ≡ Some s
    → IsUnlisted s o.list → s < count → word ≡ slot_word (Live i.state.core.owner.next) → i.state.core.owner.next < RECORD_NUMBERS → length o.list < RECORD_ROOM
    → Holds count (stepped st (s + 1) word id carried (Owns (with_put s bytes o)) gives)
put_holds {count} {st} {id} {o} i carried s word bytes has held alone inside w left room =
    let a = i.state in
    let c = a.core in
    let n = c.owner.next in
    let records = named i.records n bytes in
    let holds_it = out_of i ∙ held in
    let out = i.sound.facts.owner.out s holds_it in
    let none = unlisted i s out.0 out.1 alone in
    let d : Core = record c { homes = slice_set c.homes s (Some n) } in
    let fills : OwnerFills s n c d = record { holds = holds_it; number = out.0; out = out.1; own = λ l. absurd (none l); fresh = λ l. refl; after = refl } in
    let b = noted (OwnerFill s n) a d in
    let mid = sound_after count (OwnerFill s n) a d fills i.sound.numbered i.sound in
    let v : OwnerView = record { list = c.owner.list ++ entry s n ∷ []; next = n + 1; out = None; remembered = [] } in
    let e : Core = record d { slots = slice_set c.slots s (Live n); owner = v } in
    let puts : OwnerPuts s d e = record {
      holds = holds_it;
      number = out.0;
      out = out.1;
      unlisted = none;
      at_home = home_written i s (Some n) inside;
      numbers_left = left;
      room = (let k = length-map c.owner.list (listed i.records) in let j = ap length (list_of i) in omega arith);
      after = refl;
    } in
    let agree = homes_agree i.records records c.slots (λ t q live. named_else i.records n q bytes (live_below count a i.sound t q live)) in
    let named_home : some (Some bytes) ≡ by_state records (Live n) = ap (λ (x : List ℕ). some (Some x)) (sym (named_here i.records n bytes)) in
    slot_holds i s (Live n) records d.homes v (forget s (forget s a.owner)) (with_put s bytes o)
    (sound_after count (OwnerPut s) b e puts (up_one n RECORD_NUMBERS left) mid)
    (set st.words (s + 1) word) (ap (set st.words (s + 1)) w)
    (put_back st.homes carried) (ap (put_back st.homes) has ∙ ap (set st.homes s) named_home)
    (homes_of_slots i ∙ agree)
    (put_view i.records c a.owner s bytes i.sound.facts ∙ ap (with_put s bytes) i.seat)

pub puts : (count slots id : ℕ) (me : Knowing) (s num word : ℕ) (bytes : List ℕ) → word ≡ slot_word (Live num) → HasOut s (Some bytes) me → IsUnlisted s (owner_of me.0).list → s < count
    → num ≡ (owner_of me.0).next → num < RECORD_NUMBERS → length (owner_of me.0).list < RECORD_ROOM
    → Allows (Holds count) slots id me (s + 1) (λ _. word) (λ _ after. WasPut (s + 1) me after)
puts count slots id me s num word bytes w has alone inside number left room st holds len at fits =
    let o = owner_of me.0 in
    let i = owner_in count st id o holds (at ∙ ap some has.seat) in
    let is_next : num ≡ i.state.core.owner.next = number ∙ sym (next_of i) in (
      Owns (with_put s bytes o),
      gives,
      tt,
      put_holds i me.1 s word bytes has.held has.out alone inside (w ∙ ap (λ (n : ℕ). 4 * n + 1) is_next) (subst (λ (n : ℕ). n < RECORD_NUMBERS) is_next left) room,
      record { slot = s; bytes = bytes; at = refl; held = has.held; after_is = ap (λ (l : List (ℕ × Held)). (Owns (with_put s bytes o), rest l)) has.held },
    )

-- Lowers

-- after a step on the slot that is out, with this list left
abbrev with_list : ℕ → List Listed → OwnerSeat → OwnerSeat
with_list s list o = record o { list = list; out = None; look = past s o.look }

freed_view : (records : Naming) (v : OwnerView) (note : OwnerNote) (s : ℕ) (es : List Entry) (list : List Listed) → map (listed records) es ≡ list
    → owner_seat records (record v { list = es; out = None }) (forget s (forget s note)) ≡ with_list s list (owner_seat records v note)
freed_view records v note s es list is j = record { list = is j; next = v.next; out = None; remembered = v.remembered; look = past_both s note j }

lower_holds : {count : ℕ} {st : TableState} {id : ℕ} {o : OwnerSeat} (i : OwnerIn count st id o) (carried : List (ℕ × Held)) (s n : ℕ) (bytes : List ℕ) → carried ≡ (s, Some bytes) ∷ [] → o.out ≡ Some s
    → IsEntry i.state.core s n → i.records n ≡ bytes → s < count → Holds count (stepped st (s + 1) (4 * n + 1) id carried (Owns (lowered s o)) gives)
lower_holds {count} {st} {id} {o} i carried s n bytes has held is_entry own inside =
    let a = i.state in
    let c = a.core in
    let holds_it = out_of i ∙ held in
    let out = out_number i s n held is_entry in
    let d : Core = record c { homes = slice_set c.homes s (Some n) } in
    let fills : OwnerFills s n c d = record { holds = holds_it; number = n; out = out; own = λ l. refl; fresh = λ l. absurd (l (s, is_entry)); after = refl } in
    let b = noted (OwnerFill s n) a d in
    let mid = sound_after count (OwnerFill s n) a d fills i.sound.numbered i.sound in
    let v : OwnerView = record c.owner { out = None } in
    let e : Core = record d { slots = slice_set c.slots s (Live n); owner = v } in
    let lowers : OwnerLowers s d e = record { holds = holds_it; number = n; out = out; listed = (s, is_entry); at_home = home_written i s (Some n) inside; after = refl } in
    slot_holds i s (Live n) i.records d.homes v (forget s (forget s a.owner)) (lowered s o)
    (sound_after count (OwnerLower s) b e lowers i.sound.numbered mid)
    (set st.words (s + 1) (4 * n + 1)) refl
    (put_back st.homes carried) (ap (put_back st.homes) has ∙ ap (λ (x : List ℕ). set st.homes s (some (Some x))) (sym own))
    (homes_of_slots i)
    (freed_view i.records c.owner a.owner s c.owner.list (map (listed i.records) c.owner.list) refl ∙ ap (lowered s) i.seat)

pub lowers : (count slots id : ℕ) (me : Knowing) (x : Listed) → HasOut x.entry.slot (Some x.bytes) me → Contains (owner_of me.0).list x → x.entry.slot < count
    → Allows (Holds count) slots id me (x.entry.slot + 1) (λ _. 4 * x.entry.number + 1) (λ _ after. WasLowered (x.entry.slot + 1) me after)
lowers count slots id me x has there inside st holds len at fits =
    let o = owner_of me.0 in
    let s = x.entry.slot in
    let i = owner_in count st id o holds (at ∙ ap some has.seat) in
    let e = entry_in i x there in (
      Owns (lowered s o),
      gives,
      tt,
      lower_holds i me.1 s x.entry.number x.bytes has.held has.out e.0 e.1 inside,
      record { slot = s; at = refl; after_is = ap (λ (l : List (ℕ × Held)). (Owns (lowered s o), rest l)) has.held },
    )

-- Frees

free_holds : {count : ℕ} {st : TableState} {id : ℕ} {o : OwnerSeat} (i : OwnerIn count st id o) (carried : List (ℕ × Held)) (older : List Listed) (x : Listed) → carried ≡ (x.entry.slot, None) ∷ []
    → o.list ≡ older ++ x ∷ [] → 0 < length older → o.out ≡ Some x.entry.slot → x.entry.slot < count
    → Holds count (stepped st (x.entry.slot + 1) 0 id carried (Owns (with_list x.entry.slot older o)) gives)
free_holds {count} {st} {id} {o} i carried older x has is some_older held inside =
    let a = i.state in
    let c = a.core in
    let s = x.entry.slot in
    let n = x.entry.number in
    let cut = split_list i older (x ∷ []) is in
    let es : List Entry = map entry_of older in
    let list : c.owner.list ≡ es ++ entry s n ∷ [] = cut.0 in
    let is_entry : IsEntry c s n = subst (λ (l : List Entry). Contains l (entry s n)) (sym list) (Contains-push es (entry s n)) in
    let holds_it = out_of i ∙ held in
    let d : Core = record c { homes = slice_set c.homes s None } in
    let empties : OwnerEmpties s c d = record { holds = holds_it; after = refl } in
    let b = noted (OwnerEmpty s) a d in
    let mid = sound_after count (OwnerEmpty s) a d empties i.sound.numbered i.sound in
    let v : OwnerView = record c.owner { list = without n c.owner.list; out = None } in
    let e : Core = record d { slots = slice_set c.slots s Free; owner = v } in
    let frees : OwnerFrees s d e = record {
      holds = holds_it;
      number = n;
      out = out_number i s n held is_entry;
      empty = home_written i s None inside;
      loose = inr (es, s, list, (let k = length-map older entry_of in omega arith));
      after = refl;
    } in
    let left : without n c.owner.list ≡ es = ap (without n) list ∙ without_newest es s n (subst NumbersRise list i.sound.facts.list.numbers_rise) in
    slot_holds i s Free i.records d.homes v (forget s (forget s a.owner)) (with_list s older o)
    (sound_after count (OwnerFree s) b e frees i.sound.numbered mid)
    (set st.words (s + 1) 0) refl
    (put_back st.homes carried) (ap (put_back st.homes) has)
    (homes_of_slots i)
    (freed_view i.records c.owner a.owner s (without n c.owner.list) older (ap (map (listed i.records)) left ∙ cut.1) ∙ ap (with_list s older) i.seat)

pub frees : (count slots id : ℕ) (me : Knowing) (x : Listed) → (owner_of me.0).list ≡ older_of (owner_of me.0).list ++ x ∷ [] → 1 < length (owner_of me.0).list → HasOut x.entry.slot None me
    → x.entry.slot < count → Allows (Holds count) slots id me (x.entry.slot + 1) (λ _. 0) (λ _ after. FreedNewest (x.entry.slot + 1) me after)
frees count slots id me x is more has inside st holds len at fits =
    let o = owner_of me.0 in
    let s = x.entry.slot in
    let older = older_of o.list in
    let some_older : 0 < length older = let t = length-take (length o.list - 1) o.list in omega arith in
    let i = owner_in count st id o holds (at ∙ ap some has.seat) in (
      Owns (newest_freed s o),
      gives,
      tt,
      free_holds i me.1 older x has.held is some_older has.out inside,
      record { slot = s; at = refl; after_is = ap (λ (l : List (ℕ × Held)). (Owns (newest_freed s o), rest l)) has.held },
    )

-- Raises

raised_view : (records : Naming) (v : OwnerView) (note : OwnerNote) (n : ℕ) → owner_seat records (record v { list = from_number n v.list }) note ≡ raised_to n (owner_seat records v note)
raised_view records v note n j =
    record { list = from_listed records n v.list j; next = v.next; out = v.out; remembered = v.remembered; look = option_map glimpse_of note }

pub raises : (count slots id : ℕ) (me : Knowing) (n : ℕ) → ((s : ℕ) × HasEntry s n (owner_of me.0)) → IsIdleOwner me → Allows (Holds count) slots id me 0 (λ _. n) (λ _ after. Raised me n after)
raises count slots id me n (s, (x, there, slot, number)) idle st holds len at fits =
    let o = owner_of me.0 in
    let i = owner_in count st id o holds (at ∙ ap some idle.seat) in
    let a = i.state in
    let c = a.core in
    let is_entry : IsEntry c x.entry.slot n = subst (λ (m : ℕ). IsEntry c x.entry.slot m) number (entry_in i x there).0 in
    let d : Core = record c { root = n; owner = record c.owner { list = from_number n c.owner.list } } in
    let h : OwnerRaises n c d = record { idle = out_of i ∙ idle.none; listed = (x.entry.slot, is_entry); after = refl } in (
      Owns (raised_to n o),
      keeps,
      tt,
      owner_holds count st id o i (noted (OwnerRaise n) a d) i.records (set st.words 0 n) st.homes (raised_to n o)
          (sound_after count (OwnerRaise n) a d h i.sound.numbered i.sound)
          (ap (λ (l : List ℕ). set l 0 n) i.shows.words)
          (homes_of_slots i)
          (raised_view i.records c.owner a.owner n ∙ ap (raised_to n) i.seat)
          refl
          (i.sound.facts.list.from_root x.entry.slot n is_entry),
      refl,
    )
