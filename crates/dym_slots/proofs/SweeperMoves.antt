-- Each step of the sweeper on a table is a step of the machine.
use Rattle.std.proofs.Common.{◌≡◌, ◌≢◌, ℕ, ◌+◌, ◌<◌, ◌≤◌, ◌⊎◌, inl, inr, true, false, nat_eq, List, [], ◌∷◌, map, set, sym, refl, ap, ◌∙◌, subst, arith, Some, None}
use Rattle.std.specs.Prelude.{slice_index, slice_set, if◌then◌else◌, ◌==◌}
use Rattle.std.proofs.lemmas.List.{set-get_or, get_or-set_same}
use Rattle.std.proofs.lemmas.Bool.Decides.{nat_tests}
use Rattle.std.proofs.lemmas.Bool.{cases_eq, cases_lt}
use mathlib.Core.Option.{some, none}
use prog.Atomic.{either}
use Rattle.atomic_table.specs.Table.{keeps, takes, gives, put_back, rest, stepped, Allows}
use Rattle.dym_slots.specs.declared.machine.Slot.{Slot}
use Rattle.dym_slots.specs.declared.machine.Slot.TheVariants.{Free, Live, OutOwner, OutSweeper}
use Rattle.dym_slots.specs.declared.machine.TheConstants.{RECORD_NUMBERS}
use Rattle.dym_slots.specs.declared.machine.Event.TheVariants.{SweeperRoot, SweeperLook, SweeperGrab, SweeperEmpty, SweeperFree}
use Rattle.dym_slots.specs.SlotWords.{slot_word}
use Rattle.dym_slots.specs.Slots.{Core, SweeperView, state_of}
use Rattle.dym_slots.specs.SlotSteps.{SweeperReadsRoot, SweeperLooks, SweeperGrabs, SweeperEmpties, SweeperFrees, is_retired}
use Rattle.dym_slots.specs.SlotNotes.{SweeperNote}
use Rattle.dym_slots.specs.declared.view.SweeperSeat.{SweeperSeat}
use Rattle.dym_slots.specs.declared.view.SeatView.TheVariants.{Sweeps}
use Rattle.dym_slots.specs.SeatViews.{sweeper_seat, sweeper_of, IsSweeper, with_root, glanced, grabbed, with_taken_back}
use Rattle.dym_slots.specs.TableStates.{Held, Knowing, TableState, Holds}
use Rattle.dym_slots.specs.Moves.{IsIdleSweeper, ReadRoot, SweeperLooked, TriedGrab, GaveBack}
use Rattle.dym_slots.proofs.Showing.{by_state, homes_by_state, words_set, word_at, homes_set, home_at}
use Rattle.dym_slots.proofs.Running.{SweeperIn, sweeper_in, sweeper_holds, noted, sound_after, wins, loses}
use Rattle.dym_slots.proofs.OwnerMoves.{apart}

-- what the seat's view says of the state behind it
module _ {count : ℕ} {st : TableState} {id : ℕ} {w : SweeperSeat} (i : SweeperIn count st id w) where
  out_of : i.state.core.sweeper.out ≡ w.out
  out_of = ap (λ (v : SweeperSeat). v.out) i.seat

  clean_of : i.state.core.sweeper.clean ≡ w.clean
  clean_of = ap (λ (v : SweeperSeat). v.clean) i.seat

  seen_of : i.state.core.sweeper.root_seen ≡ w.root_seen
  seen_of = ap (λ (v : SweeperSeat). v.root_seen) i.seat

  word_of : (s : ℕ) → slice_index st.words (s + 1) ≡ slot_word (state_of i.state.core s)
  word_of s = word_at st.words i.state.core.root i.state.core.slots s i.shows.words

  homes_of_slots : st.homes ≡ map (by_state i.records) i.state.core.slots
  homes_of_slots = i.shows.homes ∙ homes_by_state i.records i.state.core i.sound.facts

  -- the step of a look at the slot of the clean count
  own_look : (carried : List (ℕ × Held)) (s : ℕ) → w.out ≡ None → s ≡ w.clean → s < count → (k : ℕ) → k ≡ slice_index st.words (s + 1)
      → Holds count (stepped st (s + 1) k id carried (Sweeps (glanced (state_of i.state.core s) w)) keeps)
  own_look carried s quiet turn inside k is =
      let a = i.state in
      let c = a.core in
      let x = state_of c s in
      let d : Core = record c { sweeper = record c.sweeper { clean = if is_retired c.sweeper.root_seen x then c.sweeper.clean else (c.sweeper.clean + 1) } } in
      let h : SweeperLooks s c d = record { exists = (let n = i.sound.count_is in omega arith); idle = out_of ∙ quiet; in_turn = turn ∙ sym clean_of; after = refl } in
      sweeper_holds count st id w i (noted (SweeperLook s) a d) (set st.words (s + 1) k) st.homes (glanced x w)
      (sound_after count (SweeperLook s) a d h i.sound.numbered i.sound)
      (ap (set st.words (s + 1)) is ∙ set-get_or st.words (s + 1) 0 ∙ i.shows.words)
      homes_of_slots
      (ap (glanced x) i.seat)
      refl
      refl

  grab_holds : (carried : List (ℕ × Held)) (s n : ℕ) → w.out ≡ None → state_of i.state.core s ≡ Live n → n < w.root_seen → (k : ℕ) → k ≡ slot_word (OutSweeper n)
      → Holds count (stepped st (s + 1) k id carried (Sweeps (grabbed s w)) (takes s (Some (i.records n))))
  grab_holds carried s n quiet live past k is =
      let a = i.state in
      let c = a.core in
      let d : Core = record c { slots = slice_set c.slots s (OutSweeper n); sweeper = record c.sweeper { out = Some s } } in
      let h : SweeperGrabs s c d = record { idle = out_of ∙ quiet; number = n; live = live; retired = (let r = seen_of in omega arith); after = refl } in
      sweeper_holds count st id w i (noted (SweeperGrab s) a d) (set st.words (s + 1) k) (set st.homes s none) (grabbed s w)
      (sound_after count (SweeperGrab s) a d h i.sound.numbered i.sound)
      (ap (set st.words (s + 1)) is ∙ words_set st.words c.root c.slots s (OutSweeper n) i.shows.words)
      (homes_set i.records st.homes c.slots s (OutSweeper n) homes_of_slots)
      (ap (grabbed s) i.seat)
      refl
      refl

within : (root next top : ℕ) → root ≤ next → next ≤ top → root ≤ top
within root next top a b = omega arith

pub reads_root : (count slots id : ℕ) (me : Knowing) → IsIdleSweeper me → Allows (Holds count) slots id me 0 (λ k. k) (ReadRoot me)
reads_root count slots id me idle st holds len at fits =
    let w = sweeper_of me.0 in
    let i = sweeper_in count st id w holds (at ∙ ap some idle.seat) in
    let a = i.state in
    let c = a.core in
    let k = slice_index st.words 0 in
    let root : k ≡ c.root = ap (λ (l : List ℕ). slice_index l 0) i.shows.words in
    let d : Core = record c { sweeper = record c.sweeper { root_seen = c.root; clean = 0 } } in
    let h : SweeperReadsRoot c d = record { idle = out_of i ∙ idle.none; after = refl } in (
      Sweeps (with_root k w),
      keeps,
      tt,
      sweeper_holds count st id w i (noted SweeperRoot a d) (set st.words 0 k) st.homes (with_root k w)
          (sound_after count SweeperRoot a d h i.sound.numbered i.sound)
          (set-get_or st.words 0 0 ∙ i.shows.words)
          (homes_of_slots i)
          (ap (with_root c.root) i.seat ∙ ap (λ (r : ℕ). with_root r w) (sym root))
          refl
          refl,
      record {
        numbered = subst (λ (r : ℕ). r ≤ RECORD_NUMBERS) (sym root) (within c.root c.owner.next RECORD_NUMBERS i.sound.facts.list.root_below_next i.sound.numbered);
        rises = (let s = i.sound.facts.seen in let e = seen_of i in omega arith);
        reached = (let s = i.shows.reached in let e = ap (λ (v : SweeperSeat). v.least_root) i.seat in omega arith);
        after_is = refl;
      },
    )

pub sweeper_looks : (count slots id : ℕ) (me : Knowing) (s : ℕ) → IsIdleSweeper me → s ≡ (sweeper_of me.0).clean → s < count → Allows (Holds count) slots id me (s + 1) (λ k. k) (SweeperLooked me)
sweeper_looks count slots id me s idle turn inside st holds len at fits =
    let w = sweeper_of me.0 in
    let i = sweeper_in count st id w holds (at ∙ ap some idle.seat) in
    let x = state_of i.state.core s in (
      Sweeps (glanced x w),
      keeps,
      tt,
      own_look i me.1 s idle.none turn inside (slice_index st.words (s + 1)) refl,
      record { state = x; shown = word_of i s; after_is = refl },
    )

-- Grabs

-- a slot that isn't Live(n), as the note allows, isn't retired
not_retired : (seen n : ℕ) (x : Slot) → ((m : ℕ) → x ≡ Live m → m < seen → m ≡ n) → x ≢ Live n → is_retired seen x ≡ false
not_retired seen n Free note other = refl
not_retired seen n (Live m) note other = elim (cases_lt m seen) [
  | inl lt ↦ absurd (other (ap Live (note m refl lt)))
  | inr ge ↦ grind (arith, nat_tests)
]
not_retired seen n (OutOwner m) note other = refl
not_retired seen n (OutSweeper m) note other = refl

-- whether two states are one
decide : (x : Slot) (n : ℕ) → (x ≡ Live n) ⊎ (x ≢ Live n)
decide (Live m) n = elim (cases_eq m n) [
  | inl same ↦ inl (ap Live same)
  | inr other ↦ inr (λ e. let is : m ≡ n = cc in other is)
]
decide _ n = inr (λ e. cc)

pub grabs : (count slots id : ℕ) (me : Knowing) (s n old new : ℕ) → old ≡ slot_word (Live n) → new ≡ slot_word (OutSweeper n) → IsIdleSweeper me → s ≡ (sweeper_of me.0).clean → s < count
    → (sweeper_of me.0).found ≡ Some n → n < (sweeper_of me.0).root_seen → Allows (Holds count) slots id me (s + 1) (λ k. either (k == old) new k) (TriedGrab me old)
grabs count slots id me s n old new a b idle turn inside found past st holds len at fits =
    let w = sweeper_of me.0 in
    let i = sweeper_in count st id w holds (at ∙ ap some idle.seat) in
    let c = i.state.core in
    let x = state_of c s in
    let k = slice_index st.words (s + 1) in
    let note : (m : ℕ) → x ≡ Live m → m < w.root_seen → m ≡ n = λ m live lt.
    i.sound.notes.found n m (ap (λ (v : SweeperSeat). v.found) i.seat ∙ found) (ap (state_of c) (clean_of i ∙ sym turn) ∙ live) (let r = seen_of i in omega arith) in
    elim (decide x n) [
      | inl live ↦
          let hit : k ≡ old = word_of i s ∙ ap slot_word live ∙ sym a in (
            Sweeps (grabbed s w),
            takes s (Some (i.records n)),
            home_at i.records st.homes c.slots s (homes_of_slots i) (let j = i.sound.count_is in omega arith) ∙ ap (λ (y : Slot). some (by_state i.records y)) live,
            grab_holds i me.1 s n idle.none live past (either (k == old) new k) (wins k old new hit ∙ b),
            record { outcome = inl (hit, (i.records n, λ j. (Sweeps (grabbed (turn j) w), (turn j, Some (i.records n)) ∷ me.1))) },
          )
      | inr other ↦
          let miss : k ≢ old = λ e. other (apart x (Live n) (sym (word_of i s) ∙ e ∙ a)) in (
            Sweeps (glanced x w),
            keeps,
            tt,
            own_look i me.1 s idle.none turn inside (either (k == old) new k) (loses k old new miss),
            record { outcome = inr (miss, (x, word_of i s, not_retired w.root_seen n x note other, refl)) },
          )
    ]

-- Frees

freed_view : (least_root : ℕ) (v : SweeperView) (note : SweeperNote) (s : ℕ) → s ≡ v.clean
    → sweeper_seat least_root (record v { out = None; clean = if nat_eq s v.clean then (v.clean + 1) else v.clean }) (record note { found = if nat_eq s v.clean then None else note.found; taken_back = note.taken_back + 1 })
    ≡ with_taken_back (sweeper_seat least_root v note)
freed_view least_root v note s turn =
    let hit : nat_eq s v.clean ≡ true = grind (arith, nat_tests) in
    rw hit refl

pub sweeper_frees : (count slots id : ℕ) (me : Knowing) (s word : ℕ) → word ≡ slot_word Free → IsSweeper me.0 → (sweeper_of me.0).out ≡ Some s → me.1 ≡ (s, None) ∷ [] → s ≡ (sweeper_of me.0).clean → s < count
    → Allows (Holds count) slots id me (s + 1) (λ _. word) (λ _ after. GaveBack me after)
sweeper_frees count slots id me s word is seat held carried turn inside st holds len at fits =
    let w = sweeper_of me.0 in
    let i = sweeper_in count st id w holds (at ∙ ap some seat) in
    let a = i.state in
    let c = a.core in
    let holds_it = out_of i ∙ held in
    let d : Core = record c { homes = slice_set c.homes s None } in
    let empties : SweeperEmpties s c d = record { holds = holds_it; after = refl } in
    let b = noted (SweeperEmpty s) a d in
    let mid = sound_after count (SweeperEmpty s) a d empties i.sound.numbered i.sound in
    let e : Core = record d { slots = slice_set c.slots s Free; sweeper = record c.sweeper { out = None; clean = if nat_eq s c.sweeper.clean then (c.sweeper.clean + 1) else c.sweeper.clean } } in
    let h : SweeperFrees s d e = record {
      holds = holds_it;
      empty = get_or-set_same c.homes s None None (let k = i.sound.facts.homes in let j = i.sound.count_is in omega arith);
      after = refl;
    } in (
      Sweeps (with_taken_back w),
      gives,
      tt,
      sweeper_holds count st id w i (noted (SweeperFree s) b e) (set st.words (s + 1) word) (put_back st.homes me.1) (with_taken_back w)
          (sound_after count (SweeperFree s) b e h i.sound.numbered mid)
          (ap (set st.words (s + 1)) is ∙ words_set st.words c.root c.slots s Free i.shows.words)
          (ap (put_back st.homes) carried ∙ homes_set i.records st.homes c.slots s Free (homes_of_slots i))
          (freed_view i.shows.least_root c.sweeper a.sweeper s (turn ∙ sym (clean_of i)) ∙ ap with_taken_back i.seat)
          refl
          refl,
      ap (λ (l : List (ℕ × Held)). (Sweeps (with_taken_back w), rest l)) carried,
    )
