-- How the words and the homes of a table follow the states of its slots.
use Rattle.std.proofs.Common.{◌≡◌, ℕ, zero, suc, ◌+◌, ◌<◌, List, [], ◌∷◌, map, length, get_or, set, sym, refl, ap, arith, Option, Some, None}
use Rattle.std.specs.Prelude.{slice_index, zip, option_map, nat_eq, if◌then◌else◌}
use Rattle.std.proofs.lemmas.List.{map-set, get_or_default}
use mathlib.Core.Option as M
use mathlib.Core.Option.{some, none}
use lib.ListN.{get_elem?}
use Rattle.atomic_table.proofs.Lists.{at_map, at_index}
use Rattle.dym_slots.specs.declared.machine.Slot.{Slot}
use Rattle.dym_slots.specs.declared.machine.Slot.TheVariants.{Free, Live, OutOwner, OutSweeper}
use Rattle.dym_slots.specs.SlotWords.{slot_word}
use Rattle.dym_slots.specs.Slots.{Core, state_of, home_of}
use Rattle.dym_slots.specs.SlotFacts.{Facts}
use Rattle.dym_slots.specs.SeatViews.{Naming}
use Rattle.dym_slots.specs.TableStates.{Held, home_shown, homes_of}

-- what is at home in a slot, by its state alone
abbrev pub by_state : Naming → Slot → M.Option Held
by_state records Free = some None
by_state records (Live n) = some (Some (records n))
by_state records _ = none

shown_at : (records : Naming) (x : Slot) (h : Option ℕ) → (x ≡ Free → h ≡ None) → ((n : ℕ) → x ≡ Live n → h ≡ Some n)
    → home_shown records x h ≡ by_state records x
shown_at records Free h free live = ap (λ (o : Option ℕ). some (option_map records o)) (free refl)
shown_at records (Live n) h free live = ap (λ (o : Option ℕ). some (option_map records o)) (live n refl)
shown_at records _ h free live = refl

zipped : (records : Naming) (slots : List Slot) (homes : List (Option ℕ)) → length homes ≡ length slots
    → ((s : ℕ) → home_shown records (get_or slots s Free) (get_or homes s None) ≡ by_state records (get_or slots s Free))
    → map (λ (p : Slot × Option ℕ). home_shown records p.0 p.1) (zip slots homes) ≡ map (by_state records) slots
zipped records [] homes len at = refl
zipped records (x ∷ slots) [] len at = absurd (omega arith)
zipped records (x ∷ slots) (y ∷ homes) len at = λ i. at zero i ∷ zipped records slots homes (omega arith) (λ s. at (suc s)) i

-- by the facts, the state of each slot says what is at home in it
pub homes_by_state : (records : Naming) (c : Core) → Facts c → homes_of records c ≡ map (by_state records) c.slots
homes_by_state records c f =
    zipped records c.slots c.homes f.homes (λ s. shown_at records (state_of c s) (home_of c s) (f.free s) (f.live.at_home s))

-- Words

pub words_set : (words : List ℕ) (root : ℕ) (slots : List Slot) (s : ℕ) (x : Slot) → words ≡ root ∷ map slot_word slots
    → set words (s + 1) (slot_word x) ≡ root ∷ map slot_word (set slots s x)
words_set words root slots s x is =
    let up : s + 1 ≡ suc s = omega arith in
    rw (is, up) (ap (λ (l : List ℕ). root ∷ l) (sym (map-set slot_word slots s x)))

word_there : (slots : List Slot) (s : ℕ) → get_or (map slot_word slots) s 0 ≡ slot_word (get_or slots s Free)
word_there [] s = refl
word_there (x ∷ slots) zero = refl
word_there (x ∷ slots) (suc s) = word_there slots s

pub word_at : (words : List ℕ) (root : ℕ) (slots : List Slot) (s : ℕ) → words ≡ root ∷ map slot_word slots
    → slice_index words (s + 1) ≡ slot_word (get_or slots s Free)
word_at words root slots s is =
    let up : s + 1 ≡ suc s = omega arith in
    rw (is, up) (word_there slots s)

-- Homes

pub homes_set : (records : Naming) (homes : List (M.Option Held)) (slots : List Slot) (s : ℕ) (x : Slot) → homes ≡ map (by_state records) slots
    → set homes s (by_state records x) ≡ map (by_state records) (set slots s x)
homes_set records homes slots s x is = rw is (sym (map-set (by_state records) slots s x))

pub home_at : (records : Naming) (homes : List (M.Option Held)) (slots : List Slot) (s : ℕ) → homes ≡ map (by_state records) slots
    → s < length slots → get_elem? homes s ≡ some (by_state records (get_or slots s Free))
home_at records homes slots s is inside =
    let at = at_index slots s (get_or slots s Free) inside (sym (get_or_default slots s (get_or slots s Free) Free inside)) in
    rw is (at_map (by_state records) slots s (get_or slots s Free) at)

-- two namings that agree at each slot show the same homes
pub homes_agree : (f g : Naming) (slots : List Slot) → ((s n : ℕ) → get_or slots s Free ≡ Live n → f n ≡ g n)
    → map (by_state f) slots ≡ map (by_state g) slots
homes_agree f g [] at = refl
homes_agree f g (Free ∷ slots) at = ap (λ (l : List (M.Option Held)). some None ∷ l) (homes_agree f g slots (λ s. at (suc s)))
homes_agree f g (Live n ∷ slots) at = λ i. some (Some (at zero n refl i)) ∷ homes_agree f g slots (λ s. at (suc s)) i
homes_agree f g (OutOwner n ∷ slots) at = ap (λ (l : List (M.Option Held)). none ∷ l) (homes_agree f g slots (λ s. at (suc s)))
homes_agree f g (OutSweeper n ∷ slots) at = ap (λ (l : List (M.Option Held)). none ∷ l) (homes_agree f g slots (λ s. at (suc s)))

-- a naming with one record more
abbrev pub named : Naming → ℕ → List ℕ → Naming
named records n bytes = λ m. if nat_eq m n then bytes else (records m)
