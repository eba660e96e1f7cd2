-- What each kind of step on a log table tells the seat that takes it: of the word, of the seat before, of the number found
-- and of the seat after.
use Rattle.std.specs.Prelude.{◌≡◌, ◌≢◌, ℕ, ◌+◌, ◌<◌, ◌≤◌, ◌⊎◌, List, [], ◌∷◌, Some, None, Contains, Bool, false, if◌then◌else◌}
use Rattle.dym_base.specs.declared.limits.TheConstants.{LOG_SLOTS, LOG_WORDS}
use Rattle.dym_slots.specs.declared.machine.Slot.{Slot}
use Rattle.dym_slots.specs.declared.machine.Slot.TheVariants.{Free, Live, OutOwner, OutSweeper}
use Rattle.dym_slots.specs.declared.machine.TheConstants.{RECORD_NUMBERS}
use Rattle.dym_slots.specs.SlotWords.{slot_word}
use Rattle.dym_slots.specs.SlotSteps.{is_retired, remember}
use Rattle.atomic_table.specs.Seated.{TableId}
use Rattle.dym_slots.specs.declared.view.Listed.{Listed}
use Rattle.dym_slots.specs.declared.view.OwnerSeat.{OwnerSeat}
use Rattle.dym_slots.specs.declared.view.SeatView.TheVariants.{Owns, Sweeps}
use Rattle.dym_slots.specs.SeatViews.{glimpse, owner_of, sweeper_of, IsOwner, IsSweeper, looked, holding, with_put, lowered, newest_freed, raised_to, with_root, glanced, grabbed, with_taken_back}
use Rattle.dym_slots.specs.TableStates.{Held, Knowing}

-- a seat of this table, which has the words and the slots of a log table
pub record SitsAt (table seat : TableId) : Type 0 where
  pub same : seat ≡ table
  pub words : table.words ≡ LOG_WORDS
  pub slots : table.slots ≡ LOG_SLOTS

-- The owner

-- an owner that has no slot out
pub record IsIdleOwner (me : Knowing) : Type 0 where
  pub seat : IsOwner me.0
  pub none : (owner_of me.0).out ≡ None
  pub empty : me.1 ≡ []

-- an owner that has the slot s out, with this at home in it
pub record HasOut (s : ℕ) (home : Held) (me : Knowing) : Type 0 where
  pub seat : IsOwner me.0
  pub out : (owner_of me.0).out ≡ Some s
  pub held : me.1 ≡ (s, home) ∷ []

-- a Live slot has a number that a record may have
abbrev pub LiveIsNumbered : Slot → Type 0
LiveIsNumbered state = (n : ℕ) → state ≡ Live n → n < RECORD_NUMBERS

-- a look of the owner
pub record OwnerLooked (word : ℕ) (me : Knowing) (n : ℕ) (after : Knowing) : Type 0 where
  pub slot : ℕ
  pub state : Slot
  pub at : word ≡ slot + 1
  pub shown : n ≡ slot_word state
  pub numbered : LiveIsNumbered state
  pub own : (m : ℕ) → state ≡ OutOwner m → (owner_of me.0).out ≡ Some slot
  pub after_is : after ≡ (Owns (looked slot state (owner_of me.0)), me.1)

-- the owner knows that the slot s is Free: its last look found it so, or it saw another one out with the sweeper after this
abbrev pub IsKnownFree : ℕ → OwnerSeat → Type 0
IsKnownFree s o = (o.look ≡ Some (glimpse s Free)) ⊎ ((t : ℕ) × (o.remembered ≡ s ∷ t ∷ []))

-- a claim, which wins
pub record Claimed (word : ℕ) (me : Knowing) (after : Knowing) : Type 0 where
  pub slot : ℕ
  pub at : word ≡ slot + 1
  pub after_is : after ≡ (Owns (holding slot (owner_of me.0)), (slot, None) ∷ me.1)

-- a take of an entry's slot, which wins and finds the entry's record
pub record TookOwn (word first : ℕ) (me : Knowing) (after : Knowing) : Type 0 where
  pub found : Listed
  pub there : Contains (owner_of me.0).list found
  pub at : word ≡ found.entry.slot + 1
  pub number : first ≡ slot_word (Live found.entry.number)
  pub after_is : after ≡ (Owns (holding found.entry.slot (owner_of me.0)), (found.entry.slot, Some found.bytes) ∷ me.1)

-- the owner took the slot s out, with some record at home
abbrev pub Won : ℕ → Slot → Knowing → Knowing → Type 0
Won s state me after =
    (m : ℕ) × (bytes : List ℕ) × (state ≡ Live m) × (after ≡ (Owns (holding s (owner_of me.0)), (s, Some bytes) ∷ me.1))

-- the owner lost the slot s to the sweeper, which has it or made it Free
abbrev pub Lost : ℕ → Slot → Knowing → Knowing → Type 0
Lost s state me after =
    ((state ≡ Free) ⊎ ((m : ℕ) × (state ≡ OutSweeper m))) × (after ≡ (Owns (looked s state (owner_of me.0)), me.1))

-- a take of a slot that the owner's last look found Live
pub record TookRetired (word : ℕ) (me : Knowing) (n : ℕ) (after : Knowing) : Type 0 where
  pub slot : ℕ
  pub state : Slot
  pub at : word ≡ slot + 1
  pub shown : n ≡ slot_word state
  pub outcome : Won slot state me after ⊎ Lost slot state me after

-- the slot s is in no entry
abbrev pub IsUnlisted : ℕ → List Listed → Type 0
IsUnlisted s list = (x : Listed) → Contains list x → x.entry.slot ≢ s

-- the slot that the owner has out becomes Live under the next number
pub record WasPut (word : ℕ) (me : Knowing) (after : Knowing) : Type 0 where
  pub slot : ℕ
  pub bytes : List ℕ
  pub at : word ≡ slot + 1
  pub held : me.1 ≡ (slot, Some bytes) ∷ []
  pub after_is : after ≡ (Owns (with_put slot bytes (owner_of me.0)), [])

-- the slot that the owner has out becomes Live again
pub record WasLowered (word : ℕ) (me : Knowing) (after : Knowing) : Type 0 where
  pub slot : ℕ
  pub at : word ≡ slot + 1
  pub after_is : after ≡ (Owns (lowered slot (owner_of me.0)), [])

-- the newest entry's slot becomes Free
pub record FreedNewest (word : ℕ) (me : Knowing) (after : Knowing) : Type 0 where
  pub slot : ℕ
  pub at : word ≡ slot + 1
  pub after_is : after ≡ (Owns (newest_freed slot (owner_of me.0)), [])

-- the root becomes the number of an entry
abbrev pub Raised : Knowing → ℕ → Knowing → Type 0
Raised me n after = after ≡ (Owns (raised_to n (owner_of me.0)), me.1)

-- The sweeper

-- a sweeper that has no slot out
pub record IsIdleSweeper (me : Knowing) : Type 0 where
  pub seat : IsSweeper me.0
  pub none : (sweeper_of me.0).out ≡ None
  pub empty : me.1 ≡ []

-- the sweeper reads the root
pub record ReadRoot (me : Knowing) (n : ℕ) (after : Knowing) : Type 0 where
  pub numbered : n ≤ RECORD_NUMBERS
  pub rises : (sweeper_of me.0).root_seen ≤ n
  pub reached : (sweeper_of me.0).least_root ≤ n
  pub after_is : after ≡ (Sweeps (with_root n (sweeper_of me.0)), me.1)

-- a look of the sweeper
pub record SweeperLooked (me : Knowing) (n : ℕ) (after : Knowing) : Type 0 where
  pub state : Slot
  pub shown : n ≡ slot_word state
  pub after_is : after ≡ (Sweeps (glanced state (sweeper_of me.0)), me.1)

-- the sweeper tried to grab the slot of the clean count, where its last look found the record `number`
pub record TriedGrab (me : Knowing) (first n : ℕ) (after : Knowing) : Type 0 where
  pub outcome :
      ((n ≡ first) × ((bytes : List ℕ) × (after ≡ (Sweeps (grabbed (sweeper_of me.0).clean (sweeper_of me.0)), ((sweeper_of me.0).clean, Some bytes) ∷ me.1))))
      ⊎ ((n ≢ first) × ((state : Slot) × (n ≡ slot_word state) × (is_retired (sweeper_of me.0).root_seen state ≡ false) × (after ≡ (Sweeps (glanced state (sweeper_of me.0)), me.1))))

-- the slot that the sweeper has out becomes Free
abbrev pub GaveBack : Knowing → Knowing → Type 0
GaveBack me after = after ≡ (Sweeps (with_taken_back (sweeper_of me.0)), [])

-- Several steps of the owner

-- a look of the owner at the slot s, which it found in this state
pub record LookedAt (s : ℕ) (state : Slot) (me after : Knowing) : Type 0 where
  pub numbered : LiveIsNumbered state
  pub own : (m : ℕ) → state ≡ OutOwner m → (owner_of me.0).out ≡ Some s
  pub after_is : after ≡ (Owns (looked s state (owner_of me.0)), me.1)

-- the owner's list and its next number are as before
pub record SameList (me after : Knowing) : Type 0 where
  pub list : (owner_of after.0).list ≡ (owner_of me.0).list
  pub next : (owner_of after.0).next ≡ (owner_of me.0).next

-- the owner has the slot s out
pub record Seized (s : ℕ) (me after : Knowing) : Type 0 where
  pub same : SameList me after
  pub has : (home : Held) × HasOut s home after

-- the owner saw the slot s out with the sweeper
pub record Missed (s : ℕ) (me after : Knowing) : Type 0 where
  pub same : SameList me after
  pub idle : IsIdleOwner after
  pub remembered : (owner_of after.0).remembered ≡ remember (OutSweeper 0) s (owner_of me.0).remembered

-- the owner has an entry of this slot and number
abbrev pub HasEntry : ℕ → ℕ → OwnerSeat → Type 0
HasEntry s n o = (x : Listed) × Contains o.list x × (x.entry.slot ≡ s) × (x.entry.number ≡ n)

-- the record of an entry of this slot and number
abbrev pub IsBytesOf : ℕ → ℕ → OwnerSeat → List ℕ → Type 0
IsBytesOf s n o bytes = (x : Listed) × Contains o.list x × (x.entry.slot ≡ s) × (x.entry.number ≡ n) × (x.bytes ≡ bytes)

-- Several steps of the sweeper

-- a root and counts that stay
pub record SameRound (me after : Knowing) : Type 0 where
  pub root : (sweeper_of after.0).root_seen ≡ (sweeper_of me.0).root_seen
  pub least_root : (sweeper_of after.0).least_root ≡ (sweeper_of me.0).least_root
  pub rounds : (sweeper_of after.0).rounds ≡ (sweeper_of me.0).rounds

-- the slot of the clean count is clean now, and its record was taken back or it wasn't retired
pub record SweptSlot (taken : Bool) (me after : Knowing) : Type 0 where
  pub idle : IsIdleSweeper after
  pub same : SameRound me after
  pub clean : (sweeper_of after.0).clean ≡ (sweeper_of me.0).clean + 1
  pub count : (sweeper_of after.0).taken_back ≡ (sweeper_of me.0).taken_back + (if taken then 1 else 0)
