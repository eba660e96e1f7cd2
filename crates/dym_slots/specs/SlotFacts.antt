-- The facts that every step of the log table keeps.
use Rattle.std.specs.Prelude.{◌≡◌, ◌≢◌, ℕ, ◌<◌, ◌≤◌, ◌⊎◌, List, Some, None, length, AllPairs, Contains}
use Rattle.dym_slots.specs.declared.machine.Slot.TheVariants.{Free, Live, OutOwner, OutSweeper}
use Rattle.dym_slots.specs.declared.machine.Entry.{Entry}
use Rattle.dym_slots.specs.Slots.{Core, state_of, home_of, IsEntry, IsListed}

-- each slot has a home
abbrev pub EachSlotHasAHome : Core → Type 0
EachSlotHasAHome c = length c.homes ≡ length c.slots

-- the numbers of the list rise
abbrev pub NumbersRise : List Entry → Type 0
NumbersRise list = AllPairs (λ a b. a.number < b.number) list

-- 1. The numbers of the list rise and its slots differ. The root is at most every number of the list and at most the
-- next number, and every number of the list is below the next number.
pub record ListRises (c : Core) : Type 0 where
  pub numbers_rise : NumbersRise c.owner.list
  pub slots_differ : AllPairs (λ a b. a.slot ≢ b.slot) c.owner.list
  pub from_root : (s n : ℕ) → IsEntry c s n → c.root ≤ n
  pub below_next : (s n : ℕ) → IsEntry c s n → n < c.owner.next
  pub root_below_next : c.root ≤ c.owner.next

-- 2. The root seen is at most the root.
abbrev pub SeenIsPast : Core → Type 0
SeenIsPast c = c.sweeper.root_seen ≤ c.root

-- 3. Each entry (s, n) has the slot s at Live(n), or at OutOwner(n) as the owner's slot out.
abbrev pub EntriesAreFound : Core → Type 0
EntriesAreFound c = (s n : ℕ) → IsEntry c s n → (state_of c s ≡ Live n) ⊎ ((state_of c s ≡ OutOwner n) × (c.owner.out ≡ Some s))

-- 4. A slot s at Live(n) has the record n at home. Where (s, n) is no entry, n is below the root.
pub record LiveIsAtHome (c : Core) : Type 0 where
  pub at_home : (s n : ℕ) → state_of c s ≡ Live n → home_of c s ≡ Some n
  pub listed_or_retired : (s n : ℕ) → state_of c s ≡ Live n → IsEntry c s n ⊎ (n < c.root)

-- 5. A slot s is OutOwner(n) for some n exactly where it is the owner's slot out. Then (s, n) is an entry, or n is
-- below the root, or n is the next number.
pub record OwnerHoldsOne (c : Core) : Type 0 where
  pub held : (s n : ℕ) → state_of c s ≡ OutOwner n → c.owner.out ≡ Some s
  pub out : (s : ℕ) → c.owner.out ≡ Some s → (n : ℕ) × (state_of c s ≡ OutOwner n)
  pub number : (s n : ℕ) → state_of c s ≡ OutOwner n → IsEntry c s n ⊎ ((n < c.root) ⊎ (n ≡ c.owner.next))

-- 6. A slot is OutSweeper(n) for some n exactly where it is the sweeper's slot out. Then n is below the root seen.
pub record SweeperHoldsOne (c : Core) : Type 0 where
  pub held : (s n : ℕ) → state_of c s ≡ OutSweeper n → c.sweeper.out ≡ Some s
  pub out : (s : ℕ) → c.sweeper.out ≡ Some s → (n : ℕ) × (state_of c s ≡ OutSweeper n)
  pub number : (s n : ℕ) → state_of c s ≡ OutSweeper n → n < c.sweeper.root_seen

-- 7. A Free slot has nothing at home.
abbrev pub FreeIsEmpty : Core → Type 0
FreeIsEmpty c = (s : ℕ) → state_of c s ≡ Free → home_of c s ≡ None

-- the slot is out with the sweeper
abbrev pub IsSwept : Core → ℕ → Type 0
IsSwept c s = (n : ℕ) × (state_of c s ≡ OutSweeper n)

-- the slot is out with the owner under a number that isn't in the list
abbrev pub IsReused : Core → ℕ → Type 0
IsReused c s = (c.owner.out ≡ Some s) × ((n : ℕ) × ((state_of c s ≡ OutOwner n) × ¬ IsListed c n))

-- 8. A remembered slot is OutSweeper, or Free, or is the owner's slot out under a number that isn't in the list. In
-- the order of remembering, none but the last is OutSweeper.
pub record RememberedIsPast (c : Core) : Type 0 where
  pub state : (s : ℕ) → Contains c.owner.remembered s → IsSwept c s ⊎ ((state_of c s ≡ Free) ⊎ IsReused c s)
  pub only_last : AllPairs (λ earlier later. ¬ IsSwept c earlier) c.owner.remembered

-- 9. A slot below the clean count isn't Live(n) with n below the root seen.
abbrev pub CleanIsClean : Core → Type 0
CleanIsClean c = (s n : ℕ) → s < c.sweeper.clean → state_of c s ≡ Live n → c.sweeper.root_seen ≤ n

-- all of them
pub record Facts (c : Core) : Type 0 where
  pub homes : EachSlotHasAHome c
  pub list : ListRises c
  pub seen : SeenIsPast c
  pub entries : EntriesAreFound c
  pub live : LiveIsAtHome c
  pub owner : OwnerHoldsOne c
  pub sweeper : SweeperHoldsOne c
  pub free : FreeIsEmpty c
  pub remembered : RememberedIsPast c
  pub clean : CleanIsClean c
