-- What an undo log stands for, and what it has in common with the heap that its logs were taken from.
use Rattle.std.specs.Prelude.{⊤, ◌≡◌, ℕ, ◌-◌, ◌+◌, ◌*◌, ◌<◌, ◌≤◌, ◌==◌, true, false, List, [], ◌∷◌, length, map, take, drop, slice_index_or, Some}
use Rattle.std.specs.List.{AllByRecursion}
use Rattle.std.specs.Coded.{Coded, coded_ℕ, coded_list}
use Rattle.std.specs.FinMap as map
use Rattle.std.specs.FinMap.{get}
use Rattle.std.specs.FinSet.{contains}
use Rattle.std.specs.FinSet as set
use Rattle.dym_base.specs.Heaps.{Live, Touched, HeapState, held}
use Rattle.dym_base.specs.Objects.{LogEntry, ObjectState, newest}
use Rattle.dym_base.specs.RunLaws.{IsLogList}
use Rattle.dym_base.specs.declared.command.Version.{Version}
use Rattle.dym_base.specs.declared.limits.TheConstants.{MOST_QUOTA}
use Rattle.dym_undo.specs.Changes.{Change, patched, is_noted, noted_bytes}
use Rattle.dym_undo.specs.Heads.{changes_of, bytes_in}
use Rattle.dym_undo.specs.Keys.{IsKey, is_stamped}
use Rattle.dym_undo.specs.Passes.{AreHeadKeys, AreFitting}
use Rattle.dym_undo.specs.Rooms.{pending, one, length_at, HasRoomAtEach}
use Rattle.dym_undo.specs.declared.entry.Entry.{Entry}
use Rattle.dym_undo.specs.declared.head.Head.{Head}

-- how the two maps are stored
abbrev pub live_code : Coded Live
live_code = map.code coded_ℕ (coded_list coded_ℕ)

abbrev pub touched_code : Coded Touched
touched_code = set.code coded_ℕ

-- an undo log: the kept logs, oldest first; all changes since the oldest, oldest first; for each log how many came before it; and
-- the quota of its heap
pub record UndoMeaning : Type 0 where
  pub logs : List LogEntry
  pub places : List ℕ
  pub changes : List Change
  pub quota : ℕ

-- the place of the newest log
abbrev pub last_place : List ℕ → ℕ
last_place [] = 0
last_place (p ∷ []) = p
last_place (p ∷ q ∷ ps) = last_place (q ∷ ps)

-- the changes since the newest log
abbrev pub since : List ℕ → List Change → List Change
since places cs = drop (last_place places) cs

-- once there is a log, the chunk of number k is among the changes since the newest
abbrev pub IsKept : UndoMeaning → ℕ → Type 0
IsKept u k = 0 < length u.places → is_noted k (since u.places u.changes) ≡ true

-- the copy of each log is the heap now, before what was changed since
abbrev pub AreCopies : Live → List Change → List ℕ → List LogEntry → Type 0
AreCopies live cs [] [] = ⊤
AreCopies live cs (p ∷ ps) (e ∷ es) = (e.copy ≡ patched (drop p cs) live) × AreCopies live cs ps es
AreCopies live cs _ _ = ⊥

-- what an undo log and the heap that its logs were taken from have in common
pub record Belongs (v : Version) (quota : ℕ) (s : HeapState) (u : UndoMeaning) : Type 0 where
  pub quota_same : u.quota ≡ quota
  pub copies : AreCopies s.live u.changes u.places u.logs
  -- once there is a log, what was touched since the newest is among the changes since
  pub noted : 0 < length u.places → (k : ℕ) → contains s.touched k ≡ true → is_noted k (since u.places u.changes) ≡ true
  -- each chunk that was kept has a length of its class
  pub fitting : AreFitting v u.changes

-- a heap and the logs of it, as an object
abbrev pub object_of : HeapState → UndoMeaning → ObjectState
object_of s u = record { heap = s; logs = u.logs }

-- a heap became another by a change of the chunk of number k alone
pub record DiffersAt (k : ℕ) (s t : HeapState) : Type 0 where
  pub live : (q : ℕ) → (q == k) ≡ false → get t.live q ≡ get s.live q
  pub touched : (q : ℕ) → (q == k) ≡ false → contains t.touched q ≡ true → contains s.touched q ≡ true

-- what stands at a place past the end
abbrev pub no_entry : LogEntry
no_entry = record { time = 0; depth = 0; copy = map.empty; found = set.empty }

-- log k
abbrev pub log_at : List LogEntry → ℕ → LogEntry
log_at logs k = slice_index_or logs k no_entry

-- the time and the depth of a log
abbrev pub entry_of : LogEntry → Entry
entry_of e = record { time = e.time; depth = e.depth }

-- a log but for what it found touched
abbrev pub unfound : LogEntry → LogEntry
unfound e = record { time = e.time; depth = e.depth; copy = e.copy; found = set.empty }

-- places rise, from one number to another
abbrev pub ArePlaced : ℕ → ℕ → List ℕ → Type 0
ArePlaced low high [] = low ≤ high
ArePlaced low high (p ∷ ps) = (low ≤ p) × ArePlaced p high ps

-- while there is a log, there is room for each chunk that isn't among the changes since the newest
pub record HasRoom (quota heads bytes : ℕ) (places : List ℕ) (cs : List Change) (logs : List LogEntry) : Type 0 where
  pub heads_left : 0 < length places → length cs + pending one (since places cs) quota ≤ heads
  pub bytes_left : (e : LogEntry) → newest logs ≡ Some e → noted_bytes cs + pending (length_at e.copy) (since places cs) quota ≤ bytes
  pub at_each : HasRoomAtEach quota heads bytes places cs logs

-- what is true of the fields of every undo log
pub record IsUndoLog (quota : ℕ) (entries : List Entry) (places : List ℕ) (heads : List Head) (bytes words : List ℕ) (head_room byte_room : ℕ) (logs : List LogEntry) : Type 0 where
  pub most : quota ≤ MOST_QUOTA
  pub entries_are : entries ≡ map entry_of logs
  pub each_placed : length places ≡ length logs
  pub list : IsLogList logs
  pub within : AllByRecursion (λ (e : LogEntry). held e.copy ≤ quota) logs
  pub whole : bytes_in heads ≡ length bytes
  pub keys : AreHeadKeys quota heads
  pub placed : ArePlaced 0 (length heads) places
  pub unlogged : length places ≡ 0 → heads ≡ []
  pub word_count : length words ≡ quota * 64
  -- a stamp says that the chunk is among the changes since the newest log
  pub stamps : (k : ℕ) → IsKey quota k → is_stamped words k ≡ is_noted k (since places (changes_of heads bytes))
  pub room : HasRoom quota head_room byte_room places (changes_of heads bytes) logs

-- the first n changes are gone, which stand before every place
pub record IsDrained (places : List ℕ) (heads : List Head) (bytes : List ℕ) (new_places : List ℕ) (new_heads : List Head) (new_bytes : List ℕ) : Type 0 where
  pub count : ℕ
  pub placed : ArePlaced count (length heads) places
  pub places_are : new_places ≡ map (λ p. p - count) places
  pub heads_are : new_heads ≡ drop count heads
  pub bytes_are : new_bytes ≡ drop (bytes_in (take count heads)) bytes
