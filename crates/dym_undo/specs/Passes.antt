-- A restore goes over changes from the front, twice: first the chunks that were dead are taken away, then those that were live are
-- put back. Stamps say which chunks a pass has met, so that the first change of each counts.
use Rattle.std.specs.Prelude.{⊤, ◌≡◌, ℕ, ◌/◌, ◌||◌, ◌==◌, Bool, true, false, length, if◌then◌else◌, List, [], ◌∷◌, Option, None, Some}
use Rattle.std.specs.FinMap as map
use Rattle.std.specs.FinMap.{contains_key}
use Rattle.std.specs.FinSet.{contains}
use Rattle.dym_base.specs.HeapStep.{key}
use Rattle.dym_base.specs.Heaps.{Live, HeapState}
use Rattle.dym_base.specs.Laws.{FitsClass}
use Rattle.dym_base.specs.declared.command.Version.{Version}
use Rattle.dym_undo.specs.Changes.{Change}
use Rattle.dym_undo.specs.Keys.{IsKey, is_stamped, with_stamp, without_stamp}
use Rattle.dym_undo.specs.declared.head.Head.{Head}

-- the stamps and the live chunks on the way
pub record Way : Type 0 where
  pub words : List ℕ
  pub live : Live

-- the handle of number k is among the heads
abbrev pub is_headed : ℕ → List Head → Bool
is_headed k [] = false
is_headed k (h ∷ hs) = (k == key h.handle) || is_headed k hs

-- the stamps without those of the heads
abbrev pub cleared : List Head → List ℕ → List ℕ
cleared [] words = words
cleared (h ∷ hs) words = cleared hs (without_stamp words (key h.handle))

-- the chunk is gone if it was dead
abbrev pub taken : Live → ℕ → Option ℕ → Live
taken live k None = map.remove live k
taken live k (Some n) = live

-- the first pass: a chunk that isn't stamped is met first, and is stamped
abbrev pub take_one : Head → Way → Way
take_one h w = if is_stamped w.words (key h.handle) then w else record { words = with_stamp w.words (key h.handle); live = taken w.live (key h.handle) h.len }

abbrev pub take_dead : List Head → Way → Way
take_dead [] w = w
take_dead (h ∷ hs) w = take_dead hs (take_one h w)

-- the chunk has these bytes again if it was live
abbrev pub put : Live → ℕ → Option (List ℕ) → Live
put live k None = live
put live k (Some bytes) = map.insert live k bytes

-- the second pass: a chunk that is stamped is met first, and is stamped no more
abbrev pub put_one : Change → Way → Way
put_one c w = if is_stamped w.words c.key then record { words = without_stamp w.words c.key; live = put w.live c.key c.before } else w

abbrev pub put_live : List Change → Way → Way
put_live [] w = w
put_live (c ∷ cs) w = put_live cs (put_one c w)

-- each change is of a handle that can be live within the quota
abbrev pub AreKeys : ℕ → List Change → Type 0
AreKeys quota [] = ⊤
AreKeys quota (c ∷ cs) = IsKey quota c.key × AreKeys quota cs

abbrev pub AreHeadKeys : ℕ → List Head → Type 0
AreHeadKeys quota [] = ⊤
AreHeadKeys quota (h ∷ hs) = IsKey quota (key h.handle) × AreHeadKeys quota hs

-- a chunk that was live had a length of its class
abbrev pub Fits : Version → ℕ → Option (List ℕ) → Type 0
Fits v k None = ⊤
Fits v k (Some bytes) = FitsClass v k bytes

abbrev pub AreFitting : Version → List Change → Type 0
AreFitting v [] = ⊤
AreFitting v (c ∷ cs) = Fits v c.key c.before × AreFitting v cs

-- the live chunks of a map are live in another
abbrev pub IsAmong : Live → Live → Type 0
IsAmong a b = (q : ℕ) → contains_key a q ≡ true → contains_key b q ≡ true

-- no bit of a handle is set
abbrev pub IsUnstamped : List ℕ → Type 0
IsUnstamped words = (q : ℕ) → IsKey (length words / 64) q → is_stamped words q ≡ false

-- what is touched was touched
abbrev pub TouchesNoMore : HeapState → HeapState → Type 0
TouchesNoMore s t = (q : ℕ) → contains t.touched q ≡ true → contains s.touched q ≡ true
