-- The rule of a stop: one word, which is 0 or 1, an end that asks, and ends that listen.
use Rattle.std.specs.Prelude.{◌≡◌, ℕ, ◌+◌, ◌⊎◌, Bool, true, false, List, length, slice_index, if◌then◌else◌}
use mathlib.Core.Option.{some}
use lib.ListN.{get_elem?}
use Rattle.atomic_table.specs.Table.{State, Me}
use Rattle.dym_base.specs.Origins.{TableName}
use Rattle.dym_prune.specs.declared.stop_view.StopView.{StopView}

-- what contracts see of the end that asks: the word of which stop it asks, and whether it has asked, and so whether the word is 1
pub record AskerMeaning : Type 0 where
  pub stop : TableName
  pub asked : Bool

-- what contracts see of an end that listens: to which stop, whether it has heard, and how often it found that nobody had asked
pub record EarMeaning : Type 0 where
  pub stop : TableName
  pub heard : Bool
  pub misses : ℕ

abbrev pub stop_view : Bool → Bool → Bool → ℕ → StopView
stop_view asks asked heard misses = record { asks = asks; asked = asked; heard = heard; misses = misses }

-- the word that tells whether it was asked for
abbrev pub flag : Bool → ℕ
flag asked = if asked then 1 else 0

-- the view in this place is that of the end that asks, and the word is 1 exactly where it has asked
abbrev pub HasAsker : ℕ → ℕ → List StopView → Type 0
HasAsker word asker views = (v : StopView) × (get_elem? views asker ≡ some v) × (v.asks ≡ true) × (word ≡ flag v.asked)

-- there is one word; one end asks, and the word is 1 exactly where it has asked; an end has heard only where the word is 1
abbrev pub IsStop : {S : Type 0} → State S StopView → Type 0
IsStop s =
    (length s.words ≡ 1)
    × (asker : ℕ) × HasAsker (slice_index s.words 0) asker s.views
    × ((i : ℕ) (v : StopView) → get_elem? s.views i ≡ some v → v.asks ≡ true → i ≡ asker)
    × ((i : ℕ) (v : StopView) → get_elem? s.views i ≡ some v → v.heard ≡ true → slice_index s.words 0 ≡ 1)

-- an ask: the view has asked
abbrev pub Asks : {S : Type 0} → Me S StopView → Me S StopView → Type 0
Asks me after = after ≡ (stop_view true true me.0.heard me.0.misses, me.1)

-- a listening that finds n: at 0 nobody has asked, this end hasn't heard either, and it missed once more; at 1 it has heard
abbrev pub Listens : {S : Type 0} → Me S StopView → ℕ → Me S StopView → Type 0
Listens me n after =
    ((n ≡ 0) × (me.0.heard ≡ false) × (after ≡ (stop_view me.0.asks me.0.asked false (me.0.misses + 1), me.1)))
    ⊎ ((n ≡ 1) × (after ≡ (stop_view me.0.asks me.0.asked true me.0.misses, me.1)))
