-- Opening and closing.
use Rattle.std.specs.Prelude.{◌≡◌, ℕ, ◌&&◌, ◌==◌, nat_le, if◌then◌else◌, Option, None, Some}
use Rattle.std.specs.Bool.{MatchBool}
use Rattle.dym_quota.specs.Bound.{region_origin}
use Rattle.dym_base.specs.declared.command.Version.{Version}
use Rattle.dym_base.specs.declared.command.Version.TheVariants.{One, Two}
use Rattle.dym_base.specs.declared.limits.TheConstants.{MOST_QUOTA}
use Rattle.dym_undo_object.specs.Meaning.{UndoObjectMeaning, opened_object}

abbrev pub version_of : ℕ → Option Version
version_of n = if n == 1 then Some One else (if n == 2 then Some Two else None)

-- an object at its start: an empty heap over the segments of a region, whatever region that is, no log, no command run
abbrev pub IsFirst : Version → ℕ → UndoObjectMeaning → Type 0
IsFirst version quota o = (region : ℕ) × (o ≡ opened_object version quota (region_origin region))

-- the object after an opening that was asked for rightly: open, or closed where memory was wanting
abbrev IsOpened : Version → ℕ → ℕ → Option UndoObjectMeaning → Type 0
IsOpened version quota status None = status ≡ 8
IsOpened version quota status (Some new) = (status ≡ 0) × IsFirst version quota new

-- only a closed object is opened
abbrev pub IsOpeningRightly : Option UndoObjectMeaning → Version → ℕ → ℕ → Option UndoObjectMeaning → Type 0
IsOpeningRightly None version quota status new = IsOpened version quota status new
IsOpeningRightly (Some o) version quota status new = (status ≡ 11) × (new ≡ Some o)

-- it is opened in version 1 or 2, with a quota of 1 to 1,024 segments; else nothing is done
abbrev pub IsOpening : Option UndoObjectMeaning → ℕ → Option Version → ℕ → Option UndoObjectMeaning → Type 0
IsOpening old quota (Some version) status new =
    MatchBool (nat_le 1 quota && nat_le quota MOST_QUOTA)
    (IsOpeningRightly old version quota status new)
    ((status ≡ 9) × (new ≡ old))
IsOpening old quota None status new = (status ≡ 9) × (new ≡ old)

-- whatever was open is closed
abbrev pub IsClosing : Option UndoObjectMeaning → ℕ → Option UndoObjectMeaning → Type 0
IsClosing None status new = (status ≡ 11) × (new ≡ None)
IsClosing (Some o) status new = (status ≡ 0) × (new ≡ None)
