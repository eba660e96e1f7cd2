-- What is done with each object of a run, in order, once it has ended.
use Rattle.std.specs.Prelude.{⊤, ◌≡◌, ◌<◌, List, [], ◌∷◌, ◌++◌, length, Result, MatchResult}
use Rattle.std.specs.List.{FoldsTo}
use Rattle.dym_script.specs.declared.parts.Part.{Part}
use Rattle.dym_wave.specs.declared.run_fail.RunFail.{RunFail}
use Rattle.dym_wave.specs.declared.run_fail.RunFail.TheVariants.{Memory, Refused}
use Rattle.dym_wave.specs.declared.report_options.ReportOptions.{ReportOptions}
use Rattle.dym_wave.specs.Results.{Shown, parts_shown}

-- one object after the other may be handed over
abbrev pub CanTakeAll : {C : Type 0} → (C → Shown → Type 0) → (C → Shown → C → Type 0) → C → List Shown → Type 0
CanTakeAll Can Takes old [] = ⊤
CanTakeAll {C} Can Takes old (s ∷ rest) = Can old s × ((new : C) → Takes old s new → CanTakeAll Can Takes new rest)

module _ {C F : Type 0} (Takes : C → Shown → C → Type 0) (Fails : C → Shown → C → F → Type 0) where
  -- not all objects were handed over: memory was wanting behind the first ones, or one was refused
  abbrev pub Stops : C → List Shown → C → RunFail F → Type 0
  Stops old all new Memory = (front : List Shown) × (rest : List Shown) × (all ≡ front ++ rest) × FoldsTo Takes old front new
  Stops old all new (Refused fail) =
      (front : List Shown) × (s : Shown) × (rest : List Shown) × (mid : C) × (all ≡ front ++ s ∷ rest) × FoldsTo Takes old front mid × Fails mid s new fail

  -- all objects were handed over at Ok
  abbrev pub HandsOver : {T : Type 0} → C → List Shown → C → Result T (RunFail F) → Type 0
  HandsOver old all new result = MatchResult result (λ _. FoldsTo Takes old all new) (Stops old all new)

  -- at Ok the first parts of a list, at least one, were handed over, and it lost them
  abbrev pub HandsOverFirst : {T : Type 0} → ReportOptions → List Part → List Part → C → C → Result T (RunFail F) → Type 0
  HandsOverFirst options before after old new result =
      MatchResult result
      (λ _. (done : List Part) × (0 < length done) × (before ≡ done ++ after) × FoldsTo Takes old (parts_shown options done) new)
      (Stops old (parts_shown options before) new)
