use Rattle.std.proofs.Common.{◌≡◌, ◌+◌, List, [], ◌∷◌, map, length, None, Some, refl, sym, ap, ◌∙◌, arith}
use Rattle.std.specs.List.{slice_get}
use Rattle.std.proofs.lemmas.Option.{same_Some}
use Rattle.dym_base.specs.Objects.{LogEntry, slots}
use Rattle.dym_undo.specs.UndoLogs.{entry_of}
use Rattle.dym_undo.specs.declared.entry.Entry.{Entry}
use Rattle.dym_undo.proofs.Places.{count_same}
use Rattle.dym_undo.proofs.positions.slots_of.Goals as goal

none_first : (logs : List LogEntry) → slice_get (map entry_of logs) 0 ≡ None → 0 ≡ slots logs
none_first [] is = refl
none_first (e ∷ es) is = absurd (let x : Some (entry_of e) ≡ None = is in cc)

some_first : (logs : List LogEntry) (x : Entry) → slice_get (map entry_of logs) 0 ≡ Some x → length logs + x.depth ≡ slots logs
some_first [] x is = absurd (let y : None ≡ Some x = is in cc)
some_first (e ∷ es) x is = ap (λ (y : Entry). length (e ∷ es) + y.depth) (sym (same_Some (entry_of e) x is))

pub returns-in-None : goal.returns-in-None
returns-in-None c logs are = none_first logs (ap (λ (entries : List Entry). slice_get entries 0) (sym are) ∙ sym c.first.ensures.value ∙ sym c.copied.ensures ∙ c.in-None.is)

pub returns-in-Some : goal.returns-in-Some
returns-in-Some c logs are =
    let is = some_first logs c.in-Some.oldest (ap (λ (entries : List Entry). slice_get entries 0) (sym are) ∙ sym c.first.ensures.value ∙ sym c.copied.ensures ∙ c.in-Some.is) in
    omega (arith, is, count_same logs c.args.entries.now are)
