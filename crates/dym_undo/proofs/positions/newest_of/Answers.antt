use Rattle.std.proofs.Common.{◌-◌, List, length, ap, ◌∙◌}
use Rattle.std.specs.List.{slice_get}
use Rattle.dym_undo.specs.declared.entry.Entry.{Entry}
use Rattle.dym_undo.proofs.Places.{count_same, got_last}
use Rattle.dym_undo.proofs.positions.newest_of.Goals as goal

pub returns : goal.returns
returns c logs are =
    c.copied.ensures ∙ c.last.ensures.value
    ∙ ap (λ (entries : List Entry). slice_get entries (length c.args.entries.now - 1)) are
    ∙ got_last logs (length c.args.entries.now - 1) (ap (λ n. n - 1) (count_same logs c.args.entries.now are))
