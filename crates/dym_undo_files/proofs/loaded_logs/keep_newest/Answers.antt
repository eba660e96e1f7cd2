use Rattle.std.proofs.Common.{◌-◌, option_map, drop, sym, ap, ◌∙◌}
use Rattle.std.proofs.lemmas.Option.{same_Some}
use Rattle.dym_base.specs.Objects.{LogEntry, ObjectState, reached, empty_heap}
use Rattle.dym_undo_files.proofs.Reading.{newest_alone}
use Rattle.dym_undo_files.proofs.loaded_logs.keep_newest.Goals as goal

pub returns-clause-logs : goal.returns-clause-logs
returns-clause-logs c e is =
    let logs = c.args.undo.now.logs in
    let time = same_Some _ _ (sym c.in-Some.is ∙ c.newest.ensures ∙ ap (option_map (λ (x : LogEntry). x.time)) is) in
    ap (λ (o : ObjectState). o.logs) (c.prune.ensures.after empty_heap)
    ∙ ap (λ t. drop (reached t logs - 1) logs) time
    ∙ newest_alone logs e c.requires is
