use Rattle.std.proofs.Common.{◌≡◌, ◌*◌, replicate, rules, refl}
use Rattle.dym_undo.proofs.Logging.{undo_log-open, fields_same}
use Rattle.dym_undo.proofs.undo_log.UndoLog.open.Goals as goal

pub invariant_of-result : goal.invariant_of-result
invariant_of-result c =
    let are : c.in_ok-words.words.items ≡ replicate (c.args.quota * 64) 0 = search rules in
    fields_same c.args.quota _ _ _ _ _ _ _ _ _ _ _ _ _ _ c.new.ensures.items c.new-2.ensures.items c.new-3.ensures.items c.new-4.ensures.items refl c.open.ensures
    (undo_log-open c.args.quota _ _ c.in_ok-words.words.items c.requires are)
