use Rattle.std.proofs.Common.{◌++◌, codes, ap, ◌∙◌, refl}
use Rattle.std.proofs.lemmas.Option.{IfSome_then}
use Rattle.dym_script.specs.declared.verb.Verb.TheVariants as verb
use Rattle.dym_script.specs.Table.{Operand}
use Rattle.dym_script.proofs.Spelled.{demands, spells_end, spells_more}
use Rattle.dym_script.proofs.quick.verbs.log_verb.Goals as goal

pub returns-in_ok-time-in-Log : goal.returns-in_ok-time-in-Log
returns-in_ok-time-in-Log c = IfSome_then _ c.after_byte.ensures (λ after h.
    demands verb.Log _ _ _ _ (c.in_ok-time-in-Log.time, tt) c.in_ok-rest-in-Log.ensures
    (spells_more Operand.Num _ _ _ _ _ _ c.in_ok-time-in-Log.ensures (spells_end _ _ h)) refl)

pub returns-in_ok-time-in-Ilog : goal.returns-in_ok-time-in-Ilog
returns-in_ok-time-in-Ilog c = IfSome_then _ c.after_byte-in-Ilog.ensures (λ after h.
    demands verb.Ilog _ _ _ _ (c.in_ok-time-in-Ilog.time, tt) c.in_ok-rest-in-Ilog.ensures
    (spells_more Operand.Num _ _ _ _ _ _ c.in_ok-time-in-Ilog.ensures (spells_end _ _ h)) refl)

pub returns-in_ok-time-in-Restore : goal.returns-in_ok-time-in-Restore
returns-in_ok-time-in-Restore c = IfSome_then _ c.after_byte-in-Restore-2.ensures (λ after h.
    demands verb.Restore _ _ _ _ (c.in_ok-time-in-Restore.time, tt) (c.in_ok-end-in-Restore.ensures ∙ ap (λ t. codes " restor" ++ t) c.in_ok-rest-in-Restore.ensures)
    (spells_more Operand.Num _ _ _ _ _ _ c.in_ok-time-in-Restore.ensures (spells_end _ _ h)) refl)

pub returns-in_ok-bound-in-Prune : goal.returns-in_ok-bound-in-Prune
returns-in_ok-bound-in-Prune c = IfSome_then _ c.after_byte-in-Prune.ensures (λ after h.
    demands verb.Prune _ _ _ _ (c.in_ok-bound-in-Prune.bound, tt) c.in_ok-rest-in-Prune.ensures
    (spells_more Operand.Num _ _ _ _ _ _ c.in_ok-bound-in-Prune.ensures (spells_end _ _ h)) refl)

pub returns-in_ok-rest-in-Logs : goal.returns-in_ok-rest-in-Logs
returns-in_ok-rest-in-Logs c = IfSome_then _ c.after_byte-in-Logs.ensures (λ after h.
    demands verb.Logs _ _ _ _ tt c.in_ok-rest-in-Logs.ensures
    (spells_end _ _ h) refl)
