use Rattle.std.proofs.Common.{[], sym, subst}
use Rattle.dym_script.specs.Answers.{GivesBy}
use Rattle.dym_script.specs.Keepers.{IsWhole}
use Rattle.dym_script.proofs.PiecesRead.{script_says}
use Rattle.dym_script.proofs.line_list.read_lines_of.Goals as goal

pub returns : goal.returns
returns g c =
    subst (GivesBy (λ whole. IsWhole (g.K.Keeper.keeps whole.kept) whole.version whole.objects.items whole.commands) c.finish.result)
    (sym (script_says c.args.bytes.now c.if-bytes-gt-MOST_INPUT_BYTES.false)) (c.finish.ensures [] c.new.ensures)
