use Rattle.std.proofs.Common.{◌-◌, ◌∙◌, [], length, take, drop, sym, ap, subst, arith, length-append}
use Rattle.dym_script.specs.ByObjects.{GivesParts, IsByObjects}
use Rattle.dym_script.specs.Parts.{KeepsParts}
use Rattle.dym_script.specs.Pieces.{says}
use Rattle.dym_script.specs.WholeScripts.{TookBy}
use Rattle.dym_script.proofs.PiecesRead.{script_says, piece_is_bad, last_part}
use Rattle.dym_script.proofs.parallel_reader.read_parallel.Goals as goal

pub returns-in_err-left : goal.returns-in_err-left
returns-in_err-left g c =
    let bytes = c.args.bytes.now in
    subst (GivesParts c.from_residual.result) (sym (script_says bytes (omega (arith, c.if-bytes-gt-MOST_INPUT_BYTES.false))))
    (piece_is_bad IsByObjects (TookBy KeepsParts c.new-script.result) (TookBy KeepsParts c.take_parallel.new.self) bytes c.from_residual.result
    c.in_err-left.field-0.0 c.in_err-left.ensures.took c.new-script.ensures c.from_residual.ensures.0 c.from_residual.ensures.1)

pub finish-requires : goal.finish-requires
finish-requires g c =
    let bytes = c.args.bytes.now in
    let n = length bytes - c.in_ok-left.left in (
      take n bytes,
      c.in_ok-left.ensures.took [] c.new-script.ensures,
      omega (arith, c.if-bytes-gt-MOST_INPUT_BYTES.false, ap length (last_part n bytes), length-append (take n bytes) (take (length bytes - n) (drop n bytes))),
    )

pub returns : goal.returns
returns g c =
    let bytes = c.args.bytes.now in
    let n = length bytes - c.in_ok-left.left in
    subst (GivesParts c.finish.result) (ap says (last_part n bytes) ∙ sym (script_says bytes (omega (arith, c.if-bytes-gt-MOST_INPUT_BYTES.false))))
    (c.finish.ensures (take n bytes) (c.in_ok-left.ensures.took [] c.new-script.ensures))
