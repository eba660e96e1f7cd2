-- What is left to write is the digits of the bytes that are left.
use Rattle.std.proofs.Common.{◌≡◌, [], ◌++◌, arith}
use Rattle.std.proofs.lemmas.Grind.{common_steps}
use Rattle.hex.specs.Hex.{encode_lower}
use Rattle.dym_io.specs.Laws.{leaves_same, leaves_more, leaves_cut, leaves_nothing, writes_stopped}
use Rattle.dym_report.proofs.HexPieces.{encode_lower-cut, encode_lower-none}
use Rattle.dym_report.proofs.hex_text.write_digits.Goals as goal

pub returns-in_err-write_piece : goal.returns-in_err-write_piece
returns-in_err-write_piece g c =
    let split : encode_lower c.pieces.rest.now ≡ encode_lower c.split_at.result.0.now ++ encode_lower c.split_at.result.1.now =
    rw (c.split_at.ensures.front, c.split_at.ensures.back) (encode_lower-cut c.pieces.rest.now c.min.result) in
    let left = leaves_same _ _ _ _ _ c.pieces.invariant split in
    writes_stopped _ _ _ _ c.from_residual.ensures.0 (leaves_cut _ _ _ _ _ _ left c.in_err-write_piece.ensures)

pub pieces-preserved : goal.pieces-preserved
pieces-preserved g c =
    let split : encode_lower c.pieces.rest.now ≡ encode_lower c.split_at.result.0.now ++ encode_lower c.split_at.result.1.now =
    rw (c.split_at.ensures.front, c.split_at.ensures.back) (encode_lower-cut c.pieces.rest.now c.min.result) in
    let left = leaves_same _ _ _ _ _ c.pieces.invariant split in
    leaves_more _ _ _ _ _ _ left c.in_ok-write_piece.ensures

pub returns : goal.returns
returns g c =
    let none : encode_lower c.pieces.rest.now ≡ [] = encode_lower-none c.pieces.rest.now (grind (arith, common_steps)) in
    leaves_nothing _ _ _ (leaves_same _ _ _ _ _ c.pieces.invariant none)
