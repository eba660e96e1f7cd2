use Rattle.dym_ckpt.specs.FileRecords.{FailsAs}
use Rattle.dym_ckpt.proofs.FileReadings.{passed_on}
use Rattle.dym_ckpt.proofs.file_reader.load_file.Goals as goal

pub returns-in_err-content-clause-fails : goal.returns-in_err-content-clause-fails
returns-in_err-content-clause-fails c = passed_on c.from_residual.result c.in_err-content.field-0.0 (FailsAs c.args.bytes.now) c.from_residual.ensures.1 c.in_err-content.ensures.fails
