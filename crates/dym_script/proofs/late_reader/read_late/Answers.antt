use Rattle.std.proofs.Common.{arith, ap, sym}
use Rattle.dym_base.specs.Lines.{lines_of}
use Rattle.dym_script.specs.Late.{late_lines}
use Rattle.dym_script.specs.LateAnswers.{late_reading_of}
use Rattle.dym_script.proofs.LateRead.{read_more, read_bad, read_end, kept_is_lawful}
use Rattle.dym_script.proofs.late_reader.read_late.Goals as goal

pub loop-line-init : goal.loop-line-init
loop-line-init c = record {
  kept = c.new-reader.ensures.kept;
  short = omega arith;
  read = ap (λ s. late_lines s 1 (lines_of c.args.bytes.now)) (sym c.new-reader.ensures.reading_of);
}

pub loop-line-preserved : goal.loop-line-preserved
loop-line-preserved c = record {
  kept = c.in-Ok.ensures.kept;
  short = omega (arith, c.loop-line.invariant.short, c.in-Some.ensures.shorter);
  read = read_more c.args.bytes.now (late_reading_of c.loop-line.reader) (late_reading_of c.read_line.new.self) c.loop-line.number
      c.loop-line.rest.now c.in-Some.line.now c.in-Some.after.now c.loop-line.invariant.read c.in-Some.ensures.cut c.in-Ok.ensures.read;
}

pub returns-in-Err-Bad-clause-read : goal.returns-in-Err-Bad-clause-read
returns-in-Err-Bad-clause-read c =
    read_bad c.args.bytes.now (late_reading_of c.loop-line.reader) (late_reading_of c.read_line.new.self) c.loop-line.number c.loop-line.rest.now
    c.in-Some.line.now c.in-Some.after.now c.in-Err-Bad.field-0 c.in-Err-Bad.kind _
    c.if-bytes-gt-MOST_INPUT_BYTES.false c.loop-line.invariant.read c.in-Some.ensures.cut c.in-Err-Bad.field-0-is c.in-Err-Bad.kind-is c.in-Err-Bad.ensures.read

pub returns-clause-read : goal.returns-clause-read
returns-clause-read c = read_end c.args.bytes.now (late_reading_of c.loop-line.reader) c.loop-line.number c.loop-line.rest.now
    c.if-bytes-gt-MOST_INPUT_BYTES.false c.loop-line.invariant.read c.in_default.ensures.cut

pub returns-clause-valid : goal.returns-clause-valid
returns-clause-valid c = kept_is_lawful c.loop-line.reader c.loop-line.invariant.kept
