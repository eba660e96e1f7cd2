-- What stops a top call, and the status that tells of it.
use Rattle.std.specs.Prelude.{ℕ, Result, Ok, Err}
use Rattle.dym_base.specs.declared.bad_kind.BadKind.TheVariants as bad
use Rattle.dym_io.specs.declared.whole_input.ReadFail.{ReadFail}
use Rattle.dym_io.specs.declared.whole_input.ReadFail.TheVariants as read
use Rattle.dym_ckpt.specs.declared.file_reader.FileFail.{FileFail}
use Rattle.dym_ckpt.specs.declared.file_reader.FileFail.TheVariants as file
use Rattle.dym_report.specs.declared.write_fail.WriteFail.{WriteFail}
use Rattle.dym_report.specs.declared.write_fail.WriteFail.TheVariants as write
use Rattle.dym_script.specs.declared.script.ScriptFail.{ScriptFail}
use Rattle.dym_script.specs.declared.script.ScriptFail.TheVariants as script
use Rattle.dymelor_top.specs.declared.stop.Stop.{Stop}
use Rattle.dymelor_top.specs.declared.stop.Stop.TheVariants as stop

abbrev pub stop_status : Stop → ℕ
stop_status stop.Usage = 1
stop_status (stop.Bad line kind) = 2
stop_status stop.Source = 3
stop_status stop.Sink = 4
stop_status stop.Memory = 5

-- the status of a call that wrote a text, or was stopped
abbrev pub status_of : {T : Type 0} → Result T Stop → ℕ
status_of (Ok done) = 0
status_of (Err stop) = stop_status stop

abbrev pub of_read : ReadFail → Stop
of_read read.Source = stop.Source
of_read read.Memory = stop.Memory

abbrev pub of_write : WriteFail → Stop
of_write write.Sink = stop.Sink
of_write write.Memory = stop.Memory

abbrev pub of_script_fail : ScriptFail → Stop
of_script_fail (script.Bad line kind) = stop.Bad line kind
of_script_fail script.Memory = stop.Memory

abbrev pub of_file_fail : FileFail → Stop
of_file_fail (file.Bad part) = stop.Bad part bad.File
of_file_fail file.Memory = stop.Memory
