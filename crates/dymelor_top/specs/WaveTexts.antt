-- What is written of a script whose objects run in waves.
use Rattle.std.specs.Prelude.{ℕ, Bool, true, false, List}
use Rattle.dym_wave.specs.Reports.{report_text, summary_of}
use Rattle.dym_wave.specs.Views.{views_text}
use Rattle.dym_script.specs.Scripts.{ScriptMeaning}
use Rattle.dymelor_top.specs.declared.waves.WaveText.{WaveText}
use Rattle.dymelor_top.specs.declared.waves.WaveText.TheVariants as wave

-- the report of a script, with the view of each object where views are told
abbrev pub viewed_text : Bool → ScriptMeaning → List ℕ
viewed_text true said = views_text said
viewed_text false said = report_text said

-- the report of a script, or its summary, or its report with the view of each object
abbrev pub waves_text : WaveText → ScriptMeaning → List ℕ
waves_text wave.Report said = report_text said
waves_text wave.Summary said = summary_of said
waves_text wave.Views said = views_text said
