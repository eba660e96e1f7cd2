-- How a reader of late events comes from line to line.
use Rattle.std.proofs.Common.{◌≡◌, ℕ, ◌+◌, ◌≤◌, false, nat_lt, List, [], ◌∷◌, length, Ok, Err, refl, sym, ap, subst, ◌∙◌, arith}
use Rattle.std.proofs.lemmas.Bool.Decides.{nat_tests}
use Rattle.dym_base.specs.declared.limits.TheConstants.{MOST_INPUT_BYTES}
use Rattle.dym_base.specs.declared.bad_kind.BadKind.{BadKind}
use Rattle.dym_script.specs.declared.late_reader.LateReader.{LateReader}
use Rattle.dym_script.specs.declared.line_fail.LineFail.{LineFail}
use Rattle.dym_script.specs.declared.line_fail.LineFail.TheVariants as fail
use Rattle.dym_base.specs.Lines.{lines_of}
use Rattle.dym_script.specs.Late.{LateScriptMeaning, late_line, late_lines, late_on, late_of, late_start}
use Rattle.dym_script.specs.LateArrivals.{IsLawfulLate}
use Rattle.dym_script.specs.LateAnswers.{GivesLateLine, IsValidLateReader, late_reading_of}

-- an input that isn't too long says what its lines say
pub late_says : (bytes : List ℕ) → length bytes ≤ MOST_INPUT_BYTES → late_of bytes ≡ late_lines late_start 1 (lines_of bytes)
unfolding late_of
late_says bytes short =
    let test : nat_lt MOST_INPUT_BYTES (length bytes) ≡ false = grind (arith, nat_tests) in
    rw test refl

-- the lines so far were read, and this is what stands behind them
abbrev pub ReadTo : List ℕ → LateScriptMeaning → ℕ → List ℕ → Type 0
ReadTo bytes s number rest = late_lines late_start 1 (lines_of bytes) ≡ late_lines s (number + 1) (lines_of rest)

-- the next line is good
pub read_more : (bytes : List ℕ) (s t : LateScriptMeaning) (number : ℕ) (rest line after : List ℕ) → ReadTo bytes s number rest
    → lines_of rest ≡ line ∷ lines_of after → late_line s (number + 1) line ≡ Ok t → ReadTo bytes t (number + 1) after
read_more bytes s t number rest line after so cut good =
    so ∙ ap (late_lines s (number + 1)) cut ∙ ap (λ r. late_on (number + 1) r (λ next. late_lines next (number + 1 + 1) (lines_of after))) good

-- the next line is bad
pub read_bad : (bytes : List ℕ) (s t : LateScriptMeaning) (number : ℕ) (rest line after : List ℕ) (failed : LineFail) (kind told : BadKind)
    → length bytes ≤ MOST_INPUT_BYTES → ReadTo bytes s number rest → lines_of rest ≡ line ∷ lines_of after
    → failed ≡ fail.Bad kind → told ≡ kind → GivesLateLine t (Err failed) (late_line s (number + 1) line)
    → late_of bytes ≡ Err (record { line = number + 1; kind = told })
read_bad bytes s t number rest line after failed kind told short so cut is same gives =
    let bad : late_line s (number + 1) line ≡ Err kind = subst (λ e. GivesLateLine t (Err e) (late_line s (number + 1) line)) is gives in
    late_says bytes short ∙ so ∙ ap (late_lines s (number + 1)) cut
    ∙ ap (λ r. late_on (number + 1) r (λ next. late_lines next (number + 1 + 1) (lines_of after))) (bad ∙ ap (λ k. Err k) (sym same))

-- no line is left
pub read_end : (bytes : List ℕ) (s : LateScriptMeaning) (number : ℕ) (rest : List ℕ) → length bytes ≤ MOST_INPUT_BYTES → ReadTo bytes s number rest
    → lines_of rest ≡ [] → late_of bytes ≡ Ok s
read_end bytes s number rest short so none = late_says bytes short ∙ so ∙ ap (late_lines s (number + 1)) none

-- what is kept is lawful
pub kept_is_lawful : (r : LateReader) → IsValidLateReader r → IsLawfulLate (late_reading_of r)
kept_is_lawful r kept = record {
  objects = kept.index.valid.objects;
  lines = kept.few;
  names = kept.index.valid.names;
  quotas = kept.index.valid.quotas;
  declared = kept.within;
  acts = kept.acts;
  events = kept.events;
}
