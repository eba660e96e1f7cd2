-- Objects that run in waves: the first that may hold more than there is room for, or that all of them fit; and which orders run so.
use Rattle.std.proofs.Common.{◌≡◌, ℕ, ◌≤◌, Bool, true, false, cond, List, [], ◌∷◌, All, map, nat_lt, Option, Some, None, option_map, refl, sym, ap, subst, ◌∙◌, arith}
use Rattle.std.specs.List.{find}
use Rattle.std.proofs.lemmas.Bool.Decides.{nat_tests}
use Rattle.std.proofs.lemmas.List.Elements.{All-nil, All-cons}
use Rattle.dym_base.specs.declared.bad_kind.BadKind.TheVariants as bad
use Rattle.dym_script.specs.ByObjects.{IsByObjects}
use Rattle.dym_script.specs.Scripts.{ScriptMeaning}
use Rattle.dym_script.specs.declared.parts.PartCollector.{PartCollector}
use Rattle.dym_script.specs.declared.parts.Part.{Part}
use Rattle.dym_script.specs.declared.pieces.WholeScript.{WholeScript}
use Rattle.dym_wave.specs.Reports.{report_text, summary_of}
use Rattle.dymelor_top.specs.Answers.{fault_answer, first_above, report_or_summary, unless_above}
use Rattle.dymelor_top.specs.WaveTexts.{waves_text}
use Rattle.dymelor_top.specs.declared.waves.WaveText.{WaveText}
use Rattle.dymelor_top.specs.declared.waves.WaveText.TheVariants as wave

-- ---- objects that may hold too much

fits_not_above : (segments quota : ℕ) → nat_lt segments quota ≡ false → quota ≤ segments
fits_not_above segments quota is = grind (arith, nat_tests)

module _ (segments : ℕ) where
  -- the part's object may hold more
  abbrev is_above : Part → Bool
  is_above part = nat_lt segments part.decl.quota

  above_decl : (parts : List Part) → first_above segments (map (λ (p : Part). p.decl) parts) ≡ option_map (λ (p : Part). p.decl) (find is_above parts)
  above_decl [] = refl
  above_decl (p ∷ ps) =
      elim (is_above p)
      as (λ b. cond b (Some p.decl) (first_above segments (map (λ (p : Part). p.decl) ps)) ≡ option_map (λ (p : Part). p.decl) (cond b (Some p) (find is_above ps))) [
        | true ↦ refl
        | false ↦ above_decl ps
      ]

  first_fits : (p : Part) (ps : List Part) (b : Bool) → is_above p ≡ b → cond b (Some p) (find is_above ps) ≡ None
      → (find is_above ps ≡ None → All (λ (p : Part). p.decl.quota ≤ segments) ps) → All (λ (p : Part). p.decl.quota ≤ segments) (p ∷ ps)
  first_fits p ps true is found others = absurd (cc)
  first_fits p ps false is found others = All-cons (λ (p : Part). p.decl.quota ≤ segments) p ps (fits_not_above segments p.decl.quota is) (others found)

  none_above : (parts : List Part) → find is_above parts ≡ None → All (λ (p : Part). p.decl.quota ≤ segments) parts
  none_above [] none = All-nil (λ (p : Part). p.decl.quota ≤ segments)
  none_above (p ∷ ps) none = first_fits p ps (is_above p) refl none (none_above ps)

no_part : (o : Option Part) → None ≡ option_map (λ (p : Part). p.decl.line) o → o ≡ None
no_part None is = refl
no_part (Some p) is = absurd (cc)

told_line : (text : List ℕ) (o : Option Part) (line : ℕ) → Some line ≡ option_map (λ (p : Part). p.decl.line) o
    → unless_above text (option_map (λ (p : Part). p.decl) o) ≡ fault_answer line bad.QuotaRange
told_line text None line is = absurd (cc)
told_line text (Some p) line is =
    let same : p.decl.line ≡ line = cc in
    ap (λ n. fault_answer n bad.QuotaRange) same

-- the line of the first such object was looked for among these parts
module _ (segments : ℕ) (script : WholeScript PartCollector) (s : ScriptMeaning) (parts : List Part) (line : Option ℕ) (are : IsByObjects script s)
    (same : parts ≡ script.kept.parts.items) (found : line ≡ option_map (λ (p : Part). p.decl.line) (find (is_above segments) parts)) where
  above_of_parts : (text : List ℕ)
      → unless_above text (first_above segments s.objects) ≡ unless_above text (option_map (λ (p : Part). p.decl) (find (is_above segments) parts))
  above_of_parts text =
      ap (λ ds. unless_above text (first_above segments ds)) (sym are.keeps.decls) ∙ ap (unless_above text) (above_decl segments script.kept.parts.items)
      ∙ ap (λ ps. unless_above text (option_map (λ (p : Part). p.decl) (find (is_above segments) ps))) (sym same)

  -- where it was found, the answer tells of it
  pub above_answer : (text : List ℕ) (n : ℕ) → line ≡ Some n → unless_above text (first_above segments s.objects) ≡ fault_answer n bad.QuotaRange
  above_answer text n is = above_of_parts text ∙ told_line text (find (is_above segments) parts) n (sym is ∙ found)

  -- where it wasn't, all objects fit, and the answer is the text
  pub all_fit : line ≡ None → All (λ (p : Part). p.decl.quota ≤ segments) script.kept.parts.items
  all_fit is =
      subst (All (λ (p : Part). p.decl.quota ≤ segments)) same (none_above segments parts (no_part (find (is_above segments) parts) (sym is ∙ found)))

  pub fitting_answer : (text : List ℕ) → line ≡ None → unless_above text (first_above segments s.objects) ≡ record { status = 0; text = text }
  fitting_answer text is =
      above_of_parts text ∙ ap (λ o. unless_above text (option_map (λ (p : Part). p.decl) o)) (no_part (find (is_above segments) parts) (sym is ∙ found))

-- what the order `run` writes
pub run_text_is : (summary : Bool) (text : WaveText) → text ≡ cond summary wave.Summary wave.Report → waves_text text ≡ report_or_summary summary
run_text_is true text is = ap waves_text is ∙ (λ i s. summary_of s)
run_text_is false text is = ap waves_text is ∙ (λ i s. report_text s)
