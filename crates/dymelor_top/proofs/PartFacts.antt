-- The parts of a script that was read into its objects are these objects, and each may run.
use Rattle.std.proofs.Common.{◌≡◌, ℕ, suc, ◌+◌, ◌<◌, ◌≤◌, true, false, cond, List, [], ◌∷◌, ◌++◌, length, map, filter, flat_map, All, get_or, refl, sym, ap, subst, ◌∙◌, add-zero, append-nil, Bool, arith, ◌==◌}
use Rattle.std.proofs.Math.ListN.{get_or-map}
use Rattle.dym_base.specs.declared.command.Version.{Version}
use Rattle.dym_script.specs.declared.script.Decl.{Decl}
use Rattle.dym_script.specs.declared.script.Line.{Line}
use Rattle.dym_script.specs.declared.parts.PartCollector.{PartCollector}
use Rattle.dym_script.specs.declared.parts.Part.{Part}
use Rattle.dym_script.specs.declared.pieces.WholeScript.{WholeScript}
use Rattle.dym_script.specs.ByObjects.{IsByObjects}
use Rattle.dym_script.specs.Scripts.{ScriptMeaning, own}
use Rattle.dym_script.specs.Answers.{IsLawful}
use Rattle.dym_script.specs.Parts.{EachHas}
use Rattle.dym_wave.specs.Results.{parts_text}
use Rattle.dym_script.specs.OwnCommands.{own_of, IsRunnable, own_from, objects_of}
use Rattle.dym_wave.specs.Reports.{part_text, report_text}
use Rattle.dym_report.specs.Orders.{end_text}
use Rattle.dym_wave.specs.Views.{viewed_part, views_text}
use Rattle.dymelor_top.specs.WaveTexts.{viewed_text}

-- the commands of the parts from the k-th object on
abbrev pub OwnsFrom : ScriptMeaning → ℕ → List Part → Type 0
OwnsFrom s k parts = (j : ℕ) (d : Part) → j < length parts → (get_or parts j d).commands ≡ own s (k + j)

-- what is kept of the others
pub owns_later : (s : ScriptMeaning) (k : ℕ) (p : Part) (ps : List Part) → OwnsFrom s k (p ∷ ps) → OwnsFrom s (k + 1) ps
owns_later s k p ps owns j d within = owns (suc j) d (omega arith) ∙ ap (own s) shifted
  where
    shifted : k + suc j ≡ (k + 1) + j
    shifted = omega arith

-- and of the first
pub owns_first : (s : ScriptMeaning) (k : ℕ) (p : Part) (ps : List Part) → OwnsFrom s k (p ∷ ps) → p.commands ≡ own s k
owns_first s k p ps owns = owns 0 p (omega arith) ∙ ap (own s) (add-zero k)

pub owns_all : (s : ScriptMeaning) (parts : List Part) → EachHas parts s.lines → OwnsFrom s 0 parts
unfolding own
owns_all s parts has j d within = has j d within ∙ ap (own s) zero_first
  where
    zero_first : j ≡ 0 + j
    zero_first = omega arith

own_from_parts : (s : ScriptMeaning) (k : ℕ) (parts : List Part) → OwnsFrom s k parts → map own_of parts ≡ own_from s k (map (λ p. p.decl) parts)
own_from_parts s k [] owns = refl
own_from_parts s k (p ∷ ps) owns =
    let first : p.commands ≡ own s k = owns_first s k p ps owns in
    λ i. record { decl = p.decl; commands = first i } ∷ own_from_parts s (k + 1) ps (owns_later s k p ps owns) i

pub parts_are_objects : (s : ScriptMeaning) (parts : List Part) → map (λ p. p.decl) parts ≡ s.objects → EachHas parts s.lines → map own_of parts ≡ objects_of s
unfolding objects_of
parts_are_objects s parts decls owns = own_from_parts s 0 parts (owns_all s parts owns) ∙ ap (own_from s 0) decls

pub texts_of_parts : (v : Version) (parts : List Part) → flat_map (λ part. part_text v (own_of part)) parts ≡ flat_map (part_text v) (map own_of parts)
texts_of_parts v [] = refl
texts_of_parts v (p ∷ ps) = ap (λ l. part_text v (own_of p) ++ l) (texts_of_parts v ps)

-- the commands of one object are among those of the script
module _ (object : ℕ) where
  own_few : (lines : List Line) → length (map (λ (line : Line). line.command) (filter (λ line. line.object == object) lines)) ≤ length lines
  own_few [] = omega arith
  own_few (x ∷ xs) =
      elim (x.object == object) as (λ b. length
      (map (λ (line : Line). line.command) (cond b (x ∷ filter (λ line. line.object == object) xs) (filter (λ line. line.object == object) xs))) ≤ suc (length xs)) [
        | true ↦ omega (arith, own_few xs)
        | false ↦ omega (arith, own_few xs)
      ]

pub decl_at : (parts : List Part) (k : ℕ) (d : Part) → get_or (map (λ (p : Part). p.decl) parts) k d.decl ≡ (get_or parts k d).decl
decl_at parts k d = get_or-map (λ (p : Part). p.decl) parts k d

pub length_decls : (parts : List Part) → length (map (λ (p : Part). p.decl) parts) ≡ length parts
length_decls [] = refl
length_decls (p ∷ ps) = ap suc (length_decls ps)

pub parts_run : (s : ScriptMeaning) (parts : List Part) → map (λ p. p.decl) parts ≡ s.objects → EachHas parts s.lines → IsLawful s → All IsRunnable parts
unfolding own
parts_run s parts decls owns lawful k d within =
    let stand = owns k d within in
    let at : get_or s.objects k d.decl ≡ (get_or parts k d).decl = ap (λ ds. get_or ds k d.decl) (sym decls) ∙ decl_at parts k d in
    let reach : k < length s.objects = omega (arith, length_decls parts, ap length decls) in
    let quota = lawful.quotas k d.decl reach in
    record {
      few = omega (arith, ap length stand, own_few k s.lines, lawful.lines);
      quota_least = subst (λ (x : Decl). 1 ≤ x.quota) at quota.0;
      quota_most = subst (λ (x : Decl). x.quota ≤ 1024) at quota.1;
    }

-- the report of a script that was read into its parts
pub report_of_parts : (script : WholeScript PartCollector) (s : ScriptMeaning) (parts : List Part) → IsByObjects script s → parts ≡ script.kept.parts.items
    → report_text s ≡ flat_map (λ part. part_text script.version (own_of part)) parts ++ end_text
unfolding report_text
report_of_parts script s parts are all =
    let ps : List Part = script.kept.parts.items in
    ap (λ l. l ++ end_text) (ap (flat_map (part_text s.version)) (sym (parts_are_objects s ps are.keeps.decls are.keeps.commands)) ∙ sym (texts_of_parts s.version ps))
    ∙ (λ i. flat_map (λ part. part_text (are.version i) (own_of part)) (sym all i) ++ end_text)

-- the same with the views
viewed_of_parts : (v : Version) (parts : List Part) → flat_map (λ part. viewed_part v (own_of part)) parts ≡ flat_map (viewed_part v) (map own_of parts)
viewed_of_parts v [] = refl
viewed_of_parts v (p ∷ ps) = ap (λ l. viewed_part v (own_of p) ++ l) (viewed_of_parts v ps)

pub views_of_parts : (script : WholeScript PartCollector) (s : ScriptMeaning) → IsByObjects script s
    → views_text s ≡ flat_map (λ part. viewed_part script.version (own_of part)) script.kept.parts.items ++ end_text
unfolding views_text
views_of_parts script s are =
    let ps : List Part = script.kept.parts.items in
    ap (λ l. l ++ end_text) (ap (flat_map (viewed_part s.version)) (sym (parts_are_objects s ps are.keeps.decls are.keeps.commands)) ∙ sym (viewed_of_parts s.version ps))
    ∙ ap (λ v. flat_map (λ part. viewed_part v (own_of part)) ps ++ end_text) are.version

-- where no view is told, the texts are the parts' own
plain_texts : (v : Version) (parts : List Part) → parts_text (record { version = v; views = false }) parts ≡ flat_map (λ (p : Part). part_text v (own_of p)) parts
plain_texts v [] = refl
plain_texts v (p ∷ parts) = λ i. append-nil (part_text v (own_of p)) i ++ plain_texts v parts i

-- the report, with views or without
pub told_of_parts : (views : Bool) (script : WholeScript PartCollector) (s : ScriptMeaning) → IsByObjects script s
    → viewed_text views s ≡ parts_text (record { version = script.version; views = views }) script.kept.parts.items ++ end_text
told_of_parts true script s are = views_of_parts script s are
told_of_parts false script s are =
    report_of_parts script s script.kept.parts.items are refl ∙ ap (λ l. l ++ end_text) (sym (plain_texts script.version script.kept.parts.items))
