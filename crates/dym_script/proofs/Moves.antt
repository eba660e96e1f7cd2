-- The commands of each object, line by line.
use Rattle.std.proofs.Common.{◌≡◌, ℕ, ◌<◌, ◌==◌, true, false, cond, List, [], ◌∷◌, ◌++◌, length, map, filter, get_or, set, refl, sym, ap, ◌∙◌, arith, get_or-set_other, length-set, eqb-true, ◌≢◌, append-nil}
use Rattle.std.proofs.Math.Seq.{map-set_same}
use Rattle.std.proofs.lemmas.Grind.{get_or-set_at}
use Rattle.std.proofs.lemmas.Bool.Decides.{nat_tests}
use Rattle.dym_script.specs.declared.script.Line.{Line}
use Rattle.dym_script.specs.declared.parts.Part.{Part}
use Rattle.dym_script.specs.Parts.{commands_of, EachHas}

-- the commands of an object, with one line more
pub commands_of_push : (lines : List Line) (line : Line) (k : ℕ)
    → commands_of (lines ++ line ∷ []) k ≡ commands_of lines k ++ cond (line.object == k) (line.command ∷ []) []
commands_of_push [] line k = elim (line.object == k) as (λ b. map (λ (l : Line). l.command) (cond b (line ∷ []) []) ≡ cond b (line.command ∷ []) []) [
  | true ↦ refl
  | false ↦ refl
]
commands_of_push (l ∷ ls) line k = elim (l.object == k) as (λ b.
    map (λ (m : Line). m.command) (cond b (l ∷ filter (λ m. m.object == k) (ls ++ line ∷ [])) (filter (λ m. m.object == k) (ls ++ line ∷ []))) ≡ map
    (λ m. m.command) (cond b (l ∷ filter (λ m. m.object == k) ls) (filter (λ m. m.object == k) ls)) ++ cond (line.object == k) (line.command ∷ [])
    []) [
      | true ↦ ap (λ cs. l.command ∷ cs) (commands_of_push ls line k)
      | false ↦ commands_of_push ls line k
    ]

-- the part of the line's object gains its command, and the others stay
pub commands_more : (parts : List Part) (line : Line) (old new : Part) (lines : List Line) → line.object < length parts
    → old ≡ get_or parts line.object old → new.commands ≡ old.commands ++ line.command ∷ []
    → EachHas parts lines → EachHas (set parts line.object new) (lines ++ line ∷ [])
commands_more parts line old new lines inside at pushed owns k d small =
    elim (line.object == k) as (λ b. (line.object == k) ≡ b → (get_or (set parts line.object new) k d).commands ≡ commands_of (lines ++ line ∷ []) k) [
      | true ↦ λ same.
          let is : line.object ≡ k = eqb-true line.object k same in
          ap (λ (p : Part). p.commands) (get_or-set_at parts line.object k new d (sym is) inside) ∙ pushed
          ∙ ap (λ cs. cs ++ line.command ∷ []) (ap (λ (p : Part). p.commands) at ∙ owns line.object old inside ∙ ap (commands_of lines) is)
          ∙ sym (commands_of_push lines line k ∙ ap (λ b. commands_of lines k ++ cond b (line.command ∷ []) []) same)
      | false ↦ λ other.
          let apart : k ≢ line.object = grind (arith, nat_tests) in
          ap (λ (p : Part). p.commands) (get_or-set_other parts line.object k new d apart) ∙ owns k d (omega (arith, length-set parts line.object new))
          ∙ sym (commands_of_push lines line k ∙ ap (λ b. commands_of lines k ++ cond b (line.command ∷ []) []) other ∙ append-nil (commands_of lines k))
    ] refl

-- the declarations stay
pub decls_more : (parts : List Part) (i : ℕ) (old new : Part) → i < length parts → old ≡ get_or parts i old → new.decl ≡ old.decl
    → map (λ part. part.decl) (set parts i new) ≡ map (λ part. part.decl) parts
decls_more parts i old new inside at same = map-set_same (λ (part : Part). part.decl) parts i new old (same ∙ ap (λ (p : Part). p.decl) at)
