-- The parts of a script of late events: what its lines say of each object, and the report that they make.
use Rattle.std.proofs.Common.{◌≡◌, ℕ, suc, ◌+◌, ◌<◌, ◌≤◌, ◌==◌, ◌&&◌, ◌≢◌, true, false, cond, List, [], ◌∷◌, ◌++◌, All, length, map, filter, flat_map, count_by, get_or, set, refl, sym, ap, subst, ◌∙◌, append-nil, add-zero, arith, length-set, get_or-set_other, eqb-true}
use Rattle.std.proofs.Math.ListN.{get_or-map}
use Rattle.std.proofs.Math.Seq.{map-set_same}
use Rattle.std.proofs.lemmas.Grind.{get_or-set_at}
use Rattle.std.proofs.lemmas.Bool.Decides.{nat_tests}
use Rattle.std.proofs.lemmas.List.{length-map}
use Rattle.std.proofs.lemmas.List.Sums.{sum_by-cons}
use Rattle.std.proofs.lemmas.List.Elements.{All-nil, All-cons, All-head, All-tail}
use Rattle.dym_report.specs.Orders.{end_text}
use Rattle.dym_script.specs.declared.late_script.LateLine.{LateLine}
use Rattle.dym_script.specs.declared.script.Decl.{Decl}
use Rattle.dym_script.specs.Late.{LateScriptMeaning, is_event, events_of}
use Rattle.dym_script.specs.LateArrivals.{arrival, arrivals_of, MayAct, IsLawfulLate}
use Rattle.dymelor_top.specs.declared.late_parts.LatePart.{LatePart}
use Rattle.dymelor_top.specs.LateReport.{late_part, late_parts_from, late_text}
use Rattle.dymelor_top.specs.LateParts.{arrivals_by, late_part_text, acts_of, EachHasActs, AreLateParts, IsLatePart}

-- what a line more says

acts_of_push : (lines : List LateLine) (line : LateLine) (k : ℕ) → acts_of (lines ++ line ∷ []) k ≡ acts_of lines k ++ cond (line.object == k) (line.act ∷ []) []
acts_of_push [] line k =
    elim (line.object == k) as (λ b. map (λ (l : LateLine). l.act) (cond b (line ∷ []) []) ≡ cond b (line.act ∷ []) []) [ true ↦ refl | false ↦ refl ]
acts_of_push (l ∷ ls) line k =
    elim (l.object == k) as (λ b. map (λ (m : LateLine). m.act)
    (cond b (l ∷ filter (λ m. m.object == k) (ls ++ line ∷ [])) (filter (λ m. m.object == k) (ls ++ line ∷ [])))
    ≡ map (λ m. m.act) (cond b (l ∷ filter (λ m. m.object == k) ls) (filter (λ m. m.object == k) ls)) ++ cond (line.object == k) (line.act ∷ []) []) [
      | true ↦ ap (λ outcome. l.act ∷ outcome) (acts_of_push ls line k)
      | false ↦ acts_of_push ls line k
    ]

-- the part of the line's object gains it, and the others stay
acts_more : (parts : List LatePart) (line : LateLine) (old new : LatePart) (lines : List LateLine) → line.object < length parts → old ≡ get_or parts line.object old
    → new.acts.items ≡ old.acts.items ++ line.act ∷ []
    → EachHasActs parts lines → EachHasActs (set parts line.object new) (lines ++ line ∷ [])
acts_more parts line old new lines inside at pushed has k d small =
    elim (line.object == k) as (λ b. (line.object == k) ≡ b → (get_or (set parts line.object new) k d).acts.items ≡ acts_of (lines ++ line ∷ []) k) [
      | true ↦ λ same.
          let is : line.object ≡ k = eqb-true line.object k same in
          ap (λ (p : LatePart). p.acts.items) (get_or-set_at parts line.object k new d (sym is) inside) ∙ pushed
          ∙ ap (λ outcome. outcome ++ line.act ∷ []) (ap (λ (p : LatePart). p.acts.items) at ∙ has line.object old inside ∙ ap (acts_of lines) is)
          ∙ sym (acts_of_push lines line k ∙ ap (λ b. acts_of lines k ++ cond b (line.act ∷ []) []) same)
      | false ↦ λ other.
          let apart : k ≢ line.object = grind (arith, nat_tests) in
          ap (λ (p : LatePart). p.acts.items) (get_or-set_other parts line.object k new d apart) ∙ has k d (omega (arith, length-set parts line.object new))
          ∙ sym (acts_of_push lines line k ∙ ap (λ b. acts_of lines k ++ cond b (line.act ∷ []) []) other ∙ append-nil (acts_of lines k))
    ] refl

pub parts_more : (parts : List LatePart) (objects : List Decl) (line : LateLine) (old new : LatePart) (lines : List LateLine) → line.object < length parts
    → old ≡ get_or parts line.object old → new.decl ≡ old.decl → new.acts.items ≡ old.acts.items ++ line.act ∷ []
    → AreLateParts parts objects lines → AreLateParts (set parts line.object new) objects (lines ++ line ∷ [])
parts_more parts objects line old new lines inside at same pushed are = record {
  decls = map-set_same (λ (part : LatePart). part.decl) parts line.object new old (same ∙ ap (λ (p : LatePart). p.decl) at) ∙ are.decls;
  acts = acts_more parts line old new lines inside at pushed are.acts;
}

-- so many are the parts
pub many_parts : (parts : List LatePart) (objects : List Decl) (lines : List LateLine) → AreLateParts parts objects lines → length parts ≡ length objects
many_parts parts objects lines are = sym (length-map parts (λ (p : LatePart). p.decl)) ∙ ap length are.decls

-- what comes for an object

arrivals_are : (lines : List LateLine) (k : ℕ) → arrivals_by (acts_of lines k) ≡ arrivals_of lines k
arrivals_are [] k = refl
arrivals_are (l ∷ ls) k =
    elim (l.object == k) as (λ b. map (λ a. arrival a) (map (λ (m : LateLine). m.act) (cond b (l ∷ filter (λ m. m.object == k) ls) (filter (λ m. m.object == k) ls)))
    ≡ map (λ m. arrival m.act) (cond b (l ∷ filter (λ m. m.object == k) ls) (filter (λ m. m.object == k) ls))) [
      | true ↦ ap (λ outcome. arrival l.act ∷ outcome) (arrivals_are ls k)
      | false ↦ arrivals_are ls k
    ]

events_are : (lines : List LateLine) (k : ℕ) → count_by is_event (acts_of lines k) ≡ events_of lines k
events_are [] k = refl
events_are (l ∷ ls) k =
    elim (l.object == k) as (λ b. count_by is_event (map (λ (m : LateLine). m.act) (cond b (l ∷ filter (λ m. m.object == k) ls) (filter (λ m. m.object == k) ls)))
    ≡ cond (b && is_event l.act) 1 0 + events_of ls k) [
      | true ↦ sum_by-cons (λ a. cond (is_event a) 1 0) l.act (acts_of ls k) ∙ ap (λ n. cond (is_event l.act) 1 0 + n) (events_are ls k)
      | false ↦ omega (arith, events_are ls k)
    ]
    ∙ sym (sum_by-cons (λ (m : LateLine). cond (m.object == k && is_event m.act) 1 0) l ls)

may_act : (lines : List LateLine) (k : ℕ) → All (λ line. MayAct line.act) lines → All MayAct (acts_of lines k)
may_act [] k all = All-nil MayAct
may_act (l ∷ ls) k all =
    let others = may_act ls k (All-tail (λ (m : LateLine). MayAct m.act) l ls all) in
    elim (l.object == k) as (λ b. All MayAct (map (λ (m : LateLine). m.act) (cond b (l ∷ filter (λ m. m.object == k) ls) (filter (λ m. m.object == k) ls)))) [
      | true ↦ All-cons MayAct l.act (acts_of ls k) (All-head (λ (m : LateLine). MayAct m.act) l ls all) others
      | false ↦ others
    ]

decl_at : (parts : List LatePart) (k : ℕ) (d : LatePart) → get_or (map (λ (p : LatePart). p.decl) parts) k d.decl ≡ (get_or parts k d).decl
decl_at parts k d = get_or-map (λ (p : LatePart). p.decl) parts k d

-- each part of a lawful script can be run
pub parts_run : (parts : List LatePart) (s : LateScriptMeaning) → AreLateParts parts s.objects s.lines → IsLawfulLate s → All IsLatePart parts
parts_run parts s are lawful k d within =
    let at : get_or s.objects k d.decl ≡ (get_or parts k d).decl = ap (λ ds. get_or ds k d.decl) (sym are.decls) ∙ decl_at parts k d in
    let reach : k < length s.objects = omega (arith, within, many_parts parts s.objects s.lines are) in
    let quota = lawful.quotas k d.decl reach in
    let acts = are.acts k d within in
    record {
      quota_least = subst (λ (x : Decl). 1 ≤ x.quota) at quota.0;
      quota_most = subst (λ (x : Decl). x.quota ≤ 1024) at quota.1;
      acts = subst (All MayAct) (sym acts) (may_act s.lines k lawful.acts);
      few = omega (arith, ap (count_by is_event) acts, events_are s.lines k, lawful.events k);
    }

-- the acts of the parts from the k-th object on
abbrev HasFrom : List LateLine → ℕ → List LatePart → Type 0
HasFrom lines k parts = (j : ℕ) (d : LatePart) → j < length parts → (get_or parts j d).acts.items ≡ acts_of lines (k + j)

has_later : (lines : List LateLine) (k : ℕ) (p : LatePart) (ps : List LatePart) → HasFrom lines k (p ∷ ps) → HasFrom lines (k + 1) ps
has_later lines k p ps has j d within = has (suc j) d (omega arith) ∙ ap (acts_of lines) shifted
  where
    shifted : k + suc j ≡ (k + 1) + j
    shifted = omega arith

has_all : (lines : List LateLine) (parts : List LatePart) → EachHasActs parts lines → HasFrom lines 0 parts
has_all lines parts has j d within = has j d within ∙ ap (acts_of lines) zero_first
  where
    zero_first : j ≡ 0 + j
    zero_first = omega arith

texts_from : (lines : List LateLine) (k : ℕ) (parts : List LatePart) → HasFrom lines k parts
    → flat_map late_part_text parts ≡ late_parts_from lines k (map (λ (p : LatePart). p.decl) parts)
texts_from lines k [] has = refl
texts_from lines k (p ∷ ps) has =
    let first : p.acts.items ≡ acts_of lines k = has 0 p (omega arith) ∙ ap (acts_of lines) (add-zero k) in
    let comes : arrivals_by p.acts.items ≡ arrivals_of lines k = ap arrivals_by first ∙ arrivals_are lines k in
    λ i. late_part p.decl.name p.decl.quota (comes i) ++ texts_from lines (k + 1) ps (has_later lines k p ps has) i

-- the parts make the report
pub report_of_late : (parts : List LatePart) (s : LateScriptMeaning) → AreLateParts parts s.objects s.lines → late_text s ≡ flat_map late_part_text parts ++ end_text
unfolding late_text
report_of_late parts s are =
    ap (λ l. l ++ end_text) (sym (texts_from s.lines 0 parts (has_all s.lines parts are.acts) ∙ ap (late_parts_from s.lines 0) are.decls))
