-- The parts of a script, with the commands of lines that were read ahead.
use Rattle.std.proofs.Common.{◌≡◌, ℕ, ◌+◌, ◌<◌, ◌≤◌, ◌==◌, ◌≢◌, true, false, nat_lt, eqb-true, List, [], ◌∷◌, ◌++◌, All, length, map, filter, get_or, set}
use Rattle.std.proofs.Common.{refl, sym, ap, ◌∙◌, arith, length-append, append-nil, get_or-set_other}
use Rattle.std.proofs.Math.ListN.{get_or-append}
use Rattle.std.proofs.Math.Seq.{get_or-append_seam}
use Rattle.std.proofs.lemmas.Grind.{get_or-set_at}
use Rattle.std.proofs.lemmas.List.{map-append, length-map, get_or_default, get_or_past}
use Rattle.std.proofs.lemmas.List.Elements.{All-append, All-weaker, filter-append}
use Rattle.std.proofs.lemmas.Bool.Decides.{nat_tests}
use Rattle.dym_base.specs.declared.command.Command.{Command}
use Rattle.dym_base.specs.declared.limits.TheConstants.{MOST_COMMANDS}
use Rattle.dym_script.specs.declared.parts.Part.{Part}
use Rattle.dym_script.specs.declared.script.Decl.{Decl}
use Rattle.dym_script.specs.declared.script.Line.{Line}
use Rattle.dym_script.specs.Parts.{commands_of, ArePartsOf}
use Rattle.dym_script.specs.ReadAheads.{EachOwn, HasOwn}
use Rattle.dym_script.proofs.Moves.{decls_more}
use Rattle.dym_script.proofs.KeptParts.{commands_of_none, commands_few, parts_long}

-- ---- list by list

-- the parts are as many as before
as_many : (own : List (List Command)) (old new : List Part) → HasOwn own old new → length new ≡ length old
as_many own old new has = sym (length-map new (λ part. part.decl)) ∙ ap length has.decls ∙ length-map old (λ part. part.decl)

-- none are appended yet
pub own_none : (parts : List Part) → HasOwn [] parts parts
own_none parts = record { decls = refl; commands = λ k d small. sym (append-nil (get_or parts k d).commands) }

-- the next list has a part
pub own_inside : (all own rest others : List (List Command)) (x : List Command) (old mid : List Part) (place : ℕ) → all ≡ own ++ rest → rest ≡ x ∷ others
    → place ≡ length own → length all ≤ length old → HasOwn own old mid → place < length mid
own_inside all own rest others x old mid place whole cut here few has =
    omega (arith, few, here, as_many own old mid has, ap length whole, ap length cut, length-append own rest)

-- which has its commands as they were
own_next : (own : List (List Command)) (old mid : List Part) (was : Part) (place : ℕ) → place ≡ length own → place < length mid → was ≡ get_or mid place was
    → HasOwn own old mid → was.commands ≡ (get_or old place was).commands
own_next own old mid was place here inside at has =
    ap (λ (p : Part). p.commands) at ∙ has.commands place was (omega (arith, inside, as_many own old mid has))
    ∙ ap (λ cs. (get_or old place was).commands ++ cs) (get_or_past own place [] (omega (arith, here))) ∙ append-nil (get_or old place was).commands

-- there is room in it
pub own_room : (most : ℕ) (all own rest others : List (List Command)) (x : List Command) (old mid : List Part) (was : Part) (place : ℕ)
    → all ≡ own ++ rest → rest ≡ x ∷ others → place ≡ length own → place < length mid → was ≡ get_or mid place was → HasOwn own old mid
    → ((k : ℕ) (d : Part) (e : List Command) → k < length all → length (get_or old k d).commands + length (get_or all k e) ≤ most) → length was.commands + length x ≤ most
own_room most all own rest others x old mid was place whole cut here inside at has room =
    let is : all ≡ own ++ x ∷ others = whole ∙ ap (λ cs. own ++ cs) cut in
    let next : get_or all place x ≡ x = ap (λ cs. get_or cs place x) is ∙ ap (λ k. get_or (own ++ x ∷ others) k x) here ∙ get_or-append_seam own x others x in
    omega (
      arith,
      room place was x (omega (arith, here, ap length is, length-append own (x ∷ others))),
      ap length (own_next own old mid was place here inside at has),
      ap length next,
    )

-- with one list more, the lists at the other places are the same
own_other : (own : List (List Command)) (x : List Command) (k : ℕ) → k ≢ length own → get_or own k [] ≡ get_or (own ++ x ∷ []) k []
own_other own x k apart = elim (nat_lt k (length own)) as (λ b. nat_lt k (length own) ≡ b → get_or own k [] ≡ get_or (own ++ x ∷ []) k []) [
  | true ↦ λ below. sym (get_or-append own (x ∷ []) [] k (grind (arith, nat_tests)))
  | false ↦ λ above.
      let past : length own < k = grind (arith, nat_tests) in
      get_or_past own k [] (omega (arith, past)) ∙ sym (get_or_past (own ++ x ∷ []) k [] (omega (arith, past, length-append own (x ∷ []))))
] refl

-- and then the list stands behind them
pub own_more : (own : List (List Command)) (x : List Command) (old mid : List Part) (was new : Part) (place : ℕ) → place ≡ length own → place < length mid
    → was ≡ get_or mid place was → new.decl ≡ was.decl → new.commands ≡ was.commands ++ x → HasOwn own old mid → HasOwn (own ++ x ∷ []) old (set mid place new)
own_more own x old mid was new place here inside at same pushed has = record {
  decls = decls_more mid place was new inside at same ∙ has.decls;
  commands = λ k d small. elim (place == k) as (λ b. (place == k) ≡ b
      → (get_or (set mid place new) k d).commands ≡ (get_or old k d).commands ++ get_or (own ++ x ∷ []) k []) [
        | true ↦ λ that.
            let is : place ≡ k = eqb-true place k that in
            ap (λ (p : Part). p.commands) (get_or-set_at mid place k new d (sym is) inside) ∙ pushed
            ∙ ap (λ cs. cs ++ x) (own_next own old mid was place here inside at has)
            ∙ ap (λ i. (get_or old i was).commands ++ x) is ∙ ap (λ (p : Part). p.commands ++ x) (get_or_default old k was d small)
            ∙ ap (λ cs. (get_or old k d).commands ++ cs) (sym (ap (λ i. get_or (own ++ x ∷ []) i []) (sym is ∙ here) ∙ get_or-append_seam own x [] []))
        | false ↦ λ other.
            let apart : k ≢ place = grind (arith, nat_tests) in
            ap (λ (p : Part). p.commands) (get_or-set_other mid place k new d apart) ∙ has.commands k d small
            ∙ ap (λ cs. (get_or old k d).commands ++ cs) (own_other own x k (λ is. apart (is ∙ sym here)))
      ] refl;
}

-- ---- all lists

-- the commands of an object, with more lines
commands_of_append : (lines asked : List Line) (k : ℕ) → commands_of (lines ++ asked) k ≡ commands_of lines k ++ commands_of asked k
commands_of_append lines asked k =
    ap (map (λ (line : Line). line.command)) (filter-append (λ (line : Line). line.object == k) lines asked)
    ∙ map-append (λ (line : Line). line.command) (filter (λ line. line.object == k) lines) (filter (λ line. line.object == k) asked)

-- each list has an object's commands, and the objects behind them have none
own_of : (own : List (List Command)) (asked : List Line) (k : ℕ) → EachOwn own asked → All (λ line. line.object < length own) asked
    → get_or own k [] ≡ commands_of asked k
own_of own asked k each within = elim (nat_lt k (length own)) as (λ b. nat_lt k (length own) ≡ b → get_or own k [] ≡ commands_of asked k) [
  | true ↦ λ below. each k [] (grind (arith, nat_tests))
  | false ↦ λ above.
      let past : length own ≤ k = grind (arith, nat_tests) in
      let all = All-weaker (λ (line : Line). line.object < length own) (λ line. line.object < k) (λ line small. omega (arith, small, past)) asked within in
      get_or_past own k [] past ∙ sym (commands_of_none asked k all)
] refl

-- the parts are those of the lines so far and of those that were read ahead
pub parts_ahead : (old new : List Part) (objects : List Decl) (lines asked : List Line) (own : List (List Command)) → length own ≤ length objects → EachOwn own asked
    → All (λ line. line.object < length own) asked → HasOwn own old new → ArePartsOf old objects lines → ArePartsOf new objects (lines ++ asked)
parts_ahead old new objects lines asked own few each within has are = record {
  decls = has.decls ∙ are.decls;
  commands = λ k d small.
      let inside : k < length old = omega (arith, small, as_many own old new has) in
      has.commands k d inside ∙ ap (λ cs. cs ++ get_or own k []) (are.commands k d inside) ∙ ap (λ cs. commands_of lines k ++ cs) (own_of own asked k each within)
      ∙ sym (commands_of_append lines asked k);
  within =
      let declared = All-weaker (λ (line : Line). line.object < length own) (λ line. line.object < length objects)
      (λ line small. omega (arith, small, few)) asked within in
      All-append (λ (line : Line). line.object < length objects) lines asked are.within declared;
}

-- there is room in each part for the commands of its object
pub parts_room : (parts : List Part) (objects : List Decl) (lines asked : List Line) (own : List (List Command)) → length own ≤ length objects → EachOwn own asked
    → length lines + length asked ≤ MOST_COMMANDS → ArePartsOf parts objects lines
    → (k : ℕ) (d : Part) (e : List Command) → k < length own → length (get_or parts k d).commands + length (get_or own k e) ≤ MOST_COMMANDS
parts_room parts objects lines asked own few each room are k d e small =
    let inside : k < length parts = omega (arith, small, few, parts_long parts objects are.decls) in
    omega (arith, room, ap length (are.commands k d inside), ap length (each k e small), commands_few lines k, commands_few asked k)
