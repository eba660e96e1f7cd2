-- The parts of a script, line by line.
use Rattle.std.proofs.Common.{◌≡◌, ℕ, ◌<◌, ◌≤◌, ◌==◌, true, false, cond, List, [], ◌∷◌, ◌++◌, All, length, map, filter, nat_lt, get_or, set, refl, sym, ap, ◌∙◌, arith, length-append}
use Rattle.std.proofs.Math.ListN.{get_or-append}
use Rattle.std.proofs.Math.Seq.{get_or-append_seam}
use Rattle.std.proofs.lemmas.List.{map-append, length-map}
use Rattle.std.proofs.lemmas.List.Elements.{All-head, All-tail, All-push, All-weaker}
use Rattle.std.proofs.lemmas.Bool.Decides.{nat_tests}
use Rattle.dym_base.specs.declared.command.Command.{Command}
use Rattle.dym_base.specs.declared.limits.TheConstants.{MOST_COMMANDS}
use Rattle.dym_script.specs.declared.parts.Part.{Part}
use Rattle.dym_script.specs.declared.script.Decl.{Decl}
use Rattle.dym_script.specs.declared.script.Line.{Line}
use Rattle.dym_script.specs.Parts.{commands_of, ArePartsOf}
use Rattle.dym_script.specs.Keepers.{Asks, Declares, CanAsk}
use Rattle.dym_script.proofs.Moves.{commands_more, decls_more}

-- no line asks something of an object that isn't declared yet
pub commands_of_none : (lines : List Line) (n : ℕ) → All (λ line. line.object < n) lines → commands_of lines n ≡ []
commands_of_none [] n all = refl
commands_of_none (line ∷ lines) n all =
    let below : line.object < n = All-head (λ (l : Line). l.object < n) line lines all in
    let other : (line.object == n) ≡ false = grind (arith, nat_tests) in
    ap (λ b. map (λ (l : Line). l.command) (cond b (line ∷ filter (λ l. l.object == n) lines) (filter (λ l. l.object == n) lines))) other
    ∙ commands_of_none lines n (All-tail (λ (l : Line). l.object < n) line lines all)

-- an object's commands are no more than all
pub commands_few : (lines : List Line) (n : ℕ) → length (commands_of lines n) ≤ length lines
commands_few [] n = omega arith
commands_few (line ∷ lines) n = elim (line.object == n) as (λ b.
    length (map (λ (l : Line). l.command) (cond b (line ∷ filter (λ l. l.object == n) lines) (filter (λ l. l.object == n) lines))) ≤ length
    (line ∷ lines)) [
      | true ↦ omega (arith, commands_few lines n)
      | false ↦ omega (arith, commands_few lines n)
    ]

-- so many are the parts
pub parts_long : (parts : List Part) (objects : List Decl) → map (λ part. part.decl) parts ≡ objects → length objects ≡ length parts
parts_long parts objects are = ap length (sym are) ∙ length-map parts (λ part. part.decl)

-- the object has a part
pub part_within : (parts : List Part) (object : ℕ) → CanAsk (ArePartsOf parts) object → object < length parts
part_within parts object can = omega (arith, can.within, parts_long parts can.objects can.keeps.decls)

-- with room for a command more
pub part_room : (parts : List Part) (object : ℕ) (part : Part) → CanAsk (ArePartsOf parts) object → part ≡ get_or parts object part → length part.commands < MOST_COMMANDS
part_room parts object part can at =
    let has = ap (λ (p : Part). p.commands) at ∙ can.keeps.commands object part (part_within parts object can) in
    omega (arith, ap length has, commands_few can.lines object, can.room)

-- a part more
pub parts_declared : (parts : List Part) (part : Part) (decl : Decl) → part.decl ≡ decl → part.commands ≡ []
    → Declares (ArePartsOf parts) (ArePartsOf (parts ++ part ∷ [])) decl
parts_declared parts part decl is empty objects lines are =
    let long = parts_long parts objects are.decls in
    record {
      decls = map-append (λ (p : Part). p.decl) parts (part ∷ []) ∙ (λ i. are.decls i ++ is i ∷ []);
      commands = λ k d small. elim (nat_lt k (length parts)) as (λ b. nat_lt k (length parts) ≡ b → (get_or (parts ++ part ∷ []) k d).commands ≡ commands_of lines k) [
        | true ↦ λ old.
            let inside : k < length parts = grind (arith, nat_tests) in
            ap (λ (p : Part). p.commands) (get_or-append parts (part ∷ []) d k inside) ∙ are.commands k d inside
        | false ↦ λ last.
            let here : k ≡ length parts = grind (arith, nat_tests, length-append parts (part ∷ [])) in
            let all : All (λ line. line.object < length parts) lines =
            All-weaker (λ line. line.object < length objects) (λ line. line.object < length parts) (λ line below. omega (arith, below, long)) lines
            are.within in
            ap (λ (p : Part). p.commands) (ap (λ n. get_or (parts ++ part ∷ []) n d) here ∙ get_or-append_seam parts part [] d) ∙ empty
            ∙ sym (ap (commands_of lines) here ∙ commands_of_none lines (length parts) all)
      ] refl;
      within = All-weaker (λ line. line.object < length objects) (λ line. line.object < length (objects ++ decl ∷ []))
          (λ line below. omega (arith, below, length-append objects (decl ∷ []))) lines are.within;
    }

-- a command more
pub parts_asked : (parts : List Part) (object : ℕ) (command : Command) (old new : Part) → object < length parts → old ≡ get_or parts object old
    → new.decl ≡ old.decl → new.commands ≡ old.commands ++ command ∷ []
    → Asks (ArePartsOf parts) (ArePartsOf (set parts object new)) object command
parts_asked parts object command old new inside at same pushed objects lines are =
    let line : Line = record { object = object; command = command } in
    record {
      decls = decls_more parts object old new inside at same ∙ are.decls;
      commands = commands_more parts line old new lines inside at pushed are.commands;
      within = All-push (λ l. l.object < length objects) lines line are.within (omega (arith, inside, parts_long parts objects are.decls));
    }
