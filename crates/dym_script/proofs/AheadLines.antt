-- How the first lines of a text are read ahead, line by line.
use Rattle.std.proofs.Common.{◌≡◌, ℕ, ◌+◌, ◌<◌, ◌==◌, true, false, List, [], ◌∷◌, ◌++◌, All, length, get_or, set, refl, sym, ap, ◌∙◌, arith, length-append, append_assoc, append-nil, get_or-set_other, length-set, eqb-true, cond, ◌≢◌, Ok, Some}
use Rattle.std.proofs.lemmas.Grind.{get_or-set_at}
use Rattle.std.proofs.lemmas.List.Elements.{All-nil, All-push}
use Rattle.std.proofs.lemmas.Bool.Decides.{nat_tests}
use Rattle.dym_base.specs.Lines.{lines_of}
use Rattle.dym_base.specs.declared.command.Command.{Command}
use Rattle.dym_base.specs.declared.limits.TheConstants.{MOST_COMMANDS}
use Rattle.dym_commands.specs.Requests.{asks}
use Rattle.dym_script.specs.declared.reader.Ask.{Ask}
use Rattle.dym_script.specs.declared.reader.Reader.{Reader}
use Rattle.dym_script.specs.declared.script.Decl.{Decl}
use Rattle.dym_script.specs.declared.script.Line.{Line}
use Rattle.dym_script.specs.ReadAheads.{AskAhead, EachOwn, asked_on}
use Rattle.dym_script.specs.Parts.{commands_of}
use Rattle.dym_script.specs.Readers.{IsNext, reading}
use Rattle.dym_script.specs.Scripts.{Reading, ask_at, read_lines}
use Rattle.dym_script.proofs.KeptParts.{commands_few}
use Rattle.dym_script.proofs.Moves.{commands_of_push}
use Rattle.dym_script.proofs.PiecesRead.{lines_next}

-- nothing is read yet
pub ask_nothing : (objects : List Decl) (text : List ℕ) → AskAhead objects text [] text
ask_nothing objects text = record {
  within = All-nil (λ line. line.object < length objects);
  shorter = omega arith;
  reads = λ now more number others here room. ap (λ n. read_lines now n (lines_of text ++ others)) (omega arith);
}

-- lines that ask something declare nothing
asked_objects : (now : Reading) (asked : List Line) → (asked_on now asked).said.objects ≡ now.said.objects
asked_objects now [] = refl
asked_objects now (line ∷ lines) = refl

-- what the grammar says of a line that asks something, where there is room
asked_more : (now : Reading) (asked : List Line) (object : ℕ) (command : Command) → length now.said.lines + length asked < MOST_COMMANDS
    → reading true (ask_at (asked_on now asked).said command (Some object)) ≡ Ok (asked_on now (asked ++ record { object = object; command = command } ∷ []))
asked_more now [] object command room =
    let free : (length now.said.lines == MOST_COMMANDS) ≡ false = grind (arith, nat_tests) in
    rw free refl
asked_more now (line ∷ lines) object command room =
    let free : (length (now.said.lines ++ line ∷ lines) == MOST_COMMANDS) ≡ false = grind (arith, nat_tests, length-append now.said.lines (line ∷ lines)) in
    let last : Line = record { object = object; command = command } in
    rw free (ap (λ ls. Ok (record { begun = true; said = record now.said { lines = ls } })) (append_assoc now.said.lines (line ∷ lines) (last ∷ [])))

-- a line more
pub ask_more : (r : Reader) (text : List ℕ) (asked : List Line) (rest : List ℕ) (ask : Ask) (after : List ℕ)
    → AskAhead r.objects.items text asked rest → IsNext r rest ask after
    → AskAhead r.objects.items text (asked ++ record { object = ask.object; command = asks ask.asked } ∷ []) after
ask_more r text asked rest ask after ahead next =
    let line : Line = record { object = ask.object; command = asks ask.asked } in
    let long = length-append asked (line ∷ []) in
    record {
      within = All-push (λ l. l.object < length r.objects.items) asked line ahead.within next.within;
      shorter = omega (arith, long, ahead.shorter, next.shorter);
      reads = λ now more number others here room.
          let (first, cut, says) = next.first in
          let m = number + length asked in
          ahead.reads now more number others here (omega (arith, long, room))
          ∙ lines_next (asked_on now asked) m rest first (lines_of after) others (Ok (asked_on now (asked ++ line ∷ []))) cut
          (says (asked_on now asked) more m (asked_objects now asked ∙ here) ∙ asked_more now asked ask.object (asks ask.asked) (omega (arith, long, room)))
          ∙ ap (λ n. read_lines (asked_on now (asked ++ line ∷ [])) n (lines_of after ++ others)) (omega (arith, long));
    }

-- the commands of the line's object gain its own, and the others stay
pub own_more : (own : List (List Command)) (line : Line) (old new : List Command) (lines : List Line) → line.object < length own
    → old ≡ get_or own line.object old → new ≡ old ++ line.command ∷ [] → EachOwn own lines → EachOwn (set own line.object new) (lines ++ line ∷ [])
own_more own line old new lines inside at pushed each k d small =
    elim (line.object == k) as (λ b. (line.object == k) ≡ b → get_or (set own line.object new) k d ≡ commands_of (lines ++ line ∷ []) k) [
      | true ↦ λ same.
          let is : line.object ≡ k = eqb-true line.object k same in
          get_or-set_at own line.object k new d (sym is) inside ∙ pushed
          ∙ ap (λ cs. cs ++ line.command ∷ []) (at ∙ each line.object old inside ∙ ap (commands_of lines) is)
          ∙ sym (commands_of_push lines line k ∙ ap (λ b. commands_of lines k ++ cond b (line.command ∷ []) []) same)
      | false ↦ λ other.
          let apart : k ≢ line.object = grind (arith, nat_tests) in
          get_or-set_other own line.object k new d apart ∙ each k d (omega (arith, length-set own line.object new))
          ∙ sym (commands_of_push lines line k ∙ ap (λ b. commands_of lines k ++ cond b (line.command ∷ []) []) other ∙ append-nil (commands_of lines k))
    ] refl

-- so far the lines at the front of a text were read ahead
pub record AheadTo (objects : List Decl) (text : List ℕ) (own : List (List Command)) (lines : ℕ) (rest : List ℕ) : Type 0 where
  pub asked : List Line
  pub ask : AskAhead objects text asked rest
  pub count : length asked ≡ lines
  pub lists : length own ≡ length objects
  pub each : EachOwn own asked

-- no line yet
pub ahead_nothing : (objects : List Decl) (text : List ℕ) (own : List (List Command)) → length own ≡ length objects
    → All (λ commands. commands ≡ []) own → AheadTo objects text own 0 text
ahead_nothing objects text own lists none = record { asked = []; ask = ask_nothing objects text; count = refl; lists = lists; each = none }

-- the next line's object has a list
pub ahead_within : (r : Reader) (text : List ℕ) (own : List (List Command)) (lines : ℕ) (rest : List ℕ) (ask : Ask) (after : List ℕ)
    → AheadTo r.objects.items text own lines rest → IsNext r rest ask after → ask.object < length own
ahead_within r text own lines rest ask after ahead next = omega (arith, ahead.lists, next.within)

-- each list has room for a command more
pub ahead_room : (objects : List Decl) (text : List ℕ) (own : List (List Command)) (lines : ℕ) (rest : List ℕ) (k : ℕ) (old : List Command)
    → AheadTo objects text own lines rest → lines < MOST_COMMANDS → old ≡ get_or own k old → k < length own → length old < MOST_COMMANDS
ahead_room objects text own lines rest k old ahead room at inside = omega (arith, room, ahead.count, ap length (at ∙ ahead.each k old inside), commands_few ahead.asked k)

-- a line more
pub ahead_more : (r : Reader) (text : List ℕ) (own : List (List Command)) (lines : ℕ) (rest : List ℕ) (ask : Ask) (after : List ℕ)
    (old new : List Command) → AheadTo r.objects.items text own lines rest → IsNext r rest ask after → old ≡ get_or own ask.object old → new ≡ old ++ asks ask.asked ∷ []
    → AheadTo r.objects.items text (set own ask.object new) (lines + 1) after
ahead_more r text own lines rest ask after old new ahead next at pushed =
    let line : Line = record { object = ask.object; command = asks ask.asked } in
    record {
      asked = ahead.asked ++ line ∷ [];
      ask = ask_more r text ahead.asked rest ask after ahead.ask next;
      count = omega (arith, length-append ahead.asked (line ∷ []), ahead.count);
      lists = length-set own ask.object new ∙ ahead.lists;
      each = own_more own line old new ahead.asked (ahead_within r text own lines rest ask after ahead next) at pushed ahead.each;
    }
