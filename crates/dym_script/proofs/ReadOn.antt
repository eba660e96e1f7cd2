-- How a script is read on behind lines that were read ahead.
use Rattle.std.proofs.Common.{◌≡◌, ℕ, ◌+◌, ◌<◌, ◌≤◌, ◌||◌, Bool, true, false, nat_lt, List, [], ◌∷◌, ◌++◌, All, length, Result}
use Rattle.std.proofs.Common.{Ok, Err, refl, sym, ap, ◌∙◌, arith, length-append, append-nil}
use Rattle.std.proofs.lemmas.List.Elements.{All-append, All-weaker}
use Rattle.std.proofs.lemmas.Bool.Decides.{nat_tests}
use Rattle.dym_base.specs.declared.limits.TheConstants.{MOST_COMMANDS}
use Rattle.dym_base.specs.Lines.{lines_of}
use Rattle.dym_script.specs.declared.read_ahead.ReadAhead.{ReadAhead}
use Rattle.dym_script.specs.declared.parts.Part.{Part}
use Rattle.dym_script.specs.declared.reader.Reader.{Reader}
use Rattle.dym_script.specs.declared.script.Decl.{Decl}
use Rattle.dym_script.specs.declared.script.Line.{Line}
use Rattle.dym_script.specs.declared.script.ScriptFail.{ScriptFail}
use Rattle.dym_script.specs.declared.script.ScriptFail.TheVariants as fail
use Rattle.dym_script.specs.Scripts.{Reading, read_lines}
use Rattle.dym_script.specs.Keepers.{Holds, Stands, IsReady}
use Rattle.dym_script.specs.Parts.{ArePartsOf}
use Rattle.dym_script.specs.Pieces.{ReadsText}
use Rattle.dym_script.specs.Readers.{GoesOn, reading_of}
use Rattle.dym_script.specs.ReadAheads.{AskAhead, IsAhead, HasOwn, asked_on}
use Rattle.dym_script.proofs.AheadParts.{parts_ahead}

-- the declarations that went on are no fewer
pub goes_long : (old new : List Decl) → GoesOn old new → length old ≤ length new
goes_long old new (more, is) = omega (arith, ap length is, length-append old more)

-- what is asked of the first objects is asked of declared ones
pub ahead_within : (objects decls : List Decl) (asked : List Line) → GoesOn objects decls → All (λ line. line.object < length objects) asked
    → All (λ line. line.object < length decls) asked
ahead_within objects decls asked goes within =
    All-weaker (λ (line : Line). line.object < length objects) (λ line. line.object < length decls)
    (λ line small. omega (arith, small, goes_long objects decls goes)) asked within

-- a reader that took so many lines in: something was read where it was before, or where they are some
abbrev pub took_in : Reader → ℕ → Reader
took_in r n = record r { begun = r.begun || nat_lt 0 n }

or_some : (b : Bool) (n : ℕ) → 0 < n → true ≡ (b || nat_lt 0 n)
or_some true n some = refl
or_some false n some = grind (arith, nat_tests)

or_false : (b : Bool) → b ≡ (b || false)
or_false true = refl
or_false false = refl

-- what was read then is what the grammar reads with these lines more
seen_ahead : (r : Reader) (lines asked : List Line) → asked_on (reading_of r lines) asked ≡ reading_of (took_in r (length asked)) (lines ++ asked)
seen_ahead r lines [] = λ i. record {
  begun = or_false r.begun i;
  said = record { version = r.version; objects = r.objects.items; lines = sym (append-nil lines) i };
}
seen_ahead r lines (line ∷ more) = λ i. record {
  begun = or_some r.begun (length (line ∷ more)) (omega arith) i;
  said = record { version = r.version; objects = r.objects.items; lines = lines ++ line ∷ more };
}

-- what one relation keeps of some lines, the other keeps of them and of these more
abbrev pub KeepsOn : (List Decl → List Line → Type 0) → (List Decl → List Line → Type 0) → Reader → List Line → Type 0
KeepsOn P Q r asked = (lines : List Line) → P r.objects.items lines → Q r.objects.items (lines ++ asked)

-- so what is kept with their commands is what the lines ask
holds_ahead : (P Q : List Decl → List Line → Type 0) (r : Reader) (n : ℕ) (lines asked : List Line) → All (λ line. line.object < length r.objects.items) asked
    → n + length asked ≤ MOST_COMMANDS → KeepsOn P Q r asked → Holds P r n lines → Holds Q (took_in r (length asked)) (n + length asked) (lines ++ asked)
holds_ahead P Q r n lines asked within room keeps holds = record {
  count = omega (arith, length-append lines asked, holds.count);
  keeps = keeps lines holds.keeps;
  valid = record {
    objects = holds.valid.objects;
    lines = omega (arith, length-append lines asked, holds.count, room);
    names = holds.valid.names;
    quotas = holds.valid.quotas;
    declared = All-append (λ (line : Line). line.object < length r.objects.items) lines asked holds.valid.declared within;
  };
}

-- a line more may be read then
pub ready_ahead : (P Q : List Decl → List Line → Type 0) (r : Reader) (n : ℕ) (asked : List Line) → All (λ line. line.object < length r.objects.items) asked
    → n + length asked ≤ MOST_COMMANDS → KeepsOn P Q r asked → IsReady P r n → IsReady Q (took_in r (length asked)) (n + length asked)
ready_ahead P Q r n asked within room keeps ready =
    let (now, stands) = ready.some in
    let lines = stands.lines in
    let holds = stands.holds in
    let more = holds_ahead P Q r n lines asked within room keeps holds in
    record {
      kept = record { indexed = ready.kept.indexed; first = ready.kept.first; valid = ready.kept.valid };
      few = room;
      some = (reading_of (took_in r (length asked)) (lines ++ asked), record { lines = lines ++ asked; holds = more; is = refl });
    }

-- the parts keep so, where each has its own commands of these lines
pub keeps_ahead : (old new : List Part) (objects : List Decl) (r : Reader) (text : List ℕ) (ahead : ReadAhead) → GoesOn objects r.objects.items
    → (is : IsAhead objects text ahead) → HasOwn ahead.own.items old new → KeepsOn (ArePartsOf old) (ArePartsOf new) r is.asked
keeps_ahead old new objects r text ahead goes is has lines are =
    let own = ahead.own.items in
    let few : length own ≤ length r.objects.items = omega (arith, goes_long objects r.objects.items goes, is.lists) in
    let within : All (λ line. line.object < length own) is.asked =
    All-weaker (λ (line : Line). line.object < length objects) (λ line. line.object < length own) (λ line small. omega (arith, small, is.lists)) is.asked is.ask.within in
    parts_ahead old new r.objects.items lines is.asked own few is.own within has are

-- the lines of a text are these and those of the rest, from each reading on that stood before
front_ahead : (P Q : List Decl → List Line → Type 0) (r : Reader) (n number : ℕ) (objects : List Decl) (asked : List Line) (text rest : List ℕ) (old : Reading)
    → GoesOn objects r.objects.items → AskAhead objects text asked rest → n + length asked ≤ MOST_COMMANDS → KeepsOn P Q r asked → Stands P r n old
    → (mid : Reading) × Stands Q (took_in r (length asked)) (n + length asked) mid
    × ((others : List (List ℕ)) → read_lines old (number + 1) (lines_of text ++ others) ≡ read_lines mid (number + length asked + 1) (lines_of rest ++ others))
front_ahead P Q r n number objects asked text rest old (more, is) ask room keeps stands =
    let lines = stands.lines in
    let holds = stands.holds in
    let mid = reading_of (took_in r (length asked)) (lines ++ asked) in
    let within = ahead_within objects r.objects.items asked (more, is) ask.within in
    let few : length lines + length asked ≤ MOST_COMMANDS = omega (arith, holds.count, room) in
    let at : number + 1 + length asked ≡ number + length asked + 1 = omega arith in (
      mid,
      record { lines = lines ++ asked; holds = holds_ahead P Q r n lines asked within room keeps holds; is = refl },
      λ others.
          ap (λ now. read_lines now (number + 1) (lines_of text ++ others)) stands.is
          ∙ ask.reads (reading_of r lines) more (number + 1) others is few
          ∙ ap (λ now. read_lines now (number + 1 + length asked) (lines_of rest ++ others)) (seen_ahead r lines asked)
          ∙ ap (λ k. read_lines mid k (lines_of rest ++ others)) at,
    )

-- where the rest is read, the whole text is
pub text_ahead : (P Q : List Decl → List Line → Type 0) (After : Reading → Type 0) (r : Reader) (n number m : ℕ) (objects : List Decl) (asked : List Line)
    (text rest : List ℕ)
    (result : Result Unit ScriptFail) → GoesOn objects r.objects.items → AskAhead objects text asked rest → n + length asked ≤ MOST_COMMANDS → KeepsOn P Q r asked
    → ReadsText (Stands Q (took_in r (length asked)) (n + length asked)) After (number + length asked) m rest result → ReadsText (Stands P r n) After number m text result
text_ahead P Q After r n number m objects asked text rest (Ok _) goes ask room keeps reads = λ old stands.
    let (mid, between, front) = front_ahead P Q r n number objects asked text rest old goes ask room keeps stands in
    let (new, after, back) = reads mid between in
    (new, after, λ others. front others ∙ back others)
text_ahead P Q After r n number m objects asked text rest (Err (fail.Bad line kind)) goes ask room keeps reads = λ old stands others.
    let (mid, between, front) = front_ahead P Q r n number objects asked text rest old goes ask room keeps stands in
    front others ∙ reads mid between others
text_ahead P Q After r n number m objects asked text rest (Err fail.Memory) goes ask room keeps reads = tt
