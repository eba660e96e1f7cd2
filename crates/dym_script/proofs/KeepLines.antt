-- How what is kept of a script goes on line by line.
use Rattle.std.proofs.Common.{◌≡◌, ℕ, ◌+◌, ◌<◌, ◌≤◌, inl, inr, true, List, [], ◌∷◌, ◌++◌, length, refl, sym, ap, ◌∙◌, arith, append_assoc, length-append, Option, Some, None, Result, Ok, Err, IfOk, subst}
use Rattle.std.proofs.lemmas.List.Elements.{All-push, All-weaker}
use Rattle.std.proofs.lemmas.Bool.Decides.{nat_tests}
use denote.Ref.{Bor}
use Rattle.dym_base.specs.declared.bad_kind.BadKind.{BadKind}
use Rattle.dym_base.specs.declared.limits.TheConstants.{MOST_COMMANDS}
use Rattle.dym_base.specs.declared.command.Command.{Command}
use Rattle.dym_commands.specs.Requests.{asks}
use Rattle.dym_script.specs.declared.line_fail.LineFail.{LineFail}
use Rattle.dym_script.specs.declared.line_fail.LineFail.TheVariants as fail
use Rattle.dym_script.specs.declared.reader.Ask.{Ask}
use Rattle.dym_script.specs.declared.reader.Reader.{Reader}
use Rattle.dym_script.specs.declared.script.Decl.{Decl}
use Rattle.dym_script.specs.declared.script.Line.{Line}
use Rattle.dym_base.specs.Lines.{lines_of}
use Rattle.dym_script.specs.Scripts.{Reading, ask_at, read_line, read_lines, start}
use Rattle.dym_script.specs.Keepers.{Asks, Holds, Stands, IsReady, HoldsLine, IsWhole}
use Rattle.dym_script.specs.Pieces.{ReadsNext}
use Rattle.dym_script.specs.Readers.{IsValidReader, Grows, GoesOn, reading_of, reading, with_ask}
use Rattle.dym_script.proofs.PiecesRead.{lines_next}

-- declarations that go on twice
pub goes_on : (old mid new : List Decl) → GoesOn old mid → GoesOn mid new → GoesOn old new
goes_on old mid new (more, first) (others, second) = (more ++ others, second ∙ ap (λ ds. ds ++ others) first ∙ append_assoc old more others)

-- nothing is read yet
pub stands_start : (P : List Decl → List Line → Type 0) (r : Reader) → IsValidReader r → reading_of r [] ≡ start → P [] [] → Stands P r 0 start
stands_start P r kept is nothing = record {
  lines = [];
  holds = record {
    count = refl;
    keeps = subst (λ os. P os []) (sym (ap (λ (x : Reading). x.said.objects) is)) nothing;
    valid = kept.valid;
  };
  is = sym is;
}

-- a command more
pub holds_asked : (P Q : List Decl → List Line → Type 0) (r : Reader) (n : ℕ) (object : ℕ) (command : Command) (lines : List Line)
    → object < length r.objects.items → n < MOST_COMMANDS → Asks P Q object command
    → Holds P r n lines → Holds Q r (n + 1) (lines ++ record { object = object; command = command } ∷ [])
holds_asked P Q r n object command lines within room asks holds =
    let line : Line = record { object = object; command = command } in
    record {
      count = omega (arith, length-append lines (line ∷ []), holds.count);
      keeps = asks r.objects.items lines holds.keeps;
      valid = record {
        objects = holds.valid.objects;
        lines = omega (arith, length-append lines (line ∷ []), holds.count, room);
        names = holds.valid.names;
        quotas = holds.valid.quotas;
        declared = All-push (λ l. l.object < length r.objects.items) lines line holds.valid.declared within;
      };
    }

-- there is room for one more
pub below_most : (n : ℕ) → n ≤ MOST_COMMANDS → ¬ (n ≡ MOST_COMMANDS) → n < MOST_COMMANDS
below_most n within other = grind (arith, nat_tests)

grown_long : (old new : List Decl) → Grows old new → length old ≤ length new
grown_long old new (inl same) = rw same (omega arith)
grown_long old new (inr more) = rw more.1 (omega (arith, length-append old (more.0 ∷ [])))

-- what was declared is lawful with the lines so far
pub holds_declared : (P Q : List Decl → List Line → Type 0) (r s : Reader) (n : ℕ) (lines : List Line) → IsValidReader s → Grows r.objects.items s.objects.items
    → ((objects : List Decl) (ls : List Line) → length objects ≡ length r.objects.items → Grows objects s.objects.items → P objects ls → Q s.objects.items ls)
    → Holds P r n lines → Holds Q s n lines
holds_declared P Q r s n lines kept grows told holds = record {
  count = holds.count;
  keeps = told r.objects.items lines refl grows holds.keeps;
  valid = record {
    objects = kept.valid.objects;
    lines = holds.valid.lines;
    names = kept.valid.names;
    quotas = kept.valid.quotas;
    declared = All-weaker (λ line. line.object < length r.objects.items) (λ line. line.object < length s.objects.items)
        (λ line below. omega (arith, below, grown_long r.objects.items s.objects.items grows)) lines holds.valid.declared;
  };
}

-- a line more may be read after a command
pub ready_asked : (P Q : List Decl → List Line → Type 0) (r : Reader) (n object : ℕ) (command : Command) → IsReady P r n
    → object < length r.objects.items → n < MOST_COMMANDS → Asks P Q object command → IsReady Q r (n + 1)
ready_asked P Q r n object command ready within room asks =
    let (now, stands) = ready.some in
    let lines = stands.lines in
    let holds = stands.holds in
    let is = stands.is in
    let line : Line = record { object = object; command = command } in
    record {
      kept = ready.kept;
      few = omega (arith, room);
      some = (
        reading_of r (lines ++ line ∷ []),
        record {
          lines = lines ++ line ∷ [];
          holds =
              holds_asked P Q r n object command lines within room asks holds;
          is = refl;
        },
      );
    }

-- after a declaration
pub ready_declared : (P Q : List Decl → List Line → Type 0) (r s : Reader) (n : ℕ) → IsReady P r n → IsValidReader s → Grows r.objects.items s.objects.items
    → ((objects : List Decl) (ls : List Line) → length objects ≡ length r.objects.items → Grows objects s.objects.items → P objects ls → Q s.objects.items ls)
    → IsReady Q s n
ready_declared P Q r s n ready kept grows told =
    let (now, stands) = ready.some in
    let lines = stands.lines in
    let holds = stands.holds in
    let is = stands.is in
    record {
      kept = kept;
      few = ready.few;
      some =
          (reading_of s lines, record { lines = lines; holds = holds_declared P Q r s n lines kept grows told holds; is = refl });
    }

-- and after the name and the words of a line in the usual spelling
abbrev pub quickly : Reader → Reader
quickly r = record r { begun = true }

pub holds_quickly : (P : List Decl → List Line → Type 0) (r : Reader) (n : ℕ) (lines : List Line) → Holds P r n lines → Holds P (quickly r) n lines
holds_quickly P r n lines holds = record { count = holds.count; keeps = holds.keeps; valid = holds.valid }

pub ready_quickly : (P : List Decl → List Line → Type 0) (r : Reader) (n : ℕ) → IsReady P r n → IsReady P (quickly r) n
ready_quickly P r n ready =
    let (now, stands) = ready.some in
    let lines = stands.lines in
    let holds = stands.holds in
    let is = stands.is in
    record {
      kept = record { indexed = ready.kept.indexed; first = ready.kept.first; valid = ready.kept.valid };
      few = ready.few;
      some = (reading_of (quickly r) lines, record { lines = lines; holds = holds_quickly P r n lines holds; is = refl });
    }

-- the grammar says what is held with a line that asks nothing
pub exact_none : (P Q : List Decl → List Line → Type 0) (r s : Reader) (ask : Option Ask) (n number : ℕ) (text rest line : List ℕ) → ask ≡ None
    → lines_of text ≡ line ∷ lines_of rest
    → ((lines : List Line) → read_line (reading_of r lines) number line ≡ reading s.begun (with_ask (reading_of s lines).said ask))
    → ((lines : List Line) → Holds P r n lines → Holds Q s n lines)
    → (old : Reading) → Stands P r n old
    → (new : Reading) × Stands Q s n new × ((others : List (List ℕ))
    → read_lines old number (lines_of text ++ others) ≡ read_lines new (number + 1) (lines_of rest ++ others))
exact_none P Q r s ask n number text rest line none cut gives declared old stands =
    let lines = stands.lines in
    let holds = stands.holds in
    let is = stands.is in
    let good : read_line (reading_of r lines) number line ≡ Ok (reading_of s lines) = gives lines
    ∙ ap (λ a. reading s.begun (with_ask (reading_of s lines).said a)) none in (
      reading_of s lines,
      record { lines = lines; holds = declared lines holds; is = refl },
      λ others.
          ap (λ x. read_lines x number (lines_of text ++ others)) is
          ∙ lines_next (reading_of r lines) number text line (lines_of rest) others (Ok (reading_of s lines)) cut good,
    )

-- and with one that asks something of a declared object, or that it is bad
pub line_asks : (P O Q : List Decl → List Line → Type 0) (r s t : Reader) (ask : Ask) (n m number : ℕ) (text rest line : List ℕ)
    (result : Result (Bor (List ℕ)) LineFail) → lines_of text ≡ line ∷ lines_of rest
    → ((lines : List Line) → read_line (reading_of r lines) number line ≡ reading s.begun (with_ask (reading_of s lines).said (Some ask)))
    → ((lines : List Line) → Holds P r n lines → Holds O s n lines)
    → IfOk result (λ left. left.now ≡ rest)
    → HoldsLine (Holds O s n) (Holds Q t m) (reading_of t) result (λ lines. reading s.begun (ask_at (reading_of s lines).said (asks ask.asked) (Some ask.object)))
    → ReadsNext (Stands P r n) (Stands Q t m) number text result
line_asks P O Q r s t ask n m number text rest line (Ok left) cut gives declared same takes = λ old stands.
    let lines = stands.lines in
    let holds = stands.holds in
    let is = stands.is in
    let (more, held, good) = takes lines (declared lines holds) in
    let ends : lines_of text ≡ line ∷ lines_of left.now = cut ∙ ap (λ b. line ∷ lines_of b) (sym same) in (
      reading_of t more,
      record { lines = more; holds = held; is = refl },
      λ others. ap (λ x. read_lines x number (lines_of text ++ others)) is
          ∙ lines_next (reading_of r lines) number text line (lines_of left.now) others (Ok (reading_of t more)) ends (gives lines ∙ good),
    )
line_asks P O Q r s t ask n m number text rest line (Err (fail.Bad kind)) cut gives declared same takes = λ old stands others.
    let lines = stands.lines in
    let holds = stands.holds in
    let is = stands.is in
    ap (λ x. read_lines x number (lines_of text ++ others)) is
    ∙ lines_next (reading_of r lines) number text line (lines_of rest) others (Err kind) cut (gives lines ∙ takes lines (declared lines holds))
line_asks P O Q r s t ask n m number text rest line (Err fail.Memory) cut gives declared same takes = tt

-- when all lines are read, the whole script is
pub whole_told : (P : List Decl → List Line → Type 0) (r : Reader) (n : ℕ) (now : Reading) → Stands P r n now → IsWhole P r.version r.objects.items n now.said
whole_told P r n now stands =
    let lines = stands.lines in
    let holds = stands.holds in
    let is = stands.is in
    let whole : IsWhole P r.version r.objects.items n (reading_of r lines).said = record {
      version = refl;
      objects = refl;
      commands = holds.count;
      keeps = holds.keeps;
      valid = holds.valid;
    } in
    subst (λ (x : Reading). IsWhole P r.version r.objects.items n x.said) (sym is) whole

-- the bad line is named
pub next_bad : (Before After : Reading → Type 0) (number : ℕ) (text : List ℕ) (failed : LineFail) (kind told : BadKind) → failed ≡ fail.Bad kind
    → told ≡ kind → ReadsNext Before After number text (Err failed)
    → (old : Reading) → Before old → (others : List (List ℕ)) → read_lines old number (lines_of text ++ others) ≡ Err (record { line = number; kind = told })
next_bad Before After number text failed kind told is same reads old stands others =
    let bad : ReadsNext Before After number text (Err (fail.Bad kind)) = subst (λ e. ReadsNext Before After number text (Err e)) is reads in
    subst (λ k. read_lines old number (lines_of text ++ others) ≡ Err (record { line = number; kind = k })) (sym same) (bad old stands others)

-- no byte is left
pub empty_is : (xs : List ℕ) → length xs ≡ 0 → xs ≡ []
empty_is [] none = refl
empty_is (x ∷ xs) none = absurd (omega (arith, none))
