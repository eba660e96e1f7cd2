-- How a script is read piece by piece.
use Rattle.std.proofs.Common.{◌≡◌, ℕ, suc, ◌+◌, ◌-◌, ◌<◌, ◌≤◌, ◌==◌, true, false, cond, List, [], ◌∷◌, ◌++◌, length, take, drop, get_or, Result, Ok, Err, refl, sym, ap, subst, ◌∙◌, arith, eqb-true, add-one, nat_lt, append_assoc, append-nil, length-append, take-append-drop}
use Rattle.std.proofs.lemmas.Bool.Decides.{nat_tests}
use Rattle.std.specs.Result.{IsErr, IsErrAnd}
use Rattle.std.proofs.Math.Seq.{take-suc, take-append_seam}
use Rattle.std.specs.List.{onto_first}
use Rattle.dym_base.specs.declared.bad_kind.BadKind.{BadKind}
use Rattle.dym_base.specs.declared.bad_kind.BadKind.TheVariants as bad
use Rattle.dym_base.specs.declared.limits.TheConstants.{MOST_INPUT_BYTES, MOST_LINE_BYTES}
use Rattle.dym_script.specs.declared.script.ScriptFail.{ScriptFail}
use Rattle.dym_script.specs.declared.script.ScriptFail.TheVariants as fail
use Rattle.dym_script.specs.Answers.{FailsSo, GivesBy}
use Rattle.dym_base.specs.Lines.{lines_of}
use Rattle.dym_script.proofs.WordCuts.{take_rest}
use Rattle.dym_script.specs.Scripts.{ScriptMeaning, Reading, Fault, read_line, read_lines, go_on, start, script_of}
use Rattle.dym_script.specs.Pieces.{says, IsEnded, IsOpen, Took, TakesPiece, ReadsFront, ReadsText}

-- the first line is read, and then the rest and other lines
pub lines_next : (r : Reading) (number : ℕ) (text line : List ℕ) (after others : List (List ℕ)) (o : Result Reading BadKind)
    → lines_of text ≡ line ∷ after → read_line r number line ≡ o
    → read_lines r number (lines_of text ++ others) ≡ go_on number o (λ next. read_lines next (number + 1) (after ++ others))
lines_next r number text line after others o cut is =
    ap (λ ls. read_lines r number (ls ++ others)) cut ∙ ap (λ p. go_on number p (λ next. read_lines next (number + 1) (after ++ others))) is

-- ---- ended texts

pub ended_nothing : IsEnded []
ended_nothing more = refl

-- the lines of a text that ends with a line end are some, and what stands behind begins a new one
ended_front : (front : List ℕ) → (line : List ℕ) × (lines : List (List ℕ)) × (lines_of (front ++ 10 ∷ []) ≡ line ∷ lines) × ((more : List ℕ)
    → lines_of (front ++ 10 ∷ [] ++ more) ≡ (line ∷ lines) ++ lines_of more)
ended_front [] = ([], [], refl, λ more. refl)
ended_front (b ∷ bytes) =
    let (line, lines, is, ends) = ended_front bytes in
    elim (b == 10) as (λ t. (l : List ℕ) × (ls : List (List ℕ)) × (cond t ([] ∷ lines_of (bytes ++ 10 ∷ []))
    (onto_first b (lines_of (bytes ++ 10 ∷ []))) ≡ l ∷ ls) × ((more : List ℕ)
    → cond t ([] ∷ lines_of (bytes ++ 10 ∷ [] ++ more)) (onto_first b (lines_of (bytes ++ 10 ∷ [] ++ more))) ≡ (l ∷ ls) ++ lines_of more)) [
      | true ↦ ([], line ∷ lines, ap (λ ls. [] ∷ ls) is, λ more. ap (λ ls. [] ∷ ls) (ends more))
      | false ↦ (b ∷ line, lines, ap (onto_first b) is, λ more. ap (onto_first b) (ends more))
    ]

pub ended_at_end : (front : List ℕ) → IsEnded (front ++ 10 ∷ [])
ended_at_end front more = let (line, lines, is, ends) = ended_front front in ends more ∙ ap (λ ls. ls ++ lines_of more) (sym is)

-- up to a line end a text is ended
pub ended_before : (text : List ℕ) (n : ℕ) → n < length text → (get_or text n 0 == 10) ≡ true → IsEnded (take (n + 1) text)
ended_before text n inside here =
    let is : take (n + 1) text ≡ take n text ++ (10 ∷ []) =
    rw add-one (take-suc text n 0 inside ∙ ap (λ b. take n text ++ (b ∷ [])) (eqb-true (get_or text n 0) 10 here)) in
    subst IsEnded (sym is) (ended_at_end (take n text))

-- a text behind an ended one
pub ended_both : (a b : List ℕ) → IsEnded a → IsEnded b → IsEnded (a ++ b)
ended_both a b first second more =
    ap lines_of (append_assoc a b more) ∙ first (b ++ more) ∙ ap (λ ls. lines_of a ++ ls) (second more)
    ∙ sym (append_assoc (lines_of a) (lines_of b) (lines_of more)) ∙ ap (λ ls. ls ++ lines_of more) (sym (first b))

-- the first line begins with a text in which no line ends
open_front : (text : List ℕ) → 0 < length text → IsOpen text → (more : List ℕ)
    → (rest : List ℕ) × (others : List (List ℕ)) × (lines_of (text ++ more) ≡ (text ++ rest) ∷ others)
open_front [] some unended more = absurd (omega arith)
open_front (b ∷ []) some unended more =
    let first : (b == 10) ≡ false = unended 0 (omega arith) in
    rw first (elim (lines_of more) as (λ ls. (rest : List ℕ) × (others : List (List ℕ)) × (onto_first b ls ≡ (b ∷ rest) ∷ others)) [
      | [] ↦ ([], [], refl)
      | line ∷ lines ↦ (line, lines, refl)
    ])
open_front (b ∷ c ∷ bytes) some unended more =
    let first : (b == 10) ≡ false = unended 0 (omega arith) in
    let (rest, others, is) = open_front (c ∷ bytes) (omega arith) (λ k below. unended (suc k) (omega arith)) more in
    (rest, others, rw (first, is) refl)

too_long_line : (r : Reading) (number : ℕ) (line : List ℕ) → MOST_LINE_BYTES < length line → read_line r number line ≡ Err bad.LongLine
unfolding read_line
too_long_line r number line long = let test : nat_lt MOST_LINE_BYTES (length line) ≡ true = grind (arith, nat_tests) in rw test refl

-- a line that is too long before its end is seen
pub long_line : (r : Reading) (number : ℕ) (text more : List ℕ) → MOST_LINE_BYTES < length text → IsOpen text
    → read_lines r number (lines_of (text ++ more)) ≡ Err (record { line = number; kind = bad.LongLine })
long_line r number text more long unended =
    let (rest, others, is) = open_front text (omega arith) unended more in
    ap (read_lines r number) is ∙ ap (λ o. go_on number o (λ next. read_lines next (number + 1) others))
    (too_long_line r number (text ++ rest) (omega (arith, length-append text rest)))

-- the lines at the front, and then the others
pub front_then : (Before Between After : Reading → Type 0) (n m k : ℕ) (lines left same : List (List ℕ)) (result : Result Unit ScriptFail)
    → same ≡ left → ReadsFront Before Between n m lines left (Ok tt) → ReadsFront Between After m k same [] result
    → ReadsFront Before After n k lines [] result
front_then Before Between After n m k lines left same (Ok done) are front back = λ old stands.
    let (mid, between, reads) = front old stands in
    let (new, after, more) = back mid between in
    (new, after, λ others. reads others ∙ ap (λ ls. read_lines mid (m + 1) (ls ++ others)) (sym are) ∙ more others)
front_then Before Between After n m k lines left same (Err (fail.Bad line kind)) are front back = λ old stands others.
    let (mid, between, reads) = front old stands in
    reads others ∙ ap (λ ls. read_lines mid (m + 1) (ls ++ others)) (sym are) ∙ back mid between others
front_then Before Between After n m k lines left same (Err fail.Memory) are front back = tt

-- ---- a piece at a time

-- more ended lines were read
pub took_more : (Fit NewFit : Type 0) (Stands NewStands : Reading → Type 0) (n m : ℕ) (taken text : List ℕ) → Took Fit Stands n taken → NewFit
    → IsEnded text → m ≤ n + length text
    → ReadsText Stands NewStands n m text (Ok tt) → Took NewFit NewStands m (taken ++ text)
took_more Fit NewFit Stands NewStands n m taken text took fit ended short reads =
    let (new, stands, read) = reads took.now took.stands in
    record {
      fit = fit;
      ended = ended_both taken text took.ended ended;
      short = omega (arith, short, took.short, length-append taken text);
      now = new;
      stands = stands;
      read = λ others.
          ap (λ ls. read_lines start 1 (ls ++ others)) (took.ended text)
          ∙ ap (read_lines start 1) (append_assoc (lines_of taken) (lines_of text) others) ∙ took.read (lines_of text ++ others) ∙ read others;
    }

-- what an input says that goes on behind the text that was taken
pub says_behind : (Fit : Type 0) (Stands : Reading → Type 0) (n : ℕ) (taken text : List ℕ) (took : Took Fit Stands n taken)
    → says (taken ++ text) ≡ read_lines took.now (n + 1) (lines_of text)
says_behind Fit Stands n taken text took = ap (read_lines start 1) (took.ended text) ∙ took.read (lines_of text)

-- a line of the piece is bad
pub took_bad : (Fit : Type 0) (Stands : Reading → Type 0) (n : ℕ) (taken front last more : List ℕ) (fault : Fault) → Took Fit Stands n taken → IsEnded front
    → ((old : Reading) → Stands old → (others : List (List ℕ)) → read_lines old (n + 1) (lines_of front ++ others) ≡ Err fault)
    → says (taken ++ (front ++ last) ++ more) ≡ Err fault
took_bad Fit Stands n taken front last more fault took ended bad =
    ap says (append_assoc taken (front ++ last) more ∙ ap (λ t. taken ++ t) (append_assoc front last more))
    ∙ says_behind Fit Stands n taken (front ++ (last ++ more)) took
    ∙ ap (read_lines took.now (n + 1)) (ended (last ++ more)) ∙ bad took.now took.stands (lines_of (last ++ more))

-- the line at the piece's end is too long
pub took_long : (Fit : Type 0) (Stands : Reading → Type 0) (n : ℕ) (taken front last more : List ℕ) → Took Fit Stands n (taken ++ front)
    → MOST_LINE_BYTES < length last → IsOpen last
    → says (taken ++ (front ++ last) ++ more) ≡ Err (record { line = n + 1; kind = bad.LongLine })
took_long Fit Stands n taken front last more took long unended =
    ap says (ap (λ t. t ++ more) (sym (append_assoc taken front last)) ∙ append_assoc (taken ++ front) last more)
    ∙ says_behind Fit Stands n (taken ++ front) (last ++ more) took
    ∙ long_line took.now (n + 1) last more long unended

-- ---- the parts of a piece

-- the piece is its ended lines and its last line
parts_are : (n : ℕ) (text front last : List ℕ) → front ≡ take n text → last ≡ drop n text → text ≡ front ++ last
parts_are n text front last is_front is_last = sym (take-append-drop n text) ∙ ap (λ t. t ++ drop n text) (sym is_front) ∙ ap (λ t. front ++ t) (sym is_last)

-- the ended lines of a piece were read
pub took_piece : (Fit NewFit : Type 0) (Stands NewStands : Reading → Type 0) (k n m : ℕ) (text front last taken : List ℕ) → front ≡ take k text
    → last ≡ drop k text → IsEnded (take k text) → NewFit → m ≤ n + length front
    → ReadsText Stands NewStands n m front (Ok tt) → Took Fit Stands n taken → Took NewFit NewStands m (taken ++ take (length text - length last) text)
took_piece Fit NewFit Stands NewStands k n m text front last taken is_front is_last ended fit short reads took =
    let whole = parts_are k text front last is_front is_last in
    let len : length text - length last ≡ length front = omega (arith, ap length whole, length-append front last) in
    let same : take (length text - length last) text ≡ front = ap (λ k. take k text) len ∙ ap (take (length front)) whole ∙ take-append_seam front last in
    subst (λ t. Took NewFit NewStands m (taken ++ t)) (sym same)
    (took_more Fit NewFit Stands NewStands n m taken front took fit (subst IsEnded (sym is_front) ended) short reads)

-- one of its ended lines is bad, or memory ran out
pub piece_failed : (Fit : Type 0) (Stands NewStands : Reading → Type 0) (After : List ℕ → Type 0) (k n m : ℕ) (text front last : List ℕ)
    (result : Result ℕ ScriptFail) (failed : ScriptFail) → front ≡ take k text → last ≡ drop k text → IsEnded (take k text)
    → ReadsText Stands NewStands n m front (Err failed) → IsErr result → IsErrAnd result (λ e. e ≡ failed) → TakesPiece (Took Fit Stands n) After text result
piece_failed Fit Stands NewStands After k n m text front last (Ok left) failed is_front is_last ended reads is is_that = cc
piece_failed Fit Stands NewStands After k n m text front last (Err e) (fail.Bad line kind) is_front is_last ended reads is is_that =
    let bad : TakesPiece (Took Fit Stands n) After text (Err (fail.Bad line kind)) = λ taken more took.
    ap (λ t. says (taken ++ t ++ more)) (parts_are k text front last is_front is_last)
    ∙ took_bad Fit Stands n taken front last more (record { line = line; kind = kind }) took (subst IsEnded (sym is_front) ended) reads in
    subst (λ f. TakesPiece (Took Fit Stands n) After text (Err f)) (sym is_that) bad
piece_failed Fit Stands NewStands After k n m text front last (Err e) fail.Memory is_front is_last ended reads is is_that =
    subst (λ f. TakesPiece (Took Fit Stands n) After text (Err f)) (sym is_that) tt

-- its last line is too long
pub piece_long : (Fit NewFit : Type 0) (Stands NewStands : Reading → Type 0) (k n m : ℕ) (text front last taken more : List ℕ) → front ≡ take k text
    → last ≡ drop k text → IsEnded (take k text) → IsOpen (drop k text) → NewFit → m ≤ n + length front
    → ReadsText Stands NewStands n m front (Ok tt) → Took Fit Stands n taken → MOST_LINE_BYTES < length last
    → says (taken ++ text ++ more) ≡ Err (record { line = m + 1; kind = bad.LongLine })
piece_long Fit NewFit Stands NewStands k n m text front last taken more is_front is_last ended unended fit short reads took long =
    ap (λ t. says (taken ++ t ++ more)) (parts_are k text front last is_front is_last)
    ∙ took_long NewFit NewStands m taken front last more
    (took_more Fit NewFit Stands NewStands n m taken front took fit (subst IsEnded (sym is_front) ended) short reads) long
    (subst IsOpen (sym is_last) unended)

-- ---- the last piece

-- all its lines were read
pub took_all : (Fit : Type 0) (Stands NewStands : Reading → Type 0) (n m : ℕ) (taken text : List ℕ) → ReadsText Stands NewStands n m text (Ok tt)
    → Took Fit Stands n taken → (end : Reading) × NewStands end × (says (taken ++ text) ≡ Ok end.said)
took_all Fit Stands NewStands n m taken text reads took =
    let (end, stands, read) = reads took.now took.stands in
    (end, stands, says_behind Fit Stands n taken text took ∙ ap (read_lines took.now (n + 1)) (sym (append-nil (lines_of text))) ∙ read [])

-- what is made of them is that of what the whole script says
pub made_all : {M : Type 0} → (tells : M → ScriptMeaning → Type 0) (Fit : Type 0) (Stands NewStands : Reading → Type 0) (n m : ℕ) (taken text : List ℕ)
    (made : M) → ReadsText Stands NewStands n m text (Ok tt) → Took Fit Stands n taken
    → ((reading : Reading) → NewStands reading → tells made reading.said) → GivesBy tells (Ok made) (says (taken ++ text))
made_all tells Fit Stands NewStands n m taken text made reads took told =
    let (end, stands, is) = took_all Fit Stands NewStands n m taken text reads took in (end.said, is, told end stands)

-- one of them is bad, or memory ran out
pub all_failed : {M : Type 0} → (tells : M → ScriptMeaning → Type 0) (Fit : Type 0) (Stands NewStands : Reading → Type 0) (n m : ℕ) (taken text : List ℕ)
    (result : Result M ScriptFail) (failed : ScriptFail) → ReadsText Stands NewStands n m text (Err failed) → Took Fit Stands n taken
    → IsErr result → IsErrAnd result (λ e. e ≡ failed) → GivesBy tells result (says (taken ++ text))
all_failed tells Fit Stands NewStands n m taken text (Ok made) failed reads took is is_that = cc
all_failed tells Fit Stands NewStands n m taken text (Err e) (fail.Bad line kind) reads took is is_that =
    let bad : FailsSo (fail.Bad line kind) (says (taken ++ text)) =
    says_behind Fit Stands n taken text took ∙ ap (read_lines took.now (n + 1)) (sym (append-nil (lines_of text))) ∙ reads took.now took.stands [] in
    subst (λ f. FailsSo f (says (taken ++ text))) (sym is_that) bad
all_failed tells Fit Stands NewStands n m taken text (Err e) fail.Memory reads took is is_that = subst (λ f. FailsSo f (says (taken ++ text))) (sym is_that) tt

-- the bytes up to a place and those from there on
pub last_part : (n : ℕ) (bytes : List ℕ) → take n bytes ++ take (length bytes - n) (drop n bytes) ≡ bytes
last_part n bytes = ap (λ t. take n bytes ++ t) (take_rest n bytes) ∙ take-append-drop n bytes

-- a piece that is the whole input has a bad line, or memory ran out
pub piece_is_bad : {M : Type 0} → (tells : M → ScriptMeaning → Type 0) (Before After : List ℕ → Type 0) (text : List ℕ) (result : Result M ScriptFail)
    (failed : ScriptFail) → TakesPiece Before After text (Err failed) → Before []
    → IsErr result → IsErrAnd result (λ e. e ≡ failed) → GivesBy tells result (says text)
piece_is_bad tells Before After text (Ok made) failed takes start is is_that = cc
piece_is_bad tells Before After text (Err e) (fail.Bad line kind) takes start is is_that =
    let bad : FailsSo (fail.Bad line kind) (says text) = ap says (sym (append-nil text)) ∙ takes [] [] start in
    subst (λ f. FailsSo f (says text)) (sym is_that) bad
piece_is_bad tells Before After text (Err e) fail.Memory takes start is is_that = subst (λ f. FailsSo f (says text)) (sym is_that) tt

-- an input that isn't too long says what its lines say
pub script_says : (bytes : List ℕ) → length bytes ≤ MOST_INPUT_BYTES → script_of bytes ≡ says bytes
unfolding script_of
script_says bytes short =
    let test : nat_lt MOST_INPUT_BYTES (length bytes) ≡ false = grind (arith, nat_tests) in
    rw test refl
