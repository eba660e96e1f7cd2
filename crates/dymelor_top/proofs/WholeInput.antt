-- An input that was read whole, or for as many bytes as tell that it is too long, has the answers of all its bytes.
use Rattle.std.proofs.Common.{◌≡◌, ℕ, ◌+◌, ◌<◌, ◌≤◌, ◌⊎◌, inl, inr, Bool, true, List, [], ◌++◌, length, drop, nat_lt, Option, Some, None, Result, Err, MatchBool, refl, sym, ap, subst, ◌∙◌, append-nil, length-append, arith}
use Rattle.std.proofs.Math.ListN.{drop_of_length-le}
use Rattle.std.proofs.Math.Seq.{drop-append_seam}
use Rattle.std.proofs.lemmas.Bool.{cond-true}
use Rattle.std.proofs.lemmas.Bool.Decides.{nat_tests}
use Rattle.std.specs.Io.KnownBytes.{Consumes}
use Rattle.dym_base.specs.declared.limits.TheConstants.{MOST_INPUT_BYTES}
use Rattle.dym_base.specs.declared.bad_kind.BadKind.TheVariants as bad
use Rattle.dym_base.specs.Lines.{lines_of}
use Rattle.dym_io.specs.Source.{IsEndOrLimit}
use Rattle.dym_script.specs.Late.{LateScriptMeaning, late_of, late_lines, late_start}
use Rattle.dym_script.specs.Scripts.{Fault, script_of, read_lines, start}
use Rattle.dymelor_top.specs.Answers.{Answer, fault_answer, IsJudged, IsLoadedText, IsPartFault, IsTraceAnswer, IsLoadAnswer}
use Rattle.dymelor_top.specs.Calls.{SameVerdict}

test_long : (bytes : List ℕ) → MOST_INPUT_BYTES < length bytes → nat_lt MOST_INPUT_BYTES (length bytes) ≡ true
test_long bytes long = grind (arith, nat_tests)

-- an input that is too long has one verdict, whatever its bytes
pub too_long : (bytes : List ℕ) → MOST_INPUT_BYTES < length bytes → script_of bytes ≡ Err (record { line = 0; kind = bad.TooLong })
unfolding script_of
too_long bytes long =
    cond-true (nat_lt MOST_INPUT_BYTES (length bytes)) (Err (record { line = 0; kind = bad.TooLong })) (read_lines start 1 (lines_of bytes)) (test_long bytes long)

drop_front : (n : ℕ) (xs ys : List ℕ) → length xs ≡ n → drop n (xs ++ ys) ≡ ys
drop_front n xs ys is = ap (λ k. drop k (xs ++ ys)) (sym is) ∙ drop-append_seam xs ys

pub read_so : (n : ℕ) (all read more : List ℕ) → n ≡ MOST_INPUT_BYTES + 1 → all ≡ read ++ more → length read ≤ n → (more ≡ []) ⊎ (length read ≡ n)
    → (more ≡ drop n all) × SameVerdict read all
read_so n all read more limit is within (inl none) =
    let same : all ≡ read = is ∙ ap (λ l. read ++ l) none ∙ append-nil read in
    let short : length all ≤ n = subst (λ l. length l ≤ n) (sym same) within in
    (none ∙ sym (drop_of_length-le all short), inl (sym same))
read_so n all read more limit is within (inr full) =
    let long : MOST_INPUT_BYTES < length read = omega (arith, full, limit) in
    let longer : MOST_INPUT_BYTES < length all = omega (arith, long, ap length is, length-append read more) in
    (sym (drop_front n read more full) ∙ ap (drop n) (sym is), inr (long, longer))

read_whole_input : (n : ℕ) (left_old left_new : Option (List ℕ)) (read all : List ℕ) → n ≡ MOST_INPUT_BYTES + 1 → left_old ≡ Some all
    → Consumes left_old left_new read → length read ≤ n → IsEndOrLimit n left_old left_new read
    → (left_new ≡ Some (drop n all)) × SameVerdict read all
read_whole_input n left_old left_new read all limit known consumed within ended =
    outcome left_new (subst (λ l. Consumes l left_new read) known consumed) (subst (λ l. IsEndOrLimit n l left_new read) known ended)
  where
    outcome : (new : Option (List ℕ)) → Consumes (Some all) new read → IsEndOrLimit n (Some all) new read → (new ≡ Some (drop n all)) × SameVerdict read all
    outcome None taken end = absurd taken
    outcome (Some more) taken end = let so = read_so n all read more limit taken within end in (ap Some so.0, so.1)

-- of a known input these bytes were read, to its end, or as many as tell that it is too long
module _ (old new : Option (List ℕ)) (read all : List ℕ) (known : old ≡ Some all) (taken : Consumes old new read) (within : length read ≤ MOST_INPUT_BYTES + 1)
    (end : IsEndOrLimit (MOST_INPUT_BYTES + 1) old new read) where
  pub input_left : new ≡ Some (drop (MOST_INPUT_BYTES + 1) all)
  input_left = (read_whole_input (MOST_INPUT_BYTES + 1) old new read all refl known taken within end).0

  pub input_same : SameVerdict read all
  input_same = (read_whole_input (MOST_INPUT_BYTES + 1) old new read all refl known taken within end).1

-- so both say the same
pub same_said : (read all : List ℕ) → SameVerdict read all → script_of read ≡ script_of all
same_said read all (inl same) = ap script_of same
same_said read all (inr long) = too_long read long.0 ∙ sym (too_long all long.1)

-- also of late events
too_long_late : (bytes : List ℕ) → MOST_INPUT_BYTES < length bytes → late_of bytes ≡ Err (record { line = 0; kind = bad.TooLong })
unfolding late_of
too_long_late bytes long =
    cond-true (nat_lt MOST_INPUT_BYTES (length bytes)) (Err (record { line = 0; kind = bad.TooLong })) (late_lines late_start 1 (lines_of bytes)) (test_long bytes long)

same_late_said : (read all : List ℕ) → SameVerdict read all → late_of read ≡ late_of all
same_late_said read all (inl same) = ap late_of same
same_late_said read all (inr long) = too_long_late read long.0 ∙ sym (too_long_late all long.1)

pub same_late : (f : Result LateScriptMeaning Fault → Answer) (read all : List ℕ) (answer : Answer) → SameVerdict read all → answer ≡ f (late_of read)
    → answer ≡ f (late_of all)
same_late f read all answer same is = is ∙ ap f (same_late_said read all same)

-- also where the length is tested first
same_tested : (Is : List ℕ → Type 0) (read all : List ℕ) (answer : Answer) → SameVerdict read all
    → MatchBool (nat_lt MOST_INPUT_BYTES (length read)) (answer ≡ fault_answer 0 bad.TooLong) (Is read)
    → MatchBool (nat_lt MOST_INPUT_BYTES (length all)) (answer ≡ fault_answer 0 bad.TooLong) (Is all)
same_tested Is read all answer (inl same) is = subst (λ l. MatchBool (nat_lt MOST_INPUT_BYTES (length l)) (answer ≡ fault_answer 0 bad.TooLong) (Is l)) same is
same_tested Is read all answer (inr long) is =
    let P : List ℕ → Bool → Type 0 = λ l b. MatchBool b (answer ≡ fault_answer 0 bad.TooLong) (Is l) in
    let named : answer ≡ fault_answer 0 bad.TooLong = subst (P read) (test_long read long.0) is in
    subst (P all) (sym (test_long all long.1)) named

pub turned : (read all : List ℕ) → SameVerdict read all → SameVerdict all read
turned read all (inl same) = inl (sym same)
turned read all (inr long) = inr (long.1, long.0)

pub same_trace : (read all : List ℕ) (answer : Answer) → SameVerdict read all → IsTraceAnswer read answer → IsTraceAnswer all answer
same_trace read all answer same is = same_tested (λ l. IsJudged l answer) read all answer same is

pub same_load : (time : Option ℕ) (read all : List ℕ) (answer : Answer) → SameVerdict read all → IsLoadAnswer time read answer → IsLoadAnswer time all answer
same_load time read all answer same is = same_tested (λ l. IsLoadedText time l answer ⊎ IsPartFault l answer) read all answer same is
