-- What holds while a source is read and its script with it, and what is known at the end.
use Rattle.std.proofs.Common.{◌≡◌, ℕ, ◌+◌, ◌-◌, ◌<◌, ◌≤◌, inl, inr, List, [], ◌++◌, length, take, drop, Option, Some, None, Result, Ok, Err, refl, sym, ap, subst, ◌∙◌, append_assoc, append-nil, length-append, length-take, length-drop, take-append-drop, zero-add, arith}
use Rattle.std.specs.List.{copy_within}
use Rattle.std.proofs.Math.Seq.{paste, take-add}
use Rattle.std.proofs.lemmas.List.{drop-take}
use Rattle.std.proofs.lemmas.List.Edits.{take-paste}
use Rattle.std.specs.Io.KnownBytes.{Consumes, Keeps}
use Rattle.std.proofs.KnownBytes.{Consumes-trans, Consumes-kept}
use Rattle.dym_base.specs.declared.limits.TheConstants.{MOST_INPUT_BYTES}
use Rattle.dym_base.specs.declared.bad_kind.BadKind.{BadKind}
use Rattle.dym_base.specs.declared.bad_kind.BadKind.TheVariants as bad
use Rattle.dym_io.specs.Source.{IsEmptyAtEnd, TookAtMost}
use Rattle.dym_script.specs.declared.script.ScriptFail.{ScriptFail}
use Rattle.dym_script.specs.declared.script.ScriptFail.TheVariants as fail
use Rattle.dym_script.specs.Scripts.{ScriptMeaning, Fault, script_of}
use Rattle.dym_script.specs.Answers.{FailsSo}
use Rattle.dym_script.specs.Pieces.{says, TakesPiece}
use Rattle.dym_script.proofs.PiecesRead.{script_says}
use Rattle.dymelor_top.specs.Blocks.{IsFaultOf, IsReadOut, TakesBytes, IsDrained}
use Rattle.dym_script.specs.WholeScripts.{GivesWhole}
use Rattle.dym_script.specs.declared.pieces.WholeScript.{WholeScript}
use Rattle.dym_script.specs.declared.script.Decl.{Decl}
use Rattle.dym_script.specs.declared.script.Line.{Line}
use Rattle.dymelor_top.specs.Calls.{SameVerdict, TellsScript, ReadsSource}
use Rattle.dymelor_top.specs.Headline.{Input}
use Rattle.dymelor_top.specs.Stops.{of_script_fail}
use Rattle.dymelor_top.specs.declared.stop.Stop.{Stop}
use Rattle.dymelor_top.specs.declared.stop.Stop.TheVariants as stop
use Rattle.dymelor_top.proofs.SourceReads.{made, faulty, no_memory}
use Rattle.dymelor_top.proofs.WholeInput.{too_long, read_so, same_said}

-- ---- a source that is read

-- so many bytes were pulled before and so many in all, no call failed, and another may follow
pub record DrainedSoFar (pulled : ℕ) (old new : Option (List ℕ)) (faults_old faults_new : ℕ) (goes_on : Type 0) (all : ℕ) : Type 0 where
  pub got : List ℕ
  pub taken : Consumes old new got
  pub count : pulled + length got ≡ all
  pub within : all ≤ MOST_INPUT_BYTES + 1
  pub faults : faults_new ≡ faults_old
  pub more : goes_on

-- a pull took more
pub drained_more : (pulled : ℕ) (a b c : Option (List ℕ)) (f g h : ℕ) (G H : Type 0) (all n : ℕ) (out : List ℕ) → DrainedSoFar pulled a b f g G all
    → Consumes b c (take n out) → n ≤ length out → all + n ≤ MOST_INPUT_BYTES + 1 → h ≡ g → H
    → DrainedSoFar pulled a c f h H (all + n)
drained_more pulled a b c f g h G H all n out so taken enough within calm on = record {
  got = so.got ++ take n out;
  taken = Consumes-trans a b c so.got (take n out) so.taken taken;
  count = omega (arith, so.count, length-append so.got (take n out), length-take n out);
  within = within;
  faults = calm ∙ so.faults;
  more = on;
}

-- a pull gave nothing, since nothing was left
out_at_end : (n all : ℕ) (a b c : Option (List ℕ)) (got out : List ℕ) → Consumes a b got → IsEmptyAtEnd b n → n ≡ 0 → Consumes b c (take n out) → IsReadOut a c all
out_at_end n all None b c got out before at_end none taken = tt
out_at_end n all (Some xs) None c got out before at_end none taken = absurd before
out_at_end n all (Some xs) (Some ys) None got out before at_end none taken = absurd taken
out_at_end n all (Some xs) (Some ys) (Some zs) got out before at_end none taken = inl (sym (taken ∙ ap (λ k. take k out ++ zs) none) ∙ at_end.0 none)

-- so much was read that the input is too long
out_at_limit : (all : ℕ) (a b : Option (List ℕ)) → all ≡ MOST_INPUT_BYTES + 1 → IsReadOut a b all
out_at_limit all None b full = tt
out_at_limit all (Some xs) None full = tt
out_at_limit all (Some xs) (Some ys) full = inr full

-- whatever the call answers, so many bytes at most were taken

-- it failed after these bytes
pub took_before : (most n : ℕ) (a b c : Option (List ℕ)) (got : List ℕ) → Consumes a b got → length got ≡ n → n ≤ most → Keeps b c → TookAtMost most a c
took_before most n a b c got taken len few kept = record { got = got; taken = Consumes-kept a b c got taken kept; few = omega (arith, len, few) }

-- it took these bytes, and so many at most behind them
pub took_both : (most n more : ℕ) (a b c : Option (List ℕ)) (got : List ℕ) → Consumes a b got → length got ≡ n → n + more ≤ most → TookAtMost more b c
    → TookAtMost most a c
took_both most n more a b c got taken len few then = record {
  got = got ++ then.got;
  taken = Consumes-trans a b c got then.got taken then.taken;
  few = omega (arith, len, few, then.few, length-append got then.got);
}

pub told_few : (old new : Option (List ℕ)) (Gives : Result ScriptMeaning Fault → Type 0) → TakesBytes [] old new Gives → TookAtMost (MOST_INPUT_BYTES + 1) old new
told_few old new Gives tells = record { got = tells.got; taken = tells.taken; few = tells.within }

-- ---- what the bytes that were read say

gives_long : (bytes : List ℕ) → MOST_INPUT_BYTES < length bytes → FailsSo (fail.Bad 0 bad.TooLong) (script_of bytes)
gives_long bytes long = too_long bytes long

gives_says : (Gives : Result ScriptMeaning Fault → Type 0) (bytes : List ℕ) → length bytes ≤ MOST_INPUT_BYTES → Gives (says bytes) → Gives (script_of bytes)
gives_says Gives bytes short gives = subst Gives (sym (script_says bytes short)) gives

-- behind a bad line the source was read out, and the bytes aren't too many
pub fault_told : (pulled line all : ℕ) (kind : BadKind) (front : List ℕ) (a b : Option (List ℕ)) → IsDrained pulled a b all → all ≤ MOST_INPUT_BYTES
    → length front ≡ pulled → IsFaultOf front line kind → TakesBytes front a b (FailsSo (fail.Bad line kind))
fault_told pulled line all kind front a b drained short long faulty =
    let len : length (front ++ drained.got) ≡ all = omega (arith, drained.count, long, length-append front drained.got) in
    record {
      got = drained.got;
      taken = drained.taken;
      within = omega (arith, len, short);
      out = subst (IsReadOut a b) (sym len) drained.out;
      gives = gives_says (FailsSo (fail.Bad line kind)) (front ++ drained.got) (omega (arith, len, short)) (faulty drained.got);
    }

-- or they are
pub long_told : (pulled all : ℕ) (front : List ℕ) (a b : Option (List ℕ)) → IsDrained pulled a b all → MOST_INPUT_BYTES < all → length front ≡ pulled
    → TakesBytes front a b (FailsSo (fail.Bad 0 bad.TooLong))
long_told pulled all front a b drained big long =
    let len : length (front ++ drained.got) ≡ all = omega (arith, drained.count, long, length-append front drained.got) in
    record {
      got = drained.got;
      taken = drained.taken;
      within = omega (arith, len, drained.within);
      out = subst (IsReadOut a b) (sym len) drained.out;
      gives = gives_long (front ++ drained.got) (omega (arith, len, big));
    }

-- ---- a script that is read

-- the lines of these bytes were read, those that are left in the block follow them, and both were taken from the source
pub record ReadSoFar (old new : Option (List ℕ)) (faults_old faults_new : ℕ) (Takes : List ℕ → Type 0) (left : List ℕ) (pulled : ℕ) : Type 0 where
  pub taken : List ℕ
  pub took : Takes taken
  pub consumed : Consumes old new (taken ++ left)
  pub count : length taken + length left ≡ pulled
  pub within : pulled ≤ MOST_INPUT_BYTES
  pub faults : faults_new ≡ faults_old

-- the source has no more: what is left is the last piece
pub read_end : (a b c : Option (List ℕ)) (f g n pulled : ℕ) (Takes : List ℕ → Type 0) (left out : List ℕ) (Gives : Result ScriptMeaning Fault → Type 0)
    (so : ReadSoFar a b f g Takes left pulled)
    → IsEmptyAtEnd b n → n ≡ 0 → Consumes b c (take n out)
    → ((taken : List ℕ) → Takes taken → Gives (says (taken ++ left))) → TakesBytes [] a c Gives
read_end a b c f g n pulled Takes left out Gives so at_end none taken gives =
    let got = so.taken ++ left in
    let len : length got ≤ MOST_INPUT_BYTES = omega (arith, so.count, so.within, length-append so.taken left) in
    let nothing : got ++ take n out ≡ got = ap (λ k. got ++ take k out) none ∙ append-nil got in
    record {
      got = got;
      taken = subst (Consumes a c) nothing (Consumes-trans a b c got (take n out) so.consumed taken);
      within = omega (arith, len);
      out = out_at_end n (length got) a b c got out so.consumed at_end none taken;
      gives = gives_says Gives got len (gives so.taken so.took);
    }

-- the bytes of a pull stand behind those that were left
pub record PulledBehind (a c : Option (List ℕ)) (Takes : List ℕ → Type 0) (text : List ℕ) (pulled : ℕ) : Type 0 where
  pub taken : List ℕ
  pub took : Takes taken
  pub consumed : Consumes a c (taken ++ text)
  pub count : length taken + length text ≡ pulled

pub pulled_behind : (a b c : Option (List ℕ)) (f g n k pulled : ℕ) (Takes : List ℕ → Type 0) (old new : List ℕ) → ReadSoFar a b f g Takes (take k old) pulled
    → take k new ≡ take k old → Consumes b c (take n (drop k new)) → k + n ≤ length new
    → PulledBehind a c Takes (take (k + n) new) (pulled + n)
pulled_behind a b c f g n k pulled Takes old new so kept taken enough =
    let text : take (k + n) new ≡ take k old ++ take n (drop k new) = take-add k n new ∙ ap (λ l. l ++ take n (drop k new)) kept in
    record {
      taken = so.taken;
      took = so.took;
      consumed = subst (Consumes a c) (append_assoc so.taken (take k old) (take n (drop k new)) ∙ ap (λ l. so.taken ++ l) (sym text))
          (Consumes-trans a b c (so.taken ++ take k old) (take n (drop k new)) so.consumed taken);
      count = omega (arith, so.count, ap length text, length-append (take k old) (take n (drop k new)), length-take n (drop k new), length-drop k new);
    }

-- so many bytes were pulled that the input is too long
pub pulled_long : (a c : Option (List ℕ)) (Takes : List ℕ → Type 0) (text : List ℕ) (pulled : ℕ) → PulledBehind a c Takes text pulled → MOST_INPUT_BYTES < pulled
    → pulled ≤ MOST_INPUT_BYTES + 1 → TakesBytes [] a c (FailsSo (fail.Bad 0 bad.TooLong))
pulled_long a c Takes text pulled so big within =
    let got = so.taken ++ text in
    let len : length got ≡ pulled = omega (arith, so.count, length-append so.taken text) in
    record {
      got = got;
      taken = so.consumed;
      within = omega (arith, len, within);
      out = out_at_limit (length got) a c (omega (arith, len, big, within));
      gives = gives_long got (omega (arith, len, big));
    }

-- the ended lines of the text were read
pub read_more : (a c : Option (List ℕ)) (f g : ℕ) (Takes TakesNow : List ℕ → Type 0) (text left : List ℕ) (n pulled : ℕ) → PulledBehind a c Takes text pulled
    → pulled ≤ MOST_INPUT_BYTES → g ≡ f → TakesPiece Takes TakesNow text (Ok n) → left ≡ drop (length text - n) text
    → ReadSoFar a c f g TakesNow left pulled
read_more a c f g Takes TakesNow text left n pulled so within faults takes is =
    let front = take (length text - n) text in
    let whole : front ++ left ≡ text = ap (λ l. front ++ l) is ∙ take-append-drop (length text - n) text in
    record {
      taken = so.taken ++ front;
      took = takes so.taken so.took;
      consumed = subst (Consumes a c) (ap (λ l. so.taken ++ l) (sym whole) ∙ sym (append_assoc so.taken front left)) so.consumed;
      count = omega (arith, so.count, ap length whole, length-append front left, length-append so.taken front);
      within = within;
      faults = faults;
    }

out_since : (n : ℕ) (a b c : Option (List ℕ)) (got : List ℕ) → Consumes a b got → IsReadOut b c n → IsReadOut a c n
out_since n None b c got taken out = tt
out_since n (Some xs) None c got taken out = absurd taken
out_since n (Some xs) (Some ys) c got taken out = out

-- a line of the text is bad, and the rest was read
pub read_bad : (a b c : Option (List ℕ)) (Takes TakesNow : List ℕ → Type 0) (text : List ℕ) (pulled line : ℕ) (kind : BadKind) (failed : ScriptFail)
    → PulledBehind a b Takes text pulled → TakesPiece Takes TakesNow text (Err (fail.Bad line kind))
    → ((front : List ℕ) → length front ≡ pulled → IsFaultOf front line kind → TakesBytes front b c (FailsSo failed)) → TakesBytes [] a c (FailsSo failed)
read_bad a b c Takes TakesNow text pulled line kind failed so takes outcome =
    let front = so.taken ++ text in
    let tells = outcome front (omega (arith, so.count, length-append so.taken text)) (λ more. takes so.taken more so.took) in
    record {
      got = front ++ tells.got;
      taken = Consumes-trans a b c front tells.got so.consumed tells.taken;
      within = tells.within;
      out = out_since (length (front ++ tells.got)) a b c front so.consumed tells.out;
      gives = tells.gives;
    }

-- ---- the input

-- two inputs that are too long say the same
same_gives : (Gives : Result ScriptMeaning Fault → Type 0) (read all : List ℕ) → SameVerdict read all → Gives (script_of read) → Gives (script_of all)
same_gives Gives read all (inl same) gives = subst (λ l. Gives (script_of l)) same gives
same_gives Gives read all (inr long) gives = subst Gives (too_long read long.0 ∙ sym (too_long all long.1)) gives

-- the input was read as far as must be, and what it says is known
pub told_input : (n : ℕ) (old new : Option (List ℕ)) (Gives : Result ScriptMeaning Fault → Type 0) (all : List ℕ) → n ≡ MOST_INPUT_BYTES + 1 → old ≡ Some all
    → TakesBytes [] old new Gives → (new ≡ Some (drop n all)) × Gives (script_of all)
told_input n old new Gives all limit known tells =
    outcome new (subst (λ l. Consumes l new tells.got) known tells.taken) (subst (λ l. IsReadOut l new (length tells.got)) known tells.out)
  where
    outcome : (left : Option (List ℕ)) → Consumes (Some all) left tells.got → IsReadOut (Some all) left (length tells.got)
        → (left ≡ Some (drop n all)) × Gives (script_of all)
    outcome None taken out = absurd taken
    outcome (Some more) taken out =
        let so = read_so n all tells.got more limit taken (omega (arith, limit, tells.within)) (elim out [ inl none ↦ inl none | inr full ↦ inr (full ∙ sym limit) ]) in
        (ap Some so.0, same_gives Gives tells.got all so.1 tells.gives)

-- ---- a block

-- the last bytes of those in its front were moved to its start
pub kept_end : (block : List ℕ) (end rest : ℕ) → rest ≤ end → end ≤ length block → take rest (copy_within block (end - rest) end 0) ≡ drop (end - rest) (take end block)
kept_end block end rest within inside =
    let at : ℕ = end - rest in
    let last : List ℕ = drop at block in
    let same : end - at ≡ rest = omega (arith, within) in
    let sum : at + rest ≡ end = omega (arith, within) in
    ap (λ n. take rest (paste block 0 last n)) same ∙ ap (λ k. take k (paste block 0 last rest)) (sym (zero-add rest))
    ∙ take-paste block 0 last rest (omega arith) (omega (arith, length-drop at block, within, inside))
    ∙ sym (drop-take at rest block) ∙ ap (λ k. drop at (take k block)) sum

-- ---- the whole call

-- a script was read, and kept
module _ {K : Type 0} (Keeps : K → List Decl → List Line → Type 0) (old new : Input) (bounded : TookAtMost (MOST_INPUT_BYTES + 1) old.left new.left)
    (calm : new.faults ≡ old.faults) where
  pub script_made : (script : WholeScript K) → TakesBytes [] old.left new.left (GivesWhole Keeps (Ok script)) → ReadsSource (TellsScript Keeps) old new (Ok script)
  script_made script takes =
      made (TellsScript Keeps) old new script (takes.got, takes.gives)
      (λ bytes known. (told_input (MOST_INPUT_BYTES + 1) old.left new.left (GivesWhole Keeps (Ok script)) bytes refl known takes).1)
      (λ bytes known. (told_input (MOST_INPUT_BYTES + 1) old.left new.left (GivesWhole Keeps (Ok script)) bytes refl known takes).0) bounded calm

  -- or it has a fault, or memory ran out
  pub script_failed : (e : ScriptFail) → TakesBytes [] old.left new.left (FailsSo e) → ReadsSource (TellsScript Keeps) old new (Err (of_script_fail e))
  script_failed (fail.Bad line kind) takes =
      faulty (TellsScript Keeps) old new line kind
      (λ bytes known. (told_input (MOST_INPUT_BYTES + 1) old.left new.left (FailsSo (fail.Bad line kind)) bytes refl known takes).1)
      (λ bytes known. (told_input (MOST_INPUT_BYTES + 1) old.left new.left (FailsSo (fail.Bad line kind)) bytes refl known takes).0) bounded calm
  script_failed fail.Memory takes = no_memory (TellsScript Keeps) old new (λ bytes. tt) bounded calm

-- its bytes were read, and then it
module _ {X K : Type 0} (T : List ℕ → Result X Stop → Type 0) (Keeps : K → List Decl → List Line → Type 0) (old new : Input) where
  pub bytes_stopped : (e : Stop) → ((bytes : List ℕ) (line : ℕ) (kind : BadKind) → ¬ T bytes (Err (stop.Bad line kind))) → ReadsSource T old new (Err e)
      → ReadsSource (TellsScript Keeps) old new (Err e)
  bytes_stopped stop.Usage good reads = absurd (reads.no_usage refl)
  bytes_stopped (stop.Bad line kind) good reads = record {
    some = tt;
    told = λ bytes known. absurd (good bytes line kind (reads.told bytes known));
    read = reads.read;
    bounded = reads.bounded;
    source = λ is. absurd (cc);
    source_stands = λ _. reads.source_stands (λ is. absurd (cc));
    no_usage = λ is. absurd (cc);
    no_sink = λ is. absurd (cc);
  }
  bytes_stopped stop.Source good reads = record {
    some = tt;
    told = λ bytes known. tt;
    read = reads.read;
    bounded = reads.bounded;
    source = λ _. reads.source refl;
    source_stands = λ other. absurd (other refl);
    no_usage = λ is. absurd (cc);
    no_sink = λ is. absurd (cc);
  }
  bytes_stopped stop.Sink good reads = absurd (reads.no_sink refl)
  bytes_stopped stop.Memory good reads =
      no_memory (TellsScript Keeps) old new (λ bytes. tt) reads.bounded (reads.source_stands (λ is. absurd (cc)))

  module _ (x : X) (read : List ℕ) (whole : (bytes : List ℕ) → T bytes (Ok x) → SameVerdict read bytes) (reads : ReadsSource T old new (Ok x)) where
    pub bytes_made : (script : WholeScript K) → GivesWhole Keeps (Ok script) (script_of read) → ReadsSource (TellsScript Keeps) old new (Ok script)
    bytes_made script gives =
        made (TellsScript Keeps) old new script (read, gives)
        (λ bytes known. subst (GivesWhole Keeps (Ok script)) (same_said read bytes (whole bytes (reads.told bytes known))) gives) (reads.read (omega arith))
        reads.bounded (reads.source_stands (λ is. absurd (cc)))

    pub bytes_failed : (e : ScriptFail) → FailsSo e (script_of read) → ReadsSource (TellsScript Keeps) old new (Err (of_script_fail e))
    bytes_failed (fail.Bad line kind) gives =
        faulty (TellsScript Keeps) old new line kind
        (λ bytes known. subst (FailsSo (fail.Bad line kind)) (same_said read bytes (whole bytes (reads.told bytes known))) gives) (reads.read (omega arith))
        reads.bounded (reads.source_stands (λ is. absurd (cc)))
    bytes_failed fail.Memory gives = no_memory (TellsScript Keeps) old new (λ bytes. tt) reads.bounded (reads.source_stands (λ is. absurd (cc)))
