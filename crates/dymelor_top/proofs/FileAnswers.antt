-- The answer to bytes that should be a file: they have one at most.
use Rattle.std.proofs.Common.{◌≡◌, ℕ, ◌<◌, ◌≤◌, ◌⊎◌, inl, inr, true, false, List, length, drop, nat_lt, Option, Err, MatchBool, refl, sym, ap, subst, ◌∙◌, arith}
use Rattle.std.proofs.lemmas.Bool.Decides.{nat_tests}
use Rattle.dym_base.specs.declared.limits.TheConstants.{MOST_INPUT_BYTES}
use Rattle.dym_base.specs.declared.bad_kind.BadKind.TheVariants as bad
use Rattle.dym_base.specs.Files.{FileHead, FailsAt}
use Rattle.dym_base.specs.LawfulLists.{IsLawful}
use Rattle.dym_base.specs.Objects.{LogEntry}
use Rattle.dym_chain.specs.AdoptedLogs.{entries_of}
use Rattle.dym_ckpt.proofs.OneReading.{one_reading, no_file, one_part}
use Rattle.dym_ckpt.specs.FileRecords.{FailsAs}
use Rattle.dym_ckpt.specs.declared.file_reader.FileFail.{FileFail}
use Rattle.dym_ckpt.specs.declared.file_reader.FileFail.TheVariants as file
use Rattle.dym_io.specs.Sink.{Output}
use Rattle.dymelor_top.specs.Calls.{AnswersRead}
use Rattle.dymelor_top.specs.Stops.{of_file_fail}
use Rattle.dymelor_top.proofs.Answered.{told_fault, wanted_memory}
use Rattle.dymelor_top.specs.Checkpoints.{HoldsLogs, loaded_text}
use Rattle.dymelor_top.specs.Answers.{Answer, fault_answer, IsLoadedText, IsPartFault, IsLoadAnswer}

-- a file holds one list of kept logs
one_logs : (bytes : List ℕ) (g h : FileHead) (logs others : List LogEntry) → HoldsLogs bytes g logs → HoldsLogs bytes h others → (g ≡ h) × (logs ≡ others)
one_logs bytes g h logs others p q =
    let same = one_reading bytes g h p.records q.records p.file q.file in
    let read = p.file.read.lawful in
    let first : logs ≡ drop g.depth (entries_of read.0) = (p.entries g.version read.0 read.1 read.2).1 in
    let again : IsLawful g.version h.depth read.0 = subst (λ (x : FileHead). IsLawful g.version x.depth read.0) same.0 read.1 in
    let second : others ≡ drop h.depth (entries_of read.0) = (q.entries g.version read.0 again (read.2 ∙ same.1)).1 in
    (same.0, first ∙ ap (λ (x : FileHead). drop x.depth (entries_of read.0)) same.0 ∙ sym second)

both_texts : (time : Option ℕ) (bytes : List ℕ) (x y : Answer) → IsLoadedText time bytes x → IsLoadedText time bytes y → x ≡ y
both_texts time bytes x y p q =
    let same = one_logs bytes p.head q.head p.logs q.logs p.holds q.holds in
    p.is ∙ (λ i. record { status = 0; text = loaded_text time (same.0 i) (same.1 i) }) ∙ sym q.is

pub one_loaded : (time : Option ℕ) (bytes : List ℕ) (x y : Answer) → IsLoadedText time bytes x ⊎ IsPartFault bytes x
    → IsLoadedText time bytes y ⊎ IsPartFault bytes y → x ≡ y
one_loaded time bytes x y (inl p) (inl q) = both_texts time bytes x y p q
one_loaded time bytes x y (inl p) (inr q) = absurd (no_file bytes p.head p.holds.records q.part p.holds.file q.fails)
one_loaded time bytes x y (inr p) (inl q) = absurd (no_file bytes q.head q.holds.records p.part q.holds.file p.fails)
one_loaded time bytes x y (inr p) (inr q) = p.is ∙ ap (λ n. fault_answer n bad.File) (one_part bytes p.part q.part p.fails q.fails) ∙ sym q.is

-- the answer to bytes whose length is tested first
pub tested_long : (Is : Answer → Type 0) (bytes : List ℕ) → MOST_INPUT_BYTES < length bytes
    → MatchBool (nat_lt MOST_INPUT_BYTES (length bytes)) (fault_answer 0 bad.TooLong ≡ fault_answer 0 bad.TooLong) (Is (fault_answer 0 bad.TooLong))
tested_long Is bytes long =
    let x : Answer = fault_answer 0 bad.TooLong in
    let test : nat_lt MOST_INPUT_BYTES (length bytes) ≡ true = grind (arith, nat_tests) in
    subst (λ b. MatchBool b (x ≡ x) (Is x)) (sym test) refl

pub tested_short : (Is : Answer → Type 0) (bytes : List ℕ) (x : Answer) → length bytes ≤ MOST_INPUT_BYTES → Is x
    → MatchBool (nat_lt MOST_INPUT_BYTES (length bytes)) (x ≡ fault_answer 0 bad.TooLong) (Is x)
tested_short Is bytes x short is =
    let test : nat_lt MOST_INPUT_BYTES (length bytes) ≡ false = grind (arith, nat_tests) in
    subst (λ b. MatchBool b (x ≡ fault_answer 0 bad.TooLong) (Is x)) (sym test) is

-- the answer to bytes of which a part fails
pub part_answer : (time : Option ℕ) (bytes read : List ℕ) (part : ℕ) → read ≡ bytes → length bytes ≤ MOST_INPUT_BYTES → FailsAt read part
    → IsLoadAnswer time bytes (fault_answer part bad.File)
part_answer time bytes read part same short fails =
    tested_short (λ x. IsLoadedText time bytes x ⊎ IsPartFault bytes x) bytes (fault_answer part bad.File) short
    (inr (record { part = part; fails = subst (λ l. FailsAt l part) same fails; is = refl }))

-- so the call that reads it tells that part, or that memory ran out
pub file_failed : (time : Option ℕ) (bytes : List ℕ) (a : Output) → length bytes ≤ MOST_INPUT_BYTES → (e : FileFail) → FailsAs bytes e
    → AnswersRead (IsLoadAnswer time bytes) a a (Err (of_file_fail e))
file_failed time bytes a short (file.Bad part) fails = told_fault (IsLoadAnswer time bytes) a part bad.File (part_answer time bytes bytes part refl short fails)
file_failed time bytes a short file.Memory fails = wanted_memory (IsLoadAnswer time bytes) a
