-- What is written of a loaded object.
use Rattle.std.proofs.Common.{◌≡◌, ℕ, ◌≤◌, ◌⊎◌, inl, List, [], ◌∷◌, length, Option, None, Some, refl, subst, ◌∙◌}
use Rattle.dym_base.specs.declared.limits.TheConstants.{MOST_INPUT_BYTES}
use Rattle.dym_base.specs.Files.{IsFile}
use Rattle.dym_base.specs.Objects.{ObjectState, restore, slots}
use Rattle.dym_base.specs.declared.command.Version.{Version}
use Rattle.dym_base.specs.declared.reply.Reply.{Reply}
use Rattle.dym_ckpt.specs.FileReads.{IsLoaded}
use Rattle.dym_ckpt.specs.declared.file_reader.Loaded.{Loaded}
use Rattle.dym_report.specs.Objects.{object_text}
use Rattle.dymelor_top.specs.Answers.{IsLoadedText, IsPartFault, IsLoadAnswer}
use Rattle.dymelor_top.specs.Checkpoints.{HoldsLogs, restored_text, loaded_text}
use Rattle.dymelor_top.proofs.FileAnswers.{tested_short}

-- with no restore it is the object as it stands
pub as_it_stands : (v : Version) (quota : ℕ) (name : List ℕ) (s : ObjectState) (kept records : ℕ) → kept ≡ length s.logs → records ≡ slots s.logs
    → object_text v name [] s.heap.live kept records ≡ restored_text v quota name s None
unfolding restored_text
as_it_stands v quota name s kept records same_kept same_records = λ i. object_text v name [] s.heap.live (same_kept i) (same_records i)

-- with one it is the object after it
pub as_restored : (v : Version) (quota : ℕ) (name : List ℕ) (s e : ObjectState) (time : ℕ) (reply : Reply) (kept records : ℕ)
    → e ≡ (restore s time).object → reply ≡ (restore s time).reply → kept ≡ length e.logs → records ≡ slots e.logs
    → object_text v name (reply ∷ []) e.heap.live kept records ≡ restored_text v quota name s (Some time)
unfolding restored_text
as_restored v quota name s e time reply kept records after replied same_kept same_records =
    (λ i. object_text v name (replied i ∷ []) e.heap.live (same_kept i) (same_records i))
    ∙ (λ i. object_text v name ((restore s time).reply ∷ []) (after i).heap.live (length (after i).logs) (slots (after i).logs))

-- what was made of a file that is no longer than an input may be is the answer to it
pub loaded_answer : (time : Option ℕ) (bytes read : List ℕ) (loaded : Loaded) → read ≡ bytes → length bytes ≤ MOST_INPUT_BYTES → (is : IsLoaded read loaded)
    → IsLoadAnswer time bytes (record { status = 0; text = loaded_text time is.head loaded.chain.logs })
loaded_answer time bytes read loaded same short is =
    let file : IsFile bytes is.head is.records = subst (λ l. IsFile l is.head is.records) same is.file in
    let holds : HoldsLogs bytes is.head loaded.chain.logs = record { records = is.records; base_logs = loaded.chain.base_logs; file = file; entries = is.entries } in
    tested_short (λ x. IsLoadedText time bytes x ⊎ IsPartFault bytes x) bytes (record { status = 0; text = loaded_text time is.head loaded.chain.logs }) short
    (inl (record { head = is.head; logs = loaded.chain.logs; holds = holds; is = refl }))
