-- What a top call promises: the bytes written are a prefix of the defined answer, and all of it at status 0, 1 or 2; every
-- other status but want of memory has its cause.
use Rattle.std.specs.Prelude.{◌≡◌, ℕ, ◌+◌, ◌≤◌, ◌⊎◌, Bool, false, List, [], ◌++◌, drop, Option, Some, Result, Ok, Err}
use Rattle.std.specs.Bool.{OnTrue}
use Rattle.std.specs.Io.KnownBytes.{Appends, Keeps}
use Rattle.dym_base.specs.declared.limits.TheConstants.{MOST_INPUT_BYTES}
use Rattle.dym_io.specs.Faults.{Rose, RoseOnce}
use Rattle.dym_io.specs.Source.{TookAtMost}
use Rattle.dym_io.specs.Sink.{Output, AllFlushed, Appended}
use Rattle.dym_words.specs.declared.order.Order.{Order}
use Rattle.dym_words.specs.declared.order.Order.TheVariants.{Run, Gen, Views}
use Rattle.dym_words.specs.declared.order.Usage.{Usage}
use Rattle.dymelor_top.specs.Answers.{Answer, IsAnswer, reads}

-- a source before or after a call: the bytes that are left, where it tells them, and its count of faults
pub record Input : Type 0 where
  pub left : Option (List ℕ)
  pub faults : ℕ

-- the front of a text was written
pub record WroteFront (old new : Output) (text : List ℕ) : Type 0 where
  pub front : List ℕ
  pub rest : List ℕ
  pub whole : text ≡ front ++ rest
  pub written : Appends old.written new.written front

-- a text was written whole, and all bytes are flushed
pub record WroteAll (old new : Output) (text : List ℕ) : Type 0 where
  pub written : Appends old.written new.written text
  pub flushed : AllFlushed old new

-- these bytes are the input, where the source is read
abbrev pub IsInput : Bool → Input → List ℕ → Type 0
IsInput reads_it source bytes = OnTrue reads_it (source.left ≡ Some bytes)

-- the input was read to its end, or for as many bytes as tell that it is too long
abbrev pub WasRead : Bool → Input → Input → Type 0
WasRead reads_it old new = OnTrue reads_it ((bytes : List ℕ) → old.left ≡ Some bytes → new.left ≡ Some (drop (MOST_INPUT_BYTES + 1) bytes))

-- what holds, by the status, of the answers that an input may have, of which there is one at most (the law `one_answer`)
pub record Answered (Is : Answer → Type 0) (old new : Output) (source_rose : Type 0) (status : ℕ) : Type 0 where
  -- whatever the status, a prefix of the answer was written
  pub prefix : (answer : Answer) → Is answer → WroteFront old new answer.text
  -- at 0, 1 and 2 the status is the answer's, and all of the answer was written
  pub whole : status ≤ 2 → (answer : Answer) × Is answer × (status ≡ answer.status) × WroteAll old new answer.text
  -- where neither the source nor the sink failed, all of it was written, or memory ran out
  pub complete : ¬ source_rose → ¬ Rose old.faults new.faults → (status ≤ 2) ⊎ (status ≡ 5)

-- what holds of a call that had this order, or words of none
pub record Headline (order : Result Order Usage) (old new : Input) (sink_old sink_new : Output) (status : ℕ) : Type 0 where
  pub answered : (bytes : List ℕ) → IsInput (reads order) old bytes
      → Answered (IsAnswer order bytes) sink_old sink_new (Rose old.faults new.faults) status
  -- of the source no more was taken than tells that the input is too long, whatever the status
  pub bounded : TookAtMost (MOST_INPUT_BYTES + 1) old.left new.left
  -- 0 and 2: the input was read
  pub read : status ≤ 2 → WasRead (reads order) old new
  -- where the order reads nothing, the source stays as it was
  pub unread : reads order ≡ false → Keeps old.left new.left × (new.faults ≡ old.faults)
  -- 1: words of no order. Such words get no other status but 4
  pub usage : status ≡ 1 → order ≡ Err (record {})
  pub only_usage : order ≡ Err (record {}) → (status ≡ 1) ⊎ (status ≡ 4)
  -- to make a script takes no memory: such an order gets 0, or 4
  pub made : (seed objects commands : ℕ) → order ≡ Ok (Gen seed objects commands) → (status ≡ 0) ⊎ (status ≡ 4)
  -- 3: one call on the source failed, and nothing was written
  pub source : status ≡ 3 → RoseOnce old.faults new.faults × Appended sink_old sink_new []
  -- 4: one call on the sink failed
  pub sink : status ≡ 4 → RoseOnce sink_old.faults sink_new.faults
  -- at every status but 3 no call on the source failed, and at every status but 4 none on the sink
  pub source_stands : ¬ (status ≡ 3) → new.faults ≡ old.faults
  pub sink_stands : ¬ (status ≡ 4) → sink_new.faults ≡ sink_old.faults
  -- there is no other status
  pub known : status ≤ 5

-- an order as a call has it that starts no thread: to run in waves is no order
abbrev pub without_threads : Result Order Usage → Result Order Usage
without_threads (Ok (Run workers segments quantum input summary)) = Err (record {})
without_threads (Ok (Views workers segments quantum)) = Err (record {})
without_threads order = order
