-- What the answers of a heap's calls are as replies, and the step that a call is.
use Rattle.std.specs.Prelude.{⊤, ◌≡◌, ℕ, ◌+◌, ◌≤◌, ◌<◌, true, false, List, Option, None, Some, Result, Ok, Err}
use Rattle.std.specs.FinMap.{contains_key}
use Rattle.dym_base.specs.Heaps.{Live}
use Rattle.dym_base.specs.HeapStep.{HeapAnswer, heap_step, key}
use Rattle.dym_base.specs.declared.handle.Handle.{Handle}
use Rattle.dym_base.specs.declared.command.Command.{Command}
use Rattle.dym_base.specs.declared.reply.Reply.{Reply}
use Rattle.dym_base.specs.declared.reply.Reply.TheVariants.{Done, Chunk, Nil, Loose, Bytes, Total, Refused}
use Rattle.dym_base.specs.declared.reply.Refusal.{Refusal}
use Rattle.dym_heap.specs.declared.found.Found.{Found}
use Rattle.dym_heap.specs.declared.found.Found.TheVariants as found
use Rattle.dym_heap.specs.Meaning.{HeapMeaning}

-- the step of a heap by a command
abbrev pub step_of : HeapMeaning → Command → HeapAnswer
step_of h command = heap_step h.version h.quota h.state command

-- the heap after a command, but for the segments that it holds
abbrev pub stepped : HeapMeaning → Command → HeapMeaning
stepped h command = record h { state = (step_of h command).heap }

abbrev pub done_reply : Result (Unit {0}) Refusal → Reply
done_reply (Ok u) = Done
done_reply (Err why) = Refused why

abbrev pub chunk_reply : Result Handle Refusal → Reply
chunk_reply (Ok h) = Chunk h
chunk_reply (Err why) = Refused why

abbrev pub moved_reply : Result (Option Handle) Refusal → Reply
moved_reply (Ok None) = Nil
moved_reply (Ok (Some h)) = Chunk h
moved_reply (Err why) = Refused why

abbrev pub bytes_reply : Result (Unit {0}) Refusal → List ℕ → Reply
bytes_reply (Ok u) bytes = Bytes bytes
bytes_reply (Err why) bytes = Refused why

abbrev pub found_reply : Result Found Refusal → Reply
found_reply (Ok found.Nil) = Nil
found_reply (Ok (found.Live h)) = Chunk h
found_reply (Ok (found.Loose n)) = Loose n
found_reply (Err why) = Refused why

abbrev pub total_reply : Result ℕ Refusal → Reply
total_reply (Ok n) = Total n
total_reply (Err why) = Refused why

-- a fact that holds where the reply is a refusal
abbrev pub OnRefusal : Reply → Type 0 → Type 0
OnRefusal (Refused why) P = P
OnRefusal _ P = ⊤

-- the heap with one command more applied to it
abbrev pub counted : HeapMeaning → HeapMeaning
counted h = record h { applied = h.applied + 1 }

-- the number from which the next live chunk is sought: that after the handle's
abbrev pub after_key : Option Handle → ℕ
after_key None = 0
after_key (Some h) = key h + 1

-- k is the least key of live from `from` on
pub record IsNextLive (live : Live) (from k : ℕ) : Type 0 where
  pub at_least : from ≤ k
  pub is_live : contains_key live k ≡ true
  pub least : (q : ℕ) → from ≤ q → q < k → contains_key live q ≡ false
