-- A command to the heap of an object: the step of the object is that of its heap.
use Rattle.std.proofs.Common.{◌≡◌, ℕ, ◌+◌, Bool, true, false, nat_lt, cond, Option, None, Some, List, length, take, drop, refl, sym, ap, ap₂, subst, ◌∙◌}
use Rattle.std.specs.FinMap.{get}
use Rattle.std.specs.Int.{w64, from_le_bytes}
use Rattle.dym_base.specs.HeapStep.{HeapAnswer, heap_step, IsHeapCommand, refused, read, follow, found_at, sum_of, key}
use Rattle.dym_base.specs.Heaps.{HeapState}
use Rattle.dym_base.specs.Objects.{LogEntry, ObjectState, ObjectAnswer, of_heap, object_step}
use Rattle.dym_base.specs.declared.command.Version.{Version}
use Rattle.dym_base.specs.declared.command.Command.{Command}
use Rattle.dym_base.specs.declared.command.Command.TheVariants.{Log, Ilog, Restore, Prune, Logs, Read, Follow, Sum}
use Rattle.dym_base.specs.declared.handle.Handle.{Handle}
use Rattle.dym_base.specs.declared.reply.Refusal.TheVariants.{Range}
use Rattle.dym_base.specs.declared.reply.Reply.TheVariants.{Bytes}
use Rattle.dym_heap.specs.Meaning.{HeapMeaning}
use Rattle.dym_heap.specs.Replies.{stepped}

-- one command to the heap of an object
pub step_is : (v : Version) (quota : ℕ) (s : ObjectState) (c : Command) → IsHeapCommand c → object_step v quota s c ≡ of_heap s (heap_step v quota s.heap c)
step_is v quota s (Log t) is = absurd is
step_is v quota s (Ilog t) is = absurd is
step_is v quota s (Restore t) is = absurd is
step_is v quota s (Prune g) is = absurd is
step_is v quota s Logs is = absurd is
step_is v quota s c is = refl

-- and its reply is the heap's
pub reply_is : (v : Version) (quota : ℕ) (s : ObjectState) (c : Command) → IsHeapCommand c → (heap_step v quota s.heap c).reply ≡ (object_step v quota s c).reply
reply_is v quota s c is = sym (ap (λ (a : ObjectAnswer). a.reply) (step_is v quota s c is))

-- the object after, where its heap is that of the step and its logs are the same
pub object_is : (heap new : HeapMeaning) (logs new_logs : List LogEntry) (c : Command) → IsHeapCommand c → new ≡ record (stepped heap c) { held_ids = new.held_ids }
    → new_logs ≡ logs
    → record { heap = new.state; logs = new_logs } ≡ (object_step heap.version heap.quota (record { heap = heap.state; logs = logs }) c).object
object_is heap new logs new_logs c is after same =
    ap₂ (λ (m : HeapMeaning) (l : List LogEntry). record { heap = m.state; logs = l }) after same
    ∙ sym (ap (λ (a : ObjectAnswer). a.object) (step_is heap.version heap.quota (record { heap = heap.state; logs = logs }) c is))

-- all but the chunks and the segments stays
pub rest_stays : (h new : HeapMeaning) (c : Command) → new ≡ record (stepped h c) { held_ids = new.held_ids }
    → new ≡ record h { state = new.state; held_ids = new.held_ids }
rest_stays h new c after =
    subst (λ (m : HeapMeaning). m ≡ record h { state = m.state; held_ids = m.held_ids }) (sym after) refl

-- a call that leaves the segments as they are
pub same_ids : (h new : HeapMeaning) (c : Command) → new ≡ stepped h c → new ≡ record (stepped h c) { held_ids = new.held_ids }
same_ids h new c after = subst (λ (m : HeapMeaning). m ≡ record (stepped h c) { held_ids = m.held_ids }) (sym after) refl

-- ---- what only looks changes nothing

cases : (b : Bool) (x y : HeapAnswer) (s : HeapState) → x.heap ≡ s → y.heap ≡ s → (cond b x y).heap ≡ s
cases true x y s p q = p
cases false x y s p q = q

read_keeps : (s : HeapState) (at n : ℕ) (o : Option (List ℕ)) → (read s at n o).heap ≡ s
read_keeps s at n None = refl
read_keeps s at n (Some bytes) = cases (nat_lt (length bytes) (at + n)) (refused s Range) (record { heap = s; reply = Bytes (take n (drop at bytes)) }) s refl refl

follow_keeps : (s : HeapState) (at : ℕ) (o : Option (List ℕ)) → (follow s at o).heap ≡ s
follow_keeps s at None = refl
follow_keeps s at (Some bytes) =
    cases (nat_lt (length bytes) (at + 8)) (refused s Range) (record { heap = s; reply = found_at s (from_le_bytes w64 (take 8 (drop at bytes))) }) s refl refl

sum_keeps : (s : HeapState) (o : Option (List ℕ)) → (sum_of s o).heap ≡ s
sum_keeps s None = refl
sum_keeps s (Some bytes) = refl

pub unchanged_by : (h : HeapMeaning) (c : Command) → (heap_step h.version h.quota h.state c).heap ≡ h.state → h ≡ record (stepped h c) { held_ids = h.held_ids }
unchanged_by h c keeps = sym (ap (λ (s : HeapState). record h { state = s }) keeps)

pub read_stays : (h : HeapMeaning) (k : Handle) (at n : ℕ) → h ≡ record (stepped h (Read k at n)) { held_ids = h.held_ids }
read_stays h k at n = unchanged_by h (Read k at n) (read_keeps h.state at n (get h.state.live (key k)))

pub follow_stays : (h : HeapMeaning) (k : Handle) (at : ℕ) → h ≡ record (stepped h (Follow k at)) { held_ids = h.held_ids }
follow_stays h k at = unchanged_by h (Follow k at) (follow_keeps h.state at (get h.state.live (key k)))

pub sum_stays : (h : HeapMeaning) (k : Handle) → h ≡ record (stepped h (Sum k)) { held_ids = h.held_ids }
sum_stays h k = unchanged_by h (Sum k) (sum_keeps h.state (get h.state.live (key k)))
