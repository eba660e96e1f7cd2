-- What a call to the heap of an object leaves of the object, over the object's parts.
use Rattle.std.proofs.Common.{◌≡◌, ℕ, ◌+◌, Bool, true, false, nat_lt, cond, Result, Ok, Err, OnErr, Option, None, Some, List, length, take, drop, refl, sym, ap, subst, ◌∙◌, arith}
use Rattle.std.specs.FinMap.{get}
use Rattle.std.specs.Int.{w64, from_le_bytes}
use Rattle.dym_base.specs.HeapStep.{HeapAnswer, heap_step, IsHeapCommand, refused, read, follow, found_at, sum_of, key}
use Rattle.dym_base.specs.Heaps.{HeapState}
use Rattle.dym_base.specs.declared.handle.Handle.{Handle}
use Rattle.dym_base.specs.declared.command.Command.{Command}
use Rattle.dym_base.specs.declared.command.Command.TheVariants.{Read, Follow, Sum}
use Rattle.dym_base.specs.declared.reply.Refusal.{Refusal}
use Rattle.dym_base.specs.declared.reply.Refusal.TheVariants.{Range}
use Rattle.dym_base.specs.declared.reply.Reply.{Reply}
use Rattle.dym_base.specs.declared.reply.Reply.TheVariants.{Bytes, Refused}
use Rattle.dym_heap.specs.Meaning.{HeapMeaning, IsSound}
use Rattle.dym_heap.specs.Replies.{step_of, stepped, OnRefusal}
use Rattle.dym_chain.specs.Chains.{ChainMeaning, Belongs, StandsForCopies, object_of}
use Rattle.dym_object.specs.Meaning.{ObjectMeaning, IsStep, IsWhole, counted, step_by}
use Rattle.dym_object.specs.Laws.{StepsKeepWhole}
use Rattle.dym_object.proofs.Steps.{reply_is}

-- a call that leaves the segments as they are
pub same_ids : (h new : HeapMeaning) (c : Command) → new ≡ stepped h c → new ≡ record (stepped h c) { held_ids = new.held_ids }
same_ids h new c after = subst (λ (m : HeapMeaning). m ≡ record (stepped h c) { held_ids = m.held_ids }) (sym after) refl

-- what only looks changes nothing
cases : (b : Bool) (x y : HeapAnswer) (s : HeapState) → x.heap ≡ s → y.heap ≡ s → (cond b x y).heap ≡ s
cases true x y s p q = p
cases false x y s p q = q

read_keeps : (s : HeapState) (at n : ℕ) (o : Option (List ℕ)) → (read s at n o).heap ≡ s
read_keeps s at n None = refl
read_keeps s at n (Some bytes) = cases (nat_lt (length bytes) (at + n)) (refused s Range) (record { heap = s; reply = Bytes (take n (drop at bytes)) }) s refl refl

follow_keeps : (s : HeapState) (at : ℕ) (o : Option (List ℕ)) → (follow s at o).heap ≡ s
follow_keeps s at None = refl
follow_keeps s at (Some bytes) =
    cases (nat_lt (length bytes) (at + 8)) (refused s Range) (record { heap = s; reply = found_at s (from_le_bytes w64 (take 8 (drop at bytes))) }) s refl refl

sum_keeps : (s : HeapState) (o : Option (List ℕ)) → (sum_of s o).heap ≡ s
sum_keeps s None = refl
sum_keeps s (Some bytes) = refl

unchanged_by : (h : HeapMeaning) (c : Command) → (heap_step h.version h.quota h.state c).heap ≡ h.state → h ≡ record (stepped h c) { held_ids = h.held_ids }
unchanged_by h c keeps = sym (ap (λ (s : HeapState). record h { state = s }) keeps)

pub read_stays : (h : HeapMeaning) (k : Handle) (at n : ℕ) → h ≡ record (stepped h (Read k at n)) { held_ids = h.held_ids }
read_stays h k at n = unchanged_by h (Read k at n) (read_keeps h.state at n (get h.state.live (key k)))

pub follow_stays : (h : HeapMeaning) (k : Handle) (at : ℕ) → h ≡ record (stepped h (Follow k at)) { held_ids = h.held_ids }
follow_stays h k at = unchanged_by h (Follow k at) (follow_keeps h.state at (get h.state.live (key k)))

pub sum_stays : (h : HeapMeaning) (k : Handle) → h ≡ record (stepped h (Sum k)) { held_ids = h.held_ids }
sum_stays h k = unchanged_by h (Sum k) (sum_keeps h.state (get h.state.live (key k)))

-- an object of these parts, with this heap after a command
module _ (law : StepsKeepWhole) (heap new : HeapMeaning) (chain : ChainMeaning) (ran : ℕ) (c : Command) (is : IsHeapCommand c)
    (after : new ≡ record (stepped heap c) { held_ids = new.held_ids }) (sound : IsSound new) (whole : IsWhole (record { heap = heap; chain = chain; ran = ran })) where
  pub step_here : (old : ObjectMeaning) → record { heap = heap; chain = chain; ran = ran } ≡ old → IsStep old (record { heap = new; chain = chain; ran = ran + 1 }) c
  step_here old view = subst (λ (o : ObjectMeaning). IsStep o (record { heap = new; chain = chain; ran = ran + 1 }) c) view (law (record { heap = heap; chain = chain; ran = ran }) new c is after sound whole).0

  pub whole_here : IsWhole (record { heap = new; chain = chain; ran = ran + 1 })
  whole_here = (law (record { heap = heap; chain = chain; ran = ran }) new c is after sound whole).1

-- a refusal
refused_here : {T : Type 0} (r : Result T Refusal) (heap new : HeapMeaning) (chain : ChainMeaning) (ran : ℕ) (old : ObjectMeaning) → record { heap = heap; chain = chain; ran = ran } ≡ old → OnErr r (new ≡ heap) → OnErr r (record { heap = new; chain = chain; ran = ran + 1 } ≡ counted old)
refused_here (Ok x) heap new chain ran old view kept = tt
refused_here (Err why) heap new chain ran old view kept =
    ap (λ (h : HeapMeaning). record { heap = h; chain = chain; ran = ran + 1 }) kept ∙ ap counted view

-- the same, of a reply
pub replied_here : (r : Reply) (heap new : HeapMeaning) (chain : ChainMeaning) (ran : ℕ) (old : ObjectMeaning) → record { heap = heap; chain = chain; ran = ran } ≡ old → OnRefusal r (new ≡ heap) → OnRefusal r (record { heap = new; chain = chain; ran = ran + 1 } ≡ counted old)
replied_here (Refused why) heap new chain ran old view kept =
    ap (λ (h : HeapMeaning). record { heap = h; chain = chain; ran = ran + 1 }) kept ∙ ap counted view
replied_here r heap new chain ran old view kept = tt

-- nothing changed
unchanged_here : {T : Type 0} (r : Result T Refusal) (heap : HeapMeaning) → OnErr r (heap ≡ heap)
unchanged_here (Ok x) heap = tt
unchanged_here (Err why) heap = refl

-- what a call ensures that runs a command to the heap of an object
pub record IsCalled {T : Type 0} (answer : Result T Refusal) (said : Reply) (old new : ObjectMeaning) (c : Command) : Type 0 where
  pub reply : said ≡ (step_by old c).reply
  pub step : IsStep old new c
  pub refused : OnErr answer (new ≡ counted old)
  pub whole : IsWhole new

-- a call of an object of these parts
module _ (law : StepsKeepWhole) (heap : HeapMeaning) (chain : ChainMeaning) (ran : ℕ) (old : ObjectMeaning) (view : record { heap = heap; chain = chain; ran = ran } ≡ old)
    (whole : IsWhole (record { heap = heap; chain = chain; ran = ran })) where
  pub called : {T : Type 0} → (answer : Result T Refusal) (said : Reply) (new : HeapMeaning) (c : Command) → IsHeapCommand c → new ≡ record (stepped heap c) { held_ids = new.held_ids } → IsSound new
      → said ≡ (step_of heap c).reply → OnErr answer (new ≡ heap) → IsCalled answer said old (record { heap = new; chain = chain; ran = ran + 1 }) c
  called answer said new c is after sound reply kept = record {
    reply = subst (λ (o : ObjectMeaning). said ≡ (step_by o c).reply) view (reply ∙ reply_is heap.version heap.quota (object_of heap.state chain) c is);
    step = step_here law heap new chain ran c is after sound whole old view;
    refused = refused_here answer heap new chain ran old view kept;
    whole = whole_here law heap new chain ran c is after sound whole;
  }

  -- one that leaves the segments as they are
  pub called_in_place : {T : Type 0} → (answer : Result T Refusal) (said : Reply) (new : HeapMeaning) (c : Command) → IsHeapCommand c → new ≡ stepped heap c → IsSound new
      → said ≡ (step_of heap c).reply → OnErr answer (new ≡ heap) → IsCalled answer said old (record { heap = new; chain = chain; ran = ran + 1 }) c
  called_in_place answer said new c is after sound reply kept = called answer said new c is (same_ids heap new c after) sound reply kept

  -- one that only looks
  pub looked : {T : Type 0} → (answer : Result T Refusal) (said : Reply) (c : Command) → IsHeapCommand c → heap ≡ record (stepped heap c) { held_ids = heap.held_ids }
      → said ≡ (step_of heap c).reply → IsCalled answer said old (record { heap = heap; chain = chain; ran = ran + 1 }) c
  looked answer said c is stays reply = called answer said heap c is stays whole.sound reply (unchanged_here answer heap)

-- a chain that lost logs, and made no record
pub pruned_here : (heap : HeapMeaning) (chain new : ChainMeaning) (ran : ℕ) → IsWhole (record { heap = heap; chain = chain; ran = ran }) → new.made ≡ chain.made → new.lifted ≡ None → Belongs heap.version heap.quota heap.state new → StandsForCopies new
    → IsWhole (record { heap = heap; chain = new; ran = ran + 1 })
pruned_here heap chain new ran whole made idle belongs stands = record {
  sound = whole.sound;
  belongs = belongs;
  stands = stands;
  idle = idle;
  counted = (let few = whole.counted in omega (arith, few, made));
}
