-- The heap and the replies after events, one at a time.
use Rattle.std.proofs.Common.{◌≡◌, ℕ, zero, suc, ◌+◌, ◌<◌, List, [], ◌∷◌, ◌++◌, length, take, take-suc, Some, slice_get, refl, ap, ◌∙◌, arith, append_assoc}
use Rattle.std.proofs.lemmas.List.{append-nil}
use Rattle.dym_base.specs.Heaps.{HeapState}
use Rattle.dym_base.specs.HeapStep.{heap_step}
use Rattle.dym_base.specs.LateRun.{LateEvent, events_to, heap_after, replies_after, replayed_by, replayed_onto, replayed}
use Rattle.dym_base.specs.declared.command.Version.{Version}
use Rattle.dym_late.specs.Orders.{no_event, event_at}

module _ (v : Version) (quota : ℕ) where
  pub heap_push : (s : HeapState) (es : List LateEvent) (e : LateEvent) → heap_after v quota s (es ++ e ∷ []) ≡ (heap_step v quota (heap_after v quota s es) e.command).heap
  heap_push s [] e = refl
  heap_push s (f ∷ es) e = heap_push (heap_step v quota s f.command).heap es e

  -- the heap after the first events and the next one
  pub heap_next : (s : HeapState) (es : List LateEvent) (j : ℕ) → j < length es → heap_after v quota s (take (suc j) es) ≡ (heap_step v quota (heap_after v quota s (take j es)) (event_at es j).command).heap
  heap_next s es j within = ap (heap_after v quota s) (take-suc es j no_event within) ∙ heap_push s (take j es) (event_at es j)

  -- the reply of the event at a place
  pub reply_there : (s : HeapState) (es : List LateEvent) (j : ℕ) → j < length es → slice_get (replies_after v quota s es) j ≡ Some (heap_step v quota (heap_after v quota s (take j es)) (event_at es j).command).reply
  reply_there s [] j within = absurd (omega (arith, within))
  reply_there s (e ∷ es) zero within = refl
  reply_there s (e ∷ es) (suc j) within = reply_there (heap_step v quota s e.command).heap es j (omega (arith, within))

replayed_more : (before es : List LateEvent) (e : LateEvent) → replayed_onto before (es ++ e ∷ []) ≡ replayed_onto before es + replayed_by (length (before ++ es)) (events_to e.time (before ++ es))
replayed_more before [] e =
    let same = ap (λ l. replayed_by (length l) (events_to e.time l)) (append-nil before) in
    omega (arith, same)
replayed_more before (f ∷ es) e =
    let rest = replayed_more (before ++ f ∷ []) es e in
    let same = ap (λ l. replayed_by (length l) (events_to e.time l)) (append_assoc before (f ∷ []) es) in
    omega (arith, rest, same)

-- how many commands are run for one event more
pub replayed_push : (events : List LateEvent) (e : LateEvent) → replayed (events ++ e ∷ []) ≡ replayed events + replayed_by (length events) (events_to e.time events)
replayed_push events e = replayed_more [] events e
