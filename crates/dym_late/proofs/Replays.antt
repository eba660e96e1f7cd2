-- One turn of a replay.
use Rattle.std.proofs.Common.{◌≡◌, ℕ, ◌+◌, ◌<◌, List, length, get_or, set, ap, ◌∙◌, arith}
use Rattle.std.proofs.lemmas.Grind.{get_or_default_zero}
use Rattle.dym_heap.specs.Meaning.{HeapMeaning, IsSound}
use Rattle.dym_heap.specs.Replies.{step_of, stepped, counted}
use Rattle.dym_chain.specs.Chains.{ChainMeaning}
use Rattle.dym_chain.specs.ChainLaws.{HeapStepsKeepBelonging}
use Rattle.dym_late.specs.declared.event.Event.{Event}
use Rattle.dym_late.specs.Timelines.{late_event, late_events, IsRun, IsRunTo}
use Rattle.dym_late.proofs.Searches.{many_late}
use Rattle.dym_late.proofs.Runs.{event_run, same_events}

module _ (n bound : ℕ) (events : List Event) (numbers : List ℕ) (heap : HeapMeaning) (chain : ChainMeaning)
    (is : IsRun n bound events numbers heap chain) (within : n < length numbers)
    (k : ℕ) (names : k ≡ get_or numbers n k) (x y : Event) (there : x ≡ get_or events k x) (event : y ≡ record x { reply = (step_of heap x.command).reply })
    (after : HeapMeaning) (stepping : after ≡ record (stepped (counted heap) x.command) { held_ids = after.held_ids }) (sound : IsSound after) (law : HeapStepsKeepBelonging) where
  n_in : n < length events
  n_in = (let count = is.order.count in let many = many_late events in omega (arith, count, many, within))

  named : k ≡ get_or numbers n 0
  named = names ∙ get_or_default_zero numbers n k within

  pub ran : IsRunTo (n + 1) n bound (set events k y) numbers after chain
  ran = event_run n (n + 1) n bound (omega arith) events numbers heap chain is n_in k named x y there event after stepping sound law

  pub still : late_events (set events k y) ≡ late_events events
  still =
      let count = is.order.count in
      let many = many_late events in
      let small = is.order.number n (omega (arith, count, within)) in
      same_events events k x y (omega (arith, small, named, many)) there (ap late_event event)
