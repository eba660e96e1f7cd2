-- A command to the heap keeps what wasn't touched since the newest log.
use Rattle.std.proofs.Common.{◌≡◌, ℕ, inl, inr, Bool, true, false, not, ◌&&◌, Option, Some, None, List, sym, ◌∙◌}
use Rattle.std.specs.Ordering.{nat_cmp, eq_by_cmp}
use Rattle.std.specs.Cmp.{nat_cmp_total, unsigned_tied}
use Rattle.std.specs.FinMap.{get}
use Rattle.std.specs.FinSet as set
use Rattle.std.proofs.lemmas.Bool.{eq-eqb, ne_eqb, or_parts, true≢false}
use Rattle.dym_base.specs.Heaps.{Live, HeapState, fresh}
use Rattle.dym_base.specs.HeapStep.{key, with_chunk, without_chunk, heap_step}
use Rattle.dym_base.specs.Numbers.{number}
use Rattle.dym_base.specs.Objects.{LogEntry, newest}
use Rattle.dym_base.specs.declared.command.Version.{Version}
use Rattle.dym_base.specs.declared.command.Command.{Command}
use Rattle.dym_base.proofs.Steps.{heap_step_by}
use Rattle.dym_base.proofs.Maps.{get_insert_apart, get_remove_apart, has_cases, has_removed}
use Rattle.dym_chain.specs.Chains.{ChainMeaning, KeepsUntouched, KeepsFromNewest, Belongs}

and_false : (a b : Bool) → a ≡ false → (not a && b) ≡ false → b ≡ false
and_false true b gone is = absurd (true≢false gone)
and_false false b gone is = is

same_key : (q k : ℕ) → eq_by_cmp nat_cmp q k ≡ false → q ≡ k → ⊥
same_key q k gone same = true≢false (sym (unsigned_tied q k ∙ eq-eqb q k same) ∙ gone)

with_keeps : (s : HeapState) (k : ℕ) (bytes : List ℕ) (before : Live) → KeepsUntouched s.live s.touched before → KeepsUntouched (with_chunk s k bytes).live (with_chunk s k bytes).touched before
with_keeps s k bytes before keeps q has untouched =
    let parts = or_parts (eq_by_cmp nat_cmp q k) (set.contains s.touched q) (sym (set.contains-insert nat_cmp_total s.touched k q) ∙ untouched) in
    let apart : q ≡ k → ⊥ = same_key q k parts.0 in
    elim (has_cases s.live k bytes q has) as (λ _. get before q ≡ get (with_chunk s k bytes).live q) [
      | inl here ↦ absurd (apart here)
      | inr there ↦ keeps q there parts.1 ∙ sym (get_insert_apart s.live k bytes q apart)
    ]

without_keeps : (s : HeapState) (k : ℕ) (before : Live) → KeepsUntouched s.live s.touched before → KeepsUntouched (without_chunk s k).live (without_chunk s k).touched before
without_keeps s k before keeps q has untouched =
    let left = has_removed s.live k q has in
    let other : eq_by_cmp nat_cmp q k ≡ false = unsigned_tied q k ∙ ne_eqb q k left.0 in
    let quiet : set.contains s.touched q ≡ false = and_false (eq_by_cmp nat_cmp q k) (set.contains s.touched q) other (sym (set.contains-remove nat_cmp_total s.touched k q) ∙ untouched) in
    keeps q left.1 quiet ∙ sym (get_remove_apart s.live k q left.0)

pub step_keeps : (v : Version) (quota : ℕ) (s : HeapState) (c : Command) (before : Live) → KeepsUntouched s.live s.touched before → KeepsUntouched (heap_step v quota s c).heap.live (heap_step v quota s c).heap.touched before
step_keeps v quota s c before keeps =
    heap_step_by v quota s c (λ answer. KeepsUntouched answer.heap.live answer.heap.touched before)
    (λ r. keeps)
    (λ k r has. without_keeps s k before keeps)
    (λ h old bytes r is new. with_keeps s (key h) bytes before keeps)
    (λ e n bytes r class len fits. with_keeps s (number e (fresh s.live e)) bytes before keeps)
    (λ h e n bytes r has class len fits. without_keeps (with_chunk s (number e (fresh s.live e)) bytes) (key h) before (with_keeps s (number e (fresh s.live e)) bytes before keeps))

newest_keeps : (v : Version) (quota : ℕ) (s : HeapState) (c : Command) (last : Option LogEntry) → KeepsFromNewest s last → KeepsFromNewest (heap_step v quota s c).heap last
newest_keeps v quota s c None keeps = keeps
newest_keeps v quota s c (Some e) keeps = step_keeps v quota s c e.copy keeps

pub step_belongs : (v : Version) (quota : ℕ) (s : HeapState) (command : Command) (c : ChainMeaning) → Belongs v quota s c → Belongs v quota (heap_step v quota s command).heap c
step_belongs v quota s command c belongs = record {
  records = belongs.records;
  untouched = newest_keeps v quota s command (newest c.logs) belongs.untouched;
  keeps = belongs.keeps;
  within = belongs.within;
}
