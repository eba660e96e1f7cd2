-- What was touched is live.
use Rattle.std.proofs.Common.{◌≡◌, ℕ, inl, inr, not, List, sym, subst, ◌∙◌}
use Rattle.std.specs.Ordering.{nat_cmp, eq_by_cmp}
use Rattle.std.specs.Cmp.{nat_cmp_total, unsigned_tied}
use Rattle.std.specs.FinMap as map
use Rattle.std.specs.FinSet as set
use Rattle.std.proofs.lemmas.Bool.{or_cases, and_parts, not-true, eqb-true, eqb-false, true≢false}
use Rattle.dym_base.specs.Heaps.{HeapState, fresh}
use Rattle.dym_base.specs.HeapStep.{key, with_chunk, without_chunk, heap_step}
use Rattle.dym_base.specs.Objects.{empty_heap}
use Rattle.dym_base.specs.Numbers.{number}
use Rattle.dym_base.specs.Laws.{IsLive, TouchesLive}
use Rattle.dym_base.specs.declared.command.Version.{Version}
use Rattle.dym_base.specs.declared.command.Command.{Command}
use Rattle.dym_base.proofs.Steps.{heap_step_by}
use Rattle.dym_base.proofs.Maps.{has_new, has_kept, has_left}

pub empty_touches : TouchesLive empty_heap
empty_touches k is = absurd (true≢false (sym is ∙ set.contains-empty nat_cmp k))

pub with_touches : (s : HeapState) (k : ℕ) (bytes : List ℕ) → TouchesLive s → TouchesLive (with_chunk s k bytes)
with_touches s k bytes each q is =
    elim (or_cases (eq_by_cmp nat_cmp q k) (set.contains s.touched q) (sym (set.contains-insert nat_cmp_total s.touched k q) ∙ is)) as (λ _. IsLive (map.insert s.live k bytes) q) [
      | inl here ↦ (let same : q ≡ k = eqb-true q k (sym (unsigned_tied q k) ∙ here) in subst (λ x. IsLive (map.insert s.live k bytes) x) (sym same) (has_new s.live k bytes))
      | inr there ↦ has_kept s.live k bytes q (each q there)
    ]

pub without_touches : (s : HeapState) (k : ℕ) → TouchesLive s → TouchesLive (without_chunk s k)
without_touches s k each q is =
    let parts = and_parts (not (eq_by_cmp nat_cmp q k)) (set.contains s.touched q) (sym (set.contains-remove nat_cmp_total s.touched k q) ∙ is) in
    has_left s.live k q (eqb-false q k (sym (unsigned_tied q k) ∙ not-true (eq_by_cmp nat_cmp q k) parts.0)) (each q parts.1)

pub step_touches : (v : Version) (quota : ℕ) (s : HeapState) (c : Command) → TouchesLive s → TouchesLive (heap_step v quota s c).heap
step_touches v quota s c each =
    heap_step_by v quota s c (λ answer. TouchesLive answer.heap)
    (λ r. each)
    (λ k r has. without_touches s k each)
    (λ h old bytes r is new. with_touches s (key h) bytes each)
    (λ e n bytes r class len fits. with_touches s (number e (fresh s.live e)) bytes each)
    (λ h e n bytes r has class len fits. without_touches (with_chunk s (number e (fresh s.live e)) bytes) (key h) (with_touches s (number e (fresh s.live e)) bytes each))
