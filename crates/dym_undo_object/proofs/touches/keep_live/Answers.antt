use Rattle.std.proofs.Common.{◌≡◌, ℕ, ◌+◌, ◌/◌, ◌≤◌, ◌<◌, ◌^◌, true, inl, inr, ◌∙◌, sym, subst, arith, true≢false}
use Rattle.std.proofs.lemmas.Bool.{cases_lt}
use Rattle.std.specs.FinMap.{contains_key}
use Rattle.dym_base.specs.Heaps.{Live}
use Rattle.dym_base.specs.HeapStep.{key}
use Rattle.dym_heap.specs.Replies.{after_key, IsNextLive}
use Rattle.dym_undo.specs.UndoLogs.{UndoMeaning, IsKept}
use Rattle.dym_undo_object.proofs.touches.keep_live.Goals as goal

small_key : (k : ℕ) → k / 2 ^ 32 ≤ 16 → k + 1 ≤ 2 ^ 37
small_key k within = omega (arith, within)

pub loop-h-smaller : goal.loop-h-smaller
loop-h-smaller g c =
    let most = small_key (key c.in-Some.h) (c.requires.sound.most_class (key c.in-Some.h) c.in-Some.ensures.is_live) in
    let next = c.in-Some.ensures.at_least in
    omega (arith, most, next)

one_more : (live : Live) (from next k : ℕ) (old new : UndoMeaning) → IsNextLive live from next → ((j : ℕ) → j < from → contains_key live j ≡ true → IsKept old j)
    → ((j : ℕ) → IsKept old j → IsKept new j)
    → IsKept new next → k < next + 1 → contains_key live k ≡ true → IsKept new k
one_more live from next k old new is each before noted low has =
    elim (cases_lt k from) as (λ _. IsKept new k) [
      | inl below ↦ before k (each k below has)
      | inr above ↦ elim (cases_lt k next) as (λ _. IsKept new k) [
        | inl between ↦ absurd (true≢false (sym has ∙ is.least k above between))
        | inr at ↦ subst (IsKept new) (let e : next ≡ k = omega (arith, at, low) in e) noted
      ]
    ]

pub loop-h-init : goal.loop-h-init
loop-h-init g c = record { logs = Rattle.std.proofs.Common.refl; belongs = c.requires.belongs; kept = λ k low has. absurd (omega (arith, low)) }

pub loop-h-preserved : goal.loop-h-preserved
loop-h-preserved g c = record {
  logs = c.keep.ensures.logs ∙ c.loop-h.invariant.logs;
  belongs = c.keep.ensures.belongs;
  kept = λ k low has.
      one_more c.args.heap.now.state.live (after_key c.loop-h.last) (key c.in-Some.h) k c.loop-h.undo c.keep.new.self c.in-Some.ensures c.loop-h.invariant.kept
      c.keep.ensures.before
      (c.keep.ensures.noted c.in-Some.ensures.is_live) low has;
}
