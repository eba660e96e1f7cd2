use Rattle.std.proofs.Common.{arith, ◌≡◌, ◌+◌, inl, inr, unwrap_or, refl, sym, ap, subst, ◌∙◌}
use Rattle.std.proofs.lemmas.Bool.{cases_lt}
use Rattle.dym_pack.specs.ParsedAreas.{IsRecord, OfLog}
use Rattle.dym_heap.specs.Meaning.{HeapMeaning}
use Rattle.dym_slots.specs.Meanings.{KeepMeaning, record_at}
use Rattle.dym_chain.specs.Differences.{difference_at}
use Rattle.dym_chain.specs.Loads.{PacksTouched}
use Rattle.dym_chain.proofs.DifferenceFacts as facts
use Rattle.dym_chain.proofs.record_replay.mark_logs.Goals as goal

pub mark_log-requires-clause-recorded : goal.mark_log-requires-clause-recorded
mark_log-requires-clause-recorded g c =
    subst (λ (k : KeepMeaning). IsRecord (unwrap_or (difference_at c.args.differences.now.items c.loop-i.i) (record_at k.records (c.args.base + c.loop-i.i)).bytes)) (sym c.loop-i.invariant.keep)
    (c.requires.recorded c.loop-i.i c.loop-i.auto.i c.loop-i-test.true)

pub loop-i-init : goal.loop-i-init
loop-i-init g c = record {
  keep = refl;
  same = refl;
  sound = c.requires.sound;
  unmodified = λ k was. refl;
  marked = λ j low high. absurd (omega (arith, low, high));
}

pub loop-i-preserved : goal.loop-i-preserved
loop-i-preserved g c =
    let m : KeepMeaning = g.K.LogKeep.meaning c.args.keep.now in
    record {
      keep = c.mark_log.ensures.keep ∙ c.loop-i.invariant.keep;
      same = c.mark_log.ensures.same ∙ ap (λ (h : HeapMeaning). record h { state = c.mark_log.new.heap.state }) c.loop-i.invariant.same;
      sound = c.mark_log.ensures.sound;
      unmodified = facts.settles_on c.args.heap.now.state c.loop-i.heap.state c.mark_log.new.heap.state c.loop-i.invariant.unmodified c.mark_log.ensures.unmodified;
      marked = λ j low high.
          elim (cases_lt j c.loop-i.i) as (λ _. OfLog (unwrap_or (difference_at c.args.differences.now.items j) (record_at m.records (c.args.base + j)).bytes) (PacksTouched c.mark_log.new.heap.state)) [
            | inl before ↦ λ log recorded is. facts.touches_on c.loop-i.heap.state c.mark_log.new.heap.state log (c.loop-i.invariant.marked j low before log recorded is) c.mark_log.ensures.unmodified
            | inr past ↦
                let at : c.loop-i.i ≡ j = omega (arith, high, past) in
                subst (λ n. OfLog (unwrap_or (difference_at c.args.differences.now.items n) (record_at m.records (c.args.base + n)).bytes) (PacksTouched c.mark_log.new.heap.state)) at
                (subst (λ (k : KeepMeaning). OfLog (unwrap_or (difference_at c.args.differences.now.items c.loop-i.i) (record_at k.records (c.args.base + c.loop-i.i)).bytes) (PacksTouched c.mark_log.new.heap.state)) c.loop-i.invariant.keep c.mark_log.ensures.marked)
          ];
    }
