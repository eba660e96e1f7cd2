use Rattle.std.proofs.Common.{arith, refl, ◌≡◌, ℕ, ◌+◌, ◌-◌, drop, Option, None, Some, sym, ap, subst, ◌∙◌}
use Rattle.dym_base.specs.declared.command.Version.{Version}
use Rattle.dym_pack.specs.ParsedAreas.{OfLog}
use Rattle.dym_heap.specs.Meaning.{HeapMeaning}
use Rattle.dym_slots.specs.Meanings.{KeepMeaning, record_at}
use Rattle.dym_chain.proofs.Loading.{settled_all, version_at, fetched_start, fetched_step}
use Rattle.dym_chain.specs.Loads.{AreFetched}
use Rattle.dym_chain.proofs.record_replay.fetch_down.Goals as goal

pub fetch-requires : goal.fetch-requires
fetch-requires g c =
    let m : KeepMeaning = g.K.LogKeep.meaning c.args.keep.now in
    let bytes : c.lift-rec.result ≡ (record_at m.records (c.args.last - c.loop-back.back)).bytes = c.lift-rec.ensures.bytes ∙ ap (λ (k : KeepMeaning). (record_at k.records (c.args.last - c.loop-back.back)).bytes) c.loop-back.invariant.keep in
    let v : c.args.heap.now.version ≡ c.loop-back.heap.version = sym (ap (λ (h : HeapMeaning). h.version) c.loop-back.invariant.same) in
    let there = c.requires.there in
    let within = c.requires.within in
    let less = c.loop-back-test.true in
    record {
      version = subst (λ (w : Version). OfLog c.lift-rec.result (λ log. log.version ≡ w)) v
          (version_at c.args.heap.now.version m.records (c.args.last + 1 - c.args.count) c.args.count (c.args.last - c.loop-back.back) c.lift-rec.result (omega arith) (omega arith) (omega arith) bytes c.requires.version);
    }

pub loop-back-init : goal.loop-back-init
loop-back-init g c =
    let m : KeepMeaning = g.K.LogKeep.meaning c.args.keep.now in
    record {
      keep = refl;
      same = refl;
      sound = c.requires.sound;
      fetched = λ logs all are. fetched_start m.records c.args.last c.args.count logs c.args.heap.now.state c.requires.within c.requires.there are;
    }

pub loop-back-preserved : goal.loop-back-preserved
loop-back-preserved g c =
    let m : KeepMeaning = g.K.LogKeep.meaning c.args.keep.now in
    let place : ℕ = c.args.last - c.loop-back.back in
    let bytes : c.lift-rec.result ≡ (record_at m.records place).bytes = c.lift-rec.ensures.bytes ∙ ap (λ (k : KeepMeaning). (record_at k.records place).bytes) c.loop-back.invariant.keep in
    record {
      keep = c.lower.ensures.after
          ∙ ap (λ (k : KeepMeaning). record { records = k.records; made = k.made; lifted = None; origin = k.origin }) (c.lift-rec.ensures.after ∙ ap (λ (k : KeepMeaning). record { records = k.records; made = k.made; lifted = Some place; origin = k.origin }) c.loop-back.invariant.keep)
          ∙ ap (λ (l : Option ℕ). record { records = m.records; made = m.made; lifted = l; origin = m.origin }) (sym c.requires.idle);
      same = c.fetch.ensures.same ∙ ap (λ (h : HeapMeaning). record h { state = c.fetch.new.self.state }) c.loop-back.invariant.same;
      sound = c.fetch.ensures.sound;
      fetched = λ logs all are. fetched_step m.records c.args.last c.args.count c.loop-back.back c.lift-rec.result logs c.args.heap.now.state c.loop-back.heap.state c.fetch.new.self.state c.requires.within c.requires.there c.loop-back-test.true bytes all are (c.loop-back.invariant.fetched logs all are) c.fetch.ensures.fetched;
    }

pub returns-clause-fetched : goal.returns-clause-fetched
returns-clause-fetched g c logs all are =
    let past = c.loop-back-test.false in
    let none : c.args.count - c.loop-back.back ≡ 0 = omega arith in
    subst (λ n. AreFetched (drop n logs) c.args.heap.now.state c.loop-back.heap.state) none (c.loop-back.invariant.fetched logs all are)

pub returns-then-is_unmodified-clause-fetched : goal.returns-then-is_unmodified-clause-fetched
returns-then-is_unmodified-clause-fetched g c logs all are =
    settled_all c.args.heap.now.state c.loop-back.heap.state (c.is_unmodified.ensures c.if-is_unmodified.true) (c.args.count - c.loop-back.back) logs (c.loop-back.invariant.fetched logs all are)
