use Rattle.std.proofs.Common.{arith, ◌≡◌, ◌<◌, ◌+◌, ℕ, Option, None, Some, length, sym, ap, subst, ◌∙◌}
use Rattle.dym_base.specs.declared.command.Version.{Version}
use Rattle.dym_pack.specs.ParsedAreas.{OfLog}
use Rattle.dym_heap.specs.Meaning.{HeapMeaning}
use Rattle.dym_slots.specs.Meanings.{record_at}
use Rattle.dym_chain.specs.Chains.{ChainMeaning}
use Rattle.dym_chain.proofs.Loading.{version_at}
use Rattle.dym_view.proofs.Loadings.{loaded_step, loaded_end}
use Rattle.dym_view.proofs.oldest_heap.load_first.Goals as goal

pub lift-rec-requires-clause-place : goal.lift-rec-requires-clause-place
lift-rec-requires-clause-place g c =
    let same = ap (λ (m : ChainMeaning). length m.records) c.loop-place.invariant.logs in
    omega (arith, c.loop-place-test.true, c.requires.within, same)

pub lift-rec-requires-clause-idle : goal.lift-rec-requires-clause-idle
lift-rec-requires-clause-idle g c = ap (λ (m : ChainMeaning). m.lifted) c.loop-place.invariant.logs ∙ c.requires.idle

pub load-requires : goal.load-requires
load-requires g c =
    let m : ChainMeaning = g.L.KeptLogs.meaning c.args.logs.now in
    let place = c.loop-place.place in
    let rec = c.lift-rec.result in
    let bytes : rec ≡ (record_at m.records place).bytes =
    c.lift-rec.ensures.bytes ∙ ap (λ (k : ChainMeaning). (record_at k.records place).bytes) c.loop-place.invariant.logs in
    let v = c.args.heap.now.version in
    let same : v ≡ c.loop-place.heap.version = sym (ap (λ (h : HeapMeaning). h.version) c.loop-place.invariant.same) in
    let more : place < 0 + c.args.count = omega (arith, c.loop-place-test.true) in
    record {
      version = subst (λ (w : Version). OfLog rec (λ log. log.version ≡ w)) same
          (version_at v m.records 0 c.args.count place rec (omega arith) more (omega (arith, c.requires.within)) bytes c.requires.version);
    }

pub loop-place-preserved : goal.loop-place-preserved
loop-place-preserved g c =
    let m : ChainMeaning = g.L.KeptLogs.meaning c.args.logs.now in
    let inv = c.loop-place.invariant in
    let place = c.loop-place.place in
    let rec = c.lift-rec.result in
    let bytes : rec ≡ (record_at m.records place).bytes = c.lift-rec.ensures.bytes ∙ ap (λ (k : ChainMeaning). (record_at k.records place).bytes) inv.logs in
    let old = c.args.heap.now.state.live in
    let mid = c.loop-place.heap.state.live in
    let new = c.load.new.self.state.live in
    let more : place < c.args.count = omega (arith, c.loop-place-test.true) in
    record {
      logs = c.lower.ensures.after
          ∙ ap (λ (k : ChainMeaning). record k { lifted = None }) (c.lift-rec.ensures.after ∙ ap (λ (k : ChainMeaning). record k { lifted = Some place }) inv.logs)
          ∙ ap (λ (l : Option ℕ). record m { lifted = l }) (sym c.requires.idle);
      same = c.load.ensures.same ∙ ap (λ (h : HeapMeaning). record h { state = record { live = new; touched = h.state.touched } }) inv.same;
      sound = c.load.ensures.sound;
      loaded = λ all recorded are.
          loaded_step m.records c.args.count place all c.requires.within are rec old mid new more bytes recorded (inv.loaded all recorded are) c.load.ensures.loaded;
    }

pub returns-clause-loaded : goal.returns-clause-loaded
returns-clause-loaded g c all recorded are =
    let m : ChainMeaning = g.L.KeptLogs.meaning c.args.logs.now in
    loaded_end m.records c.args.count c.loop-place.place all c.requires.within are c.args.heap.now.state.live c.loop-place.heap.state.live
    (omega (arith, c.loop-place-test.false)) (c.loop-place.invariant.loaded all recorded are)
