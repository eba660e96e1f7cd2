use Rattle.std.proofs.Common.{◌≡◌, arith, refl, ap, sym, ◌∙◌}
use Rattle.dym_pack.specs.Areas.{bytes_at}
use Rattle.dym_base.specs.Packed.{Logged, packed}
use Rattle.dym_base.specs.Recorded.{IsRecorded}
use Rattle.dym_heap.specs.Chunks.{ChunkMeaning}
use Rattle.dym_heap.specs.Fetches.{IsAreaChange}
use Rattle.dym_heap.specs.Shelves.{ShelfMeaning}
use Rattle.dym_heap.proofs.AreaSteps as steps
use Rattle.dym_heap.proofs.Fetches.{classes}
use Rattle.dym_heap.proofs.RecordLoads as loads
use Rattle.dym_heap.proofs.record_load.load_record.Goals as goal

pub loop-k-init : goal.loop-k-init
loop-k-init g c = record { same = refl; tidy = c.requires.tidy; loaded = λ log is e q. steps.upto_none (loads.Loaded log) log.copy c.args.shelf.now.state q }

pub load_area-requires : goal.load_area-requires
load_area-requires g c =
    let has = c.area_count-k-end.ensures.recorded in
    (bytes_at has.0.copy c.loop-k.k, loads.body_k has.1 c.loop-k.k (let n = c.area_count-k-end.ensures.count has.0 has.1 has.2 in let t = c.loop-k-test.true in omega arith) c.packed_bits-packed.result (c.requires.version has.0 has.1 has.2 ∙ sym (ap (λ (s : ShelfMeaning). s.version) c.loop-k.invariant.same)) (c.area_class-class.ensures has.0 has.1 has.2) (c.packed_bits-packed.ensures has.0 has.1 has.2) (c.body.ensures has.0 has.1 has.2))

pub loop-k-preserved : goal.loop-k-preserved
loop-k-preserved g c =
    let has = c.area_count-k-end.ensures.recorded in
    let one : (log : Logged) (is : IsRecorded log) → packed log ≡ _ → IsAreaChange log.copy c.loop-k.k c.loop-k.shelf.state c.load_area.new.self.state (loads.Loaded log) =
    λ log is e. loads.area_loaded is c.loop-k.k c.packed_bits-packed.result (c.area_class-class.ensures log is e) (c.area_ordinal-ordinal.ensures log is e) (c.packed_bits-packed.ensures log is e)
    (c.load_area.ensures.loaded (bytes_at log.copy c.loop-k.k)
    (loads.body_k is c.loop-k.k (let n = c.area_count-k-end.ensures.count log is e in let t = c.loop-k-test.true in omega arith) c.packed_bits-packed.result (c.requires.version log is e ∙ sym (ap (λ (s : ShelfMeaning). s.version) c.loop-k.invariant.same)) (c.area_class-class.ensures log is e) (c.packed_bits-packed.ensures log is e) (c.body.ensures log is e))) in
    record {
      same = c.load_area.ensures.same ∙ ap (λ (s : ShelfMeaning). record s { state = c.load_area.new.self.state }) c.loop-k.invariant.same;
      tidy = steps.tidy_changed c.loop-k.invariant.tidy c.load_area.ensures.valid_shelf c.load_area.ensures.same (one has.0 has.1 has.2) (λ q. loads.loaded_some has.0 q _ _);
      loaded = λ log is e q. steps.upto_more (loads.Loaded log) (loads.loaded_twice log) log.copy c.loop-k.k c.args.shelf.now.state (one log is e) q (c.loop-k.invariant.loaded log is e q);
    }

pub returns-clause-loaded : goal.returns-clause-loaded
returns-clause-loaded g c = λ log is e q.
    ap (λ (x : ChunkMeaning). x.bytes) (steps.upto_all (loads.Loaded log) log.copy c.args.shelf.now.state c.loop-k.shelf.state c.loop-k.k (let n = c.area_count-k-end.ensures.count log is e in let t = c.loop-k-test.false in let m = c.loop-k.auto.k-end in omega arith) (classes log is) (loads.loaded_idle is) (c.loop-k.invariant.loaded log is e) q)

pub returns-clause-touched : goal.returns-clause-touched
returns-clause-touched g c =
    let has = c.area_count-k-end.ensures.recorded in
    let log = has.0 in let is = has.1 in let e = has.2 in
    loads.touched_loaded log c.args.shelf.now.state c.loop-k.shelf.state
    (steps.upto_all (loads.Loaded log) log.copy c.args.shelf.now.state c.loop-k.shelf.state c.loop-k.k (let n = c.area_count-k-end.ensures.count log is e in let t = c.loop-k-test.false in let m = c.loop-k.auto.k-end in omega arith) (classes log is) (loads.loaded_idle is) (c.loop-k.invariant.loaded log is e))
