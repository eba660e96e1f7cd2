use Rattle.std.proofs.Common.{◌≡◌, ◌≤◌, sym, ap, subst, ◌∙◌}
use Rattle.std.specs.FinSet as set
use Rattle.dym_base.specs.Heaps.{Live, held}
use Rattle.dym_heap.specs.Meaning.{HeapMeaning}
use Rattle.dym_pack.specs.ParsedAreas.{OfLog}
use Rattle.dym_chain.specs.Lawful.{logged_of}
use Rattle.dym_undo_files.proofs.Copying.{of_version, of_within}
use Rattle.dym_undo_files.proofs.Reading.{record_brought}
use Rattle.dym_undo_files.proofs.loaded_logs.bring_record.Goals as goal

pub reshape-requires : goal.reshape-requires
reshape-requires c =
    let is = c.requires.rec in
    record { within = subst (λ b. OfLog b (λ log. held log.copy ≤ c.args.heap.now.quota)) is.2 (of_within is.0 c.args.heap.now.quota is.1.recorded is.1.within) }

pub load-requires : goal.load-requires
load-requires c =
    let is = c.requires.rec in
    let version = ap (λ (h : HeapMeaning). h.version) c.reshape.ensures.same in
    record {
      version = subst (λ b. OfLog b (λ log. log.version ≡ c.reshape.new.self.version)) is.2
          (of_version is.0 c.reshape.new.self.version (is.1.version ∙ sym version));
    }

pub returns-clause-after : goal.returns-clause-after
returns-clause-after c v before log recorded is old stands =
    let shaped = c.reshape.ensures.shaped (logged_of v log) recorded (sym is) in
    let loaded = c.load.ensures.loaded (logged_of v log) recorded (sym is) in
    let live = record_brought v log before c.args.heap.now.state c.reshape.new.self.state c.load.new.self.state stands old shaped loaded in
    let cleared = ap (λ (h : HeapMeaning). h.state) c.clear_dirty.ensures.cleared in
    cleared ∙ ap (λ (l : Live). record { live = l; touched = set.empty }) live
