use Rattle.std.proofs.Common.{◌≡◌, ◌≤◌, refl, sym, ap, ap₂, subst, ◌∙◌, arith}
use Rattle.std.specs.FinSet as set
use Rattle.dym_base.specs.Heaps.{Live, Touched, held}
use Rattle.dym_base.specs.Packed.{Logged}
use Rattle.dym_base.specs.Recorded.{IsRecorded}
use Rattle.dym_base.specs.declared.command.Kind.TheVariants.{Full}
use Rattle.dym_base.specs.declared.command.Version.{Version}
use Rattle.dym_pack.specs.Areas.{logged}
use Rattle.dym_pack.specs.ParsedAreas.{OfLog}
use Rattle.dym_heap.specs.Meaning.{HeapMeaning}
use Rattle.dym_heap.specs.RecordLoads.{areas_of}
use Rattle.dym_undo.specs.UndoLogs.{Belongs}
use Rattle.dym_undo_files.proofs.Maps.{touches_none}
use Rattle.dym_undo_files.specs.TakenChains.{IsHeapOf}
use Rattle.dym_undo_files.proofs.Copying.{of_version, of_within, whole_recorded, loaded_whole, belongs_untouched, heap_of}
use Rattle.dym_undo_files.proofs.taken_again.bring_log.Given as given
use Rattle.dym_undo_files.proofs.taken_again.bring_log.Goals.{After-load}
use Rattle.dym_undo_files.proofs.taken_again.bring_log.Goals as goal

pub shape_to-requires-clause-version : goal.shape_to-requires-clause-version
shape_to-requires-clause-version g c =
    let a : Logged = logged (areas_of c.args.heap.now) Full 0 in
    subst (λ b. OfLog b (λ log. log.version ≡ c.args.other.now.version)) (sym c.requires.whole) (of_version a c.args.other.now.version (sym c.requires.other.version_is))

pub shape_to-requires-clause-within : goal.shape_to-requires-clause-within
shape_to-requires-clause-within g c =
    let h = c.args.heap.now in
    let a : Logged = logged (areas_of h) Full 0 in
    let ok : IsRecorded a = whole_recorded h (c.heaps_are_packable.ensures h c.requires.sound) in
    let le : held h.state.live ≤ c.args.other.now.quota = omega (arith, c.requires.sound.within, c.requires.other.quota_is) in
    subst (λ b. OfLog b (λ log. held log.copy ≤ c.args.other.now.quota)) (sym c.requires.whole) (of_within a c.args.other.now.quota ok le)

pub load-requires : goal.load-requires
load-requires g c =
    let a : Logged = logged (areas_of c.args.heap.now) Full 0 in
    let version = ap (λ (h : HeapMeaning). h.version) c.shape_to.ensures.same ∙ c.requires.other.version_is in
    record {
      version = subst (λ b. OfLog b (λ log. log.version ≡ c.shape_to.new.self.version)) (sym c.requires.whole)
          (of_version a c.shape_to.new.self.version (sym version));
    }

module _ (g : given.Over) (c : After-load g) where
  abbrev h : HeapMeaning
  h = c.args.heap.now

  ok : IsRecorded (logged (areas_of h) Full 0)
  ok = whole_recorded h (c.heaps_are_packable.ensures h c.requires.sound)

  touched : c.load.new.self.state.touched ≡ set.empty
  touched = ap (λ (x : HeapMeaning). x.state.touched) c.load.ensures.same ∙ c.shape_to.ensures.touched

  live : c.load.new.self.state.live ≡ h.state.live
  live = loaded_whole (logged (areas_of h) Full 0) c.shape_to.new.self.state.live c.load.new.self.state.live refl
      (c.shape_to.ensures.handles (logged (areas_of h) Full 0) ok (sym c.requires.whole)) (c.load.ensures.loaded (logged (areas_of h) Full 0) ok (sym c.requires.whole))

  abbrev with_load : HeapMeaning → HeapMeaning
  with_load x = record x { state = c.load.new.self.state; held_ids = c.load.new.self.held_ids }

  rest : c.load.new.self ≡ with_load c.args.other.now
  rest = ap with_load c.load.ensures.same ∙ ap with_load c.shape_to.ensures.same

  of : IsHeapOf h.version h.quota c.load.new.self
  of = heap_of h.version h.quota c.args.other.now c.load.new.self c.requires.other c.load.ensures.sound rest

pub bring_back-requires-clause-belongs : goal.bring_back-requires-clause-belongs
bring_back-requires-clause-belongs g c =
    let a = (goal.at.bring_back-requires-clause-belongs g c).After-load in
    let l = c.load.new.self in
    let is = belongs_untouched c.args.heap.now.version c.args.heap.now.quota c.args.heap.now.state l.state c.args.undo.now (live g a) (touched g a) c.requires.belongs in
    subst (λ (v : Version). Belongs v l.quota l.state c.args.undo.now) (sym (of g a).version_is)
    (subst (λ q. Belongs c.args.heap.now.version q l.state c.args.undo.now) (sym (of g a).quota_is) is)

pub returns-clause-state : goal.returns-clause-state
returns-clause-state g c =
    let a = (goal.at.returns-clause-state g c).After-load in
    ap₂ (λ (l : Live) (x : Touched). record { live = l; touched = x }) c.in_ok-bring_back.ensures.live
    (touches_none c.load.new.self.state c.bring_back.new.heap.state (touched g a) c.bring_back.ensures.touched)
