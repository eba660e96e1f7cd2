use Rattle.std.proofs.Common.{◌≤◌, sum, refl, sym, ap, subst, ◌∙◌, arith}
use Rattle.dym_base.specs.Numbers.{exponent_of}
use Rattle.dym_base.specs.Heaps.{HeapState, areas}
use Rattle.dym_base.proofs.Heaps.{areas_below}
use Rattle.dym_heap.specs.Chunks.{heap_chunk}
use Rattle.dym_heap.proofs.Reshapes as reshapes
use Rattle.dym_heap.proofs.Fitting as fit
use Rattle.dym_heap.proofs.record_shape.shape_shelf.Goals as goal

pub take_areas-requires-clause-within : goal.take_areas-requires-clause-within
take_areas-requires-clause-within g c =
    subst (λ q. sum c.count_areas-counts.result ≤ q) (sym c.give_areas.ensures.keeps.quota) (c.count_areas-counts.ensures.total c.args.shelf.now.quota c.requires.within)

pub use_areas-requires-clause-are : goal.use_areas-requires-clause-are
use_areas-requires-clause-are g c = λ log is e d class. c.take_areas.ensures.are d class ∙ c.count_areas-counts.ensures.are log is e d class

pub returns-clause-keeps : goal.returns-clause-keeps
returns-clause-keeps g c = fit.keeps_state _ (fit.keeps_trans c.give_areas.ensures.keeps c.take_areas.ensures.keeps) c.use_areas.ensures.same

pub returns-clause-shaped : goal.returns-clause-shaped
returns-clause-shaped g c = λ log is e.
    reshapes.shaped_from log.copy c.args.shelf.now.state c.take_areas.new.shelf.state c.use_areas.new.shelf.state
    (λ q h.
    let class = reshapes.class_of log.version log.copy is.sized q h in
    let inside = (areas_below log.copy (exponent_of q) (areas log.copy (exponent_of q))).0 (omega arith) q h refl in
    let count = c.count_areas-counts.ensures.are log is e (exponent_of q) class in
    ap (λ (st : HeapState). heap_chunk st q) c.take_areas.ensures.state ∙ c.give_areas.ensures.agree q (omega arith))
    (c.use_areas.ensures.shaped log is e)
