use Rattle.std.proofs.Common.{arith, refl, ap}
use Rattle.std.specs.FinMap.{contains_key}
use Rattle.dym_base.specs.Numbers.{per}
use Rattle.dym_bits.specs.Bits.{bit_in, bits_of_bytes}
use Rattle.dym_heap.specs.Fetches.{IsReshaped}
use Rattle.dym_heap.proofs.Fitting as fit
use Rattle.dym_heap.proofs.Fetches as fetches
use Rattle.dym_heap.proofs.RecordLoads.{area_as}
use Rattle.dym_heap.proofs.record_shape.use_area.Goals as goal

pub shape_area-requires-clause-area : goal.shape_area-requires-clause-area
shape_area-requires-clause-area g c =
    let has = c.requires.recorded in
    fit.area_there has.0.copy c.args.shelf.now c.args.k c.area_class.result.exp c.area_ordinal.result (c.requires.area has.0 has.1 has.2) (c.area_class.ensures has.0 has.1 has.2) (c.area_ordinal.ensures has.0 has.1 has.2) (c.requires.are has.0 has.1 has.2)

pub shape_area-requires-clause-len : goal.shape_area-requires-clause-len
shape_area-requires-clause-len g c =
    let has = c.requires.recorded in
    fit.bitmap_fits _ (c.use_bytes.ensures.is has.0 has.1 has.2) (c.area_class.ensures has.0 has.1 has.2) refl

pub shape_area-requires-clause-below : goal.shape_area-requires-clause-below
shape_area-requires-clause-below g c = λ i h.
    let has = c.requires.recorded in
    let e = ap per (c.area_class.ensures has.0 has.1 has.2) in
    let l = fit.set_below i _ _ _ (c.use_bytes.ensures.bits has.0 has.1 has.2 i) h in
    omega arith

pub returns-clause-shaped : goal.returns-clause-shaped
returns-clause-shaped g c = λ log is e.
    area_as log c.args.k (λ i old new. IsReshaped (bit_in (bits_of_bytes c.use_bytes.result.now) i) old new) (λ q old new. IsReshaped (contains_key log.copy q) old new)
    (c.area_class.ensures log is e) (c.area_ordinal.ensures log is e) (λ i a b l h. fetches.reshaped_bit log c.args.k (c.area_class.ensures log is e) i (c.use_bytes.ensures.bits log is e i) l h) c.shape_area.ensures.shaped
