use Rattle.std.proofs.Common.{ap, ◌∙◌}
use Rattle.dym_heap.specs.Lengths.{numbers_of, version_of}
use Rattle.dym_heap.proofs.PlaceSteps.{is_place}
use Rattle.dym_heap.proofs.PlaceCalls.{made, empty_place}
use Rattle.dym_area.specs.Area.{AreaMeaning}
use Rattle.dym_heap.proofs.sized_area.SizedArea.new.Goals as goal

pub returns-clause-made : goal.returns-clause-made
returns-clause-made g c =
    (made c.new.result (numbers_of c.args.lengths) c.new.ensures.valid c.new.ensures.none).is
    ∙ ap (λ (a : AreaMeaning). empty_place (version_of c.args.lengths) a.exponent a.ordinal a.identity) c.new.ensures.made

pub returns-clause-valid : goal.returns-clause-valid
returns-clause-valid g c = is_place (made c.new.result (numbers_of c.args.lengths) c.new.ensures.valid c.new.ensures.none).measured
