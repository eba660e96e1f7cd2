use Rattle.std.proofs.Common.{sym, ◌∙◌}
use Rattle.std.proofs.lemmas.Bool.{true≢false}
use Rattle.dym_pack.proofs.MapsRead.{clear_in_bitmap}
use Rattle.dym_pack.proofs.parsed_area.bits_in.Goals as goal

pub returns-in-Some-clause-only : goal.returns-in-Some-clause-only
returns-in-Some-clause-only c f is =
    absurd (true≢false (sym c.in-Some.ensures.is_set ∙ c.set_bytes.ensures.bits c.in-Some.field-0 ∙ clear_in_bitmap c.args.chunks c.in-Some.field-0 f c.args.map.now c.requires.room is c.in-Some.ensures.at_least))
