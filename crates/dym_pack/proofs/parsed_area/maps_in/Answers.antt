use Rattle.std.proofs.Common.{subst}
use Rattle.dym_pack.specs.Contents.{IsMaps}
use Rattle.dym_pack.proofs.parsed_area.maps_in.Goals as goal

pub returns-in-Full-clause-only : goal.returns-in-Full-clause-only
returns-in-Full-clause-only c parsed is = c.full_maps.ensures.only parsed (subst (λ kind. IsMaps kind c.args.class.exp c.args.bytes.now parsed) c.in-Full.is is)

pub returns-in-Inc-clause-only : goal.returns-in-Inc-clause-only
returns-in-Inc-clause-only c parsed is = c.inc_maps.ensures.only parsed (subst (λ kind. IsMaps kind c.args.class.exp c.args.bytes.now parsed) c.in-Inc.is is)
