use Rattle.std.proofs.Common.{◌≡◌, ◌+◌, Some, length, drop, sym, subst, ap, ◌∙◌, arith}
use Rattle.std.proofs.lemmas.Option.{same_Some}
use Rattle.dym_pack.specs.Contents.{IsMaps, IsBody, content_body}
use Rattle.dym_pack.specs.declared.parsed_area.ParsedMaps.{ParsedMaps}
use Rattle.dym_pack.proofs.MapsRead.{packed_few}
use Rattle.dym_pack.proofs.Seen.{not_none, seen_is, seen_made, seen_parts, same_seen, maps_of, content_len}
use Rattle.dym_pack.proofs.parsed_area.area_in.Goals as goal

pub returns-clause-is : goal.returns-clause-is
returns-clause-is c =
    let e = c.in_ok-class.class.exp in
    let maps = c.in_ok-maps.maps in
    seen_is c.args.version c.args.kind c.args.bytes.now e c.in_ok-class.ordinal maps c.in_ok-body.body c.in_ok-class.class.least c.in_ok-class.class.most (omega arith) c.in_ok-class.ensures.is
    (subst (λ bs. IsMaps c.args.kind e bs maps) c.rest_from.ensures c.in_ok-maps.ensures.is)
    (subst (λ bs. IsBody c.args.version e maps.packed bs c.in_ok-body.body) c.rest_from-2.ensures c.in_ok-body.ensures.is)

pub returns-in_err-class-clause-only : goal.returns-in_err-class-clause-only
returns-in_err-class-clause-only c parsed is =
    let parts = seen_parts c.args.version c.args.kind c.args.bytes.now is.content is.rest is.is is.are in
    absurd (c.in_err-class.ensures.only is.content.exponent is.content.ordinal parts.tail (is.is.least, is.is.most) is.is.small parts.named)

pub returns-in_err-maps-clause-only : goal.returns-in_err-maps-clause-only
returns-in_err-maps-clause-only c parsed is =
    let a = is.content in
    let seen_maps = maps_of c.args.kind a in
    let parts = seen_parts c.args.version c.args.kind c.args.bytes.now a is.rest is.is is.are in
    let name = c.in_ok-class.ensures.only a.exponent a.ordinal parts.tail (is.is.least, is.is.most) is.is.small parts.named in
    let there = subst (λ e. IsMaps c.args.kind e c.rest_from.result.now seen_maps) (sym name.0) (subst (λ bs. IsMaps c.args.kind a.exponent bs seen_maps) (sym c.rest_from.ensures) parts.maps) in
    not_none _ (c.in_err-maps.ensures.only seen_maps there)

pub body_in-requires : goal.body_in-requires
body_in-requires c = packed_few c.args.kind c.in_ok-class.class.exp c.rest_from.result.now c.in_ok-maps.maps c.in_ok-class.class.least c.in_ok-maps.ensures.is

pub returns-in_err-body-clause-only : goal.returns-in_err-body-clause-only
returns-in_err-body-clause-only c parsed is =
    let a = is.content in
    let v = c.args.version in
    let bytes = c.args.bytes.now in
    let seen_maps = maps_of c.args.kind a in
    let long = length (content_body v c.args.kind a) in
    let parts = seen_parts v c.args.kind bytes a is.rest is.is is.are in
    let name = c.in_ok-class.ensures.only a.exponent a.ordinal parts.tail (is.is.least, is.is.most) is.is.small parts.named in
    let there = subst (λ e. IsMaps c.args.kind e c.rest_from.result.now seen_maps) (sym name.0) (subst (λ bs. IsMaps c.args.kind a.exponent bs seen_maps) (sym c.rest_from.ensures) parts.maps) in
    let maps = same_Some c.in_ok-maps.maps seen_maps (c.in_ok-maps.ensures.only seen_maps there) in
    let body = subst (λ e. IsBody v e seen_maps.packed (drop (5 + seen_maps.len) bytes) long) (sym name.0) parts.body in
    let behind = subst (λ (m : ParsedMaps). IsBody v c.in_ok-class.class.exp m.packed (drop (5 + m.len) bytes) long) (sym maps) body in
    not_none _ (c.in_err-body.ensures.only long (subst (λ bs. IsBody v c.in_ok-class.class.exp c.in_ok-maps.maps.packed bs long) (sym c.rest_from-2.ensures) behind))

pub returns-clause-only : goal.returns-clause-only
returns-clause-only c parsed is =
    let a = is.content in
    let v = c.args.version in
    let bytes = c.args.bytes.now in
    let seen_maps = maps_of c.args.kind a in
    let long = length (content_body v c.args.kind a) in
    let parts = seen_parts v c.args.kind bytes a is.rest is.is is.are in
    let name = c.in_ok-class.ensures.only a.exponent a.ordinal parts.tail (is.is.least, is.is.most) is.is.small parts.named in
    let there = subst (λ e. IsMaps c.args.kind e c.rest_from.result.now seen_maps) (sym name.0) (subst (λ bs. IsMaps c.args.kind a.exponent bs seen_maps) (sym c.rest_from.ensures) parts.maps) in
    let maps = same_Some c.in_ok-maps.maps seen_maps (c.in_ok-maps.ensures.only seen_maps there) in
    let body = subst (λ e. IsBody v e seen_maps.packed (drop (5 + seen_maps.len) bytes) long) (sym name.0) parts.body in
    let behind = subst (λ (m : ParsedMaps). IsBody v c.in_ok-class.class.exp m.packed (drop (5 + m.len) bytes) long) (sym maps) body in
    let len = same_Some c.in_ok-body.body long (c.in_ok-body.ensures.only long (subst (λ bs. IsBody v c.in_ok-class.class.exp c.in_ok-maps.maps.packed bs long) (sym c.rest_from-2.ensures) behind)) in
    let all : 5 + c.in_ok-maps.maps.len + c.in_ok-body.body ≡ parsed.len
    = ap (λ (m : ParsedMaps). 5 + m.len + c.in_ok-body.body) maps ∙ ap (λ n. 5 + seen_maps.len + n) len ∙ sym (content_len v c.args.kind a) ∙ sym is.len in
    ap Some (same_seen (seen_made c.in_ok-class.class.exp c.in_ok-class.ordinal c.in_ok-maps.maps.used (5 + c.in_ok-maps.maps.len + c.in_ok-body.body)) parsed
    (name.0 ∙ sym is.exp)
    (name.1 ∙ sym is.ordinal)
    (ap (λ (m : ParsedMaps). m.used) maps ∙ sym is.used)
    all)
