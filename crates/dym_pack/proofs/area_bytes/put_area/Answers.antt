use Rattle.std.proofs.Common.{◌≡◌, ◌++◌, sym, ◌∙◌, ap}
use Rattle.dym_pack.specs.Areas.{logged, area_at}
use Rattle.dym_pack.specs.Offsets.{area_bytes, area_head}
use Rattle.dym_pack.specs.ParsedAreas.{body_from}
use Rattle.dym_pack.proofs.Fronts.{area_is_parts}
use Rattle.dym_pack.proofs.Written.{on_ok, two_parts}
use Rattle.dym_pack.proofs.area_bytes.put_area.Goals as goal

pub returns : goal.returns
returns g c =
    let m = g.A.Areas.meaning c.args.areas.now in
    let log = logged m c.args.kind 0 in
    on_ok c.put_body.result
    (c.put_body.new.out.items ≡ c.put_head.new.out.items ++ body_from log c.args.k 0)
    (c.put_body.new.out.items ≡ c.args.out.now.items ++ area_bytes log (area_at m.live c.args.k))
    (λ more.
    two_parts c.args.out.now.items c.put_head.new.out.items c.put_body.new.out.items (area_head log c.args.k) (body_from log c.args.k 0) c.in_ok-put_head.ensures more
    ∙ ap (λ bytes. c.args.out.now.items ++ bytes) (sym (area_is_parts log c.args.k)))
    c.put_body.ensures
