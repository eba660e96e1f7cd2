-- The three pieces are the line.
use Rattle.std.proofs.Common.{◌≡◌, List, ℕ, [], ◌++◌, take, subst, arith}
use Rattle.std.proofs.lemmas.Grind.{common_steps}
use Rattle.dym_io.specs.Sink.{Writes}
use Rattle.dym_report.specs.Orders.{error_text}
use Rattle.dym_report.proofs.order.write_error.Goals as goal

pub returns : goal.returns
returns g c =
    let pieces : List ℕ = take c.put_text-end.result c.put_text-end.new.buffer ++ (c.as_bytes.result.now ++ (c.as_slice.result.now ++ [])) in
    let whole : pieces ≡ error_text c.args.line c.args.kind = grind (arith, common_steps) in
    subst (λ text. Writes (g.W.Sink.output c.args.sink.now) (g.W.Sink.output c.push_parts.new.sink) text c.push_parts.result) whole c.push_parts.ensures
