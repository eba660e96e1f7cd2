-- The bytes that are lent are those of the chunk.
use Rattle.std.proofs.Common.{◌≡◌, sym, subst, ◌∙◌}
use Rattle.std.specs.FinMap.{get}
use Rattle.dym_base.specs.Numbers.{number}
use Rattle.dym_io.specs.Sink.{Writes}
use Rattle.dym_report.specs.Objects.{image_line}
use Rattle.dym_report.proofs.LiveChunks.{named, each_some, one_some}
use Rattle.dym_report.proofs.object_report.write_live.Goals as goal

pub returns : goal.returns
returns g c =
    each_some (get c.args.heap.now.state.live (number c.args.exp c.args.index)) (λ bytes is.
    let image : c.in-Some.bytes.now ≡ bytes = one_some (sym c.in-Some.ensures ∙ is) in
    let handle = sym (named c.args.exp c.args.index c.ranges.index.fits) in
    subst (λ t. Writes (g.W.Sink.output c.args.sink.now) (g.W.Sink.output c.write_image.new.sink) t c.write_image.result)
    (λ i. image_line (c.version.ensures i) (handle i) (image i)) c.write_image.ensures)
