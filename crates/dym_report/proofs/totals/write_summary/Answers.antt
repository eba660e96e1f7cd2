-- The line is the eight numbers behind their names.
use Rattle.std.proofs.Common.{◌≡◌, List, ℕ, ◌++◌, take, codes, decimal, ap, subst, ◌∙◌}
use Rattle.dym_io.specs.Sink.{Writes}
use Rattle.dym_report.specs.Orders.{summary_text}
use Rattle.dym_report.proofs.Summaries.{named_behind}
use Rattle.dym_report.proofs.totals.write_summary.Goals as goal

pub returns : goal.returns
returns g c =
    let t = c.args.totals.now in
    let from_slots : List ℕ = codes " slots " ++ decimal t.slots ++ codes "\n" in
    let from_kept : List ℕ = codes " kept " ++ decimal t.kept ++ from_slots in
    let from_segments : List ℕ = codes " segments " ++ decimal t.segments ++ from_kept in
    let from_chunks : List ℕ = codes " chunks " ++ decimal t.chunks ++ from_segments in
    let from_refused : List ℕ = codes " refused " ++ decimal t.refused ++ from_chunks in
    let from_ok : List ℕ = codes " ok " ++ decimal t.ok ++ from_refused in
    let from_commands : List ℕ = codes " commands " ++ decimal t.commands ++ from_ok in
    let from_objects : List ℕ = codes " objects " ++ decimal t.objects ++ from_commands in
    let start : List ℕ = take c.put_text-end.result c.put_text-end.new.buffer in
    let to_objects : List ℕ = take c.put_named-end.result c.put_named-end.new.buffer in
    let to_commands : List ℕ = take c.put_named-end-2.result c.put_named-end-2.new.buffer in
    let to_ok : List ℕ = take c.put_named-end-3.result c.put_named-end-3.new.buffer in
    let to_refused : List ℕ = take c.put_named-end-4.result c.put_named-end-4.new.buffer in
    let to_chunks : List ℕ = take c.put_named-end-5.result c.put_named-end-5.new.buffer in
    let to_segments : List ℕ = take c.put_named-end-6.result c.put_named-end-6.new.buffer in
    let to_kept : List ℕ = take c.put_named-end-7.result c.put_named-end-7.new.buffer in
    let to_slots : List ℕ = take c.put_named-end-8.result c.put_named-end-8.new.buffer in
    let whole : take c.put_text-end-2.result c.put_text-end-2.new.buffer ≡ summary_text t =
    c.put_text-end-2.ensures.text
    ∙ named_behind to_kept (codes " slots ") (decimal t.slots) to_slots (codes "\n") c.put_named-end-8.ensures.text
    ∙ named_behind to_segments (codes " kept ") (decimal t.kept) to_kept from_slots c.put_named-end-7.ensures.text
    ∙ named_behind to_chunks (codes " segments ") (decimal t.segments) to_segments from_kept c.put_named-end-6.ensures.text
    ∙ named_behind to_refused (codes " chunks ") (decimal t.chunks) to_chunks from_segments c.put_named-end-5.ensures.text
    ∙ named_behind to_ok (codes " refused ") (decimal t.refused) to_refused from_chunks (rw c.from-4.ensures at c.put_named-end-4.ensures.text)
    ∙ named_behind to_commands (codes " ok ") (decimal t.ok) to_ok from_refused (rw c.from-3.ensures at c.put_named-end-3.ensures.text)
    ∙ named_behind to_objects (codes " commands ") (decimal t.commands) to_commands from_ok (rw c.from-2.ensures at c.put_named-end-2.ensures.text)
    ∙ named_behind start (codes " objects ") (decimal t.objects) to_objects from_commands (rw c.from.ensures at c.put_named-end.ensures.text)
    ∙ ap (λ l. l ++ from_objects) c.put_text-end.ensures.text in
    subst (λ text. Writes (g.W.Sink.output c.args.sink.now) (g.W.Sink.output c.push_all.new.sink) text c.push_all.result) whole c.push_all.ensures
