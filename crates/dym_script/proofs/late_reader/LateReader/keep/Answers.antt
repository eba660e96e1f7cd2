use Rattle.std.proofs.Common.{◌≡◌, ◌<◌, ◌+◌, ℕ, [], ◌∷◌, ◌++◌, ◌∙◌, length, set, sym, ap, subst, rules, length-set}
use Rattle.dym_script.specs.declared.late_reader.LateReader.{LateReader}
use Rattle.dym_script.specs.declared.late_script.LateLine.{LateLine}
use Rattle.dym_script.proofs.LateLines.{Counts, counts_event, counts_commit, late_room, kept_line}
use Rattle.dym_script.proofs.late_reader.LateReader.keep.Goals.{then-is_event+else-count-eq-MOST_LATE_EVENTS, else-is_event}
use Rattle.dym_script.proofs.late_reader.LateReader.keep.Goals as goal

pub returns-clause-kept : goal.returns-clause-kept
returns-clause-kept c =
    let r : LateReader = c.args.self.now in
    let kept = c.requires.kept in
    let mid : LateReader = c.if-is_event.self in
    let s : LateReader = record { declared = mid.declared; lines = c.push.new.self; events = mid.events } in
    let line : LateLine = record { object = c.args.object; act = c.args.act } in
    let old : Counts r.lines.items r.events.items = record { are = kept.counts; few = kept.events } in
    let inside : c.args.object < length r.events.items = rw kept.counted c.requires.within in
    let count : c.len.result ≡ length r.lines.items = search rules in
    let room = late_room (length r.lines.items) kept.few (λ full. c.if-len-eq-MOST_LATE_LINES.false (count ∙ full)) in
    elim c.if-is_event.branch [
      | then-is_event+else-count-eq-MOST_LATE_EVENTS w ↦
          let n : ℕ = w.index_mut-count.result.now in
          let events : mid.events.items ≡ set r.events.items c.args.object (n + 1) = ap (λ (x : LateReader). x.events.items) w.self-is in
          let counts = counts_event r.lines.items line r.events.items n _ old inside (sym w.if-is_event.ensures) w.index_mut-count.ensures.value
          w.if-count-eq-MOST_LATE_EVENTS.false in
          kept_line r s line kept (ap (λ (x : LateReader). x.declared) w.self-is) (c.in_ok-push.ensures.items
          ∙ ap (λ (x : LateReader). x.lines.items ++ line ∷ []) w.self-is) (ap length events ∙ length-set r.events.items c.args.object (n + 1)) room
          c.requires.within c.requires.may
          (subst (Counts (r.lines.items ++ line ∷ [])) (sym events) counts)
      | else-is_event w ↦
          let events : mid.events.items ≡ r.events.items = ap (λ (x : LateReader). x.events.items) w.self-is in
          kept_line r s line kept (ap (λ (x : LateReader). x.declared) w.self-is) (c.in_ok-push.ensures.items
          ∙ ap (λ (x : LateReader). x.lines.items ++ line ∷ []) w.self-is) (ap length events) room c.requires.within c.requires.may
          (subst (Counts (r.lines.items ++ line ∷ [])) (sym events) (counts_commit r.lines.items line r.events.items old (sym w.if-is_event.ensures)))
    ]
