use Rattle.std.proofs.Common.{◌≡◌, ◌∷◌, drop, ◌∙◌}
use Rattle.dym_trace.proofs.Entries.{front_splits, older_done, rest_rises, rest_kept, rest_there, rest_back}
use Rattle.dym_trace.proofs.list.drop_older.Goals as goal

pub returns-then-oldest-number : goal.returns-then-oldest-number
returns-then-oldest-number c =
    let is = front_splits c.loop-oldest.list.items c.front.result c.copied.result c.in-Some.oldest c.copied.ensures c.in-Some.is c.front.ensures.item.3 in
    let kept = c.loop-oldest.invariant in
    older_done c.args.number c.args.list.now.items c.loop-oldest.list.items c.in-Some.oldest (drop 1 c.loop-oldest.list.items) is kept.rises c.if-oldest-number.true kept.kept kept.there kept.back

pub loop-oldest-preserved : goal.loop-oldest-preserved
loop-oldest-preserved c =
    let front = front_splits c.loop-oldest.list.items c.front.result c.copied.result c.in-Some.oldest c.copied.ensures c.in-Some.is c.front.ensures.item.3 in
    let is : c.loop-oldest.list.items ≡ c.in-Some.oldest ∷ c.pop_front.new.self.items = rw c.pop_front.ensures.rest front in
    let kept = c.loop-oldest.invariant in
    record {
      rises = rest_rises c.loop-oldest.list.items c.in-Some.oldest c.pop_front.new.self.items is kept.rises;
      kept = rest_kept c.args.number c.loop-oldest.list.items c.in-Some.oldest c.pop_front.new.self.items is c.if-oldest-number.false ∙ kept.kept;
      there = λ has. rest_there c.args.number c.loop-oldest.list.items c.in-Some.oldest c.pop_front.new.self.items is c.if-oldest-number.false (kept.there has);
      back = λ has. kept.back (rest_back c.args.number c.loop-oldest.list.items c.in-Some.oldest c.pop_front.new.self.items is has);
    }
