use Rattle.std.proofs.Common.{rules, ◌≡◌, All, [], sym, subst}
use Rattle.std.proofs.lemmas.List.Elements.{All-push}
use Rattle.dym_pool.specs.Holdings.{Holding}
use Rattle.dym_pool.proofs.workers.open_shares.Goals as goal

pub loop-preserved : goal.loop-preserved
loop-preserved g c =
    let Fresh : Holding g.row.J-Origin.Denot → Type 0 = λ s. (s.list ≡ []) × (s.part ≡ 65) × (s.pushed ≡ 0) × (s.room ≡ c.args.room) in
    record {
      len = search rules;
      room = search rules;
      each = subst (All Fresh) (sym c.push_reserved.ensures.items) (All-push Fresh c.loop.shares.items c.in_ok-open.field-0 c.loop.invariant.each (c.in_ok-open.ensures.list, c.in_ok-open.ensures.part, c.in_ok-open.ensures.pushed, c.in_ok-open.ensures.room));
    }
