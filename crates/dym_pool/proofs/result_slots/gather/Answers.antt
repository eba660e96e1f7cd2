use Rattle.std.proofs.Common.{arith, ap, subst, sym, ◌∙◌, get_or, vec_len, drop, length}
use Rattle.std.specs.List.{flat_map}
use Rattle.std.specs.declared.boxed.Box.{Box}
use Rattle.std.specs.declared.alloc.Global.{Global}
use Rattle.std.proofs.lemmas.List.{take_at}
use Rattle.dym_pool.specs.Holdings.{Holding}
use Rattle.dym_pool.specs.Shares.{placed, Gathered}
use Rattle.dym_pool.proofs.Gathering.{has-flat, has-here, gathered, taken_back}
use Rattle.dym_pool.proofs.result_slots.gather.Goals as goal

pub place_shares-requires-after_bounds : goal.place_shares-requires-after_bounds
place_shares-requires-after_bounds g c κs within k d l j e m =
    let hand = (get_or c.args.shares.items k d).hand in
    let below = c.requires.numbers.0 (get_or hand j e) (has-flat (λ (s : Holding g.row.J-Origin.Denot). s.hand) c.args.shares.items k d (get_or hand j e) l (has-here hand j e m)) in
    omega (arith, below, c.deref_mut.ensures.len)

pub returns : goal.returns
returns g c =
    let p = c.place_shares.ensures in
    let hands = flat_map (λ (s : Holding g.row.J-Origin.Denot). s.hand) c.args.shares.items in
    let there = gathered g.J.Job.number_of g.J.Job.left_of g.J.Job.origin_of p.0 hands (vec_len c.args.slots) p.1 c.requires.numbers p.2 in
    let slots = p.3 ∙ ap (placed (λ (b : Box g.row.J.Denot Global). g.J.Job.number_of b.value) p.0) (c.deref_mut.ensures.value ∙ c.requires.slots) in
    let whole = take_at c.place_shares.new.slots (drop (length c.place_shares.new.slots) c.args.slots.items) (vec_len c.args.slots) (c.place_shares.auto.slots ∙ c.deref_mut.ensures.len) in
    let is = taken_back c.args.jobs.now.items c.take_standing.new.jobs.items _ _ c.take_standing.ensures c.requires.empty (whole ∙ slots) in
    record { back = subst (Gathered g.J.Job.number_of g.J.Job.left_of g.J.Job.origin_of (vec_len c.args.slots) hands) (sym is) there }
