use Rattle.std.proofs.Common.{arith, ◌≡◌, ◌∷◌, [], ℕ, length, vec_len, set, subst, sym, append-nil}
use Rattle.dym_pool.specs.Holdings.{Holding, IsStealShareOf, Joins}
use Rattle.dym_pool.proofs.Keeping.{last_reach}
use Rattle.dym_pool.proofs.Zips.{Back, back_none, back_more, back_all, zip-length}
use Rattle.dym_pool.proofs.workers.join_row.Goals as goal

pub loop-steal_share-init : goal.loop-steal_share-init
loop-steal_share-init g c =
    let same = zip-length IsStealShareOf c.args.shares.now.items c.args.row.items c.requires.reaches in
    record { joined = back_none (Joins 1) (vec_len c.args.row) c.args.shares.now.items (omega (arith, same, c.args.row.ok.0)); left = ([], append-nil c.args.row.items); few = omega arith }

pub join-requires-clause-deque : goal.join-requires-clause-deque
join-requires-clause-deque g c κs within =
    (last_reach c.args.shares.now.items c.loop-steal_share.shares.items c.args.row.items c.loop-steal_share.row.items c.pop.new.self.items c.loop-steal_share.invariant.left.0 c.in-Some.steal_share c.index_mut.result.now (vec_len c.loop-steal_share.row) c.len.result
    c.requires.reaches c.loop-steal_share.invariant.left.1 c.in-Some.ensures.items c.loop-steal_share.invariant.joined (omega (arith, c.in-Some.ensures.len, c.pop.new.self.ok.0)) (omega (arith, c.len.ensures, c.pop.new.self.ok.0)) c.index_mut.ensures.value).4.deque

pub loop-steal_share-preserved : goal.loop-steal_share-preserved
loop-steal_share-preserved g c =
    let d = c.index_mut.result.now in
    let front = c.pop.new.self.items in
    let last = last_reach c.args.shares.now.items c.loop-steal_share.shares.items c.args.row.items c.loop-steal_share.row.items front c.loop-steal_share.invariant.left.0 c.in-Some.steal_share d (vec_len c.loop-steal_share.row) c.len.result
    c.requires.reaches c.loop-steal_share.invariant.left.1 c.in-Some.ensures.items c.loop-steal_share.invariant.joined (omega (arith, c.in-Some.ensures.len, c.pop.new.self.ok.0)) (omega (arith, c.len.ensures, c.pop.new.self.ok.0)) c.index_mut.ensures.value in
    let one : c.in-Some.steal_share.part ≡ 1 = last.4.part in
    let step : Joins 1 d c.join.new.self = record { deque = c.join.ensures.deque; list = c.join.ensures.list; part = omega (arith, c.join.ensures.part) } in
    let at : c.len.result ≡ length front = omega (arith, c.len.ensures, c.pop.new.self.ok.0) in
    let here : length front ≡ vec_len c.pop.new.self = omega (arith, c.pop.new.self.ok.0) in
    let more = back_more (Joins 1) (length front) c.args.shares.now.items c.loop-steal_share.shares.items c.join.new.self d last.1 last.2 (subst (λ (h : Holding g.row.J-Origin.Denot). Joins 1 h c.join.new.self) last.3 step) in
    record {
      joined = subst (λ (n : ℕ). Back (Joins 1) n c.args.shares.now.items (set c.loop-steal_share.shares.items c.len.result c.join.new.self)) here
          (subst (λ (n : ℕ). Back (Joins 1) (length front) c.args.shares.now.items (set c.loop-steal_share.shares.items n c.join.new.self)) (sym at) more);
      left = (c.in-Some.steal_share ∷ c.loop-steal_share.invariant.left.0, last.0);
      few = omega (arith, c.in-Some.ensures.len, c.loop-steal_share.invariant.few);
    }

pub returns : goal.returns
returns g c =
    record { joins = back_all (Joins 1) c.args.shares.now.items c.loop-steal_share.shares.items (subst (λ (n : ℕ). Back (Joins 1) n c.args.shares.now.items c.loop-steal_share.shares.items) c.in_default.ensures.cases.0 c.loop-steal_share.invariant.joined) }
