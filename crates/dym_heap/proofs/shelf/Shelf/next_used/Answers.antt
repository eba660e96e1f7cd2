use Rattle.std.proofs.Common.{arith, rules, ◌≡◌, ◌+◌, ◌*◌, inl, inr, None}
use Rattle.std.proofs.Math.Nat.{add-mul}
use Rattle.std.proofs.lemmas.Nat.{div-add-mod', mod_below}
use Rattle.std.proofs.lemmas.Bool.{cases_lt}
use Rattle.std.specs.FinMap.{get}
use Rattle.dym_base.specs.Numbers.{number}
use Rattle.dym_heap.proofs.NextUsed as next
use Rattle.dym_heap.proofs.shelf.Shelf.next_used.Goals as goal

pub overflow_mul-end : goal.overflow_mul-end
overflow_mul-end g c = let few = next.few_chunks c.self.view_is c.self.invariant.0 c.args.class.least c.args.class.most c.rank-rank.result c.per_area-per.result c.rank-rank.ensures.value c.per_area-per.ensures in search rules

pub returns-then-from : goal.returns-then-from
returns-then-from g c i a small = next.past_all c.self.view_is c.self.invariant.0 c.args.class.least c.args.class.most i small c.rank-rank.ensures.value c.per_area-per.ensures (omega arith)

pub loop-ordinal-init : goal.loop-ordinal-init
loop-ordinal-init g c =
    let parts = div-add-mod' c.args.from c.per_area-per.result in
    record {
      free = λ i a b. absurd (omega arith);
      start = omega arith;
      small = mod_below c.args.from c.per_area-per.result (next.per_least c.self.view_is c.self.invariant.0 c.args.class.least c.args.class.most c.per_area-per.ensures);
    }

pub next_used-requires : goal.next_used-requires
next_used-requires g c = let small = c.loop-ordinal.invariant.small in let most = next.per_most c.self.view_is c.self.invariant.0 c.args.class.least c.args.class.most c.per_area-per.result c.per_area-per.ensures in omega arith

pub overflow_mul-result : goal.overflow_mul-result
overflow_mul-result g c = let fits = next.fits_n c.self.view_is c.self.invariant.0 c.args.class.least c.args.class.most c.loop-ordinal.ordinal c.rank-rank.ensures.value c.per_area-per.ensures (omega arith) in search rules

pub overflow_add-result : goal.overflow_add-result
overflow_add-result g c =
    let fits = next.fits_n c.self.view_is c.self.invariant.0 c.args.class.least c.args.class.most c.loop-ordinal.ordinal c.rank-rank.ensures.value c.per_area-per.ensures (omega arith) in
    let found = (next.found_n c.self.view_is c.self.invariant.0 c.args.class.least c.args.class.most c.loop-ordinal.ordinal c.rank-rank.ensures.value c.per_area-per.ensures (omega arith) c.index-sized_area.ensures c.args.from c.loop-ordinal.invariant.free c.loop-ordinal.invariant.start c.loop-ordinal.invariant.small c.in-Some.ensures).0 in
    let most = next.per_most c.self.view_is c.self.invariant.0 c.args.class.least c.args.class.most c.per_area-per.result c.per_area-per.ensures in
    search rules

pub returns-in-Some : goal.returns-in-Some
returns-in-Some g c =
    (next.found_n c.self.view_is c.self.invariant.0 c.args.class.least c.args.class.most c.loop-ordinal.ordinal c.rank-rank.ensures.value c.per_area-per.ensures (omega arith) c.index-sized_area.ensures c.args.from c.loop-ordinal.invariant.free c.loop-ordinal.invariant.start c.loop-ordinal.invariant.small c.in-Some.ensures).1

pub loop-ordinal-preserved : goal.loop-ordinal-preserved
loop-ordinal-preserved g c =
    let start = c.loop-ordinal.invariant.start in
    let small = c.loop-ordinal.invariant.small in
    let m = add-mul c.loop-ordinal.ordinal 1 c.per_area-per.result in
    record {
      free = next.none_n c.self.view_is c.self.invariant.0 c.args.class.least c.args.class.most c.loop-ordinal.ordinal c.rank-rank.ensures.value c.per_area-per.ensures (omega arith) c.index-sized_area.ensures c.args.from c.loop-ordinal.chunk c.loop-ordinal.invariant.free c.loop-ordinal.invariant.small c.in_default.ensures;
      start = omega arith;
      small = next.per_least c.self.view_is c.self.invariant.0 c.args.class.least c.args.class.most c.per_area-per.ensures;
    }

pub returns : goal.returns
returns g c i a small =
    elim (cases_lt i (c.loop-ordinal.ordinal * c.per_area-per.result + c.loop-ordinal.chunk)) as (λ _. get c.args.self.now.state.live (number c.args.class.exp i) ≡ None) [
      | inl before ↦ c.loop-ordinal.invariant.free i a before
      | inr past ↦ next.end_n c.self.view_is c.self.invariant.0 c.args.class.least c.args.class.most c.rank-rank.result c.per_area-per.result c.loop-ordinal.ordinal i small c.rank-rank.ensures.value c.per_area-per.ensures (omega arith) (omega arith)
    ]
