use Rattle.std.proofs.Common.{◌≡◌, ℕ, ◌+◌, ◌<◌, length, get_or, set, None, Some, sym, ap, subst, ◌∙◌, arith}
use Rattle.dym_quota.specs.HeldIds.{GivesBack}
use Rattle.dym_quota.specs.Bound.{missing}
use Rattle.dym_quota.proofs.Missing.{at, held_empty, comes_back, numbered_with, fewer_by_one}
use Rattle.dym_quota.proofs.fixed_supply.FixedSupplySupply.give.Goals as goal

pub index_mut-requires : goal.index_mut-requires
index_mut-requires c =
    let s = c.args.self.now in
    let e = held_empty s.region.id 0 s.segments.items c.requires.front c.requires.back _ c.requires.is in
    let n : c.number-at.result ≡ e.place = c.number-at.ensures ∙ e.number_is ∙ omega arith in
    omega (arith, n, e.within, s.segments.ok.0)

pub invariant_of-self : goal.invariant_of-self
invariant_of-self c =
    let s = c.args.self.now in
    let e = held_empty s.region.id 0 s.segments.items c.requires.front c.requires.back _ c.requires.is in
    let k : ℕ = c.number-at.result in
    let n : k ≡ e.place = c.number-at.ensures ∙ e.number_is ∙ omega arith in
    let inside : k < length s.segments.items = omega (arith, n, e.within) in
    let empty : get_or s.segments.items k None ≡ None = ap (λ j. get_or s.segments.items j None) n ∙ e.empty in
    record {
      most = s.most;
      whole = s.whole;
      cut = s.cut;
      empty = s.empty;
      room = s.room;
      begins = s.begins;
      numbered = λ i x is. numbered_with _ s.region.id s.segments.items k c.args.segment inside e.region_is (sym c.number-at.ensures) s.numbered i x is;
      counted = (let one = fewer_by_one _ _ _ (comes_back s.region.id 0 s.segments.items k c.args.segment inside empty) in let was = s.counted in omega arith);
    }

pub returns-clause-given : goal.returns-clause-given
returns-clause-given c =
    let s = c.args.self.now in
    let e = held_empty s.region.id 0 s.segments.items c.requires.front c.requires.back _ c.requires.is in
    let k : ℕ = c.number-at.result in
    let n : k ≡ e.place = c.number-at.ensures ∙ e.number_is ∙ omega arith in
    let inside : k < length s.segments.items = omega (arith, n, e.within) in
    let empty : get_or s.segments.items k None ≡ None = ap (λ j. get_or s.segments.items j None) n ∙ e.empty in
    let zero : 0 + k ≡ k = omega arith in
    let id : at s.region.id (0 + k) ≡ record { region = _; number = _ } = λ i. record { region = sym e.region_is i; number = (zero ∙ c.number-at.ensures) i } in
    subst (GivesBack (missing s.region.id 0 s.segments.items) (missing s.region.id 0 (set s.segments.items k (Some c.args.segment)))) id (comes_back s.region.id 0 s.segments.items k c.args.segment inside empty)
