use Rattle.std.proofs.Common.{arith, ◌≡◌, ◌<◌, ◌++◌, ◌∷◌, [], All, List, ℕ, length, suc, get_or, subst, sym, ap, ◌∙◌, ◌*◌, ◌+◌, ◌-◌, ◌%◌, length-append, slice_set, vec_len}
use Rattle.std.proofs.lemmas.List.{map-append}
use Rattle.std.specs.List.{flat_map}
use Rattle.dym_pool.specs.Holdings.{Holding, KeepsDeque}
use Rattle.dym_pool.specs.Jobs.{boxed_labels}
use Rattle.dym_pool.specs.Shares.{SameElements}
use Rattle.dym_pool.proofs.Dealing.{Deals, deals_none, deals_place, deals_room, deals_one}
use Rattle.dym_pool.proofs.Elements.{dealt_one, dealt_none}
use Rattle.dym_pool.proofs.Keeping.{ways_none, ways_set}
use Rattle.std.proofs.lemmas.List.Elements.{All-set}
use Rattle.dym_pool.proofs.distribution.distribute.Given as given
use Rattle.dym_pool.proofs.distribution.distribute.Goals as goal

module _ (g : given.Over) where
  abbrev listed : Holding g.row.J-Origin.Denot → List (ℕ × g.row.J-Origin.Denot)
  listed s = s.list

  abbrev size : Holding g.row.J-Origin.Denot → ℕ
  size s = s.pushed

  abbrev capacity : Holding g.row.J-Origin.Denot → ℕ
  capacity s = s.room

  abbrev Loads : Holding g.row.J-Origin.Denot → Type 0
  Loads s = (s.pushed ≡ length s.list) × (s.part ≡ 65)

pub loop-boxed-init : goal.loop-boxed-init
loop-boxed-init g c =
    let count : vec_len c.args.boxes ≡ c.len-left.result = sym c.len-left.ensures in
    record {
      same = dealt_none (listed g) c.args.shares.now.items (λ k d l. (c.requires.room.2 k d l).0);
      left = c.len-left.ensures ∙ c.args.boxes.ok.0 ∙ sym (ap length c.into_iter-boxed-iterator.ensures.into_iter_gives.0);
      deals = deals_none (size g) (capacity g) c.args.shares.now.items c.len-left.result c.requires.room.0
          (subst (λ (n : ℕ). c.len-left.result < n * c.requires.room.0) c.args.shares.now.ok.0 (subst (λ (n : ℕ). n < vec_len c.args.shares.now * c.requires.room.0) count c.requires.room.1))
          (λ k d l. ((c.requires.room.2 k d l).2, omega (arith, (c.requires.room.2 k d l).3)));
      ways = ways_none c.args.shares.now.items;
      loads = λ k d l. ((c.requires.room.2 k d l).2 ∙ sym (ap length (c.requires.room.2 k d l).0), (c.requires.room.2 k d l).1);
    }

module _ (g : given.Over) where
  -- the share at the place of the last job that is left has room
  place_room : (xs : List (Holding g.row.J-Origin.Denot)) (left count rest : ℕ) (s : Holding g.row.J-Origin.Denot) → left ≡ suc rest → count ≡ length xs → s ≡ get_or xs ((left - 1) % count) s → All (Loads g) xs → Deals (size g) (capacity g) xs left
      → Loads g s × (s.pushed < s.room) × ((left - 1) % count < length xs) × Deals (size g) (capacity g) xs (left - 1 + 1)
  place_room xs left count rest s some same here loads deals =
      let before : Deals (size g) (capacity g) xs (left - 1 + 1) = subst (Deals (size g) (capacity g) xs) (omega (arith, some)) deals in
      let at : s ≡ get_or xs ((left - 1) % length xs) s = subst (λ (n : ℕ). s ≡ get_or xs ((left - 1) % n) s) same here in
      let inside = deals_place (size g) (capacity g) xs left (left - 1) deals in (
        subst (Loads g) (sym at) (loads ((left - 1) % length xs) s inside),
        subst (λ (h : Holding g.row.J-Origin.Denot). h.pushed < h.room) (sym at) (deals_room (size g) (capacity g) xs (left - 1) s before),
        subst (λ (n : ℕ). (left - 1) % n < length xs) (sym same) inside,
        before,
      )

pub put-requires-clause-room : goal.put-requires-clause-room
put-requires-clause-room g c κs within =
    let it = place_room g c.loop-boxed.shares.items c.loop-boxed.left c.len.result (length c.next.new.self.rest.items) c.index_mut.result.now (c.loop-boxed.invariant.left ∙ ap length c.in-Some.ensures.steps.0) (c.len.ensures ∙ c.loop-boxed.shares.ok.0) c.index_mut.ensures.value c.loop-boxed.invariant.loads c.loop-boxed.invariant.deals in
    omega (arith, it.0.0, it.1)

pub put-requires-clause-slots : goal.put-requires-clause-slots
put-requires-clause-slots g c κs within =
    (place_room g c.loop-boxed.shares.items c.loop-boxed.left c.len.result (length c.next.new.self.rest.items) c.index_mut.result.now (c.loop-boxed.invariant.left ∙ ap length c.in-Some.ensures.steps.0) (c.len.ensures ∙ c.loop-boxed.shares.ok.0) c.index_mut.ensures.value c.loop-boxed.invariant.loads c.loop-boxed.invariant.deals).1

pub loop-boxed-preserved : goal.loop-boxed-preserved
loop-boxed-preserved g c =
    let s = c.index_mut.result.now in
    let xs = c.loop-boxed.shares.items in
    let left = c.loop-boxed.left in
    let place = (left - 1) % c.len.result in
    let here : s ≡ get_or xs place s = c.index_mut.ensures.value in
    let count : c.len.result ≡ length xs = c.len.ensures ∙ c.loop-boxed.shares.ok.0 in
    let at : s ≡ get_or xs ((left - 1) % length xs) s = subst (λ (n : ℕ). s ≡ get_or xs ((left - 1) % n) s) count here in
    let some : left ≡ suc (length c.next.new.self.rest.items) = c.loop-boxed.invariant.left ∙ ap length c.in-Some.ensures.steps.0 in
    let it = place_room g xs left c.len.result (length c.next.new.self.rest.items) s some count here c.loop-boxed.invariant.loads c.loop-boxed.invariant.deals in
    let label : ℕ × g.row.J-Origin.Denot = (g.J.Job.number_of c.in-Some.boxed.value, g.J.Job.origin_of c.in-Some.boxed.value) in
    let yielded = boxed_labels g.J.Job.number_of g.J.Job.origin_of c.loop-boxed.yielded in
    let listed_now : listed g c.put.new.self ≡ listed g (get_or xs place s) ++ label ∷ [] = subst (λ (h : Holding g.row.J-Origin.Denot). listed g c.put.new.self ≡ listed g h ++ label ∷ []) here c.put.ensures.list in
    record {
      same = subst (SameElements (flat_map (listed g) (slice_set xs place c.put.new.self))) (sym (map-append (λ b. (g.J.Job.number_of b.value, g.J.Job.origin_of b.value)) c.loop-boxed.yielded (c.in-Some.boxed ∷ [])))
          (dealt_one (listed g) xs place c.put.new.self s label yielded it.2 listed_now c.loop-boxed.invariant.same);
      left = omega (arith, some);
      deals = subst (λ (n : ℕ). Deals (size g) (capacity g) (slice_set xs ((left - 1) % n) c.put.new.self) (left - 1)) (sym count)
          (deals_one (size g) (capacity g) xs (left - 1) c.put.new.self s
          (subst (λ (h : Holding g.row.J-Origin.Denot). size g c.put.new.self ≡ size g h + 1) at c.put.ensures.pushed)
          (subst (λ (h : Holding g.row.J-Origin.Denot). capacity g c.put.new.self ≡ capacity g h) at c.put.ensures.same_room) it.3);
      ways = ways_set c.args.shares.now.items xs place c.put.new.self s it.2 c.loop-boxed.invariant.ways
          (subst (λ (h : Holding g.row.J-Origin.Denot). KeepsDeque h c.put.new.self) here (record { deque = c.put.ensures.deque; part = c.put.ensures.part; room = c.put.ensures.same_room }));
      loads = All-set (Loads g) xs place c.put.new.self
          (omega (arith, c.put.ensures.pushed, it.0.0, ap length c.put.ensures.list, length-append s.list (label ∷ [])), c.put.ensures.part ∙ it.0.1)
          c.loop-boxed.invariant.loads;
    }
