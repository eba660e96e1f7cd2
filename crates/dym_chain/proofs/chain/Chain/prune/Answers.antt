use Rattle.std.proofs.Common.{arith, ◌≡◌, ℕ, ◌-◌, ◌<◌, length, drop, sym, ap, subst, ◌∙◌}
use Rattle.std.proofs.lemmas.List.{drop-map}
use Rattle.dym_base.specs.BaseLogs.{dropped_base_logs}
use Rattle.dym_base.specs.Objects.{reached}
use Rattle.dym_base.specs.declared.reply.Reply.TheVariants as reply
use Rattle.dym_chain.specs.Chains.{ChainMeaning, Belongs, StandsForCopies, pruned}
use Rattle.dym_chain.specs.Lawful.{IsLawful, entry_of}
use Rattle.dym_chain.specs.ChainInvariants.{chain_of}
use Rattle.dym_chain.specs.declared.entry.Entry.{Entry}
use Rattle.dym_chain.proofs.Lawfuls.{stands, fields_show}
use Rattle.dym_chain.proofs.Moves.{without, belongs_drop, lawful_drop}
use Rattle.dym_chain.proofs.Prunes.{base_logs_left, Dropping, dropping, view_drop, without_none}
use Rattle.dym_chain.specs.Differences.{AreDifferences}
use Rattle.dym_chain.proofs.DifferenceFacts.{differences_drop}
use Rattle.dym_chain.proofs.chain.Chain.prune.Given as given
use Rattle.dym_chain.proofs.chain.Chain.prune.Goals.{After-dropped_by-dropped, After-from-depth, After-cut}
use Rattle.dym_chain.proofs.chain.Chain.prune.Goals as goal

-- ---- where none is dropped

module _ (g : given.Over) (c : After-dropped_by-dropped g) where
  abbrev whole : ChainMeaning
  whole = chain_of c.self.inside.ghost_copies.copies (g.K.LogKeep.meaning c.self.inside.keep)

  abbrev law : IsLawful whole
  law = c.self.invariant.chain.lawful

  count_is : c.dropped_by-dropped.result ≡ reached c.args.bound whole.logs - 1
  count_is = c.dropped_by-dropped.ensures.dropped whole.logs (c.deref.ensures.value ∙ c.self.invariant.chain.shows.entries) law.list.2

  count_now : c.dropped_by-dropped.result ≡ reached c.args.bound c.args.self.now.logs - 1
  count_now = count_is ∙ ap (λ (x : ChainMeaning). reached c.args.bound x.logs - 1) c.self.view_is

pub returns-then-dropped-eq0-clause-answer : goal.returns-then-dropped-eq0-clause-answer
returns-then-dropped-eq0-clause-answer g c s =
    ap reply.Dropped (sym c.if-dropped-eq0.true ∙ count_now g (goal.at.returns-then-dropped-eq0-clause-answer g c).After-dropped_by-dropped)

pub returns-then-dropped-eq0-clause-after : goal.returns-then-dropped-eq0-clause-after
returns-then-dropped-eq0-clause-after g c =
    let b = (goal.at.returns-then-dropped-eq0-clause-after g c).After-dropped_by-dropped in
    sym c.self.view_is ∙ sym (without_none (whole g b) (law g b)) ∙ ap (λ k. without k (whole g b)) (sym c.if-dropped-eq0.true ∙ count_is g b) ∙ ap (λ (x : ChainMeaning). pruned x c.args.bound) c.self.view_is

pub returns-then-dropped-eq0-clause-stands : goal.returns-then-dropped-eq0-clause-stands
returns-then-dropped-eq0-clause-stands g c =
    let b = (goal.at.returns-then-dropped-eq0-clause-stands g c).After-dropped_by-dropped in
    subst StandsForCopies c.self.view_is (stands (whole g b) (law g b))

pub returns-then-dropped-eq0-clause-base_logs : goal.returns-then-dropped-eq0-clause-base_logs
returns-then-dropped-eq0-clause-base_logs g c =
    ap (dropped_base_logs c.args.self.now.base_logs c.args.self.now.logs)
    (sym c.if-dropped-eq0.true ∙ count_now g (goal.at.returns-then-dropped-eq0-clause-base_logs g c).After-dropped_by-dropped)

-- ---- where some are

-- the logs that are dropped
dropped : (g : given.Over) (c : After-from-depth g)
    → Dropping (g.K.LogKeep.meaning c.self.inside.keep) c.self.inside.ghost_copies.copies c.dropped_by-dropped.result c.from-base.result c.from-depth.result
dropped g c =
    let within : c.dropped_by-dropped.result < length c.self.inside.entries.items
    = omega (arith, c.if-dropped-eq0.false, c.dropped_by-dropped.ensures.within, c.deref.ensures.len) in
    dropping c.dropped_by-dropped.result c.from-base.result c.from-depth.result c.index.result.now c.index-2.result.now c.self.invariant.chain within
    (c.from-base.ensures ∙ ap (λ (e : Entry). e.depth) c.index.ensures) (c.from-depth.ensures ∙ ap (λ (e : Entry). e.depth) c.index-2.ensures)

pub overflow_cast-dropped : goal.overflow_cast-dropped
overflow_cast-dropped g c = record { fits = omega (arith, (dropped g (goal.at.overflow_cast-dropped g c).After-from-depth).small) }

pub overflow_add-base : goal.overflow_add-base
overflow_add-base g c = record { fits = omega (arith, (dropped g (goal.at.overflow_add-base g c).After-from-depth).small) }

pub overflow_sub-base : goal.overflow_sub-base
overflow_sub-base g c = (dropped g (goal.at.overflow_sub-base g c).After-from-depth).fits

pub raise-requires-clause-place : goal.raise-requires-clause-place
raise-requires-clause-place g c = (dropped g (goal.at.raise-requires-clause-place g c).After-from-depth).inside

pub overflow_cast-depth : goal.overflow_cast-depth
overflow_cast-depth g c = record { fits = omega (arith, (dropped g (goal.at.overflow_cast-depth g c).After-from-depth).shallow) }

pub overflow_cast-result : goal.overflow_cast-result
overflow_cast-result g c = record { fits = omega (arith, (dropped g (goal.at.overflow_cast-result g c).After-from-depth).small) }

module _ (g : given.Over) (c : After-cut g) where
  abbrev first : After-dropped_by-dropped g
  first = (goal.at.After-cut g c).After-dropped_by-dropped

  abbrev n : ℕ
  n = c.dropped_by-dropped.result

  abbrev left : ChainMeaning
  left = without n (whole g first)

  is : Dropping (g.K.LogKeep.meaning c.self.inside.keep) c.self.inside.ghost_copies.copies n c.from-base.result c.from-depth.result
  is = dropped g (goal.at.After-cut g c).After-from-depth

  -- the chain without them
  view : chain_of c.cut.result.copies (g.K.LogKeep.meaning c.raise.new.self) ≡ left
  view = view_drop is c.raise.ensures.after c.cut.ensures

  left_law : IsLawful left
  left_law = lawful_drop (whole g first) n is.some (law g first)

pub invariant_of-self : goal.invariant_of-self
invariant_of-self g c =
    let u = (goal.at.invariant_of-self g c).After-cut in
    let logs = c.self.inside.ghost_copies.copies.logs in
    fields_show (left g u) (view g u) (left_law g u)
    (c.drop_first.ensures.items ∙ ap (drop (n g u)) c.self.invariant.chain.shows.entries ∙ drop-map entry_of (n g u) logs)
    (omega (arith, c.self.invariant.chain.shows.room, c.drop_first.ensures.capacity))
    (subst (AreDifferences (left g u).logs) (sym c.drop_front.ensures.items) (differences_drop (n g u) logs c.self.inside.differences.items c.self.invariant.differences))

pub returns-clause-answer : goal.returns-clause-answer
returns-clause-answer g c s = ap reply.Dropped (count_now g (goal.at.returns-clause-answer g c).After-dropped_by-dropped)

pub returns-clause-after : goal.returns-clause-after
returns-clause-after g c =
    let u = (goal.at.returns-clause-after g c).After-cut in
    view g u ∙ ap (λ k. without k (whole g (first g u))) (count_is g (first g u)) ∙ ap (λ (x : ChainMeaning). pruned x c.args.bound) c.self.view_is

pub returns-clause-belongs : goal.returns-clause-belongs
returns-clause-belongs g c v quota s belongs =
    let u = (goal.at.returns-clause-belongs g c).After-cut in
    subst (Belongs v quota s) (sym (view g u))
    (belongs_drop (whole g (first g u)) v quota (n g u) s (is g u).some c.self.invariant.chain.lawful (subst (Belongs v quota s) (sym c.self.view_is) belongs))

pub returns-clause-stands : goal.returns-clause-stands
returns-clause-stands g c =
    let u = (goal.at.returns-clause-stands g c).After-cut in
    subst StandsForCopies (sym (view g u)) (stands (left g u) (left_law g u))

pub returns-clause-base_logs : goal.returns-clause-base_logs
returns-clause-base_logs g c =
    let u = (goal.at.returns-clause-base_logs g c).After-cut in
    let C = whole g (first g u) in
    ap (λ (x : ChainMeaning). x.base_logs) (view g u)
    ∙ base_logs_left C (n g u) (omega (arith, c.if-dropped-eq0.false)) (is g u).some c.self.invariant.chain.lawful
    ∙ ap (dropped_base_logs C.base_logs C.logs) (count_is g (first g u))
    ∙ ap (λ (x : ChainMeaning). dropped_base_logs x.base_logs x.logs (reached c.args.bound x.logs - 1)) c.self.view_is
