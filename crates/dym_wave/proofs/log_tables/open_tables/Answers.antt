use Rattle.std.proofs.Common.{◌≡◌, None, ◌∷◌, [], ◌++◌, map, arith, sym, ap, subst, ◌∙◌, refl}
use Rattle.std.proofs.lemmas.List.{map_push}
use Rattle.std.proofs.lemmas.List.Elements.{All-same, All-push}
use Rattle.dym_base.specs.Origins.{shared}
use Rattle.dym_slots.specs.Meanings.{KeepMeaning, SweeperMeaning}
use Rattle.dym_wave.specs.States.{IsFreshKeep}
use Rattle.dym_wave.specs.Waves.{tables_of}
use Rattle.dym_wave.proofs.log_tables.open_tables.Goals as goal

pub loop-preserved : goal.loop-preserved
loop-preserved c =
    let keeps = c.loop.keeps.items in
    let sweepers = c.loop.sweepers.items in
    let keep = c.new.result in
    let sweeper = c.in_ok-owner.sweeper in
    let is : keep ≡ record { records = []; made = 0; lifted = None; origin = shared sweeper.table } = c.new.ensures ∙ c.in_ok-owner.ensures.owner in
    let put = c.push_reserved.ensures in
    let swept = c.push_reserved-in-loop.ensures in
    record {
      tables = ap (map (λ (k : KeepMeaning). k.origin)) put.items ∙ map_push (λ (k : KeepMeaning). k.origin) keeps keep
          ∙ ap (λ os. os ++ keep.origin ∷ []) c.loop.invariant.tables ∙ ap (λ (k : KeepMeaning). tables_of sweepers ++ k.origin ∷ []) is
          ∙ sym (ap tables_of swept.items ∙ map_push (λ (s : SweeperMeaning). shared s.table) sweepers sweeper);
      fresh = All-same IsFreshKeep c.push_reserved.new.self.items (keeps ++ keep ∷ []) put.items
          (All-push IsFreshKeep keeps keep c.loop.invariant.fresh (subst IsFreshKeep (sym is) (record { empty = refl; made = refl; idle = refl })));
      keeps = omega (arith, put.len, c.loop.invariant.keeps);
      swept = omega (arith, swept.len, c.loop.invariant.swept);
      keep_room = omega (arith, put.capacity, c.loop.invariant.keep_room);
      room = omega (arith, swept.capacity, c.loop.invariant.room);
    }
