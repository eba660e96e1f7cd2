use Rattle.std.proofs.Common.{◌≡◌, ℕ, ◌++◌, [], ◌∷◌, map, ap, arith, length, sum_by, refl, ◌∙◌}
use Rattle.std.proofs.lemmas.List.Elements.{All-nil, All-same, All-push}
use Rattle.dym_base.specs.Origins.{shared}
use Rattle.dym_quota.specs.Berths.{IsIdleBerth}
use Rattle.dym_slots.specs.Meanings.{KeepMeaning}
use Rattle.dym_wave.specs.Works.{WorkMeaning, OriginMeaning, origin_of}
use Rattle.dym_wave.proofs.Lists.{all_front, all_images, all_last, sum_last}
use Rattle.dym_wave.proofs.Tables.{keeps_of, one_name, others_swept, own_table, sum_of_origins}
use Rattle.dym_wave.proofs.open_wave.Wave.close.Goals as goal

pub loop-work-init : goal.loop-work-init
loop-work-init g c =
    let old = c.args.self in
    let name = old.queue.name in
    let are = old.of_wave in
    record {
      idle = All-same (IsIdleBerth name) old.berths.items [] old.none (All-nil (IsIdleBerth name));
      of_queue = all_images origin_of (λ (o : OriginMeaning). o.object.supply ≡ shared name) old.works.items (map origin_of old.works.items) refl are.supplies;
      all = omega (arith, ap (sum_by (λ b. b.quota)) old.none, are.quotas, sum_of_origins old.works.items);
      tables = keeps_of old.works.items ∙ are.tables;
      room = omega (arith, ap {B = ℕ} length old.none, old.berths.ok.0, old.room);
    }

pub finish-requires-clause-table : goal.finish-requires-clause-table
finish-requires-clause-table g c =
    let inv = c.loop-work.invariant in
    ap (λ (k : KeepMeaning). k.origin) c.into_owner.ensures ∙ c.give_up-berth.ensures.keep
    ∙ own_table c.loop-work.works.items c.pop.new.self.items c.in-Some.work c.loop-work.sweepers.items c.pop-in-Some.new.self.items c.in-Some-pop.sweeper
    c.in-Some.ensures.items c.in-Some-pop.ensures.items inv.tables

pub loop-work-preserved : goal.loop-work-preserved
loop-work-preserved g c =
    let name = c.args.self.queue.name in
    let was = c.in-Some.ensures.items in
    let put = c.push_reserved.ensures.items in
    let inv = c.loop-work.invariant in
    let berth = c.give_up-berth.result.0 in
    let back = c.give_up-berth.ensures in
    let of_name = back.supply
    ∙ all_last (λ (w : WorkMeaning). w.origin.object.supply ≡ shared name) c.pop.new.self.items c.loop-work.works.items c.in-Some.work was inv.of_queue in
    record {
      idle = All-same (IsIdleBerth name) c.push_reserved.new.self.items (c.loop-work.berths.items ++ berth ∷ []) put
          (All-push (IsIdleBerth name) c.loop-work.berths.items berth inv.idle (one_name _ name of_name, back.nothing_held));
      of_queue = all_front (λ (w : WorkMeaning). w.origin.object.supply ≡ shared name) c.pop.new.self.items c.loop-work.works.items c.in-Some.work was inv.of_queue;
      all = omega (
        arith,
        inv.all,
        sum_last (λ b. b.quota) c.loop-work.berths.items c.push_reserved.new.self.items berth put,
        sum_last (λ (w : WorkMeaning). w.origin.object.quota) c.pop.new.self.items c.loop-work.works.items c.in-Some.work was,
        back.quota,
      );
      tables = others_swept c.loop-work.works.items c.pop.new.self.items c.in-Some.work c.loop-work.sweepers.items c.pop-in-Some.new.self.items
          c.in-Some-pop.sweeper was c.in-Some-pop.ensures.items inv.tables;
      room = omega (arith, inv.room, c.push_reserved.ensures.len, c.push_reserved.ensures.capacity, c.in-Some.ensures.cases);
    }
