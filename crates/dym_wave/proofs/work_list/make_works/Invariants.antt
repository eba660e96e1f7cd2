use Rattle.std.proofs.Common.{◌≡◌, ℕ, ◌+◌, ◌≤◌, List, ◌++◌, map, vec_len, vec_capacity, All}
use Rattle.std.specs.VecDeque.{deque_len, deque_capacity}
use Rattle.dym_base.specs.Origins.{shared}
use Rattle.dym_quota.specs.QueueShape.{queue_name}
use Rattle.dym_script.specs.OwnCommands.{IsRunnable}
use Rattle.dym_slots.specs.Meanings.{KeepMeaning}
use Rattle.dym_wave.specs.Parts.{quota_of}
use Rattle.dym_wave.specs.States.{CanTakeBerth, IsFreshKeep}
use Rattle.dym_wave.specs.WorkLists.{ArePublishers, TakesParts}
use Rattle.dym_wave.specs.Works.{OriginMeaning, origin_of}
use Rattle.dym_wave.proofs.Making.{AreNumbered}
use Rattle.dym_wave.proofs.work_list.make_works.Given as goal

abbrev pub invariant-loop-berth : goal.invariant-loop-berth
invariant-loop-berth g l = record {
  taken : TakesParts l.options l.makes_text l.initial.parts.items l.parts.items (map origin_of l.works.items);
  runnable : All IsRunnable l.parts.items;
  lined : (rest : List ℕ) × (map quota_of l.parts.items ≡ map (λ b. b.quota) l.berths.items ++ rest);
  can_take : All CanTakeBerth l.berths.items;
  fresh : All IsFreshKeep l.keeps.items;
  keeps : deque_len l.keeps ≡ deque_len l.berths;
  publishers : ArePublishers l.options.report.views (deque_len l.berths) l.publishers.items;
  quotas_are : map (λ (o : OriginMeaning). o.object.quota) (map origin_of l.works.items) ++ map (λ b. b.quota) l.berths.items
      ≡ map (λ b. b.quota) l.initial.berths.items;
  supplies_are : map (λ (o : OriginMeaning). o.object.supply) (map origin_of l.works.items) ++ map (λ b. shared (queue_name b.pass)) l.berths.items
      ≡ map (λ b. shared (queue_name b.pass)) l.initial.berths.items;
  keeps_are : map (λ (o : OriginMeaning). o.object.keep) (map origin_of l.works.items) ++ map (λ (k : KeepMeaning). k.origin) l.keeps.items
      ≡ map (λ (k : KeepMeaning). k.origin) l.initial.keeps.items;
  numbered : AreNumbered (map origin_of l.works.items);
  many : vec_len l.works + deque_len l.berths ≡ deque_len l.initial.berths;
  room : deque_len l.initial.berths ≤ vec_capacity l.works;
  capacity : deque_capacity l.berths ≡ deque_capacity l.initial.berths;
}

abbrev pub decreases-loop-berth : goal.decreases-loop-berth
decreases-loop-berth g l = deque_len l.berths
