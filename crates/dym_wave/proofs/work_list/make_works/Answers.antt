use Rattle.std.proofs.Common.{◌≡◌, ◌++◌, map, vec_len, ap, arith, sym, subst, ◌∙◌}
use Rattle.std.specs.Prelude.{is_some}
use Rattle.std.specs.VecDeque.{deque_len}
use Rattle.std.proofs.lemmas.List.{length-map, map_push, nil_from_length}
use Rattle.std.proofs.lemmas.List.Elements.{All-rest}
use Rattle.dym_base.specs.Origins.{shared}
use Rattle.dym_quota.specs.QueueShape.{queue_name}
use Rattle.dym_script.specs.OwnCommands.{IsRunnable}
use Rattle.dym_slots.specs.Meanings.{KeepMeaning}
use Rattle.dym_wave.specs.States.{CanTakeBerth, IsFreshKeep}
use Rattle.dym_wave.specs.Works.{OriginMeaning, origin_of}
use Rattle.dym_wave.proofs.Making.{all_gone, gone_over, next_quota, numbered_more, part_shown, publisher_taken, still_lined, takes_more, told_view, AreNumbered}
use Rattle.dym_wave.proofs.work_list.make_works.Goals as goal

pub new-requires-clause-empty : goal.new-requires-clause-empty
new-requires-clause-empty g c =
    let inv = c.loop-berth.invariant in
    (publisher_taken _ _ c.args.options.report.views (deque_len c.pop_front.new.self) (deque_len c.loop-berth.berths) (vec_len c.loop-berth.publishers)
    c.loop-berth.publishers.items c.pop.new.self.items c.pop.result c.loop-berth.publishers.ok.0 c.pop.ensures.cases c.pop.ensures.items
    (omega (arith, c.in-Some.ensures.len)) inv.publishers).empty

pub loop-berth-preserved : goal.loop-berth-preserved
loop-berth-preserved g c =
    let options = c.args.options in
    let inv = c.loop-berth.invariant in
    let works = c.loop-berth.works.items in
    let origins = map origin_of works in
    let work = c.new.result in
    let o = work.origin in
    let is = c.new.ensures in
    let part = c.in-Some-pop_front.field-0 in
    let before = c.loop-berth.parts.items in
    let parts = c.pop_front-in-Some.new.self.items in
    let waiting = c.loop-berth.berths.items in
    let berth = c.in-Some.berth in
    let berths = c.pop_front.new.self.items in
    let keep = c.in-Some-pop_front-2.keep in
    let keeps = c.pop_front-in-Some-2.new.self.items in
    let first = c.in-Some-pop_front.ensures.items in
    let next = c.in-Some.ensures.items in
    let kept = c.in-Some-pop_front-2.ensures.items in
    let taken = publisher_taken _ _ options.report.views (deque_len c.pop_front.new.self) (deque_len c.loop-berth.berths) (vec_len c.loop-berth.publishers)
    c.loop-berth.publishers.items c.pop.new.self.items c.pop.result c.loop-berth.publishers.ok.0 c.pop.ensures.cases c.pop.ensures.items
    (omega (arith, c.in-Some.ensures.len)) inv.publishers in
    let put = ap (map origin_of) c.push_reserved.ensures.items ∙ map_push origin_of works work in
    let quota = next_quota (λ b. b.quota) berths waiting berth before parts part inv.lined.0 next first inv.lined.1 in
    let own_quota = ap (λ (x : OriginMeaning). x.object.quota) is in
    let shown = part_shown options part o (ap (λ (x : OriginMeaning). x.name) is) (ap (λ (x : OriginMeaning). x.object.version) is)
    (own_quota ∙ sym quota) (ap (λ (x : OriginMeaning). x.commands) is) (ap (λ (x : OriginMeaning). is_some x.history) is ∙ told_view c.pop.result ∙ taken.told) in
    record {
      taken = takes_more options c.args.makes_text c.args.parts.now.items before parts origins _ part o first put shown
          (ap (λ (x : OriginMeaning). x.quantum) is) (ap (λ (x : OriginMeaning). x.makes_text) is) inv.taken;
      runnable = All-rest IsRunnable part parts before first inv.runnable;
      lined = (inv.lined.0, still_lined (λ b. b.quota) berths waiting berth before parts part inv.lined.0 next first inv.lined.1);
      can_take = All-rest CanTakeBerth berth berths waiting next inv.can_take;
      fresh = All-rest IsFreshKeep keep keeps c.loop-berth.keeps.items kept inv.fresh;
      keeps = omega (arith, inv.keeps, c.in-Some-pop_front-2.ensures.len, c.in-Some.ensures.len);
      publishers = taken.left;
      quotas_are = subst (λ os. map (λ (x : OriginMeaning). x.object.quota) os ++ map (λ b. b.quota) berths ≡ map (λ b. b.quota) c.from_vec-berths.result.items) (sym put)
          (gone_over (λ (x : OriginMeaning). x.object.quota) (λ b. b.quota) origins o berth waiting berths _ next
          (ap (λ (x : OriginMeaning). x.object.quota) is) inv.quotas_are);
      supplies_are = subst (λ os. map (λ (x : OriginMeaning). x.object.supply) os ++ map (λ b. shared (queue_name b.pass)) berths
          ≡ map (λ b. shared (queue_name b.pass)) c.from_vec-berths.result.items) (sym put)
          (gone_over (λ (x : OriginMeaning). x.object.supply) (λ b. shared (queue_name b.pass)) origins o berth waiting berths _ next
          (ap (λ (x : OriginMeaning). x.object.supply) is) inv.supplies_are);
      keeps_are = subst (λ os. map (λ (x : OriginMeaning). x.object.keep) os ++ map (λ (k : KeepMeaning). k.origin) keeps
          ≡ map (λ (k : KeepMeaning). k.origin) c.from_vec-keeps.result.items) (sym put)
          (gone_over (λ (x : OriginMeaning). x.object.keep) (λ (k : KeepMeaning). k.origin) origins o keep c.loop-berth.keeps.items keeps _ kept
          (ap (λ (x : OriginMeaning). x.object.keep) is) inv.keeps_are);
      numbered = subst AreNumbered (sym put)
          (numbered_more origins o (omega (arith, ap (λ (x : OriginMeaning). x.number) is, c.len.ensures, c.loop-berth.works.ok.0, length-map works origin_of))
          inv.numbered);
      many = omega (arith, inv.many, c.push_reserved.ensures.len, c.in-Some.ensures.len);
      room = omega (arith, inv.room, c.push_reserved.ensures.capacity);
      capacity = omega (arith, inv.capacity, c.in-Some.ensures.capacity);
    }

pub returns-clause-places : goal.returns-clause-places
returns-clause-places g c =
    let inv = c.loop-berth.invariant in
    let origins = map origin_of c.loop-berth.works.items in
    let left = c.loop-berth.berths.items in
    let kept = c.loop-berth.keeps.items in
    let none = nil_from_length left (omega (arith, c.in_default.ensures.cases.0, c.loop-berth.berths.ok.0)) in
    let no_keeps = nil_from_length kept (omega (arith, c.in_default.ensures.cases.0, inv.keeps, c.loop-berth.keeps.ok.0)) in
    record {
      quotas = all_gone (λ (x : OriginMeaning). x.object.quota) (λ b. b.quota) origins left _ none inv.quotas_are
          ∙ ap (map (λ b. b.quota)) c.from_vec-berths.ensures.items;
      supplies = all_gone (λ (x : OriginMeaning). x.object.supply) (λ b. shared (queue_name b.pass)) origins left _ none inv.supplies_are
          ∙ ap (map (λ b. shared (queue_name b.pass))) c.from_vec-berths.ensures.items;
      keeps_are = all_gone (λ (x : OriginMeaning). x.object.keep) (λ (k : KeepMeaning). k.origin) origins kept _ no_keeps inv.keeps_are
          ∙ ap (map (λ (k : KeepMeaning). k.origin)) c.from_vec-keeps.ensures.items;
      numbers = inv.numbered;
    }
