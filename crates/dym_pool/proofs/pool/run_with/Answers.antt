use Rattle.std.proofs.Common.{arith, ◌≡◌, ◌+◌, ◌*◌, ◌<◌, ◌/◌, List, ℕ, length, vec_len, refl, subst, sym, ap, ◌∙◌}
use Rattle.std.proofs.Math.Nat.{lt-mul-div-succ}
use Rattle.std.proofs.lemmas.List.{length-replicate}
use Rattle.std.specs.List.{flat_map}
use Rattle.dym_pool.specs.Holdings.{Holding, KeepsDeque}
use Rattle.dym_pool.proofs.Gathering.{all_finished, every_job_back, gathered_dealt, gathered_stays, names_ended, numbers_below, numbers_stay}
use Rattle.dym_pool.proofs.Keeping.{guests_after, ways_whole}
use Rattle.dym_pool.proofs.Zips.{zip-length}
use Rattle.dym_pool.proofs.pool.run_with.Given as given
use Rattle.dym_pool.proofs.pool.run_with.Goals as goal

module _ (g : given.Over) where
  abbrev listed : Holding g.row.J-Origin.Denot → List (ℕ × g.row.J-Origin.Denot)
  listed s = s.list

  abbrev ended : Holding g.row.J-Origin.Denot → List (ℕ × g.row.J-Origin.Denot)
  ended s = s.hand

pub distribute-requires-clause-room : goal.distribute-requires-clause-room
distribute-requires-clause-room g c κs within =
    let few = lt-mul-div-succ c.len-count.result {b = c.args.workers} c.requires.some in
    let boxes : vec_len c.pack.new.boxes ≡ c.len-count.result = c.in_ok-pack.ensures.len ∙ sym c.len-count.ensures in (
      c.len-count.result / c.args.workers + 1,
      subst (λ k. vec_len c.pack.new.boxes < k * (c.len-count.result / c.args.workers + 1)) (sym c.in_ok-shares.ensures.len) (omega (arith, few, boxes)),
      c.in_ok-shares.ensures.each,
    )

pub run_all-requires-clause-some : goal.run_all-requires-clause-some
run_all-requires-clause-some g c κs within =
    omega (arith, c.requires.some, c.in_ok-shares.ensures.len, zip-length KeepsDeque _ _ c.distribute.ensures.ways, c.in_ok-shares.shares.ok.0, c.distribute.new.shares.ok.0)

pub run_all-requires-clause-most : goal.run_all-requires-clause-most
run_all-requires-clause-most g c κs within =
    omega (arith, c.requires.most, c.in_ok-shares.ensures.len, zip-length KeepsDeque _ _ c.distribute.ensures.ways, c.in_ok-shares.shares.ok.0, c.distribute.new.shares.ok.0)

pub run_all-requires-clause-whole : goal.run_all-requires-clause-whole
run_all-requires-clause-whole g c κs within = ways_whole _ _ c.distribute.ensures.ways (λ k d l. (c.in_ok-shares.ensures.each k d l).1)

pub run_all-requires-clause-rows : goal.run_all-requires-clause-rows
run_all-requires-clause-rows g c κs within =
    omega (arith, c.in_ok-rows.ensures.len, zip-length KeepsDeque _ _ c.distribute.ensures.ways, c.in_ok-shares.shares.ok.0, c.distribute.new.shares.ok.0)

pub run_all-requires-clause-guests : goal.run_all-requires-clause-guests
run_all-requires-clause-guests g c κs within = guests_after (λ row. row.items) c.in_ok-shares.shares.items c.distribute.new.shares.items c.in_ok-rows.rows.items c.distribute.ensures.ways c.in_ok-rows.ensures.guests

pub run_all-requires-clause-room : goal.run_all-requires-clause-room
run_all-requires-clause-room g c κs within =
    omega (arith, c.in_ok-worker_list.ensures.capacity, c.in_ok-shares.ensures.len, zip-length KeepsDeque _ _ c.distribute.ensures.ways, c.in_ok-shares.shares.ok.0, c.distribute.new.shares.ok.0)

pub gather-requires-clause-numbers : goal.gather-requires-clause-numbers
gather-requires-clause-numbers g c κs within =
    let job = g.J.Job in
    let n = length c.args.jobs.now.items in
    let hands = flat_map (ended g) c.run_all.new.shares.items in
    let count : vec_len c.in_ok-slots.slots ≡ n = c.in_ok-slots.slots.ok.0 ∙ ap length c.in_ok-slots.ensures ∙ length-replicate c.len-count.result _ ∙ c.len-count.ensures ∙ c.args.jobs.now.ok.0 in
    let named = numbers_below job.number_of job.left_of job.origin_of c.args.jobs.now.items c.pack.new.boxes.items _ c.requires.numbered c.in_ok-pack.ensures.packed c.distribute.ensures.dealt in
    numbers_stay (vec_len c.in_ok-slots.slots) n hands hands count refl (names_ended n (flat_map (listed g) c.distribute.new.shares.items) hands (all_finished _ _ c.run_all.ensures.finished) named)

pub returns-clause-back : goal.returns-clause-back
returns-clause-back g c =
    let job = g.J.Job in
    let dealt = flat_map (listed g) c.distribute.new.shares.items in
    let hands = flat_map (ended g) c.run_all.new.shares.items in
    let n = length c.args.jobs.now.items in
    let after = c.gather.new.jobs.items in
    let count : vec_len c.in_ok-slots.slots ≡ n = c.in_ok-slots.slots.ok.0 ∙ ap length c.in_ok-slots.ensures ∙ length-replicate c.len-count.result _ ∙ c.len-count.ensures ∙ c.args.jobs.now.ok.0 in
    let gathered = gathered_stays job.number_of job.left_of job.origin_of (vec_len c.in_ok-slots.slots) n hands hands after count refl c.gather.ensures.back in
    every_job_back job.number_of job.left_of job.origin_of c.args.jobs.now.items after c.pack.new.boxes.items dealt c.requires.numbered c.in_ok-pack.ensures.packed c.distribute.ensures.dealt
    (gathered_dealt job.number_of job.left_of job.origin_of n dealt hands after (all_finished _ _ c.run_all.ensures.finished) gathered)
