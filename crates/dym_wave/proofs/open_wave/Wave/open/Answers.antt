use Rattle.std.proofs.Common.{◌≤◌, ℕ, length, sum, map, arith, ap, sym, ◌∙◌}
use Rattle.std.proofs.lemmas.List.{length-map, length-take-le}
use Rattle.std.proofs.lemmas.List.Sums.{sum-map}
use Rattle.dym_base.specs.declared.limits.TheConstants.{MOST_QUOTA}
use Rattle.dym_region.specs.contracts.raw_segment.RawSegmentSegment.TheImpl.{ghosts}
use Rattle.dym_wave.proofs.Lists.{all_images}
use Rattle.dym_wave.proofs.Tables.{placed_of_wave, placed_many}
use Rattle.dym_wave.proofs.open_wave.Wave.open.Goals as goal

pub make_works-works-requires-clause-can_take : goal.make_works-works-requires-clause-can_take
make_works-works-requires-clause-can_take g c k d w =
    let it = c.in_ok-queue.ensures in
    let each = all_images (λ b. b.quota) (λ q. (1 ≤ q) × (q ≤ MOST_QUOTA)) c.in_ok-queue.berths.items c.args.quotas.now it.quotas c.requires.each_quota k d w in
    (it.nothing_held k d w, each.0, each.1)

pub invariant_of-result : goal.invariant_of-result
invariant_of-result g c =
    let berths = c.in_ok-queue.berths in
    let queue = c.in_ok-queue.queue in
    let it = c.in_ok-queue.ensures in
    let made = c.make_works-works.ensures in
    let works = c.make_works-works.result.0 in
    let ends = c.in-Ok.ends.0 in
    let sweepers = c.in-Ok.ends.1.sweepers.items in
    let count = sym (length-map berths.items (λ b. b.quota)) ∙ ap {B = ℕ} length it.quotas in
    let many = placed_many berths.items ends.keeps.items works.items made.places in
    let stocked = ap {B = ℕ} length it.stocked ∙ length-take-le (sum c.args.quotas.now) (map ghosts.id c.args.segments.items)
    (omega (arith, c.requires.enough, c.args.segments.ok.0, length-map c.args.segments.items ghosts.id)) in
    record {
      none = made.none;
      room = omega (arith, many, made.room, works.ok.0, berths.ok.0, berths.ok.1);
      few = omega (arith, many, c.requires.few, count, works.ok.0);
      of_wave = placed_of_wave queue berths.items ends.keeps.items sweepers _ it.origin
          (sym (sum-map (λ b. b.quota) berths.items) ∙ ap sum it.quotas ∙ sym stocked) c.in-Ok.ensures.tables made.places;
    }
