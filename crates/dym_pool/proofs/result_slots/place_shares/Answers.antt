use Rattle.std.proofs.Common.{rules, arith, ◌<◌, List, ℕ, suc, All, length, sym, subst}
use Rattle.std.specs.List.{flat_map}
use Rattle.dym_pool.specs.Holdings.{Holding}
use Rattle.dym_pool.specs.Shares.{ResultsEnded}
use Rattle.dym_pool.proofs.Gathering.{boxes_fit, places_more}
use Rattle.dym_pool.proofs.Places.{flat-push}
use Rattle.dym_pool.proofs.result_slots.place_shares.Given as given
use Rattle.dym_pool.proofs.result_slots.place_shares.Goals as goal

module _ (g : given.Over) where
  abbrev Fits : ℕ → Holding g.row.J-Origin.Denot → Type 0
  Fits n s = All (λ (x : ℕ × g.row.J-Origin.Denot). x.0 < n) s.hand

pub place-requires : goal.place-requires
place-requires g c =
    let here = subst (All (Fits g (length c.args.slots.now))) c.in-Some.ensures.steps.0 c.loop-share.invariant.fits 0 c.in-Some.share (omega arith) in (
      search rules,
      boxes_fit g.J.Job.number_of g.J.Job.left_of g.J.Job.origin_of c.into_ended.result.items c.in-Some.share.hand (length c.loop-share.slots) c.into_ended.ensures.labels
          (subst (λ (n : ℕ). Fits g n c.in-Some.share) (sym c.loop-share.auto.slots) here),
    )

pub loop-share-preserved : goal.loop-share-preserved
loop-share-preserved g c = record {
  places = subst (λ (labels : List (ℕ × g.row.J-Origin.Denot)). ResultsEnded g.J.Job.number_of g.J.Job.left_of g.J.Job.origin_of labels c.args.slots.now c.place.new.slots) (sym (flat-push (λ (s : Holding g.row.J-Origin.Denot). s.hand) c.loop-share.yielded c.in-Some.share))
      (places_more g.J.Job.number_of g.J.Job.left_of g.J.Job.origin_of (flat_map (λ (s : Holding g.row.J-Origin.Denot). s.hand) c.loop-share.yielded) c.in-Some.share.hand c.args.slots.now c.loop-share.slots c.place.new.slots c.into_ended.result.items
      c.loop-share.invariant.places c.into_ended.ensures.labels c.into_ended.ensures.ended c.place.ensures);
  fits = λ k d l. subst (All (Fits g (length c.args.slots.now))) c.in-Some.ensures.steps.0 c.loop-share.invariant.fits (suc k) d (omega arith);
}
