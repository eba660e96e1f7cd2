-- The events that stay run are the first of those that were, and so are the copies.
use Rattle.std.proofs.Common.{◌≡◌, ℕ, suc, ◌+◌, ◌≤◌, true, false, nat_le, Option, Some, List, ◌∷◌, ◌++◌, length, take, drop, slice_get, refl, ap, sym, ◌∙◌, arith}
use Rattle.std.proofs.lemmas.Bool.{le-leb}
use Rattle.std.proofs.lemmas.List.{take-append-le, length-take-le}
use Rattle.std.proofs.lemmas.Option.{slice_get_within}
use Rattle.std.specs.List.{insert, remove}
use Rattle.warp_base.specs.declared.event.Event.{Event}
use Rattle.warp_base.specs.Histories.{Behaviour}
use Rattle.warp_base.proofs.Lists.{filter_all, Each-weaker}
use Rattle.warp_process.specs.Savers.{until}
use Rattle.warp_process.specs.Processes.{ProcessFace, IsProcess, IsCopy, KeepsFirst, done_of}
use Rattle.warp_process.proofs.Runs.{take_less}
use Rattle.warp_process.proofs.Steps.{length-done}

module _ {P S : Type 0} (words : P → List ℕ) (b : Behaviour P S) (past : List (Event P)) (f : ProcessFace P S) (h : IsProcess words b past f) where
  all_until : until (f.first_date + length f.fossils + length f.marks) f.copies ≡ f.copies
  all_until =
      let date = f.first_date + length f.fossils + length f.marks in
      let done = length-done words b past f h in
      let dates = h.dates in
      filter_all (λ (c : ℕ × S). nat_le c.0 date) f.copies
      (Each-weaker (IsCopy b f.number (done_of past f)) (λ (c : ℕ × S). nat_le c.0 date ≡ true) (λ c is. let soon = is.0 in le-leb c.0 date (omega (arith, soon, done, dates))) f.copies h.kept)

  -- where nothing is undone
  pub keeps_all : KeepsFirst f f
  keeps_all = record {
    few = omega arith;
    ran = refl;
    first_date = refl;
    fossils = refl;
    copies = sym all_until;
    state = refl;
    fresh = λ fresh. (fresh, refl);
  }

module _ {P S : Type 0} (f : ProcessFace P S) where
  pub keeps_back : (keep date serial : ℕ) (new_state : S) (new_marks : List ℕ) (new_sent : List (Event P)) (new_copies : List (ℕ × S)) (new_fault : Option ℕ) → keep ≤ length f.marks → date ≡ f.first_date + length f.fossils + keep → new_marks ≡ take keep f.marks → new_copies ≡ until date f.copies → new_state ≡ f.state → KeepsFirst f (record f { marks = new_marks; sent = new_sent; serial = serial; copies = new_copies; is_stale = true; state = new_state; fault = new_fault })
  keeps_back keep date serial new_state new_marks new_sent new_copies new_fault within date_is marks_are copies_are state_is =
      let count : length new_marks ≡ keep = ap length marks_are ∙ length-take-le keep f.marks within in
      let at : date ≡ f.first_date + length f.fossils + length new_marks = omega (arith, date_is, count) in
      record {
        few = omega (arith, count, within);
        ran = refl;
        first_date = refl;
        fossils = refl;
        copies = copies_are ∙ ap (λ d. until d f.copies) at;
        state = state_is;
        fresh = λ fresh. absurd (both fresh);
      }
    where
      both : true ≡ false → ⊥
      both against = cc

  module _ (g : ProcessFace P S) (k : KeepsFirst f g) (place : ℕ) (few : length g.marks ≤ place) where
    keeps_at : (ys new_events : List (Event P)) → place ≤ length g.events → new_events ≡ take place g.events ++ ys → KeepsFirst f (record g { events = new_events })
    keeps_at ys new_events within is =
        let long = length-take-le place g.events within in
        record {
          few = k.few;
          ran = ap (take (length g.marks)) is ∙ take-append-le (length g.marks) (take place g.events) ys (omega (arith, long, few)) ∙ take_less (length g.marks) place g.events few ∙ k.ran;
          first_date = k.first_date;
          fossils = k.fossils;
          copies = k.copies;
          state = k.state;
          fresh = k.fresh;
        }

    pub keeps_insert : (e : Event P) (new_events : List (Event P)) → place ≤ length g.events → new_events ≡ insert g.events place e → KeepsFirst f (record g { events = new_events })
    keeps_insert e new_events within is = keeps_at (e ∷ drop place g.events) new_events within is

    pub keeps_remove : (e : Event P) (new_events : List (Event P)) → slice_get g.events place ≡ Some e → new_events ≡ remove g.events place → KeepsFirst f (record g { events = new_events })
    keeps_remove e new_events there is =
        let within = slice_get_within g.events place e there in
        keeps_at (drop (suc place) g.events) new_events (omega (arith, within)) is
