-- The logs of an object, and the copies for which they stand, where events are undone.
use Rattle.std.proofs.Common.{◌≡◌, ℕ, ◌+◌, ◌<◌, ◌≤◌, inl, inr, false, nat_le, Option, Some, List, [], ◌∷◌}
use Rattle.std.proofs.Common.{◌++◌, length, take, drop, map, refl, ap, sym, subst, ◌∙◌, arith, append_assoc}
use Rattle.std.proofs.lemmas.Bool.{cases_Bool, false≢true, leb-false, lt-leb}
use Rattle.std.proofs.lemmas.List.{take-append-le, take-append-drop, map-append}
use Rattle.dym_base.specs.Heaps.{Live}
use Rattle.dym_undo_object.specs.Meaning.{UndoObjectMeaning}
use Rattle.warp_base.specs.declared.event.Event.{Event}
use Rattle.warp_base.specs.Events.{Each}
use Rattle.warp_base.specs.Histories.{Behaviour, state_after}
use Rattle.warp_base.proofs.Lists.{Each-append, Each-back, Each-filter, Each-weaker, filter_yes, filter_no, filter_none}
use Rattle.warp_process.specs.Savers.{until, AreAscending}
use Rattle.warp_process.specs.Processes.{ProcessFace, IsProcess, KeepsFirst, Stays, done_of}
use Rattle.warp_process.proofs.Runs.{take_less}
use Rattle.warp_process.proofs.Steps.{length-done}
use Rattle.warp_object.specs.declared.moment.Moment.{Moment}
use Rattle.warp_object.specs.Moments.{dated}
use Rattle.warp_object.specs.Processes.{HasLogs, IsKept, IsFaceOf, IsKnown, copy_pair}
use Rattle.warp_object.specs.Processes.{IsRecorded, inner, date_of}
use Rattle.warp_object.specs.declared.object_process.ObjectProcess.{ObjectProcess}

pub Each_map : {X Y : Type 0} (v : X → Y) (Q : Y → Type 0) (xs : List X) → Each (λ x. Q (v x)) xs → Each Q (map v xs)
Each_map v Q [] h = tt
Each_map v Q (x ∷ xs) h = (h.0, Each_map v Q xs h.1)

module _ {S : Type 0} where
  -- copies in the order of their dates are those until a date, and later ones
  pub record IsSplit (date : ℕ) (cs : List (ℕ × S)) : Type 0 where
    pub rest : List (ℕ × S)
    pub whole : cs ≡ until date cs ++ rest
    pub later : Each (λ (c : ℕ × S). date < c.0) rest

  pub split_until : (date : ℕ) (cs : List (ℕ × S)) → AreAscending cs → IsSplit date cs
  split_until date [] h = record { rest = []; whole = refl; later = tt }
  split_until date (c ∷ cs) h =
      let test = λ (d : ℕ × S). nat_le d.0 date in
      elim (cases_Bool (nat_le c.0 date)) as (λ _. IsSplit date (c ∷ cs)) [
        | inl soon ↦ (let s = split_until date cs h.1 in record {
          rest = s.rest;
          whole = ap (λ l. c ∷ l) s.whole ∙ ap (λ l. l ++ s.rest) (sym (filter_yes test c cs soon));
          later = s.later;
        })
        | inr late ↦ (let more = leb-false c.0 date late in let all = Each-weaker (λ (d : ℕ × S). c.0 < d.0)
            (λ (d : ℕ × S). date < d.0) (λ d less. omega (arith, less, more)) cs h.0 in record {
              rest = c ∷ cs;
              whole = ap (λ l. l ++ c ∷ cs) (sym (filter_no test c cs late
                  ∙ filter_none test cs (Each-weaker (λ (d : ℕ × S). date < d.0) (λ d. test d ≡ false)
                  (λ d after. lt-leb d.0 date after) cs all)));
              later = (more, all);
            })
      ]

  pub none_late : (date : ℕ) (cs : List (ℕ × S)) → Each (λ (c : ℕ × S). date < c.0) cs
      → Each (λ (c : ℕ × S). c.0 ≤ date) cs → cs ≡ []
  none_late date [] late soon = refl
  none_late date (c ∷ cs) late soon = let more = late.0 in let less = soon.0 in absurd (omega (arith, more, less))

-- a process in which no event is handed out is recorded where it is known
pub closed_recorded : {P : Type 0} (words : P → List ℕ) (p : ObjectProcess P) → p.is_open ≡ false
    → IsKnown words (inner p) p.reached → IsRecorded words p
closed_recorded words p is_closed known = record {
  known = known;
  handed_out = λ is_open. absurd (false≢true (sym is_closed ∙ is_open));
}

module _ {P : Type 0} (f g : ProcessFace P Moment) (reached new : Option ℕ) (k : KeepsFirst f g)
    (still : IsKept reached new (date_of g)) where
  date_is : date_of g ≡ f.first_date + length f.fossils + length g.marks
  date_is = let first = k.first_date in let fossils = ap length k.fossils in omega (arith, first, fossils)

  date_less : date_of g ≤ date_of f
  date_less = let is = date_is in let few = k.few in omega (arith, is, few)

  undone_logs : (o : UndoObjectMeaning) → AreAscending f.copies
      → ((r : ℕ) → reached ≡ Some r → Each (λ (c : ℕ × Moment). c.0 ≤ r) f.copies) → HasLogs o f reached
      → HasLogs o g new
  undone_logs o ascending late h =
      let date = f.first_date + length f.fossils + length g.marks in
      let is = date_is in
      let less = date_less in
      let s = split_until date f.copies ascending in
      record {
        undone = map copy_pair s.rest ++ h.undone;
        logs = h.logs ∙ ap (λ l. map copy_pair l ++ h.undone) s.whole
            ∙ ap (λ l. l ++ h.undone) (map-append copy_pair (until date f.copies) s.rest)
            ∙ append_assoc (map copy_pair (until date f.copies)) (map copy_pair s.rest) h.undone
            ∙ ap (λ l. map copy_pair l ++ (map copy_pair s.rest ++ h.undone)) (sym k.copies);
        behind = Each-append (λ (c : ℕ × Live). date_of g < c.0) (map copy_pair s.rest) h.undone
            (Each_map copy_pair (λ (c : ℕ × Live). date_of g < c.0) s.rest (Each-weaker (λ (c : ℕ × Moment). date < c.0) (λ (c : ℕ × Moment). date_of g < c.0) (λ c more. omega (arith, more, is)) s.rest s.later))
            (Each-weaker (λ (c : ℕ × Live). date_of f < c.0) (λ (c : ℕ × Live). date_of g < c.0)
            (λ c more. omega (arith, more, less)) h.undone h.behind);
        none = λ r at.
            let here = still.kept r at in
            let soon = here.1 in
            let all = Each-back (λ (c : ℕ × Moment). c.0 ≤ r)
            (until date f.copies) s.rest (subst (Each (λ (c : ℕ × Moment). c.0 ≤ r)) s.whole (late r here.0)) in
            let gone = none_late date s.rest s.later (Each-weaker (λ (c : ℕ × Moment). c.0 ≤ r)
            (λ (c : ℕ × Moment). c.0 ≤ date) (λ c few. omega (arith, few, soon, is)) s.rest all) in
            ap (λ l. map copy_pair l ++ h.undone) gone ∙ h.none r here.0;
      }

  -- what is run still is the beginning of what was
  front_is : (past : List (Event P)) → done_of past f ≡ done_of past g ++ drop (length g.marks)
      (take (length f.marks) f.events)
  front_is past =
      let ran = take (length f.marks) f.events in
      let rest = drop (length g.marks) ran in
      let front : take (length g.marks) ran ≡ take (length g.marks) g.events = take_less (length g.marks)
      (length f.marks) f.events k.few ∙ sym k.ran in
      ap (λ l. past ++ l) (sym (take-append-drop (length g.marks) ran))
      ∙ sym (append_assoc past (take (length g.marks) ran) rest) ∙ ap (λ l. (past ++ l) ++ rest) front

  pub undone_of : (words : P → List ℕ) (b : Behaviour P Live) (past : List (Event P)) (o : UndoObjectMeaning)
      → ((r : ℕ) → reached ≡ Some r → Each (λ (c : ℕ × Moment). c.0 ≤ r) f.copies) → g.number ≡ f.number
      → IsProcess words (dated b) past g → IsFaceOf words b past o f reached → IsFaceOf words b past o g new
  undone_of words b past o late number now h = record {
    process = now;
    logs = undone_logs o h.process.ascending late h.logs;
    state = λ r at.
        let here = still.kept r at in
        let soon = here.1 in
        let long = length-done words (dated b) past g now in
        let dates = now.dates in
        let rest = drop (length g.marks) (take (length f.marks) f.events) in
        h.state r here.0 ∙ ap (λ l. state_after b f.number (take r l)) (front_is past)
        ∙ ap (state_after b f.number) (take-append-le r (done_of past g) rest (omega (arith, soon, long, dates)))
        ∙ ap (λ n. state_after b n (take r (done_of past g))) (sym number);
  }

  pub undone_known : (words : P → List ℕ) → Stays words f g → IsKnown words f reached → IsKnown words g new
  undone_known words stays h = record {
    behaviour = h.behaviour;
    past = h.past;
    looks_ahead = h.looks_ahead;
    starts = h.starts;
    counts = h.counts;
    faultless = h.faultless;
    process = stays h.behaviour h.past h.process;
    late = λ r at. subst (Each (λ (c : ℕ × Moment). c.0 ≤ r)) (sym k.copies)
        (Each-filter (λ (c : ℕ × Moment). nat_le c.0 (f.first_date + length f.fossils + length g.marks))
        (λ (c : ℕ × Moment). c.0 ≤ r) f.copies (h.late r (still.kept r at).0));
    soon = λ r at. (still.kept r at).1;
    fresh = λ fresh.
        let was = k.fresh fresh in
        let marks = was.1 in
        let is = date_is in
        let same : date_of f ≡ date_of g = omega (arith, is, marks) in
        still.stays (date_of g) (h.fresh was.0 ∙ ap Some same) (omega arith);
  }
