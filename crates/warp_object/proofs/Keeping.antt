-- What a process over an object comes to, where a log of the object is taken, and where logs are dropped.
use Rattle.std.proofs.Common.{◌≡◌, ℕ, ◌<◌, ◌≤◌, false, Option, Some, List, [], ◌∷◌}
use Rattle.std.proofs.Common.{◌++◌, length, take, map, refl, ap, sym, subst, ◌∙◌, arith, append_assoc}
use Rattle.std.proofs.lemmas.Option.{same_Some}
use Rattle.std.proofs.lemmas.List.{append-nil, map-append, take_all}
use Rattle.dym_base.specs.Heaps.{Live}
use Rattle.dym_base.specs.Objects.{ObjectState, new_entry, log, prune}
use Rattle.dym_base.specs.declared.command.Version.{Version}
use Rattle.dym_base.specs.declared.command.Kind.{Kind}
use Rattle.dym_undo.specs.Answers.{IsLoggedAs}
use Rattle.dym_undo_object.specs.Meaning.{UndoObjectMeaning, state_of}
use Rattle.warp_base.specs.declared.event.Event.{Event}
use Rattle.warp_base.specs.Events.{Each}
use Rattle.warp_base.specs.Histories.{Behaviour, state_after}
use Rattle.warp_base.proofs.Lists.{Each-append, Each-back, Each-weaker}
use Rattle.warp_process.proofs.Catching.{saved}
use Rattle.warp_process.specs.Savers.{AreAscending, KeepsFrom}
use Rattle.warp_process.specs.Processes.{ProcessFace, IsProcess, HasCommitted, done_of}
use Rattle.warp_object.specs.declared.moment.Moment.{Moment}
use Rattle.warp_object.specs.Moments.{dated}
use Rattle.warp_object.specs.Processes.{IsFaceOf, IsKnown, log_pair, copy_pair, copies_of, logs_of, date_of}
use Rattle.warp_object.proofs.Behaviours.{dated_after}
use Rattle.warp_object.proofs.Ledgers.{Each_map}
use Rattle.warp_object.proofs.Logs.{taken, taken_is, pruned_is}
use Rattle.warp_object.proofs.Stepping.{date_done}

module _ {P : Type 0} (words : P → List ℕ) (f g : ProcessFace P Moment) where
  -- a log was taken of the object, and is a copy more
  pub logged_of : (b : Behaviour P Live) (past : List (Event P)) (old o : UndoObjectMeaning) (version : Version)
      (kind k : Kind) (date : ℕ) → date ≡ date_of f → IsLoggedAs k (log version (state_of old) date kind).reply
      → state_of o ≡ (log version (state_of old) date kind).object → f.is_stale ≡ false
      → g ≡ record f { copies = f.copies ++ (date, f.state) ∷ [] } → IsProcess words (dated b) past g
      → IsFaceOf words b past old f (Some date) → IsFaceOf words b past o g (Some date)
  logged_of b past old o version kind k date date_is told step fresh g_is now h =
      let done = done_of past f in
      let all = date_done words (dated b) past f h.process in
      let is : state_of o ≡ taken (state_of old) date kind = step ∙ taken_is version (state_of old) date kind k told in
      let live : old.heap.state.live ≡ state_after b f.number done = h.state date refl
      ∙ ap (state_after b f.number) (take_all date done (omega (arith, date_is, all))) in
      let state : f.state.seen.1 ≡ state_after b f.number done = ap (λ (m : Moment). m.seen.1)
      (h.process.state fresh ∙ dated_after b f.number done) in
      let copies : copies_of g ≡ copies_of f ++ (date, old.heap.state.live) ∷ [] = ap copies_of g_is
      ∙ map-append copy_pair f.copies ((date, f.state) ∷ [])
      ∙ ap (λ (l : Live). copies_of f ++ (date, l) ∷ []) (state ∙ sym live) in
      let none = h.logs.none date refl in
      let logs : logs_of old ≡ copies_of f = h.logs.logs ∙ ap (λ l. copies_of f ++ l) none ∙ append-nil (copies_of f) in
      let same_done : done ≡ done_of past g = ap (done_of past) (sym g_is) in
      let number : f.number ≡ g.number = ap (λ (x : ProcessFace P Moment). x.number) (sym g_is) in
      record {
        process = now;
        logs = record {
          undone = [];
          logs = ap (λ (t : ObjectState). map log_pair t.logs) is
              ∙ map-append log_pair old.logs (new_entry (state_of old) date kind ∷ [])
              ∙ ap (λ l. l ++ (date, old.heap.state.live) ∷ []) logs ∙ sym copies ∙ sym (append-nil (copies_of g));
          behind = tt;
          none = λ r at. refl;
        };
        state = λ r at. ap (λ (t : ObjectState). t.heap.live) is ∙ h.state r at
            ∙ ap (λ l. state_after b f.number (take r l)) same_done
            ∙ ap (λ n. state_after b n (take r (done_of past g))) number;
      }

  -- the process, with a copy more, stays what it is
  pub logged_process : (b : Behaviour P Moment) (past : List (Event P)) (date : ℕ) → date ≡ date_of f
      → f.is_stale ≡ false → g ≡ record f { copies = f.copies ++ (date, f.state) ∷ [] }
      → Each (λ (c : ℕ × Moment). c.0 < date) f.copies → IsProcess words b past f → IsProcess words b past g
  logged_process b past date date_is fresh g_is older h =
      subst (IsProcess words b past) (sym g_is)
      (saved words b past f h date f.state (f.copies ++ (date, f.state) ∷ []) fresh date_is refl older refl)

  pub logged_known : (date : ℕ) → date ≡ date_of f → g ≡ record f { copies = f.copies ++ (date, f.state) ∷ [] }
      → (h : IsKnown words f (Some date)) → IsProcess words h.behaviour h.past g → IsKnown words g (Some date)
  logged_known date date_is g_is h now =
      let same : date_of f ≡ date_of g = ap date_of (sym g_is) in
      record {
        behaviour = h.behaviour;
        past = h.past;
        looks_ahead = h.looks_ahead;
        starts = h.starts;
        counts = h.counts;
        faultless = h.faultless;
        process = now;
        late = λ r at.
            let r_is = same_Some date r at in
            subst (λ (x : ProcessFace P Moment). Each (λ (c : ℕ × Moment). c.0 ≤ r) x.copies) (sym g_is)
            (Each-append (λ (c : ℕ × Moment). c.0 ≤ r) f.copies ((date, f.state) ∷ []) (h.late r at)
            (omega (arith, r_is), tt));
        soon = λ r at. let few = h.soon r at in omega (arith, few, same);
        fresh = λ fresh. ap Some (date_is ∙ same);
      }

  -- the logs of an object that is what events that stand made of it are older than a date, where all copies are
  pub logs_before : (b : Behaviour P Live) (past : List (Event P)) (old : UndoObjectMeaning) (date r : ℕ)
      → Each (λ (c : ℕ × Moment). c.0 < date) f.copies → IsFaceOf words b past old f (Some r)
      → Each (λ (c : ℕ × Live). c.0 < date) (logs_of old)
  logs_before b past old date r before h =
      let logs = h.logs.logs ∙ ap (λ l. copies_of f ++ l) (h.logs.none r refl) ∙ append-nil (copies_of f) in
      subst (Each (λ (c : ℕ × Live). c.0 < date)) (sym logs)
      (Each_map copy_pair (λ (c : ℕ × Live). c.0 < date) f.copies before)

  module _ (reached : Option ℕ) (last : ℕ) (out new_out : List (Event P))
      (done : HasCommitted words last f g out new_out) (before : ℕ)
      (keeps : KeepsFrom f.copies before g.first_date g.copies) where
    -- as many are run as were
    pub same_date : (b : Behaviour P Moment) (past : List (Event P)) → IsProcess words b past f → date_of g ≡ date_of f
    same_date b past h =
        let now = done.process b past h in
        let new = date_done words b (past ++ done.gone) g now in
        let old = date_done words b past f h in
        let same = ap length (done.same_done past) in
        omega (arith, new, old, same)

    -- the object's logs before the oldest copy that is left were dropped
    pub committed_of : (b : Behaviour P Live) (past : List (Event P)) (old o : UndoObjectMeaning)
        → state_of o ≡ (prune (state_of old) g.first_date).object → IsFaceOf words b past old f reached
        → IsFaceOf words b (past ++ done.gone) o g reached
    committed_of b past old o step h =
        let now = done.process (dated b) past h.process in
        let date = same_date (dated b) past h.process in
        let gone = map copy_pair keeps.gone in
        let later = map copy_pair keeps.later in
        let oldest : ℕ × Live = (g.first_date, keeps.oldest.seen.1) in
        let all : copies_of f ≡ gone ++ oldest ∷ later = ap (map copy_pair) keeps.whole
        ∙ map-append copy_pair keeps.gone g.copies ∙ ap (λ l. gone ++ map copy_pair l) keeps.first in
        let logs : logs_of old ≡ gone ++ oldest ∷ (later ++ h.logs.undone) = h.logs.logs
        ∙ ap (λ l. l ++ h.logs.undone) all ∙ append_assoc gone (oldest ∷ later) h.logs.undone in
        let up = subst AreAscending (keeps.whole ∙ ap (λ l. keeps.gone ++ l) keeps.first) h.process.ascending in
        let dates = now.dates in
        let soon = Each_map copy_pair (λ (c : ℕ × Live). c.0 ≤ g.first_date) keeps.gone (before_all keeps.gone (g.first_date, keeps.oldest) keeps.later up) in
        let late = Each-append (λ (c : ℕ × Live). g.first_date < c.0) later h.logs.undone
        (Each_map copy_pair (λ (c : ℕ × Live). g.first_date < c.0) keeps.later (behind_all keeps.gone (g.first_date, keeps.oldest) keeps.later up))
        (Each-weaker (λ (c : ℕ × Live). date_of f < c.0) (λ (c : ℕ × Live). g.first_date < c.0)
        (λ c more. omega (arith, more, date)) h.logs.undone h.logs.behind) in
        let left = pruned_is (state_of old) g.first_date keeps.oldest.seen.1 gone (later ++ h.logs.undone) logs soon late in
        let copies : copies_of g ≡ oldest ∷ later = ap (map copy_pair) keeps.first in
        record {
          process = now;
          logs = record {
            undone = h.logs.undone;
            logs = ap (λ (t : ObjectState). map log_pair t.logs) step ∙ left
                ∙ ap (λ l. l ++ h.logs.undone) (sym copies);
            behind = Each-weaker (λ (c : ℕ × Live). date_of f < c.0) (λ (c : ℕ × Live). date_of g < c.0)
                (λ c more. omega (arith, more, date)) h.logs.undone h.logs.behind;
            none = h.logs.none;
          };
          state = λ r at. ap (λ (t : ObjectState). t.heap.live) step ∙ h.state r at
              ∙ ap (λ l. state_after b f.number (take r l)) (sym (done.same_done past))
              ∙ ap (λ n. state_after b n (take r (done_of (past ++ done.gone) g))) (sym done.number);
        }
      where
        before_all : (xs : List (ℕ × Moment)) (c : ℕ × Moment) (ys : List (ℕ × Moment)) → AreAscending (xs ++ c ∷ ys)
            → Each (λ (d : ℕ × Moment). d.0 ≤ c.0) xs
        before_all [] c ys h = tt
        before_all (x ∷ xs) c ys h = (let less = (Each-back (λ (d : ℕ × Moment). x.0 < d.0) xs (c ∷ ys) h.0).0 in omega (arith, less), before_all xs c ys h.1)

        behind_all : (xs : List (ℕ × Moment)) (c : ℕ × Moment) (ys : List (ℕ × Moment)) → AreAscending (xs ++ c ∷ ys)
            → Each (λ (d : ℕ × Moment). c.0 < d.0) ys
        behind_all [] c ys h = h.0
        behind_all (x ∷ xs) c ys h = behind_all xs c ys h.1

    pub committed_known : g.is_stale ≡ f.is_stale → (h : IsKnown words f reached) → IsKnown words g reached
    committed_known stale h =
        let date = same_date h.behaviour h.past h.process in
        record {
          behaviour = h.behaviour;
          past = h.past ++ done.gone;
          looks_ahead = h.looks_ahead;
          starts = h.starts;
          counts = h.counts;
          faultless = h.faultless;
          process = done.process h.behaviour h.past h.process;
          late = λ r at. Each-back (λ (c : ℕ × Moment). c.0 ≤ r) keeps.gone g.copies (subst (Each (λ (c : ℕ × Moment). c.0 ≤ r)) keeps.whole (h.late r at));
          soon = λ r at. let few = h.soon r at in omega (arith, few, date);
          fresh = λ fresh. h.fresh (sym stale ∙ fresh) ∙ ap Some (sym date);
        }
