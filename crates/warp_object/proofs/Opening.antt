-- A process over an object that has run nothing.
use Rattle.std.proofs.Common.{◌≡◌, ℕ, ◌<◌, ◌≤◌, false, Some, List, [], ◌∷◌, ◌++◌, length, take, map}
use Rattle.std.proofs.Common.{refl, ap, sym, subst, ◌∙◌, arith}
use Rattle.std.proofs.lemmas.Option.{same_Some}
use Rattle.dym_base.specs.Heaps.{Live}
use Rattle.dym_base.specs.Objects.{LogEntry, ObjectState, new_entry, log}
use Rattle.dym_base.specs.declared.command.Version.{Version}
use Rattle.dym_base.specs.declared.command.Kind.{Kind}
use Rattle.dym_undo.specs.Answers.{IsLoggedAs}
use Rattle.dym_undo_object.specs.Meaning.{UndoObjectMeaning, state_of}
use Rattle.warp_base.specs.declared.event.Draft.{Draft}
use Rattle.warp_base.specs.Events.{Each}
use Rattle.warp_base.specs.Histories.{Behaviour, state_after}
use Rattle.warp_base.proofs.Lists.{Each-weaker}
use Rattle.warp_process.specs.Savers.{AreAscending}
use Rattle.warp_process.specs.Processes.{ProcessFace, IsProcess, IsCopy, done_of}
use Rattle.warp_object.specs.declared.moment.Moment.{Moment}
use Rattle.warp_object.specs.Moments.{moment, dated}
use Rattle.warp_object.specs.Processes.{IsFaceOf, IsKnown, log_pair, copy_pair, copies_of, date_of}
use Rattle.warp_object.proofs.Behaviours.{dated_after}
use Rattle.warp_object.proofs.Ledgers.{none_late}
use Rattle.warp_object.proofs.Logs.{taken, taken_is}
use Rattle.warp_object.proofs.Stepping.{date_done}

pub moment_is : (m : Moment) (n : ℕ) (live : Live) → m.seen ≡ (n, live) → m ≡ moment n live
moment_is m n live is = ap (λ (v : ℕ × Live). moment v.0 v.1) is

-- a behaviour that starts so, and does nothing
abbrev pub idle : {P : Type 0} → Live → List (Draft P) → Behaviour P Live
idle live drafts = record {
  start = λ p. live;
  firsts = λ p. drafts;
  after = λ p s e. s;
  drafts = λ p s e. [];
  faulty = λ s. false;
}

module _ {P : Type 0} (words : P → List ℕ) (f : ProcessFace P Moment) (none : f.events ≡ []) where
  nothing_done : (b : Behaviour P Moment) → IsProcess words b [] f → length (done_of [] f) ≡ 0
  nothing_done b h = let few = h.ran_within in let long = ap length none in let date = date_done words b [] f h in let dates = h.dates in omega (arith, few, long, date, dates)

  start_copies : (b : Behaviour P Moment) → IsProcess words b [] f → Each (λ (c : ℕ × Moment). c.0 ≤ 0) f.copies
  start_copies b h =
      let few = nothing_done b h in
      Each-weaker (IsCopy b f.number (done_of [] f)) (λ (c : ℕ × Moment). c.0 ≤ 0)
      (λ c is. let soon = is.0 in omega (arith, soon, few)) f.copies h.kept

  pub opened_of : (b : Behaviour P Live) (old o : UndoObjectMeaning) (version : Version) (kind k : Kind)
      → old.logs ≡ [] → IsLoggedAs k (log version (state_of old) 0 kind).reply
      → state_of o ≡ (log version (state_of old) 0 kind).object → old.heap.state.live ≡ b.start f.number
      → IsProcess words (dated b) [] f → IsFaceOf words b [] o f (Some 0)
  opened_of b old o version kind k no_logs told step live h =
      let is : state_of o ≡ taken (state_of old) 0 kind = step ∙ taken_is version (state_of old) 0 kind k told in
      let dates = h.dates in
      let first : f.first_date ≡ 0 = omega (arith, dates) in
      let whole = h.oldest.2 in
      let s = h.oldest.0 in
      let soon = subst (Each (λ (c : ℕ × Moment). c.0 ≤ 0)) whole (start_copies (dated b) h) in
      let up = subst AreAscending whole h.ascending in
      let later = none_late 0 h.oldest.1 (Each-weaker (λ (c : ℕ × Moment). f.first_date < c.0)
      (λ (c : ℕ × Moment). 0 < c.0) (λ c less. omega (arith, less)) h.oldest.1 up.0) soon.1 in
      let copy = (subst (Each (IsCopy (dated b) f.number (done_of [] f))) whole h.kept).0 in
      let front = take f.first_date (done_of [] f) in
      let nothing : front ≡ [] = ap (λ n. take n (done_of [] f)) first in
      let seen : s.seen.1 ≡ b.start f.number = ap (λ (m : Moment). m.seen.1) (copy.1 ∙ dated_after b f.number front)
      ∙ ap (state_after b f.number) nothing in
      let copies : copies_of f ≡ (0, old.heap.state.live) ∷ [] = ap (map copy_pair) whole
      ∙ ap (λ l. (f.first_date, s.seen.1) ∷ map copy_pair l) later ∙ ap (λ n. (n, s.seen.1) ∷ []) first
      ∙ ap (λ (l : Live). (0, l) ∷ []) (seen ∙ sym live) in
      record {
        process = h;
        logs = record {
          undone = [];
          logs = ap (λ (t : ObjectState). map log_pair t.logs) is
              ∙ ap (λ (l : List LogEntry). map log_pair (l ++ new_entry (state_of old) 0 kind ∷ [])) no_logs
              ∙ ap (λ l. l ++ []) (sym copies);
          behind = tt;
          none = λ r at. refl;
        };
        state = λ r at. ap (λ (t : ObjectState). t.heap.live) is ∙ live
            ∙ ap (λ n. state_after b f.number (take n (done_of [] f))) (same_Some 0 r at);
      }

  pub opened_known : (live : Live) (drafts : List (Draft P)) → IsProcess words (dated (idle live drafts)) [] f
      → IsKnown words f (Some 0)
  opened_known live drafts h =
      let date = date_done words (dated (idle live drafts)) [] f h in
      let few = nothing_done (dated (idle live drafts)) h in
      record {
        behaviour = dated (idle live drafts);
        past = [];
        looks_ahead = λ p s e. tt;
        starts = λ n. refl;
        counts = λ n m e. refl;
        faultless = λ m. refl;
        process = h;
        late = λ r at. subst (λ n. Each (λ (c : ℕ × Moment). c.0 ≤ n) f.copies) (same_Some 0 r at)
            (start_copies (dated (idle live drafts)) h);
        soon = λ r at. let r_is = same_Some 0 r at in omega (arith, r_is);
        fresh = λ fresh. ap Some (let is : 0 ≡ date_of f = omega (arith, date, few) in is);
      }
