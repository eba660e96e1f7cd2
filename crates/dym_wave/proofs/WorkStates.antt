-- Works state by state.
use Rattle.std.proofs.Common.{◌≡◌, Bool, true, false, [], length, Option, refl, sym, ap, subst, ◌∙◌, arith}
use Rattle.std.specs.Prelude.{is_some, IfSome}
use Rattle.dym_commands.specs.Replies.{RepliesMeaning}
use Rattle.dym_object.specs.Meaning.{state_of}
use Rattle.dym_report.specs.declared.late_lines.ViewLine.{ViewLine}
use Rattle.dym_view.specs.Histories.{Beginning}
use Rattle.dym_wave.specs.Publications.{IsPublished}
use Rattle.dym_wave.specs.Results.{origin_shown}
use Rattle.dym_wave.specs.States.{CanEnd, IsState, object_shown, ran_by, state_origin, work_with}
use Rattle.dym_wave.specs.Works.{IsOver, JobMeaning, ObjectOrigin, WorkMeaning}
use Rattle.dym_wave.specs.declared.work_state.WorkSpec.{WorkSpec}
use Rattle.dym_wave.specs.declared.work_state.WorkState.{WorkState}
use Rattle.dym_wave.specs.declared.work_state.WorkState.TheVariants.{Waiting, Running, Ended}
use Rattle.dym_wave.proofs.Ends.{over_shown}
use Rattle.dym_wave.proofs.Publishing.{line_of, line_shown, nothing_published, published_shows, turned_short}
use Rattle.dym_wave.proofs.Runs.{left_while_long}

module _ {R : Type 0} (spec : WorkSpec) where
  -- a work that stays where it was, and found no memory, is one
  pub short_job : (old new : WorkState R) (short : Bool) (view : Option Beginning) → state_origin spec.version new ≡ state_origin spec.version old
      → ran_by spec.commands new ≡ ran_by spec.commands old → JobMeaning (work_with spec old short view) → JobMeaning (work_with spec new true view)
  short_job old new short view origin ran job =
      let o : ObjectOrigin = state_origin spec.version old in
      let n = ran_by spec.commands old in
      let still = turned_short o.version o.quota spec.commands n n short view (omega arith) job.published in
      record {
        within = omega (arith, job.within, ran);
        few = job.few;
        some_quantum = job.some_quantum;
        most_quantum = job.most_quantum;
        of_history = refl;
        published = subst (λ (p : ObjectOrigin). IfSome view (IsPublished p.version p.quota spec.commands (ran_by spec.commands new) true)) (sym origin)
            (subst (λ m. IfSome view (IsPublished o.version o.quota spec.commands m true)) (sym ran) still);
      }

  -- an object without commands can be ended once it is open
  pub fresh_can_end : (state : WorkState R) (view : Option Beginning) (line : Option (Option ViewLine)) → length spec.commands ≡ 0
      → IsState spec (is_some line) state → IfSome view (λ (b : Beginning). b.commits ≡ []) → line ≡ line_of view → CanEnd spec line state
  fresh_can_end (Waiting berth keep) view line none holds empty is = tt
  fresh_can_end (Running turn replies) view line none holds empty is =
      let v = turn.object.heap.version in
      let q = turn.object.heap.quota in
      let nothing : length replies.replies ≡ 0 = omega (arith, none, holds.0.within) in
      let shows = published_shows v q spec.commands (length replies.replies) (state_of turn.object) false view refl holds.0.state
      (nothing_published v q spec.commands (length replies.replies) false view nothing empty) in
      (omega (arith, none, nothing), line_shown view line (state_of turn.object) is shows)
  fresh_can_end (Ended text tally berth keep) view line none holds empty is = tt

  -- what is printed of a work that ran all its commands and still has its object
  pub work_over : (state : WorkState R) (short : Bool) (view : Option Beginning) (turn : _) (replies : RepliesMeaning) (w : WorkMeaning)
      → work_with spec state short view ≡ w → state ≡ Running turn replies → IsOver w → JobMeaning (work_with spec state short view)
      → IsState spec (is_some view) state → object_shown spec.name replies.replies turn.object (line_of view) ≡ origin_shown w.origin
  work_over state short view turn replies w is running over job holds =
      let Q : WorkState R → Type 0 = λ s. JobMeaning (work_with spec s short view) × IsState spec (is_some view) s × IsOver (work_with spec s short view) in
      let at = subst Q running (job, holds, subst IsOver (sym is) over) in
      let left = left_while_long (work_with spec (Running turn replies) short view) at.2.1 in
      let all : length replies.replies ≡ length spec.commands = omega (arith, at.2.0, left, at.1.0.within) in
      over_shown spec.name spec.commands turn.object replies view (line_of view) short at.2.1 at.1.0 all refl at.0.published
      ∙ ap (λ (s : WorkState R). origin_shown (work_with spec s short view).origin) (sym running) ∙ ap (λ (x : WorkMeaning). origin_shown x.origin) is
