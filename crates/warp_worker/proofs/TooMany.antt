-- A process that answers that an event is one too many has committed, or sent by what it committed, half of what 64 bits count.
use Rattle.std.proofs.Common.{◌≡◌, ℕ, ◌+◌, ◌^◌, ◌<◌, ◌≤◌, ◌⊎◌, inl, inr, true, false, nat_lt, Option, Some, None, option_map, slice_get, List, [], ◌∷◌, ◌++◌, length, map, take, refl, ap, sym, subst, ◌∙◌, arith, length-append}
use Rattle.std.proofs.lemmas.List.{append-nil, length-take-le}
use Rattle.std.proofs.lemmas.Option.{slice_get-map}
use Rattle.std.proofs.lemmas.Bool.{lt-ltb, le-ltb}
use Rattle.warp_base.specs.declared.event.Event.{Event}
use Rattle.warp_base.specs.Events.{Each, AreFrom}
use Rattle.warp_base.specs.Histories.{Behaviour, stamped, state_after, all_sent, earlier}
use Rattle.warp_base.proofs.Lists.{Each-weaker, filter_all, filter_none, filter-++}
use Rattle.warp_base.proofs.Folds.{length-stamped, all_sent-push}
use Rattle.warp_process.specs.Processes.{ProcessFace, IsProcess, IsTooMany, done_of, bound_of}
use Rattle.warp_process.specs.Laws.{SentIsKept}
use Rattle.warp_worker.specs.Workers.{WorkerFace, Cell, past_of, history_of, settled_of, IsWorker, HasTooMany}
use Rattle.warp_worker.specs.Moves.{HasMoved, Moves, Commits, IsDue}
use Rattle.warp_worker.proofs.Places.{Each-at}
use Rattle.warp_worker.proofs.Cells.{cell_at, numbered_at}

module _ {P S : Type 0} (words : P → List ℕ) (b : Behaviour P S) where
  -- a process whose list of marks, and that of what it sent, are as long as a list in memory can be
  half_ran : (past : List (Event P)) (f : ProcessFace P S) (e : Event P) → IsProcess words b past f → length f.marks < 2 ^ 63 → 2 ^ 64 ≤ length (done_of past f ++ e ∷ []) → 2 ^ 63 ≤ length past
  half_ran past f e h few many =
      let all = length-append (done_of past f) (e ∷ []) in
      let done = length-append past (take (length f.marks) f.events) in
      let ran = length-take-le (length f.marks) f.events h.ran_within in
      omega (arith, few, many, all, done, ran)

  half_sent : SentIsKept words S → (past : List (Event P)) (f : ProcessFace P S) (e : Event P) → IsProcess words b past f → length f.sent < 2 ^ 63 → 2 ^ 64 ≤ length (all_sent b f.number (done_of past f ++ e ∷ []))
      → 2 ^ 63 ≤ length (all_sent b f.number past) + length (b.drafts f.number (state_after b f.number (done_of past f)) e)
  half_sent kept past f e h few many =
      let p = f.number in
      let done = done_of past f in
      let now = ap length (all_sent-push b p done e) ∙ length-append (all_sent b p done) (stamped p (length (all_sent b p done)) (b.drafts p (state_after b p done) e)) in
      let more = length-stamped p (length (all_sent b p done)) (b.drafts p (state_after b p done) e) in
      let old = ap length (kept b past f h) ∙ length-append (all_sent b p past) f.sent in
      omega (arith, few, many, now, more, old)

  pub has_too_many : SentIsKept words S → (cells : List (Cell P S)) (w : WorkerFace P S) (place : ℕ) (f : ProcessFace P S) (e : Event P) → IsWorker words b cells w → slice_get w.processes place ≡ Some f → length f.marks < 2 ^ 63 → length f.sent < 2 ^ 63 → ((past : List (Event P)) → IsProcess words b past f → IsTooMany b past f e) → HasTooMany b w.first (map past_of cells)
  has_too_many kept cells w place f e h get few few_sent too =
      let c = cell_at cells place f (ap (λ l. slice_get l place) h.faces ∙ get) in
      let past = c.0.0 in
      let process = subst (IsProcess words b past) c.2 (Each-at (λ (x : Cell P S). IsProcess words b x.0 x.1) cells place c.0 h.are c.1) in
      let number = numbered_at w.first w.processes place f h.numbered get in
      let s = state_after b f.number (done_of past f) in
      record {
        place = place;
        past = past;
        there = slice_get-map past_of cells place ∙ ap (option_map past_of) c.1;
        state = s;
        event = e;
        many = elim (too past process) as (λ _. (2 ^ 63 ≤ length past) ⊎ (2 ^ 63 ≤ length (all_sent b (w.first + place) past) + length (b.drafts (w.first + place) s e))) [
          | inl ran ↦ inl (half_ran past f e process few ran)
          | inr sent ↦ inr (subst (λ p. 2 ^ 63 ≤ length (all_sent b p past) + length (b.drafts p s e)) number (half_sent kept past f e process few_sent sent))
        ];
      }

  -- it is so of the pasts that were there before, where these have stayed
  pub too_many_before : (u v : WorkerFace P S) (us vs : List _) → Moves words b u us v vs → v.first ≡ u.first → ((cells : List (Cell P S)) → IsWorker words b cells v → HasTooMany b v.first (map past_of cells)) → (cells : List (Cell P S)) → IsWorker words b cells u → HasTooMany b u.first (map past_of cells)
  too_many_before u v us vs moves first many cells h =
      let moved = moves cells h in
      subst (λ k. HasTooMany b k (map past_of cells)) first (subst (HasTooMany b v.first) moved.kept (many moved.new_cells moved.worker))

  -- after a commit the pasts are what stood below the bound
  settled : (bound : ℕ) (past : List (Event P)) (f : ProcessFace P S) → IsProcess words b past f → bound_of f.last ≡ bound → past ≡ settled_of bound (past, f)
  settled bound past f h at =
      let soon = λ (e : Event P). nat_lt e.time bound in
      let all = filter_all soon past (Each-weaker (λ (e : Event P). e.time < bound_of f.last) (λ (e : Event P). soon e ≡ true) (λ e less. lt-ltb e.time bound (subst (λ t. e.time < t) at less)) past h.committed) in
      let none = filter_none soon f.events (Each-weaker (λ (e : Event P). bound_of f.last ≤ e.time) (λ (e : Event P). soon e ≡ false) (λ e late. le-ltb e.time bound (subst (λ t. t ≤ e.time) at late)) f.events h.pending) in
      sym (filter-++ soon past f.events ∙ ap (λ l. l ++ earlier bound f.events) all ∙ ap (λ l. past ++ l) none ∙ append-nil past)

  all_settled : (bound end : ℕ) (cells : List (Cell P S)) → Each (λ (c : Cell P S). IsProcess words b c.0 c.1) cells → Each (IsDue bound end) (map (λ (c : Cell P S). c.1) cells) → map past_of cells ≡ map (settled_of bound) cells
  all_settled bound end [] are due = refl
  all_settled bound end (c ∷ cells) are due =
      ap (λ x. x ∷ map past_of cells) (settled bound c.0 c.1 are.0 due.0.committed) ∙ ap (λ l. settled_of bound c ∷ l) (all_settled bound end cells are.1 due.1)

  below : (bound : ℕ) (xs : List (Cell P S)) → map (settled_of bound) xs ≡ map (earlier bound) (map history_of xs)
  below bound [] = refl
  below bound (c ∷ xs) = ap (λ l. settled_of bound c ∷ l) (below bound xs)

  pub too_many_settled : (bound end : ℕ) (u v : WorkerFace P S) → Commits words b u v → v.first ≡ u.first → Each (IsDue bound end) v.processes → ((cells : List (Cell P S)) → IsWorker words b cells v → HasTooMany b v.first (map past_of cells)) → (cells : List (Cell P S)) → IsWorker words b cells u → HasTooMany b u.first (map (settled_of bound) cells)
  too_many_settled bound end u v commits first due many cells h =
      let moved = commits cells h in
      let all = all_settled bound end moved.new_cells moved.worker.are (subst (Each (IsDue bound end)) (sym moved.worker.faces) due) in
      let same = all ∙ below bound moved.new_cells ∙ ap (map (earlier bound)) moved.kept ∙ sym (below bound cells) in
      subst (λ k. HasTooMany b k (map (settled_of bound) cells)) first (subst (HasTooMany b v.first) same (many moved.new_cells moved.worker))
