-- One process of a worker goes on: what that comes to for the worker.
use Rattle.std.proofs.Common.{◌≡◌, ℕ, zero, suc, ◌+◌, ◌<◌, ◌≤◌, Some, List, [], ◌∷◌, ◌++◌, length, map, set, slice_get, refl, ap, sym, subst, ◌∙◌, arith, append_assoc}
use Rattle.std.proofs.lemmas.List.{map-set, length-set}
use Rattle.warp_base.specs.declared.event.Event.{Event}
use Rattle.warp_base.specs.declared.event.Message.{Message}
use Rattle.warp_base.specs.declared.event.Message.TheVariants as Variants
use Rattle.warp_base.specs.Events.{Each, hit, copies}
use Rattle.warp_base.specs.Messages.{positives, negatives}
use Rattle.warp_base.specs.Histories.{Behaviour, all_sent}
use Rattle.warp_base.proofs.Orders.{copies-append}
use Rattle.warp_process.specs.Processes.{ProcessFace, IsProcess, done_of, HasTakenMessage, HasPosted, HasCommitted}
use Rattle.warp_process.specs.Laws.{SentIsKept}
use Rattle.warp_worker.specs.Workers.{WorkerFace, Cell, total, stands, waits, sends, AreNumbered, IsWorker}
use Rattle.warp_worker.specs.Moves.{has, owes, HasMoved}
use Rattle.warp_worker.proofs.Places.{Each-set, total-set, positives-append, negatives-append}

module _ {P S : Type 0} where
  pub cell_at : (cells : List (Cell P S)) (i : ℕ) (f : ProcessFace P S) → slice_get (map (λ (c : Cell P S). c.1) cells) i ≡ Some f → (c : Cell P S) × (slice_get cells i ≡ Some c) × (c.1 ≡ f)
  cell_at [] i f there = absurd cc
  cell_at (c ∷ cells) zero f there = (c, refl, cc)
  cell_at (c ∷ cells) (suc i) f there = cell_at cells i f there

  pub numbered_at : (first : ℕ) (fs : List (ProcessFace P S)) (i : ℕ) (f : ProcessFace P S) → AreNumbered first fs → slice_get fs i ≡ Some f → f.number ≡ first + i
  numbered_at first [] i f h there = absurd cc
  numbered_at first (g ∷ fs) zero f h there = let is : g ≡ f = cc in let same = ap (λ (x : ProcessFace P S). x.number) is in let number = h.0 in omega (arith, same, number)
  numbered_at first (g ∷ fs) (suc i) f h there = let rest = numbered_at (suc first) fs i f h.1 there in omega (arith, rest)

  pub numbered-set : (first : ℕ) (fs : List (ProcessFace P S)) (i : ℕ) (f g : ProcessFace P S) → AreNumbered first fs → slice_get fs i ≡ Some f → g.number ≡ f.number → AreNumbered first (set fs i g)
  numbered-set first [] i f g h there same = tt
  numbered-set first (x ∷ fs) zero f g h there same = let is : x ≡ f = cc in (same ∙ ap (λ (y : ProcessFace P S). y.number) (sym is) ∙ h.0, h.1)
  numbered-set first (x ∷ fs) (suc i) f g h there same = (h.0, numbered-set (suc first) fs i f g h.1 there same)

-- an element is replaced by one that keeps something
same_kept : {X Y : Type 0} (keep : X → Y) (xs : List X) (i : ℕ) (x y : X) → slice_get xs i ≡ Some x → keep y ≡ keep x → map keep (set xs i y) ≡ map keep xs
same_kept keep [] i x y there same = refl
same_kept keep (z ∷ xs) zero x y there same = let is : z ≡ x = cc in ap (λ k. k ∷ map keep xs) (same ∙ ap keep (sym is))
same_kept keep (z ∷ xs) (suc i) x y there same = ap (λ l. keep z ∷ l) (same_kept keep xs i x y there same)

module _ {P S : Type 0} (words : P → List ℕ) (b : Behaviour P S) where
  -- what a process takes and what it posts is accounted for
  pub record CellMoves (old new : Cell P S) (taken more : List (Message P)) : Type 0 where
    pub process : IsProcess words b new.0 new.1
    pub number : new.1.number ≡ old.1.number
    pub balance : (e : Event P) → stands words e new + waits words e old + sends words b e old + negatives words e taken + positives words e more
        ≡ stands words e old + waits words e new + sends words b e new + positives words e taken + negatives words e more

  pub moved_at : (keep : Cell P S → List (Event P)) (cells : List (Cell P S)) (w new : WorkerFace P S) (i : ℕ) (c d : Cell P S) (taken mail more : List (Message P)) → IsWorker words b cells w → slice_get cells i ≡ Some c → slice_get w.processes i ≡ Some c.1 → keep d ≡ keep c → CellMoves c d taken more → new.processes ≡ set w.processes i d.1 → new.first ≡ w.first → new.inbox ≡ w.inbox → new.outbox ≡ w.outbox → HasMoved keep words b cells w (taken ++ mail) new (mail ++ more)
  moved_at keep cells w new i c d taken mail more h at face_at same moves processes first inbox outbox = record {
    new_cells = set cells i d;
    worker = record {
      faces = map-set (λ (x : Cell P S). x.1) cells i d ∙ ap (λ l. set l i d.1) h.faces ∙ sym processes;
      are = Each-set (λ (x : Cell P S). IsProcess words b x.0 x.1) cells i d h.are moves.process;
      numbered = subst (λ k. AreNumbered k new.processes) (sym first) (subst (AreNumbered w.first) (sym processes) (numbered-set w.first w.processes i c.1 d.1 h.numbered face_at moves.number));
    };
    kept = same_kept keep cells i c d at same;
    balance = λ e.
        let one = total-set (stands words e) cells i c d at in
        let two = total-set (waits words e) cells i c d at in
        let three = total-set (sends words b e) cells i c d at in
        let all = moves.balance e in
        let in_pos = ap (positives words e) inbox in
        let in_neg = ap (negatives words e) inbox in
        let out_pos = ap (positives words e) outbox in
        let out_neg = ap (negatives words e) outbox in
        let old_pos = positives-append words e taken mail in
        let old_neg = negatives-append words e taken mail in
        let new_pos = positives-append words e mail more in
        let new_neg = negatives-append words e mail more in
        omega (arith, one, two, three, all, in_pos, in_neg, out_pos, out_neg, old_pos, old_neg, new_pos, new_neg);
  }

  module _ (kept : SentIsKept words S) where
    sends_now : (e : Event P) (past : List (Event P)) (f : ProcessFace P S) → IsProcess words b past f → sends words b e (past, f) ≡ copies words e (all_sent b f.number past) + copies words e f.sent
    sends_now e past f h = ap (copies words e) (kept b past f h) ∙ copies-append words e (all_sent b f.number past) f.sent

    -- a process that posts: what it has sent is as much more as goes out
    pub posts : (past : List (Event P)) (f g : ProcessFace P S) (t : ℕ) (taken out new_out : List (Message P)) → IsProcess words b past f → IsProcess words b past g → g.number ≡ f.number → (posted : HasPosted words t f.sent g.sent out new_out) → ((e : Event P) → copies words e g.events + copies words e f.early + negatives words e taken ≡ copies words e f.events + copies words e g.early + positives words e taken) → CellMoves (past, f) (past, g) taken posted.more
    posts past f g t taken out new_out h new_h number posted same = record {
      process = new_h;
      number = number;
      balance = λ e.
          let old_stands = copies-append words e past f.events in
          let new_stands = copies-append words e past g.events in
          let old_sends = sends_now e past f h in
          let new_sends = sends_now e past g new_h in
          let past_sends = ap (λ n. copies words e (all_sent b n past)) number in
          let sent = posted.balance e in
          let held = same e in
          omega (arith, old_stands, new_stands, old_sends, new_sends, past_sends, sent, held);
    }

    pub takes : (past : List (Event P)) (f g : ProcessFace P S) (t : ℕ) (m : Message P) (out new_out : List (Message P)) → IsProcess words b past f → IsProcess words b past g → g.number ≡ f.number → HasTakenMessage words m f g → (posted : HasPosted words t f.sent g.sent out new_out) → CellMoves (past, f) (past, g) (m ∷ []) posted.more
    takes past f g t (Variants.Event x) out new_out h new_h number taken posted =
        posts past f g t (Variants.Event x ∷ []) out new_out h new_h number posted (λ e. let one = taken e in omega (arith, one))
    takes past f g t (Variants.Anti x) out new_out h new_h number taken posted =
        posts past f g t (Variants.Anti x ∷ []) out new_out h new_h number posted (λ e. let one = taken e in omega (arith, one))

  -- committing changes nothing of that
  pub commits : (past : List (Event P)) (f g : ProcessFace P S) (time : ℕ) (out new_out : List (Event P)) → IsProcess words b past f → (done : HasCommitted words time f g out new_out) → CellMoves (past, f) (past ++ done.gone, g) [] []
  commits past f g time out new_out h done = record {
    process = done.process b past h;
    number = done.number;
    balance = λ e.
        let stand : copies words e ((past ++ done.gone) ++ g.events) ≡ copies words e (past ++ f.events) = ap (copies words e) (append_assoc past done.gone g.events ∙ ap (λ l. past ++ l) (sym done.whole)) in
        let wait = ap (copies words e) done.early in
        let send : copies words e (all_sent b g.number (done_of (past ++ done.gone) g)) ≡ copies words e (all_sent b f.number (done_of past f)) = ap (λ n. copies words e (all_sent b n (done_of (past ++ done.gone) g))) done.number ∙ ap (λ l. copies words e (all_sent b f.number l)) (done.same_done past) in
        omega (arith, stand, wait, send);
  }
