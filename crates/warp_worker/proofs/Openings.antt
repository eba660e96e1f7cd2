-- A worker with one process more, which has taken and run nothing.
use Rattle.std.proofs.Common.{◌≡◌, ℕ, zero, suc, ◌+◌, ◌<◌, ◌≤◌, None, List, [], ◌∷◌, ◌++◌, length, map, take, refl, ap, sym, subst, ◌∙◌, arith}
use Rattle.std.proofs.lemmas.List.{append-nil}
use Rattle.warp_base.specs.declared.event.Event.{Event}
use Rattle.warp_base.specs.declared.event.Draft.{Draft}
use Rattle.warp_base.specs.declared.event.Message.{Message}
use Rattle.warp_base.specs.declared.event.Message.TheVariants as Variants
use Rattle.warp_base.specs.Events.{Each, hit, copies}
use Rattle.warp_base.specs.Messages.{event_of, positives, negatives}
use Rattle.warp_base.specs.Histories.{Behaviour, SendsWithin, stamped, all_sent}
use Rattle.warp_base.proofs.Lists.{Each-append}
use Rattle.warp_base.proofs.Folds.{Each-stamped}
use Rattle.warp_process.specs.Processes.{ProcessFace, IsProcess, done_of}
use Rattle.warp_worker.specs.Workers.{WorkerFace, Cell, IsWorker, IsOpened, AreNumbered, total, sends}

module _ {P S : Type 0} where
  abbrev fresh : List (ProcessFace P S) → List (Cell P S)
  fresh fs = map (λ (f : ProcessFace P S). ([], f)) fs

  fresh-push : (fs : List (ProcessFace P S)) (f : ProcessFace P S) → fresh (fs ++ f ∷ []) ≡ fresh fs ++ ([], f) ∷ []
  fresh-push [] f = refl
  fresh-push (g ∷ fs) f = ap (λ l. ([], g) ∷ l) (fresh-push fs f)

  fresh-faces : (fs : List (ProcessFace P S)) → map (λ (c : Cell P S). c.1) (fresh fs) ≡ fs
  fresh-faces [] = refl
  fresh-faces (f ∷ fs) = ap (λ l. f ∷ l) (fresh-faces fs)

  numbered-push : (first : ℕ) (fs : List (ProcessFace P S)) (f : ProcessFace P S) → AreNumbered first fs → f.number ≡ first + length fs → AreNumbered first (fs ++ f ∷ [])
  numbered-push first [] f h is = (is ∙ (let e : first + 0 ≡ first = omega arith in e), tt)
  numbered-push first (g ∷ fs) f h is = (h.0, numbered-push (suc first) fs f h.1 (omega (arith, is)))

  sum-push : (count : Cell P S → ℕ) (cells : List (Cell P S)) (c : Cell P S) → total count (cells ++ c ∷ []) ≡ total count cells + count c
  sum-push count [] c = omega arith
  sum-push count (d ∷ cells) c = let rest = sum-push count cells c in omega (arith, rest)

  module _ (words : P → List ℕ) (b : Behaviour P S) (n : ℕ) where
    module _ (e : Event P) where
      positives-behind : (ms : List (Message P)) (es : List (Event P)) → positives words e (ms ++ map Variants.Event es) ≡ positives words e ms + copies words e es
      positives-behind [] [] = refl
      positives-behind [] (x ∷ es) = let rest = positives-behind [] es in omega (arith, rest)
      positives-behind (Variants.Event x ∷ ms) es = let rest = positives-behind ms es in omega (arith, rest)
      positives-behind (Variants.Anti x ∷ ms) es = positives-behind ms es

      negatives-behind : (ms : List (Message P)) (es : List (Event P)) → negatives words e (ms ++ map Variants.Event es) ≡ negatives words e ms
      negatives-behind [] [] = refl
      negatives-behind [] (x ∷ es) = negatives-behind [] es
      negatives-behind (Variants.Event x ∷ ms) es = negatives-behind ms es
      negatives-behind (Variants.Anti x ∷ ms) es = let rest = negatives-behind ms es in omega (arith, rest)

    events_for : (es : List (Event P)) → Each (λ (e : Event P). e.receiver < n) es → Each (λ (m : Message P). (event_of m).receiver < n) (map Variants.Event es)
    events_for [] h = tt
    events_for (e ∷ es) h = (h.0, events_for es h.1)

    nothing_done : (k : ℕ) (es : List (Event P)) → es ≡ [] → take k es ≡ []
    nothing_done zero es none = refl
    nothing_done (suc k) es none = ap (take (suc k)) none

    -- what an opened worker consists of, by its lists
    pub opened_none : (w : WorkerFace P S) → w.processes ≡ [] → w.inbox ≡ [] → w.outbox ≡ [] → IsOpened words b n w
    opened_none w processes inbox outbox = record {
      worker = record {
        faces = fresh-faces w.processes;
        are = subst (λ l. Each (λ (c : Cell P S). IsProcess words b c.0 c.1) (fresh l)) (sym processes) tt;
        numbered = subst (AreNumbered w.first) (sym processes) tt;
      };
      last = subst (Each (λ (f : ProcessFace P S). f.last ≡ None)) (sym processes) tt;
      events = subst (Each (λ (f : ProcessFace P S). f.events ≡ [])) (sym processes) tt;
      early = subst (Each (λ (f : ProcessFace P S). f.early ≡ [])) (sym processes) tt;
      inbox = inbox;
      outbox = subst (Each (λ (m : Message P). (event_of m).receiver < n)) (sym outbox) tt;
      sent = λ e. ap (positives words e) outbox ∙ ap (λ l. total (sends words b e) (fresh l)) (sym processes);
      none_back = λ e. ap (negatives words e) outbox;
    }

    pub opened_more : SendsWithin n b → (w v : WorkerFace P S) (f : ProcessFace P S) → IsOpened words b n w → IsProcess words b [] f → f.number ≡ w.first + length w.processes → f.last ≡ None → f.events ≡ [] → f.early ≡ [] → v.first ≡ w.first → v.processes ≡ w.processes ++ f ∷ [] → v.inbox ≡ w.inbox → v.outbox ≡ w.outbox ++ map Variants.Event (stamped f.number 0 (b.firsts f.number)) → IsOpened words b n v
    opened_more within w v f h process number last events early first processes inbox outbox =
        let cells = ap fresh processes ∙ fresh-push w.processes f in
        record {
          worker = record {
            faces = fresh-faces v.processes;
            are = subst (Each (λ (c : Cell P S). IsProcess words b c.0 c.1)) (sym cells) (Each-append (λ (c : Cell P S). IsProcess words b c.0 c.1) (fresh w.processes) (([], f) ∷ []) h.worker.are (process, tt));
            numbered = subst (AreNumbered v.first) (sym processes) (subst (λ k. AreNumbered k (w.processes ++ f ∷ [])) (sym first) (numbered-push w.first w.processes f h.worker.numbered number));
          };
          last = subst (Each (λ (g : ProcessFace P S). g.last ≡ None)) (sym processes) (Each-append (λ (g : ProcessFace P S). g.last ≡ None) w.processes (f ∷ []) h.last (last, tt));
          events = subst (Each (λ (g : ProcessFace P S). g.events ≡ [])) (sym processes) (Each-append (λ (g : ProcessFace P S). g.events ≡ []) w.processes (f ∷ []) h.events (events, tt));
          early = subst (Each (λ (g : ProcessFace P S). g.early ≡ [])) (sym processes) (Each-append (λ (g : ProcessFace P S). g.early ≡ []) w.processes (f ∷ []) h.early (early, tt));
          inbox = inbox ∙ h.inbox;
          outbox = subst (Each (λ (m : Message P). (event_of m).receiver < n)) (sym outbox) (Each-append (λ (m : Message P). (event_of m).receiver < n) w.outbox (map Variants.Event (stamped f.number 0 (b.firsts f.number))) h.outbox
              (events_for (stamped f.number 0 (b.firsts f.number)) (Each-stamped (λ (e : Event P). e.receiver < n) (λ (d : Draft P). d.receiver < n) f.number 0 (λ d m less. less) (b.firsts f.number) (within.firsts f.number))));
          sent = λ e.
              let old = h.sent e in
              let box = ap (positives words e) outbox ∙ positives-behind e w.outbox (stamped f.number 0 (b.firsts f.number)) in
              let sum = ap (total (sends words b e)) cells ∙ sum-push (sends words b e) (fresh w.processes) ([], f) in
              let done : done_of [] f ≡ [] = nothing_done (length f.marks) f.events events in
              let one : sends words b e ([], f) ≡ copies words e (stamped f.number 0 (b.firsts f.number)) = ap (λ l. copies words e (all_sent b f.number l)) done ∙ ap (copies words e) (append-nil (stamped f.number 0 (b.firsts f.number))) in
              omega (arith, old, box, sum, one);
          none_back = λ e. let old = h.none_back e in let box = ap (negatives words e) outbox ∙ negatives-behind e w.outbox (stamped f.number 0 (b.firsts f.number)) in omega (arith, old, box);
        }

pub push_map : {X Y : Type 0} (f : X → Y) (xs : List X) (x : X) → map f (xs ++ x ∷ []) ≡ map f xs ++ f x ∷ []
push_map f [] x = refl
push_map f (y ∷ xs) x = ap (λ l. f y ∷ l) (push_map f xs x)
