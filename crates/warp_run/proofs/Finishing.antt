-- All workers come to their ends, one after the other.
use Rattle.std.proofs.Common.{◌≡◌, ℕ, zero, suc, ◌+◌, ◌≤◌, Some, None, slice_get, List, [], ◌∷◌, ◌++◌, length, map, take, false, refl, ap, sym, subst, ◌∙◌, arith, append_assoc}
use Rattle.std.proofs.lemmas.List.{append-nil}
use Rattle.warp_base.specs.Events.{Each}
use Rattle.warp_base.specs.Histories.{Behaviour, state_after}
use Rattle.warp_base.proofs.Lists.{Each-append}
use Rattle.warp_process.specs.Processes.{done_of}
use Rattle.warp_worker.specs.Workers.{WorkerFace, Cell, IsWorker, TellsFailed, HasEnded, total}
use Rattle.warp_run.specs.Worlds.{AreWorkers}
use Rattle.warp_run.proofs.Totals.{total-append}

map-append : {X Y : Type 0} (f : X → Y) (xs ys : List X) → map f (xs ++ ys) ≡ map f xs ++ map f ys
map-append f [] ys = refl
map-append f (x ∷ xs) ys = ap (λ l. f x ∷ l) (map-append f xs ys)

pub get_front : {X : Type 0} (xs ys : List X) (i : ℕ) (x : X) → slice_get xs i ≡ Some x → slice_get (xs ++ ys) i ≡ Some x
get_front [] ys i x there = cc
get_front (z ∷ xs) ys zero x there = there
get_front (z ∷ xs) ys (suc i) x there = get_front xs ys i x there

pub get_back : {X : Type 0} (xs ys : List X) (i : ℕ) → slice_get (xs ++ ys) (length xs + i) ≡ slice_get ys i
get_back [] ys i = ap (slice_get ys) (let e : 0 + i ≡ i = omega arith in e)
get_back (x ∷ xs) ys i = ap (slice_get (x ∷ (xs ++ ys))) (let e : suc (length xs) + i ≡ suc (length xs + i) = omega arith in e) ∙ get_back xs ys i

module _ {P S : Type 0} (words : P → List ℕ) (b : Behaviour P S) where
  abbrev pub done_cell : Cell P S → Cell P S
  done_cell c = (done_of c.0 c.1, c.1)

  abbrev pub end_state : Cell P S → S
  end_state c = state_after b c.1.number (done_of c.0 c.1)

  abbrev pub end_count : Cell P S → ℕ
  end_count c = length (done_of c.0 c.1)

  -- the first cells have come to their ends, and those of the workers that are left have not
  pub record EndedUpTo (cells : List (Cell P S)) (left : List (WorkerFace P S)) (states : List S) (count : ℕ) : Type 0 where
    pub done : List (Cell P S)
    pub rest : List (Cell P S)
    pub split : cells ≡ done ++ rest
    pub ended : HasEnded words b done [] states count None
    pub workers : AreWorkers words b rest left

  pub ended_more : (cells : List (Cell P S)) (w : WorkerFace P S) (left : List (WorkerFace P S)) (states new_states : List S) (count k sum : ℕ) → EndedUpTo cells (w ∷ left) states count → ((cs : List (Cell P S)) → IsWorker words b cs w → HasEnded words b cs states new_states k None) → sum ≡ count + k → EndedUpTo cells left new_states sum
  ended_more cells w left states new_states count k sum h told is =
      let front = h.workers.0 in
      let back = h.workers.1 in
      let one = told front h.workers.3 in
      record {
        done = h.done ++ front;
        rest = back;
        split = h.split ∙ ap (λ l. h.done ++ l) h.workers.2 ∙ sym (append_assoc h.done front back);
        ended = record {
          states = one.states ∙ ap (λ l. l ++ map end_state front) h.ended.states ∙ sym (map-append end_state h.done front);
          count = let all = total-append end_count h.done front in let old = h.ended.count in let new = one.count in omega (arith, all, old, new, is);
          failed = subst (Each (λ (c : Cell P S). (j : ℕ) → j ≤ length c.0 → b.faulty (state_after b c.1.number (take j c.0)) ≡ false)) (sym (map-append done_cell h.done front)) (Each-append (λ (c : Cell P S). (j : ℕ) → j ≤ length c.0 → b.faulty (state_after b c.1.number (take j c.0)) ≡ false) (map done_cell h.done) (map done_cell front) h.ended.failed one.failed);
        };
        workers = h.workers.4;
      }

  pub ended_all : (cells : List (Cell P S)) (states : List S) (count : ℕ) → EndedUpTo cells [] states count → HasEnded words b cells [] states count None
  ended_all cells states count h =
      let all : h.done ≡ cells = sym (append-nil h.done) ∙ ap (λ l. h.done ++ l) (sym h.workers) ∙ sym h.split in
      subst (λ l. HasEnded words b l [] states count None) all h.ended

  -- where the workers that have come to their ends, and the next one, have done so many, all have
  pub ended_many : (cells : List (Cell P S)) (w : WorkerFace P S) (left : List (WorkerFace P S)) (states : List S) (count k most : ℕ) → EndedUpTo cells (w ∷ left) states count → ((cs : List (Cell P S)) → IsWorker words b cs w → k ≤ total end_count cs) → most ≤ count + k → most ≤ total end_count cells
  ended_many cells w left states count k most h told many =
      let front = h.workers.0 in
      let back = h.workers.1 in
      let one = told front h.workers.3 in
      let all = ap (total end_count) (h.split ∙ ap (λ l. h.done ++ l) h.workers.2) ∙ total-append end_count h.done (front ++ back) in
      let rest = total-append end_count front back in
      let old = h.ended.count in
      omega (arith, all, rest, one, old, many)

  front_fails : (front back : List (Cell P S)) (p : ℕ) → TellsFailed words b front (Some p) → TellsFailed words b (front ++ back) (Some p)
  front_fails front back p t = (t.0, t.1, get_front front back t.0 t.1 t.2, t.3, t.4)

  back_fails : (front back : List (Cell P S)) (p : ℕ) → TellsFailed words b back (Some p) → TellsFailed words b (front ++ back) (Some p)
  back_fails front back p t = (length front + t.0, t.1, get_back front back t.0 ∙ t.2, t.3, t.4)

  pub ended_fails : (cells : List (Cell P S)) (w : WorkerFace P S) (left : List (WorkerFace P S)) (states new_states : List S) (count k p : ℕ) → EndedUpTo cells (w ∷ left) states count → ((cs : List (Cell P S)) → IsWorker words b cs w → HasEnded words b cs states new_states k (Some p)) → TellsFailed words b (map done_cell cells) (Some p)
  ended_fails cells w left states new_states count k p h told =
      let front = h.workers.0 in
      let back = h.workers.1 in
      let one = told front h.workers.3 in
      let all : map done_cell cells ≡ map done_cell h.done ++ (map done_cell front ++ map done_cell back) = ap (map done_cell) (h.split ∙ ap (λ l. h.done ++ l) h.workers.2) ∙ map-append done_cell h.done (front ++ back) ∙ ap (λ l. map done_cell h.done ++ l) (map-append done_cell front back) in
      subst (λ l. TellsFailed words b l (Some p)) (sym all) (back_fails (map done_cell h.done) (map done_cell front ++ map done_cell back) p (front_fails (map done_cell front) (map done_cell back) p one.failed))
