-- Processes come to their ends, one after the other.
use Rattle.std.proofs.Common.{◌≡◌, ℕ, zero, suc, ◌+◌, ◌<◌, ◌≤◌, true, false, Option, Some, None, slice_get, List, [], ◌∷◌, ◌++◌, length, map, take, refl, ap, sym, subst, ◌∙◌, arith, append_assoc, length-append}
use Rattle.std.proofs.lemmas.List.{append-nil, length-take-le}
use Rattle.warp_base.specs.declared.event.Event.{Event}
use Rattle.warp_base.specs.Events.{Each}
use Rattle.warp_base.specs.Histories.{Behaviour, state_after}
use Rattle.warp_base.proofs.Lists.{Each-append}
use Rattle.warp_process.specs.Processes.{ProcessFace, IsProcess, IsFirstFault, done_of}
use Rattle.warp_worker.specs.Workers.{WorkerFace, Cell, IsWorker, TellsFailed, HasEnded, total}
use Rattle.warp_worker.specs.Endings.{first_told, told_of}

map-append : {X Y : Type 0} (f : X → Y) (xs ys : List X) → map f (xs ++ ys) ≡ map f xs ++ map f ys
map-append f [] ys = refl
map-append f (x ∷ xs) ys = ap (λ l. f x ∷ l) (map-append f xs ys)

sum-append : {X : Type 0} (count : X → ℕ) (xs ys : List X) → total count (xs ++ ys) ≡ total count xs + total count ys
sum-append count [] ys = omega arith
sum-append count (x ∷ xs) ys = let rest = sum-append count xs ys in omega (arith, rest)

get_front : {X : Type 0} (xs ys : List X) (i : ℕ) (x : X) → slice_get xs i ≡ Some x → slice_get (xs ++ ys) i ≡ Some x
get_front [] ys i x there = cc
get_front (z ∷ xs) ys zero x there = there
get_front (z ∷ xs) ys (suc i) x there = get_front xs ys i x there

get_back : {X : Type 0} (xs ys : List X) (i : ℕ) → slice_get (xs ++ ys) (length xs + i) ≡ slice_get ys i
get_back [] ys i = ap (slice_get ys) (let e : 0 + i ≡ i = omega arith in e)
get_back (x ∷ xs) ys i = ap (slice_get (x ∷ (xs ++ ys))) (let e : suc (length xs) + i ≡ suc (length xs + i) = omega arith in e) ∙ get_back xs ys i

module _ {P S : Type 0} (words : P → List ℕ) (b : Behaviour P S) where
  abbrev done_cell : Cell P S → Cell P S
  done_cell c = (done_of c.0 c.1, c.1)

  abbrev end_state : Cell P S → S
  end_state c = state_after b c.1.number (done_of c.0 c.1)

  abbrev end_count : Cell P S → ℕ
  end_count c = length (done_of c.0 c.1)

  -- one process, whose state isn't stale
  pub ended_one : (past : List (Event P)) (f : ProcessFace P S) (old new : List S) (s : S) (count : ℕ) → IsProcess words b past f → s ≡ state_after b f.number (done_of past f) → new ≡ old ++ s ∷ [] → count ≡ f.first_date + length f.fossils + length f.marks → (told : Option ℕ) → told ≡ told_of f.fault f.number → HasEnded words b ((past, f) ∷ []) old new count told
  ended_one past f old new s count h s_is new_is count_is told told_is = record {
    states = new_is ∙ ap (λ t. old ++ t ∷ []) s_is;
    count =
        let all = length-append past (take (length f.marks) f.events) in
        let few = length-take-le (length f.marks) f.events h.ran_within in
        let dates = h.dates in
        omega (arith, all, few, dates, count_is);
    failed = subst (TellsFailed words b ((done_of past f, f) ∷ [])) (sym told_is) (tell f.fault h.fault);
  }
    where
      tell : (fault : Option ℕ) → IsFirstFault b f.number (done_of past f) fault → TellsFailed words b ((done_of past f, f) ∷ []) (told_of fault f.number)
      tell None is = (is, tt)
      tell (Some date) is = (0, (done_of past f, f), refl, refl, (date, is.0, is.1))

  front_fails : (front back : List (Cell P S)) (p : ℕ) → TellsFailed words b front (Some p) → TellsFailed words b (front ++ back) (Some p)
  front_fails front back p t = (t.0, t.1, get_front front back t.0 t.1 t.2, t.3, t.4)

  back_fails : (front back : List (Cell P S)) (p : ℕ) → TellsFailed words b back (Some p) → TellsFailed words b (front ++ back) (Some p)
  back_fails front back p t = (length front + t.0, t.1, get_back front back t.0 ∙ t.2, t.3, t.4)

  both_told : (front back : List (Cell P S)) (one other : Option ℕ) → TellsFailed words b front one → TellsFailed words b back other → TellsFailed words b (front ++ back) (first_told one other)
  both_told front back (Some p) other t u = front_fails front back p t
  both_told front back None (Some p) t u = back_fails front back p u
  both_told front back None None t u = Each-append (λ (c : Cell P S). (k : ℕ) → k ≤ length c.0 → b.faulty (state_after b c.1.number (take k c.0)) ≡ false) front back t u

  -- the first cells have come to their ends, and the processes that are left have not
  pub record EndedUpTo (cells : List (Cell P S)) (left : List (ProcessFace P S)) (old new : List S) (sum : ℕ) (told : Option ℕ) : Type 0 where
    pub done : List (Cell P S)
    pub rest : List (Cell P S)
    pub split : cells ≡ done ++ rest
    pub ended : HasEnded words b done old new sum told
    pub are : Each (λ (c : Cell P S). IsProcess words b c.0 c.1) rest
    pub faces : map (λ (c : Cell P S). c.1) rest ≡ left

  pub ended_none : (cells : List (Cell P S)) (w : WorkerFace P S) (old : List S) → IsWorker words b cells w → EndedUpTo cells w.processes old old 0 None
  ended_none cells w old h = record { done = []; rest = cells; split = refl; ended = record { states = sym (append-nil old); count = refl; failed = tt }; are = h.are; faces = h.faces }

  pub next_of : (cells : List (Cell P S)) (f : ProcessFace P S) (left : List (ProcessFace P S)) (old new : List S) (sum : ℕ) (told : Option ℕ) → EndedUpTo cells (f ∷ left) old new sum told → (past : List (Event P)) × IsProcess words b past f
  next_of cells f left old new sum told h = first h.rest h.are h.faces
    where
      first : (rest : List (Cell P S)) → Each (λ (c : Cell P S). IsProcess words b c.0 c.1) rest → map (λ (c : Cell P S). c.1) rest ≡ f ∷ left → (past : List (Event P)) × IsProcess words b past f
      first [] are faces = cc
      first (c ∷ rest) are faces = let is : c.1 ≡ f = cc in (c.0, subst (IsProcess words b c.0) is are.0)

  pub ended_more : (cells : List (Cell P S)) (f : ProcessFace P S) (left : List (ProcessFace P S)) (old new newer : List S) (sum k total_sum : ℕ) (told other : Option ℕ) → EndedUpTo cells (f ∷ left) old new sum told → ((past : List (Event P)) → IsProcess words b past f → HasEnded words b ((past, f) ∷ []) new newer k other) → total_sum ≡ sum + k → EndedUpTo cells left old newer total_sum (first_told told other)
  ended_more cells f left old new newer sum k total_sum told other h one is = go h.rest h.split h.are h.faces
    where
      go : (rest : List (Cell P S)) → cells ≡ h.done ++ rest → Each (λ (c : Cell P S). IsProcess words b c.0 c.1) rest → map (λ (c : Cell P S). c.1) rest ≡ f ∷ left → EndedUpTo cells left old newer total_sum (first_told told other)
      go [] split are faces = cc
      go (c ∷ rest) split are faces =
          let is_f : c.1 ≡ f = cc in
          let others : map (λ (d : Cell P S). d.1) rest ≡ left = cc in
          let process : IsProcess words b c.0 f = subst (IsProcess words b c.0) is_f are.0 in
          let last : HasEnded words b (c ∷ []) new newer k other = subst (λ g. HasEnded words b ((c.0, g) ∷ []) new newer k other) (sym is_f) (one c.0 process) in
          record {
            done = h.done ++ c ∷ [];
            rest = rest;
            split = split ∙ sym (append_assoc h.done (c ∷ []) rest);
            ended = record {
              states = last.states ∙ ap (λ l. l ++ end_state c ∷ []) h.ended.states ∙ append_assoc old (map end_state h.done) (end_state c ∷ []) ∙ ap (λ l. old ++ l) (sym (map-append end_state h.done (c ∷ [])));
              count = let all = sum-append end_count h.done (c ∷ []) in let before = h.ended.count in let now = last.count in omega (arith, all, before, now, is);
              failed = subst (λ l. TellsFailed words b l (first_told told other)) (sym (map-append done_cell h.done (c ∷ []))) (both_told (map done_cell h.done) (done_cell c ∷ []) told other h.ended.failed last.failed);
            };
            are = are.1;
            faces = others;
          }

  -- where the processes that have come to their ends, and the next one, ran so many events, all did
  pub ended_many : (cells : List (Cell P S)) (f : ProcessFace P S) (left : List (ProcessFace P S)) (old new newer : List S) (sum k most : ℕ) (told other : Option ℕ) → EndedUpTo cells (f ∷ left) old new sum told → ((past : List (Event P)) → IsProcess words b past f → HasEnded words b ((past, f) ∷ []) new newer k other) → most ≤ sum + k → most ≤ total end_count cells
  ended_many cells f left old new newer sum k most told other h one many = go h.rest h.split h.are h.faces
    where
      go : (rest : List (Cell P S)) → cells ≡ h.done ++ rest → Each (λ (c : Cell P S). IsProcess words b c.0 c.1) rest → map (λ (c : Cell P S). c.1) rest ≡ f ∷ left → most ≤ total end_count cells
      go [] split are faces = cc
      go (c ∷ rest) split are faces =
          let is_f : c.1 ≡ f = cc in
          let process : IsProcess words b c.0 f = subst (IsProcess words b c.0) is_f are.0 in
          let last : HasEnded words b (c ∷ []) new newer k other = subst (λ g. HasEnded words b ((c.0, g) ∷ []) new newer k other) (sym is_f) (one c.0 process) in
          let all = ap (total end_count) split ∙ sum-append end_count h.done (c ∷ rest) in
          let before = h.ended.count in
          let now = last.count in
          omega (arith, all, before, now, many)

  pub ended_all : (cells : List (Cell P S)) (left : List (ProcessFace P S)) (old new : List S) (sum : ℕ) (told : Option ℕ) → left ≡ [] → EndedUpTo cells left old new sum told → HasEnded words b cells old new sum told
  ended_all cells left old new sum told none h = all h.rest h.split (h.faces ∙ none)
    where
      all : (rest : List (Cell P S)) → cells ≡ h.done ++ rest → map (λ (c : Cell P S). c.1) rest ≡ [] → HasEnded words b cells old new sum told
      all [] split faces = subst (λ l. HasEnded words b l old new sum told) (sym (split ∙ append-nil h.done)) h.ended
      all (c ∷ rest) split faces = cc

pub nothing_left : {X : Type 0} (xs : List X) → length xs ≡ 0 → xs ≡ []
nothing_left [] is = refl
nothing_left (x ∷ xs) is = absurd (omega (arith, is))
