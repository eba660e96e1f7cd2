-- A world as families over the processes, and that below its bound nothing is left to do.
use Rattle.std.proofs.Common.{◌≡◌, ℕ, zero, suc, ◌+◌, ◌<◌, ◌≤◌, inl, inr, Option, Some, None, slice_get, List, [], ◌∷◌, ◌++◌, length, map, take, drop, refl, ap, sym, subst, ◌∙◌, arith, length-append}
use Rattle.std.proofs.lemmas.Option.{slice_get_past}
use Rattle.std.proofs.lemmas.List.{append-nil}
use Rattle.warp_base.specs.declared.event.Event.{Event}
use Rattle.warp_base.specs.declared.event.Draft.{Draft}
use Rattle.warp_base.specs.declared.event.Message.{Message}
use Rattle.warp_base.specs.declared.event.Message.TheVariants as Variants
use Rattle.warp_base.specs.Events.{Each, hit, copies, IsInOrder, AreFor, AreFrom}
use Rattle.warp_base.specs.Messages.{event_of, positives, negatives}
use Rattle.warp_base.specs.Histories.{Behaviour, StartsWithin, stamped, all_sent}
use Rattle.warp_base.specs.Settled.{IsSettled}
use Rattle.warp_base.proofs.Lists.{Each-append, Each-weaker}
use Rattle.warp_base.proofs.Folds.{Each-all_sent}
use Rattle.warp_base.proofs.Orders.{TellsApart, copies-append, hit_cases, none_of, Each-copy}
use Rattle.warp_process.specs.Processes.{ProcessFace, IsProcess, done_of, bound_of}
use Rattle.warp_worker.specs.Workers.{WorkerFace, Cell, IsReady, IsArrival, AreNumbered, total, stands, waits, sends}
use Rattle.warp_run.specs.Worlds.{AreWorkers, AreContiguous, IsOnItsWay, IsWorld, process_count, sent_off, taken_off}
use Rattle.warp_run.proofs.Totals.{Each-at, slice_get_none}

module _ {P S : Type 0} where
  abbrev pub past_of : Option (Cell P S) → List (Event P)
  past_of None = []
  past_of (Some c) = c.0

  abbrev pub events_of : Option (Cell P S) → List (Event P)
  events_of None = []
  events_of (Some c) = c.1.events

  abbrev pub early_of : Option (Cell P S) → List (Event P)
  early_of None = []
  early_of (Some c) = c.1.early

  abbrev pub marks_of : Option (Cell P S) → ℕ
  marks_of None = 0
  marks_of (Some c) = length c.1.marks

  abbrev pub value : (Cell P S → ℕ) → Option (Cell P S) → ℕ
  value count None = 0
  value count (Some c) = count c

  abbrev pub faces : List (Cell P S) → List (ProcessFace P S)
  faces cells = map (λ (c : Cell P S). c.1) cells

  pub faces-append : (xs ys : List (Cell P S)) → faces (xs ++ ys) ≡ faces xs ++ faces ys
  faces-append [] ys = refl
  faces-append (x ∷ xs) ys = ap (λ l. x.1 ∷ l) (faces-append xs ys)

  pub faces-long : (xs : List (Cell P S)) → length (faces xs) ≡ length xs
  faces-long [] = refl
  faces-long (x ∷ xs) = ap suc (faces-long xs)

  pub numbered-append : (first : ℕ) (xs ys : List (ProcessFace P S)) → AreNumbered first xs → AreNumbered (first + length xs) ys → AreNumbered first (xs ++ ys)
  numbered-append first [] ys h g = subst (λ k. AreNumbered k ys) (let e : first + 0 ≡ first = omega arith in e) g
  numbered-append first (x ∷ xs) ys h g = (h.0, numbered-append (suc first) xs ys h.1 (subst (λ k. AreNumbered k ys) (let e : first + suc (length xs) ≡ suc first + length xs = omega arith in e) g))

  pub number_at : (first k : ℕ) (cells : List (Cell P S)) (c : Cell P S) → AreNumbered first (faces cells) → slice_get cells k ≡ Some c → c.1.number ≡ first + k
  number_at first k [] c h there = cc
  number_at first zero (x ∷ cells) c h there = let is : x ≡ c = cc in ap (λ (d : Cell P S). d.1.number) (sym is) ∙ h.0 ∙ (let e : first ≡ first + 0 = omega arith in e)
  number_at first (suc k) (x ∷ cells) c h there = number_at (suc first) k cells c h.1 there ∙ (let e : suc first + k ≡ first + suc k = omega arith in e)

  -- where only one process counts, it is all that counts
  total_above : (count : Cell P S → ℕ) (q first : ℕ) (cells : List (Cell P S)) → AreNumbered first (faces cells) → q < first → Each (λ (c : Cell P S). (c.1.number ≡ q → ⊥) → count c ≡ 0) cells → total count cells ≡ 0
  total_above count q first [] h less only = refl
  total_above count q first (c ∷ cells) h less only =
      let number = h.0 in
      let none = only.0 (λ is. omega (arith, is, number, less)) in
      let rest = total_above count q (suc first) cells h.1 (omega (arith, less)) only.1 in
      omega (arith, none, rest)

  pub total_at : (count : Cell P S → ℕ) (q first k : ℕ) (cells : List (Cell P S)) → AreNumbered first (faces cells) → q ≡ first + k → Each (λ (c : Cell P S). (c.1.number ≡ q → ⊥) → count c ≡ 0) cells → total count cells ≡ value count (slice_get cells k)
  total_at count q first k [] h is only = refl
  total_at count q first zero (c ∷ cells) h is only = let rest = total_above count q (suc first) cells h.1 (omega (arith, is)) only.1 in omega (arith, rest)
  total_at count q first (suc k) (c ∷ cells) h is only =
      let number = h.0 in
      let none = only.0 (λ same. omega (arith, same, number, is)) in
      let rest = total_at count q (suc first) k cells h.1 (omega (arith, is)) only.1 in
      omega (arith, none, rest)

  Each-faces : (Q : ProcessFace P S → Type 0) (cells : List (Cell P S)) → Each Q (faces cells) → Each (λ (c : Cell P S). Q c.1) cells
  Each-faces Q [] h = tt
  Each-faces Q (c ∷ cells) h = (h.0, Each-faces Q cells h.1)

  module _ (words : P → List ℕ) (b : Behaviour P S) where
    -- what all workers' cells are
    pub record AreCells (first n : ℕ) (cells : List (Cell P S)) : Type 0 where
      pub are : Each (λ (c : Cell P S). IsProcess words b c.0 c.1) cells
      pub numbered : AreNumbered first (faces cells)
      pub count : length cells ≡ n

    pub are_cells : (first : ℕ) (cells : List (Cell P S)) (ws : List (WorkerFace P S)) → AreWorkers words b cells ws → AreContiguous first ws → AreCells first (total process_count ws) cells
    are_cells first cells [] h con = record { are = subst (Each (λ (c : Cell P S). IsProcess words b c.0 c.1)) (sym h) tt; numbered = subst (λ l. AreNumbered first (faces l)) (sym h) tt; count = ap length h }
    are_cells first cells (w ∷ ws) h con =
        let front = h.0 in
        let back = h.1 in
        let worker = h.3 in
        let rest = are_cells (first + length w.processes) back ws h.4 con.1 in
        let long : length front ≡ length w.processes = sym (faces-long front) ∙ ap length worker.faces in
        let numbered : AreNumbered first (faces front) = subst (AreNumbered first) (sym worker.faces) (subst (λ k. AreNumbered k w.processes) con.0 worker.numbered) in
        let behind : AreNumbered (first + length (faces front)) (faces back) = subst (λ k. AreNumbered (first + k) (faces back)) (sym (ap length worker.faces)) rest.numbered in
        record {
          are = subst (Each (λ (c : Cell P S). IsProcess words b c.0 c.1)) (sym h.2) (Each-append (λ (c : Cell P S). IsProcess words b c.0 c.1) front back worker.are rest.are);
          numbered = subst (AreNumbered first) (sym (ap faces h.2 ∙ faces-append front back)) (numbered-append first (faces front) (faces back) numbered behind);
          count = let all = ap length h.2 ∙ length-append front back in let more = rest.count in omega (arith, all, long, more);
        }

    -- a fact of all processes, as one of all cells
    pub of_cells : (Q : ProcessFace P S → Type 0) (cells : List (Cell P S)) (ws : List (WorkerFace P S)) → AreWorkers words b cells ws → Each (λ (w : WorkerFace P S). Each Q w.processes) ws → Each (λ (c : Cell P S). Q c.1) cells
    of_cells Q cells [] h all = subst (Each (λ (c : Cell P S). Q c.1)) (sym h) tt
    of_cells Q cells (w ∷ ws) h all =
        subst (Each (λ (c : Cell P S). Q c.1)) (sym h.2) (Each-append (λ (c : Cell P S). Q c.1) h.0 h.1 (Each-faces Q h.0 (subst (Each Q) (sym h.3.faces) all.0)) (of_cells Q h.1 ws h.4 all.1))

    module _ (tells : TellsApart words) (e : Event P) where
      none_positive : (bound : ℕ) (ms : List (Message P)) → e.time < bound → Each (λ (m : Message P). bound ≤ (event_of m).time) ms → positives words e ms ≡ 0
      none_positive bound [] soon h = refl
      none_positive bound (Variants.Event x ∷ ms) soon h =
          let rest = none_positive bound ms soon h.1 in
          elim (hit_cases words tells e x) as (λ _. hit words e x + positives words e ms ≡ 0) [
            | inl is ↦ (let late = h.0 in let times = ap (λ (y : Event P). y.time) is in absurd (omega (arith, late, times, soon)))
            | inr none ↦ omega (arith, none, rest)
          ]
      none_positive bound (Variants.Anti x ∷ ms) soon h = none_positive bound ms soon h.1

      none_negative : (bound : ℕ) (ms : List (Message P)) → e.time < bound → Each (λ (m : Message P). bound ≤ (event_of m).time) ms → negatives words e ms ≡ 0
      none_negative bound [] soon h = refl
      none_negative bound (Variants.Event x ∷ ms) soon h = none_negative bound ms soon h.1
      none_negative bound (Variants.Anti x ∷ ms) soon h =
          let rest = none_negative bound ms soon h.1 in
          elim (hit_cases words tells e x) as (λ _. hit words e x + negatives words e ms ≡ 0) [
            | inl is ↦ (let late = h.0 in let times = ap (λ (y : Event P). y.time) is in absurd (omega (arith, late, times, soon)))
            | inr none ↦ omega (arith, none, rest)
          ]

      none_on_their_way : (bound n : ℕ) (ws : List (WorkerFace P S)) → e.time < bound → Each (λ (w : WorkerFace P S). Each (IsArrival bound w) w.inbox) ws → Each (λ (w : WorkerFace P S). Each (IsOnItsWay bound n) w.outbox) ws → (total (sent_off words e) ws ≡ 0) × (total (taken_off words e) ws ≡ 0)
      none_on_their_way bound n [] soon ins outs = (refl, refl)
      none_on_their_way bound n (w ∷ ws) soon ins outs =
          let inbox = Each-weaker (IsArrival bound w) (λ (m : Message P). bound ≤ (event_of m).time) (λ m is. is.time) w.inbox ins.0 in
          let outbox = Each-weaker (IsOnItsWay bound n) (λ (m : Message P). bound ≤ (event_of m).time) (λ m is. is.time) w.outbox outs.0 in
          let rest = none_on_their_way bound n ws soon ins.1 outs.1 in
          let one = none_positive bound w.inbox soon inbox in
          let two = none_positive bound w.outbox soon outbox in
          let three = none_negative bound w.inbox soon inbox in
          let four = none_negative bound w.outbox soon outbox in
          let left = rest.0 in
          let right = rest.1 in
          (omega (arith, one, two, left), omega (arith, three, four, right))

      -- the history of a process has only events for it, and no other process sends in its name
      stands_one : (c : Cell P S) → IsProcess words b c.0 c.1 → (c.1.number ≡ e.receiver → ⊥) → stands words e c ≡ 0
      stands_one c h not = none_of words tells (λ (x : Event P). x.receiver ≡ c.1.number) e (c.0 ++ c.1.events) h.own (λ is. not (sym is))

      waits_one : (c : Cell P S) → IsProcess words b c.0 c.1 → (c.1.number ≡ e.receiver → ⊥) → waits words e c ≡ 0
      waits_one c h not = none_of words tells (λ (x : Event P). x.receiver ≡ c.1.number) e c.1.early h.early_own (λ is. not (sym is))

      Each-any : {X : Type 0} (xs : List X) → Each (λ _. Unit {0}) xs
      Each-any [] = tt
      Each-any (x ∷ xs) = (tt, Each-any xs)

      pub sent_in_name : (p : ℕ) (es : List (Event P)) → Each (λ (x : Event P). x.sender ≡ p) (all_sent b p es)
      sent_in_name p es = Each-all_sent b p (λ (x : Event P). x.sender ≡ p) (λ (d : Draft P). Unit {0}) (λ d m any. refl) (Each-any (b.firsts p)) (λ s x. Each-any (b.drafts p s x)) es

      sends_one : (c : Cell P S) → (c.1.number ≡ e.sender → ⊥) → sends words b e c ≡ 0
      sends_one c not = none_of words tells (λ (x : Event P). x.sender ≡ c.1.number) e (all_sent b c.1.number (done_of c.0 c.1)) (sent_in_name c.1.number (done_of c.0 c.1)) (λ is. not (sym is))

    module _ (tells : TellsApart words) (n bound end : ℕ) (cells : List (Cell P S)) (ws : List (WorkerFace P S)) (starts : StartsWithin n b) (h : IsWorld words b n bound end cells ws []) where
      pub all_cells : AreCells 0 n cells
      all_cells = subst (λ k. AreCells 0 k cells) h.count (are_cells 0 cells ws h.workers h.contiguous)

      abbrev pub past : ℕ → List (Event P)
      past p = past_of (slice_get cells p)

      abbrev pub events : ℕ → List (Event P)
      events p = events_of (slice_get cells p)

      abbrev pub early : ℕ → List (Event P)
      early p = early_of (slice_get cells p)

      abbrev pub marks : ℕ → ℕ
      marks p = marks_of (slice_get cells p)

      pub process_at : (p : ℕ) (c : Cell P S) → slice_get cells p ≡ Some c → IsProcess words b c.0 c.1
      process_at p c there = Each-at (λ (d : Cell P S). IsProcess words b d.0 d.1) cells p c all_cells.are there

      pub number_is : (p : ℕ) (c : Cell P S) → slice_get cells p ≡ Some c → c.1.number ≡ p
      number_is p c there = number_at 0 p cells c all_cells.numbered there ∙ (let e : 0 + p ≡ p = omega arith in e)

      pub ready_at : (p : ℕ) (c : Cell P S) → slice_get cells p ≡ Some c → IsReady bound bound end c.1
      ready_at p c there = Each-at (λ (d : Cell P S). IsReady bound bound end d.1) cells p c (of_cells (IsReady bound bound end) cells ws h.workers h.ready) there

      pub beyond : (p : ℕ) → n ≤ p → past p ++ events p ≡ []
      beyond p far = ap (λ (o : Option (Cell P S)). past_of o ++ events_of o) (slice_get_past cells p (let count = all_cells.count in omega (arith, count, far)))

      in_order_at : (p : ℕ) (o : Option (Cell P S)) → slice_get cells p ≡ o → IsInOrder words (past_of o ++ events_of o)
      in_order_at p None there = tt
      in_order_at p (Some c) there = (process_at p c there).in_order

      own_at : (p : ℕ) (o : Option (Cell P S)) → slice_get cells p ≡ o → AreFor p (past_of o ++ events_of o)
      own_at p None there = tt
      own_at p (Some c) there = subst (λ q. AreFor q (c.0 ++ c.1.events)) (number_is p c there) (process_at p c there).own

      apart_at : (p : ℕ) (e : Event P) (o : Option (Cell P S)) → slice_get cells p ≡ o → 0 < copies words e (early_of o) → copies words e (past_of o ++ events_of o) ≡ 0
      apart_at p e None there some = refl
      apart_at p e (Some c) there some =
          let process = process_at p c there in
          let late = Each-copy words tells (λ (x : Event P). bound_of c.1.last ≤ x.time) e c.1.early process.early_from some in
          let none = none_of words tells (λ (x : Event P). x.time < bound_of c.1.last) e c.0 process.committed (λ soon. omega (arith, soon, late)) in
          let apart = process.apart e some in
          let all = copies-append words e c.0 c.1.events in
          omega (arith, all, none, apart)

      pending_at : (p : ℕ) (o : Option (Cell P S)) → slice_get cells p ≡ o → AreFrom bound (drop (marks_of o) (events_of o))
      pending_at p None there = tt
      pending_at p (Some c) there = (ready_at p c there).pending

      sent_at : (e : Event P) (o : Option (Cell P S)) → slice_get cells e.sender ≡ o → value (sends words b e) o ≡ copies words e (all_sent b e.sender (past_of o ++ take (marks_of o) (events_of o)))
      sent_at e None there =
          let far = slice_get_none cells e.sender there in
          let count = all_cells.count in
          let none = starts e.sender (omega (arith, far, count)) in
          sym (ap (copies words e) (append-nil (stamped e.sender 0 (b.firsts e.sender))) ∙ ap (λ ds. copies words e (stamped e.sender 0 ds)) none)
      sent_at e (Some c) there = ap (λ q. copies words e (all_sent b q (done_of c.0 c.1))) (number_is e.sender c there)

      stands_at : (e : Event P) (o : Option (Cell P S)) → value (stands words e) o ≡ copies words e (past_of o ++ events_of o)
      stands_at e None = refl
      stands_at e (Some c) = refl

      waits_at : (e : Event P) (o : Option (Cell P S)) → value (waits words e) o ≡ copies words e (early_of o)
      waits_at e None = refl
      waits_at e (Some c) = refl

      pub settled : IsSettled words b bound past events early marks
      settled = record {
        in_order = λ p. in_order_at p (slice_get cells p) refl;
        own = λ p. own_at p (slice_get cells p) refl;
        apart = λ p e some. apart_at p e (slice_get cells p) refl some;
        pending = λ p. pending_at p (slice_get cells p) refl;
        balanced = λ e soon.
            let all = h.balance e in
            let flight = none_on_their_way tells e bound n ws soon h.inboxes h.outboxes in
            let no_positive = flight.0 in
            let no_negative = flight.1 in
            let numbered = all_cells.numbered in
            let stand = total_at (stands words e) e.receiver 0 e.receiver cells numbered (let i : e.receiver ≡ 0 + e.receiver = omega arith in i) (Each-weaker (λ (c : Cell P S). IsProcess words b c.0 c.1) (λ (c : Cell P S). (c.1.number ≡ e.receiver → ⊥) → stands words e c ≡ 0) (stands_one tells e) cells all_cells.are) in
            let wait = total_at (waits words e) e.receiver 0 e.receiver cells numbered (let i : e.receiver ≡ 0 + e.receiver = omega arith in i) (Each-weaker (λ (c : Cell P S). IsProcess words b c.0 c.1) (λ (c : Cell P S). (c.1.number ≡ e.receiver → ⊥) → waits words e c ≡ 0) (waits_one tells e) cells all_cells.are) in
            let send = total_at (sends words b e) e.sender 0 e.sender cells numbered (let i : e.sender ≡ 0 + e.sender = omega arith in i) (Each-weaker (λ (c : Cell P S). IsProcess words b c.0 c.1) (λ (c : Cell P S). (c.1.number ≡ e.sender → ⊥) → sends words b e c ≡ 0) (λ c is. sends_one tells e c) cells all_cells.are) in
            let stand' = stands_at e (slice_get cells e.receiver) in
            let wait' = waits_at e (slice_get cells e.receiver) in
            let send' = sent_at e (slice_get cells e.sender) refl in
            omega (arith, all, no_positive, no_negative, stand, wait, send, stand', wait', send');
      }
