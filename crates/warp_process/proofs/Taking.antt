-- A process with an event more or less behind all that it has run, or with another list of early anti-messages.
use Rattle.std.proofs.Common.{◌≡◌, ℕ, zero, suc, ◌+◌, ◌^◌, ◌<◌, ◌≤◌, inl, inr, Bool, true, false, List, [], ◌∷◌, ◌++◌, length, take, drop, Some, slice_get, refl, ap, sym, subst, ◌∙◌, arith, append_assoc}
use Rattle.std.proofs.lemmas.List.{take-append-drop}
use Rattle.std.proofs.lemmas.List.Edits.{length-insert, length-remove}
use Rattle.std.proofs.lemmas.Option.{slice_get_within}
use Rattle.std.proofs.lemmas.Bool.{cases_Bool, cases_lt}
use Rattle.std.specs.List.{insert, remove}
use Rattle.warp_base.specs.declared.event.Event.{Event}
use Rattle.warp_base.specs.Events.{Each, precedes, hit, copies, IsBefore, IsInOrder, AreFor, AreFrom}
use Rattle.warp_base.specs.Histories.{Behaviour, state_after, sent_from, all_sent}
use Rattle.warp_base.proofs.Lists.{Each-append, Each-front, Each-back, Each-take, Each-drop, Each-weaker}
use Rattle.warp_base.proofs.Orders.{TellsApart, precedes_self, precedes_time, precedes_one, hit_cases, copies-append, Each-copy, none_of, in_order_back}
use Rattle.warp_base.proofs.Histories.{from_behind}
use Rattle.warp_process.specs.Processes.{ProcessFace, IsProcess, IsCopy, done_of, bound_of, IsFirstFault}
use Rattle.warp_process.proofs.InOrder.{in_order_middle, in_order_without}

pub front_stays : {X : Type 0} (k n : ℕ) (xs ys : List X) → k ≤ n → n ≤ length xs → take k (take n xs ++ ys) ≡ take k xs
front_stays zero n xs ys few within = refl
front_stays (suc k) zero xs ys few within = absurd (omega (arith, few))
front_stays (suc k) (suc n) [] ys few within = absurd (omega (arith, within))
front_stays (suc k) (suc n) (x ∷ xs) ys few within = ap (λ l. x ∷ l) (front_stays k n xs ys (omega (arith, few)) (omega (arith, within)))

Each-without : {X : Type 0} (Q : X → Type 0) (xs : List X) (n : ℕ) → Each Q xs → Each Q (remove xs n)
Each-without Q [] zero h = tt
Each-without Q [] (suc n) h = tt
Each-without Q (x ∷ xs) zero h = h.1
Each-without Q (x ∷ xs) (suc n) h = (h.0, Each-without Q xs n h.1)

get_drop : {X : Type 0} (n : ℕ) (xs ys : List X) (y : X) → drop n xs ≡ y ∷ ys → slice_get xs n ≡ Some y
get_drop zero [] ys y is = cc
get_drop zero (x ∷ xs) ys y is = let same : x ≡ y = cc in ap Some same
get_drop (suc n) [] ys y is = cc
get_drop (suc n) (x ∷ xs) ys y is = get_drop n xs ys y is

module _ {P : Type 0} (words : P → List ℕ) where
  pub copies-insert : (k e : Event P) (xs : List (Event P)) (n : ℕ) → copies words k (insert xs n e) ≡ copies words k xs + hit words k e
  copies-insert k e xs n =
      let all = copies-append words k (take n xs) (e ∷ drop n xs) in
      let parts = copies-append words k (take n xs) (drop n xs) in
      let whole = ap (copies words k) (take-append-drop n xs) in
      omega (arith, all, parts, whole)

  pub copies-remove : (k e : Event P) (xs : List (Event P)) (n : ℕ) → slice_get xs n ≡ Some e → copies words k (remove xs n) + hit words k e ≡ copies words k xs
  copies-remove k e [] n there = cc
  copies-remove k e (x ∷ xs) zero there = let is : x ≡ e = cc in let same = ap (hit words k) is in omega (arith, same)
  copies-remove k e (x ∷ xs) (suc n) there = let rest = copies-remove k e xs n there in omega (arith, rest)

  -- behind its place no event is earlier
  pub behind_from : (e : Event P) (xs : List (Event P)) → IsBefore words e xs → AreFrom e.time xs
  behind_from e xs h = from_behind words e.time e xs (omega arith) h

  -- an event that isn't at its place isn't there
  pub not_there : TellsApart words → (e : Event P) (xs : List (Event P)) (n : ℕ) → IsInOrder words xs → Each (λ x. precedes words e x ≡ false) (take n xs) → IsBefore words e (drop n xs) → (slice_get xs n ≡ Some e → ⊥) → copies words e xs ≡ 0
  not_there tells e xs n h before behind away =
      let front = none_of words tells (λ x. precedes words e x ≡ false) e (take n xs) before (λ against. let self = precedes_self words e in conflict (precedes words e e) self against) in
      let back = rest (drop n xs) refl (in_order_back words (take n xs) (drop n xs) (subst (IsInOrder words) (sym (take-append-drop n xs)) h)) behind in
      let all = ap (copies words e) (sym (take-append-drop n xs)) ∙ copies-append words e (take n xs) (drop n xs) in
      omega (arith, front, back, all)
    where
      conflict : (t : Bool) → t ≡ true → t ≡ false → ⊥
      conflict t one other = let both : true ≡ false = sym one ∙ other in cc

      rest : (ys : List (Event P)) → drop n xs ≡ ys → IsInOrder words ys → IsBefore words e ys → copies words e ys ≡ 0
      rest [] is order first = refl
      rest (y ∷ ys) is order first =
          let not_first : e ≡ y → ⊥ = λ same. away (get_drop n xs ys y is ∙ ap Some (sym same)) in
          elim (hit_cases words tells e y) as (λ _. copies words e (y ∷ ys) ≡ 0) [
            | inl same ↦ absurd (not_first same)
            | inr none ↦ elim (cases_lt 0 (copies words e ys)) as (λ _. copies words e (y ∷ ys) ≡ 0) [
              | inl some ↦ absurd (not_first (precedes_one words tells e y first.0 (Each-copy words tells (λ x. precedes words y x ≡ true) e ys order.0 some)))
              | inr few ↦ omega (arith, none, few)
            ]
          ]

module _ {P S : Type 0} (words : P → List ℕ) (tells : TellsApart words) (b : Behaviour P S) (past : List (Event P)) (f : ProcessFace P S) (h : IsProcess words b past f) where
  with_lists : (new_events new_early : List (Event P)) → ((k : ℕ) → k ≤ length f.marks → take k new_events ≡ take k f.events) → IsInOrder words (past ++ new_events) → AreFor f.number (past ++ new_events) → AreFrom (bound_of f.last) new_events → AreFor f.number new_early → AreFrom (bound_of f.last) new_early → ((e : Event P) → 0 < copies words e new_early → copies words e new_events ≡ 0) → length f.marks ≤ length new_events → IsProcess words b past (record f { events = new_events; early = new_early })
  with_lists new_events new_early same in_order own pending early_own early_from apart ran_within =
      let done : done_of past f ≡ past ++ take (length f.marks) new_events = ap (λ l. past ++ l) (sym (same (length f.marks) (omega arith))) in
      let n = length (all_sent b f.number past) in
      let s = state_after b f.number past in
      record {
        in_order = in_order;
        own = own;
        committed = h.committed;
        pending = pending;
        early_own = early_own;
        early_from = early_from;
        apart = apart;
        ran_within = ran_within;
        run = record {
          mark = λ k few. h.run.mark k few ∙ ap (λ l. Some (n + length (sent_from b f.number n s l))) (sym (same k (omega (arith, few))));
          outputs = h.run.outputs ∙ ap (sent_from b f.number n s) (sym (same (length f.marks) (omega arith)));
          total = h.run.total;
        };
        fossils = h.fossils;
        dates = h.dates;
        counted = subst (λ (l : List (Event P)). length l < 2 ^ 64) done h.counted;
        ascending = h.ascending;
        kept = subst (λ l. Each (IsCopy b f.number l) f.copies) done h.kept;
        oldest = h.oldest;
        state = λ fresh. h.state fresh ∙ ap (state_after b f.number) done;
        fault = subst (λ l. IsFirstFault b f.number l f.fault) done h.fault;
      }

  pub events_in_order : IsInOrder words f.events
  events_in_order = in_order_back words past f.events h.in_order

  not_before_past : (e : Event P) → bound_of f.last ≤ e.time → Each (λ x. precedes words e x ≡ false) past
  not_before_past e late = Each-weaker (λ (x : Event P). x.time < bound_of f.last) (λ x. precedes words e x ≡ false) (λ x soon. elim (cases_Bool (precedes words e x)) as (λ _. precedes words e x ≡ false) [
    | inl holds ↦ (let up = precedes_time words e x holds in absurd (omega (arith, up, soon, late)))
    | inr fails ↦ fails
  ]) past h.committed

  pub put_in : (e : Event P) (place : ℕ) (new_events : List (Event P)) → e.receiver ≡ f.number → bound_of f.last ≤ e.time → place ≤ length f.events → Each (λ x. precedes words e x ≡ false) (take place f.events) → IsBefore words e (drop place f.events) → length f.marks ≤ place → copies words e f.early ≡ 0 → new_events ≡ insert f.events place e → IsProcess words b past (record f { events = new_events })
  put_in e place new_events is late within before behind undone none is_new =
      let front = take place f.events in
      let back = drop place f.events in
      let whole = take-append-drop place f.events in
      let order : IsInOrder words (past ++ (front ++ e ∷ back)) = subst (IsInOrder words) (append_assoc past front (e ∷ back)) (in_order_middle words (past ++ front) e back (subst (IsInOrder words) (sym (append_assoc past front back ∙ ap (λ l. past ++ l) whole)) h.in_order) (Each-append (λ x. precedes words e x ≡ false) past front (not_before_past e late) before) behind) in
      let own_events = Each-back (λ (x : Event P). x.receiver ≡ f.number) past f.events h.own in
      let long = length-insert f.events place e within in
      let all : IsProcess words b past (record f { events = insert f.events place e }) = with_lists (insert f.events place e) f.early
      (λ k few. front_stays k place f.events (e ∷ back) (omega (arith, few, undone)) within)
      order
      (Each-append (λ (x : Event P). x.receiver ≡ f.number) past (front ++ e ∷ back) (Each-front (λ (x : Event P). x.receiver ≡ f.number) past f.events h.own) (Each-append (λ (x : Event P). x.receiver ≡ f.number) front (e ∷ back) (Each-take (λ (x : Event P). x.receiver ≡ f.number) place f.events own_events) (is, Each-drop (λ (x : Event P). x.receiver ≡ f.number) place f.events own_events)))
      (Each-append (λ (x : Event P). bound_of f.last ≤ x.time) front (e ∷ back) (Each-take (λ (x : Event P). bound_of f.last ≤ x.time) place f.events h.pending) (late, Each-drop (λ (x : Event P). bound_of f.last ≤ x.time) place f.events h.pending))
      h.early_own
      h.early_from
      (λ k there. let apart = h.apart k there in let count = copies-insert words k e f.events place in elim (hit_cases words tells k e) as (λ _. copies words k (insert f.events place e) ≡ 0) [
        | inl same ↦ (let against = ap (λ x. copies words x f.early) same in absurd (omega (arith, against, none, there)))
        | inr miss ↦ omega (arith, apart, count, miss)
      ])
      (omega (arith, long, undone, within)) in
      subst (λ l. IsProcess words b past (record f { events = l })) (sym is_new) all

  pub taken_out : (e : Event P) (place : ℕ) (new_events : List (Event P)) → slice_get f.events place ≡ Some e → length f.marks ≤ place → new_events ≡ remove f.events place → IsProcess words b past (record f { events = new_events })
  taken_out e place new_events there undone is_new =
      let within = slice_get_within f.events place e there in
      let long = length-remove f.events place within in
      let own_events = Each-back (λ (x : Event P). x.receiver ≡ f.number) past f.events h.own in
      let all : IsProcess words b past (record f { events = remove f.events place }) = with_lists (remove f.events place) f.early
      (λ k few. front_stays k place f.events (drop (suc place) f.events) (omega (arith, few, undone)) (omega (arith, within)))
      (less_in_order past place h.in_order)
      (Each-append (λ (x : Event P). x.receiver ≡ f.number) past (remove f.events place) (Each-front (λ (x : Event P). x.receiver ≡ f.number) past f.events h.own) (Each-without (λ (x : Event P). x.receiver ≡ f.number) f.events place own_events))
      (Each-without (λ (x : Event P). bound_of f.last ≤ x.time) f.events place h.pending)
      h.early_own
      h.early_from
      (λ k some. let apart = h.apart k some in let count = copies-remove words k e f.events place there in omega (arith, apart, count))
      (omega (arith, long, undone, within)) in
      subst (λ l. IsProcess words b past (record f { events = l })) (sym is_new) all
    where
      less_in_order : (xs : List (Event P)) (n : ℕ) → IsInOrder words (xs ++ f.events) → IsInOrder words (xs ++ remove f.events n)
      less_in_order [] n order = in_order_without words f.events n order
      less_in_order (x ∷ xs) n order = (Each-append (λ y. precedes words x y ≡ true) xs (remove f.events n) (Each-front (λ y. precedes words x y ≡ true) xs f.events order.0) (Each-without (λ y. precedes words x y ≡ true) f.events n (Each-back (λ y. precedes words x y ≡ true) xs f.events order.0)), less_in_order xs n order.1)

  pub early_more : (e : Event P) (new_early : List (Event P)) → e.receiver ≡ f.number → bound_of f.last ≤ e.time → copies words e f.events ≡ 0 → new_early ≡ f.early ++ e ∷ [] → IsProcess words b past (record f { early = new_early })
  early_more e new_early is late none is_new =
      subst (λ l. IsProcess words b past (record f { early = l })) (sym is_new) (with_lists f.events (f.early ++ e ∷ []) (λ k few. refl) h.in_order h.own h.pending
      (Each-append (λ (x : Event P). x.receiver ≡ f.number) f.early (e ∷ []) h.early_own (is, tt))
      (Each-append (λ (x : Event P). bound_of f.last ≤ x.time) f.early (e ∷ []) h.early_from (late, tt))
      (λ k some. let count = copies-append words k f.early (e ∷ []) in elim (hit_cases words tells k e) as (λ _. copies words k f.events ≡ 0) [
        | inl same ↦ (ap (λ x. copies words x f.events) same ∙ none)
        | inr miss ↦ h.apart k (omega (arith, some, count, miss))
      ]) h.ran_within)

  pub early_less : (e : Event P) (place : ℕ) (new_early : List (Event P)) → slice_get f.early place ≡ Some e → new_early ≡ remove f.early place → IsProcess words b past (record f { early = new_early })
  early_less e place new_early there is_new =
      subst (λ l. IsProcess words b past (record f { early = l })) (sym is_new) (with_lists f.events (remove f.early place) (λ k few. refl) h.in_order h.own h.pending
      (Each-without (λ (x : Event P). x.receiver ≡ f.number) f.early place h.early_own)
      (Each-without (λ (x : Event P). bound_of f.last ≤ x.time) f.early place h.early_from)
      (λ k some. let count = copies-remove words k e f.early place there in h.apart k (omega (arith, some, count))) h.ran_within)

  pub same_events : (new_events : List (Event P)) → new_events ≡ f.events → IsProcess words b past (record f { events = new_events })
  same_events new_events is = subst (λ l. IsProcess words b past (record f { events = l })) (sym is) h
