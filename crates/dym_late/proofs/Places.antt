-- The order with an event more: it stands behind those whose time is at most its own, and the later ones one place further.
use Rattle.std.proofs.Common.{◌≡◌, ℕ, suc, ◌+◌, ◌-◌, ◌<◌, ◌≤◌, inl, inr, List, [], ◌∷◌, ◌++◌, length, get_or, take, drop, drop-cons, Some, ap, sym, subst, ◌∙◌, arith, length-append}
use Rattle.std.specs.List.{insert}
use Rattle.std.proofs.lemmas.Bool.{cases_lt, cases_order}
use Rattle.std.proofs.lemmas.List.{take-append-le, drop-append-le, get_or_append_left}
use Rattle.std.proofs.lemmas.List.Edits.{length-insert, get_or-insert_at, get_or-insert_below, get_or-insert_above}
use Rattle.std.proofs.Math.Seq.{take-append_seam, get_or-append_seam}
use Rattle.std.proofs.Math.ListN.{drop_of_length-le}
use Rattle.dym_base.specs.LateRun as LateRun
use Rattle.dym_base.specs.LateRun.{LateEvent, events_to, place_between, place_of_first, place_of}
use Rattle.dym_late.specs.Orders.{no_event, event_at, rank, IsOrder}
use Rattle.dym_late.proofs.Counts.{one_to, one_before, one_yes, one_no, before_yes, before_no, to_push, before_push, to_most, to_rises, order_push, length_order}

one_more : (xs : List LateEvent) (e : LateEvent) → length (xs ++ e ∷ []) ≡ length xs + 1
one_more xs e = length-append xs (e ∷ [])

pub old_event : (events : List LateEvent) (e : LateEvent) (k : ℕ) → k < length events → event_at (events ++ e ∷ []) k ≡ event_at events k
old_event events e k within = get_or_append_left events (e ∷ []) no_event k within

pub new_event : (events : List LateEvent) (e : LateEvent) → event_at (events ++ e ∷ []) (length events) ≡ e
new_event events e = get_or-append_seam events e [] no_event

-- the place of an event in the order, as the definition of its reply has it
pub place_is : (events : List LateEvent) (k : ℕ) → k < length events → place_of events k ≡ Some (rank events k)
place_is events k within = ap (place_of_first (take k events)) (drop-cons events k no_event within)

pub old_rank : (events : List LateEvent) (e : LateEvent) (k : ℕ) → k < length events → rank (events ++ e ∷ []) k ≡ rank events k + one_before (event_at events k).time e
old_rank events e k within =
    let t : ℕ = (event_at events k).time in
    let before = ap (λ l. place_between l (event_at (events ++ e ∷ []) k) (drop (suc k) (events ++ e ∷ []))) (take-append-le k events (e ∷ []) (omega (arith, within))) in
    let after = ap (λ l. place_between (take k events) (event_at (events ++ e ∷ []) k) l) (drop-append-le (suc k) events (e ∷ []) (omega (arith, within))) in
    let at = ap (λ x. place_between (take k events) x (drop (suc k) events ++ e ∷ [])) (old_event events e k within) in
    let pushed = before_push t (drop (suc k) events) e in
    before ∙ after ∙ at ∙ omega (arith, pushed)

pub new_rank : (events : List LateEvent) (e : LateEvent) → rank (events ++ e ∷ []) (length events) ≡ events_to e.time events
new_rank events e =
    let n : ℕ = length events in
    let more = one_more events e in
    let before = ap (λ l. place_between l (event_at (events ++ e ∷ []) n) (drop (suc n) (events ++ e ∷ []))) (take-append_seam events (e ∷ [])) in
    let after = ap (λ l. place_between events (event_at (events ++ e ∷ []) n) l) (drop_of_length-le (events ++ e ∷ []) {i = suc n} (omega (arith, more))) in
    let at = ap (λ x. place_between events x []) (new_event events e) in
    before ∙ after ∙ at ∙ omega arith

above : (P : ℕ → Type 0) (p n : ℕ) → ((i : ℕ) → p ≤ i → i < n → P (i + 1)) → (j : ℕ) → p < j → j < n + 1 → P j
above P p n high j more within =
    let is : (j - 1) + 1 ≡ j = omega (arith, more) in
    subst P is (high (j - 1) (omega (arith, more)) (omega (arith, more, within)))

by_place : (P : ℕ → Type 0) (p n : ℕ) → ((j : ℕ) → j < p → P j) → P p → ((i : ℕ) → p ≤ i → i < n → P (i + 1)) → (j : ℕ) → j < n + 1 → P j
by_place P p n low at high j within =
    elim (cases_order j p) as (λ _. P j) [
      | inl same ↦ subst P (sym same) at
      | inr other ↦ (elim other as (λ _. P j) [
        | inl less ↦ low j less
        | inr more ↦ above P p n high j more within
      ])
    ]

module _ (events : List LateEvent) (e : LateEvent) (order : List ℕ) (is : IsOrder events order) where
  abbrev p : ℕ
  p = events_to e.time events

  abbrev n : ℕ
  n = length events

  abbrev more : List LateEvent
  more = events ++ e ∷ []

  abbrev longer : List ℕ
  longer = insert order p n

  p_in : p ≤ n
  p_in = to_most e.time events

  p_fits : p ≤ length order
  p_fits = (let same = is.count in let most = p_in in omega (arith, same, most))

  low : (j : ℕ) → j < p → get_or longer j 0 ≡ get_or order j 0
  low j less = get_or-insert_below order p n 0 j less p_fits

  here : get_or longer p 0 ≡ n
  here = get_or-insert_at order p n 0 p_fits

  high : (i : ℕ) → p ≤ i → get_or longer (i + 1) 0 ≡ get_or order i 0
  high i least = get_or-insert_above order p n 0 i least p_fits

  low_event : (j : ℕ) → j < p → event_at more (get_or longer j 0) ≡ event_at events (get_or order j 0)
  low_event j less = ap (event_at more) (low j less) ∙ old_event events e (get_or order j 0) (is.number j (let most = p_in in omega (arith, most, less)))

  here_event : event_at more (get_or longer p 0) ≡ e
  here_event = ap (event_at more) here ∙ new_event events e

  high_event : (i : ℕ) → p ≤ i → i < n → event_at more (get_or longer (i + 1) 0) ≡ event_at events (get_or order i 0)
  high_event i least within = ap (event_at more) (high i least) ∙ old_event events e (get_or order i 0) (is.number i within)

  count : length longer ≡ length more
  count = (let a = length-insert order p n p_fits in let b = one_more events e in let c = is.count in omega (arith, a, b, c))

  few : (j : ℕ) → j < length more → j < n + 1
  few j within = (let b = one_more events e in omega (arith, b, within))

  many : (k : ℕ) → k < n + 1 → k < length more
  many k within = (let b = one_more events e in omega (arith, b, within))

  number : (j : ℕ) → j < n + 1 → get_or longer j 0 < n + 1
  number = by_place (λ j. get_or longer j 0 < n + 1) p n
      (λ j less. (let at = low j less in let small = is.number j (let most = p_in in omega (arith, most, less)) in omega (arith, at, small)))
      (let at = here in omega (arith, at))
      (λ i least within. (let at = high i least in let small = is.number i within in omega (arith, at, small)))

  p_there : p ≤ length (LateRun.order events)
  p_there = (let a = length_order events in let b = p_in in omega (arith, a, b))

  ordered : (j : ℕ) → event_at (LateRun.order more) j ≡ event_at (insert (LateRun.order events) p e) j
  ordered j = ap (λ l. event_at l j) (order_push events e)

  event : (j : ℕ) → j < n + 1 → event_at (LateRun.order more) j ≡ event_at more (get_or longer j 0)
  event = by_place (λ j. event_at (LateRun.order more) j ≡ event_at more (get_or longer j 0)) p n
      (λ j less. (ordered j ∙ get_or-insert_below (LateRun.order events) p e no_event j less p_there ∙ is.event j (let most = p_in in omega (arith, most, less)) ∙ sym (low_event j less)))
      (ordered p ∙ get_or-insert_at (LateRun.order events) p e no_event p_there ∙ sym here_event)
      (λ i least within. (ordered (i + 1) ∙ get_or-insert_above (LateRun.order events) p e no_event i least p_there ∙ is.event i within ∙ sym (high_event i least within)))

  stays : (k : ℕ) → k < n → (event_at events k).time ≤ e.time → rank more k ≡ rank events k
  stays k within early = (let a = old_rank events e k within in let b = before_no (event_at events k).time e early in omega (arith, a, b))

  moves : (k : ℕ) → k < n → e.time < (event_at events k).time → rank more k ≡ rank events k + 1
  moves k within late = (let a = old_rank events e k within in let b = before_yes (event_at events k).time e late in omega (arith, a, b))

  rank_of : (j : ℕ) → j < n + 1 → rank more (get_or longer j 0) ≡ j
  rank_of = by_place (λ j. rank more (get_or longer j 0) ≡ j) p n
      (λ j less. (let fits : j < n = (let most = p_in in omega (arith, most, less)) in
      ap (rank more) (low j less) ∙ stays (get_or order j 0) (is.number j fits) (is.early j e.time less) ∙ is.rank_of j fits))
      (ap (rank more) here ∙ new_rank events e)
      (λ i least within. (ap (rank more) (high i least) ∙ moves (get_or order i 0) (is.number i within) (is.late i e.time least within) ∙ ap (λ q. q + 1) (is.rank_of i within)))

  abbrev AtRank : ℕ → Type 0
  AtRank k = (rank more k < n + 1) × (get_or longer (rank more k) 0 ≡ k)

  old_at : (k : ℕ) → k < n → AtRank k
  old_at k within =
      let q : ℕ = rank events k in
      let fits : q < n = is.within k within in
      let there = ap (λ i. (event_at events i).time) (is.at_rank k within) in
      elim (cases_lt q p) as (λ _. AtRank k) [
        | inl less ↦ (
            let early = is.early q e.time less in
            let same = stays k within (omega (arith, there, early)) in
            (omega (arith, same, fits), ap (λ i. get_or longer i 0) same ∙ low q less ∙ is.at_rank k within))
        | inr least ↦ (
            let late = is.late q e.time least fits in
            let next = moves k within (omega (arith, there, late)) in
            (omega (arith, next, fits), ap (λ i. get_or longer i 0) next ∙ high q least ∙ is.at_rank k within))
      ]

  at : (k : ℕ) → k < n + 1 → AtRank k
  at k within =
      elim (cases_lt k n) as (λ _. AtRank k) [
        | inl less ↦ old_at k less
        | inr last ↦ (
            let same : k ≡ n = omega (arith, last, within) in
            subst AtRank (sym same) (
            let put = new_rank events e in
            let most = p_in in
            (omega (arith, put, most), ap (λ i. get_or longer i 0) put ∙ here)))
      ]

  counted : (t : ℕ) → events_to t more ≡ events_to t events + one_to t e
  counted t = to_push t events e

  abbrev Early : ℕ → ℕ → Type 0
  Early t j = j < events_to t events + one_to t e → (event_at more (get_or longer j 0)).time ≤ t

  early : (t j : ℕ) → j < n + 1 → Early t j
  early t = by_place (Early t) p n
      (λ j less fits. (
      let same = ap (λ (x : LateEvent). x.time) (low_event j less) in
      let mine = is.early j e.time less in
      elim (cases_lt t e.time) as (λ _. (event_at more (get_or longer j 0)).time ≤ t) [
        | inl later ↦ (let none = one_no t e later in let still = is.early j t (omega (arith, fits, none)) in omega (arith, same, still))
        | inr sooner ↦ omega (arith, same, mine, sooner)
      ]))
      (λ fits. (
      let same = ap (λ (x : LateEvent). x.time) here_event in
      elim (cases_lt t e.time) as (λ _. (event_at more (get_or longer p 0)).time ≤ t) [
        | inl later ↦ (let none = one_no t e later in let rise = to_rises t e.time events (omega (arith, later)) in absurd (omega (arith, fits, none, rise)))
        | inr sooner ↦ omega (arith, same, sooner)
      ]))
      (λ i least within fits. (
      let same = ap (λ (x : LateEvent). x.time) (high_event i least within) in
      elim (cases_lt t e.time) as (λ _. (event_at more (get_or longer (i + 1) 0)).time ≤ t) [
        | inl later ↦ (let none = one_no t e later in let rise = to_rises t e.time events (omega (arith, later)) in absurd (omega (arith, fits, none, rise, least)))
        | inr sooner ↦ (let one = one_yes t e sooner in let still = is.early i t (omega (arith, fits, one)) in omega (arith, same, still))
      ]))

  abbrev Late : ℕ → ℕ → Type 0
  Late t j = events_to t events + one_to t e ≤ j → t < (event_at more (get_or longer j 0)).time

  late : (t j : ℕ) → j < n + 1 → Late t j
  late t = by_place (Late t) p n
      (λ j less fits. (
      let same = ap (λ (x : LateEvent). x.time) (low_event j less) in
      let most = p_in in
      elim (cases_lt t e.time) as (λ _. t < (event_at more (get_or longer j 0)).time) [
        | inl later ↦ (let none = one_no t e later in let still = is.late j t (omega (arith, fits, none)) (omega (arith, less, most)) in omega (arith, same, still))
        | inr sooner ↦ (let rise = to_rises e.time t events sooner in absurd (omega (arith, fits, less, rise)))
      ]))
      (λ fits. (
      let same = ap (λ (x : LateEvent). x.time) here_event in
      elim (cases_lt t e.time) as (λ _. t < (event_at more (get_or longer p 0)).time) [
        | inl later ↦ omega (arith, same, later)
        | inr sooner ↦ (let one = one_yes t e sooner in let rise = to_rises e.time t events sooner in absurd (omega (arith, fits, one, rise)))
      ]))
      (λ i least within fits. (
      let same = ap (λ (x : LateEvent). x.time) (high_event i least within) in
      let behind = is.late i e.time least within in
      elim (cases_lt t e.time) as (λ _. t < (event_at more (get_or longer (i + 1) 0)).time) [
        | inl later ↦ omega (arith, same, behind, later)
        | inr sooner ↦ (let one = one_yes t e sooner in let still = is.late i t (omega (arith, fits, one)) within in omega (arith, same, still))
      ]))

  pub order_grows : IsOrder more longer
  order_grows = record {
    count = count;
    number = λ j within. (let fits = number j (few j within) in many (get_or longer j 0) fits);
    event = λ j within. event j (few j within);
    rank_of = λ j within. rank_of j (few j within);
    within = λ k within. many (rank more k) (at k (few k within)).0;
    at_rank = λ k within. (at k (few k within)).1;
    early = λ j t fits. (let c = counted t in let most = to_most t more in early t j (few j (omega (arith, fits, most))) (omega (arith, c, fits)));
    late = λ j t fits within. (let c = counted t in late t j (few j within) (omega (arith, c, fits)));
  }
