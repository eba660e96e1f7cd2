-- Where nothing below a bound is left to do, what stands below it is the run in order.
use Rattle.std.proofs.Common.{◌≡◌, ℕ, suc, ◌<◌, ◌≤◌, inl, inr, List, [], ◌++◌, take, drop, ap, sym, ◌∙◌, arith, append_assoc}
use Rattle.std.proofs.lemmas.List.{take-append-drop}
use Rattle.std.proofs.lemmas.Bool.{cases_lt}
use Rattle.warp_base.specs.declared.event.Event.{Event}
use Rattle.warp_base.specs.Events.{copies, IsInOrder}
use Rattle.warp_base.specs.Histories.{Behaviour, LooksAhead, StartsWithin, state_after, all_sent, earlier, IsConsistent}
use Rattle.warp_base.specs.Sequential.{sequential, IsOver, those_for}
use Rattle.warp_base.specs.Settled.{IsSettled, IsSequential}
use Rattle.warp_base.specs.Laws.{SafeBound}
use Rattle.warp_base.proofs.Orders.{TellsApart, in_order_front}
use Rattle.warp_base.proofs.Histories.{earlier-append, earlier_front, all_sent_earlier, consistent_below, history_is_one}
use Rattle.warp_base.proofs.Sequential.{earlier_those, sequential_sound, over_consistent, sequential_within, front_reached}
use Rattle.warp_base.proofs.Ends.{ends}

module _ {P : Type 0} (words : P → List ℕ) (tells : TellsApart words) {S : Type 0} (b : Behaviour P S) (ahead : LooksAhead b) where
  module _ (bound : ℕ) (past events early : ℕ → List (Event P)) (ran : ℕ → ℕ) (h : IsSettled words b bound past events early ran) where
    abbrev whole : ℕ → List (Event P)
    whole p = past p ++ events p

    abbrev done : ℕ → List (Event P)
    done p = past p ++ take (ran p) (events p)

    done_first : (p : ℕ) → done p ++ drop (ran p) (events p) ≡ whole p
    done_first p = append_assoc (past p) (take (ran p) (events p)) (drop (ran p) (events p)) ∙ ap (λ l. past p ++ l) (take-append-drop (ran p) (events p))

    done_in_order : (p : ℕ) → IsInOrder words (done p)
    done_in_order p = in_order_front words (done p) (drop (ran p) (events p)) (rw done_first (h.in_order p))

    -- below the bound all that stands is run
    earlier_done : (p : ℕ) → earlier bound (done p) ≡ earlier bound (whole p)
    earlier_done p =
        earlier-append bound (past p) (take (ran p) (events p)) ∙ ap (λ l. earlier bound (past p) ++ l) (earlier_front bound (ran p) (events p) (h.pending p)) ∙ sym (earlier-append bound (past p) (events p))

    sent_done : (e : Event P) → e.time < bound → copies words e (all_sent b e.sender (done e.sender)) ≡ copies words e (all_sent b e.sender (whole e.sender))
    sent_done e soon =
        let q = e.sender in
        all_sent_earlier words tells b ahead e bound q (done q) (done_in_order q) (omega (arith, soon)) ∙ ap (λ l. copies words e (all_sent b q l)) (earlier_done q) ∙ sym (all_sent_earlier words tells b ahead e bound q (whole q) (h.in_order q) (omega (arith, soon)))

    pub none_early : (e : Event P) → e.time < bound → copies words e (early e.receiver) ≡ 0
    none_early e soon =
        elim (cases_lt 0 (copies words e (early e.receiver))) as (λ _. copies words e (early e.receiver) ≡ 0) [
          | inl some ↦ (let none = h.apart e.receiver e some in let all = h.balanced e soon in absurd (omega (arith, none, all, some)))
          | inr none ↦ omega (arith, none)
        ]

    pub settled_consistent : IsConsistent words b bound whole
    settled_consistent = record {
      in_order = h.in_order;
      own = h.own;
      balanced = λ e soon.
          let all = h.balanced e soon in
          let none = none_early e soon in
          let sent = sent_done e soon in
          omega (arith, all, none, sent);
    }

  -- consistent histories and a run that is over are one up to its end
  over_one : (n end steps : ℕ) (histories : ℕ → List (Event P)) → StartsWithin n b → IsConsistent words b (suc end) histories → IsOver end (sequential words b n end steps) → IsSequential words b n end steps histories
  over_one n end steps histories starts h over =
      let r = sequential words b n end steps in
      let sound = sequential_sound words tells b ahead n end steps starts in
      let one = history_is_one words tells b ahead (suc end) histories (λ p. those_for p r.ran) h (over_consistent words tells b end r sound over) in
      let same : (p : ℕ) → earlier (suc end) (histories p) ≡ those_for p r.ran = λ p. one p ∙ earlier_those (suc end) p r.ran ∙ ap (those_for p) (sequential_within words b n end steps) in
      record { history = same; state = λ p. ap (state_after b p) (same p) ∙ sym (sound.follows.states p) }

  module _ (n last : ℕ) (past events early : ℕ → List (Event P)) (ran : ℕ → ℕ) (starts : StartsWithin n b) (h : IsSettled words b (suc last) past events early ran) (beyond : (p : ℕ) → n ≤ p → past p ++ events p ≡ []) where
    pub bound_is_safe : SafeBound words S b n last past events early
    bound_is_safe =
        let family = settled_consistent (suc last) past events early ran h in
        let over = ends words tells b ahead n last (λ p. past p ++ events p) starts family beyond in
        record {
          sequential = (over.0, over.1, over_one n last over.0 (λ p. past p ++ events p) starts family over.1);
          none_early = λ p e here soon. ap (λ q. copies words e (early q)) (sym here) ∙ none_early (suc last) past events early ran h e (omega (arith, soon));
        }

    pub states_are_real : (p k : ℕ) → (steps : ℕ) × ((sequential words b n last steps).states p ≡ state_after b p (take k (earlier (suc last) (past p ++ events p))))
    states_are_real p k =
        let all = bound_is_safe.sequential in
        let front = front_reached words b n last p k all.0 in
        (front.steps, (sequential_sound words tells b ahead n last front.steps starts).follows.states p ∙ ap (state_after b p) (front.history ∙ ap (take k) (sym (all.2.history p))))

  pub settled_is_final : (bound later : ℕ) (past events early later_past later_events later_early : ℕ → List (Event P)) (ran later_ran : ℕ → ℕ) → bound ≤ later → IsSettled words b bound past events early ran → IsSettled words b later later_past later_events later_early later_ran → (p : ℕ) → earlier bound (past p ++ events p) ≡ earlier bound (later_past p ++ later_events p)
  settled_is_final bound later past events early later_past later_events later_early ran later_ran few h g p =
      let after = settled_consistent later later_past later_events later_early later_ran g in
      history_is_one words tells b ahead bound (λ q. past q ++ events q) (λ q. later_past q ++ later_events q) (settled_consistent bound past events early ran h) (consistent_below words tells b ahead bound later (λ q. later_past q ++ later_events q) few after) p
