-- Lists that hold what a run in order holds: where a process starts, and where an event is run.
use Rattle.std.proofs.Common.{◌≡◌, ℕ, zero, suc, ◌+◌, ◌<◌, List, [], ◌∷◌, ◌++◌, length, take, get_or, Some, refl, ap, sym, subst, ◌∙◌, arith, inl, inr, length-append}
use Rattle.std.specs.List.{slice_get}
use Rattle.std.proofs.lemmas.Bool.{cases_eq}
use Rattle.std.proofs.lemmas.List.{take_more, length-take-le}
use Rattle.std.proofs.lemmas.Option.{slice_get_within}
use Rattle.warp_base.specs.declared.event.Event.{Event}
use Rattle.warp_base.specs.declared.event.Draft.{Draft}
use Rattle.warp_base.specs.Histories.{Behaviour, stamp, stamped}
use Rattle.warp_base.specs.Sequential.{queued, all_queued, first_run}
use Rattle.warp_base.proofs.Folds.{stamped-push}
use Rattle.warp_run.specs.Standing.{StandsAt}

module _ {X : Type 0} where
  pushed_last : (xs : List X) (y : X) → slice_get (xs ++ y ∷ []) (length xs) ≡ Some y
  pushed_last [] y = refl
  pushed_last (x ∷ xs) y = pushed_last xs y

  pushed_before : (xs : List X) (y z : X) (j : ℕ) → slice_get xs j ≡ Some z → slice_get (xs ++ y ∷ []) j ≡ Some z
  pushed_before [] y z j is = let within = slice_get_within [] j z is in absurd (omega (arith, within))
  pushed_before (x ∷ xs) y z zero is = is
  pushed_before (x ∷ xs) y z (suc j) is = pushed_before xs y z j is

module _ {P : Type 0} (words : P → List ℕ) where
  all_queued-push : (xs queue : List (Event P)) (e : Event P) → all_queued words (xs ++ e ∷ []) queue ≡ queued words e (all_queued words xs queue)
  all_queued-push [] queue e = refl
  all_queued-push (x ∷ xs) queue e = all_queued-push xs (queued words x queue) e

  -- one draft more is queued
  pub queued_more : (p n i : ℕ) (ds : List (Draft P)) (d : Draft P) (queue : List (Event P)) → i < length ds → d ≡ get_or ds i d → queued words (stamp p (n + i) d) (all_queued words (stamped p n (take i ds)) queue) ≡ all_queued words (stamped p n (take (i + 1) ds)) queue
  queued_more p n i ds d queue within is =
      let more : take (i + 1) ds ≡ take i ds ++ d ∷ [] = take_more ds i d within ∙ ap (λ x. take i ds ++ x ∷ []) (sym is) in
      let count : length (take i ds) ≡ i = length-take-le i ds (omega (arith, within)) in
      ap (λ m. queued words (stamp p (n + m) d) (all_queued words (stamped p n (take i ds)) queue)) (sym count) ∙ sym (all_queued-push (stamped p n (take i ds)) queue (stamp p (n + length (take i ds)) d)) ∙ ap (λ l. all_queued words l queue) (sym (stamped-push p n (take i ds) d) ∙ ap (stamped p n) (sym more))

module _ {P S : Type 0} (words : P → List ℕ) (b : Behaviour P S) where
  pub stands_more : (n : ℕ) (states states' : List S) (serials serials' : List ℕ) (queue queue' : List (Event P))
      → StandsAt n (first_run words b n) states serials queue
      → states' ≡ states ++ b.start n ∷ [] → serials' ≡ serials ++ length (b.firsts n) ∷ [] → queue' ≡ all_queued words (stamped n 0 (b.firsts n)) queue
      → StandsAt (n + 1) (first_run words b (n + 1)) states' serials' queue'
  stands_more n states states' serials serials' queue queue' h is_states is_serials is_queue =
      let one : suc n ≡ n + 1 = omega arith in
      subst (λ m. StandsAt m (first_run words b m) states' serials' queue') one (record {
        state_count = let all = ap length is_states ∙ length-append states (b.start n ∷ []) in let old = h.state_count in omega (arith, all, old);
        state = λ p within. rw is_states (elim (cases_eq p n) as (λ _. slice_get (states ++ b.start n ∷ []) p ≡ Some (b.start p)) [
          | inl here ↦ subst (λ q. slice_get (states ++ b.start n ∷ []) q ≡ Some (b.start q)) (sym here) (subst (λ q. slice_get (states ++ b.start n ∷ []) q ≡ Some (b.start n)) h.state_count (pushed_last states (b.start n)))
          | inr other ↦ pushed_before states (b.start n) (b.start p) p (h.state p (omega (arith, within, other)))
        ]);
        serial_count = let all = ap length is_serials ∙ length-append serials (length (b.firsts n) ∷ []) in let old = h.serial_count in omega (arith, all, old);
        serial = λ p within. rw is_serials (elim (cases_eq p n) as (λ _. slice_get (serials ++ length (b.firsts n) ∷ []) p ≡ Some (length (b.firsts p))) [
          | inl here ↦ subst (λ q. slice_get (serials ++ length (b.firsts n) ∷ []) q ≡ Some (length (b.firsts q))) (sym here) (subst (λ q. slice_get (serials ++ length (b.firsts n) ∷ []) q ≡ Some (length (b.firsts n))) h.serial_count (pushed_last serials (length (b.firsts n))))
          | inr other ↦ pushed_before serials (length (b.firsts n)) (length (b.firsts p)) p (h.serial p (omega (arith, within, other)))
        ]);
        waiting = is_queue ∙ ap (all_queued words (stamped n 0 (b.firsts n))) h.waiting;
      })
