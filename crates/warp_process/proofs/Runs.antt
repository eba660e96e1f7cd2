-- What was sent, where only the first events stay run, or one more is run.
use Rattle.std.proofs.Common.{◌≡◌, ℕ, zero, suc, ◌+◌, ◌<◌, ◌≤◌, inl, inr, List, [], ◌∷◌, ◌++◌, length, take, drop, get_or, Some, slice_get, refl, ap, sym, ◌∙◌, arith, length-append}
use Rattle.std.proofs.lemmas.List.{take-append-drop, take_more, length-take-le, length-drop}
use Rattle.std.proofs.Math.Seq.{take-append-add, drop-append_seam}
use Rattle.std.proofs.lemmas.Bool.{cases_lt}
use Rattle.std.proofs.lemmas.Option.{slice_get_within}
use Rattle.warp_base.specs.declared.event.Event.{Event}
use Rattle.warp_base.specs.declared.event.Draft.{Draft}
use Rattle.warp_base.specs.Events.{Each, AreFrom}
use Rattle.warp_base.specs.Histories.{Behaviour, LooksAhead, stamped, state_from, state_after, sent_from, all_sent}
use Rattle.warp_base.proofs.Lists.{Each-append}
use Rattle.warp_base.proofs.Folds.{length-stamped, Each-stamped, sent_from-append, sent_from-push, all_sent-append}
use Rattle.warp_process.specs.Processes.{IsRun}

pub take_less : {X : Type 0} (k n : ℕ) (xs : List X) → k ≤ n → take k (take n xs) ≡ take k xs
take_less zero n xs few = refl
take_less (suc k) zero xs few = absurd (omega (arith, few))
take_less (suc k) (suc n) [] few = refl
take_less (suc k) (suc n) (x ∷ xs) few = ap (λ l. x ∷ l) (take_less k n xs (omega (arith, few)))

pub Each-drop_take : {X : Type 0} (Q : X → Type 0) (k n : ℕ) (xs : List X) → Each Q (drop k xs) → Each Q (drop k (take n xs))
Each-drop_take Q zero zero xs h = tt
Each-drop_take Q zero (suc n) [] h = tt
Each-drop_take Q zero (suc n) (x ∷ xs) h = (h.0, Each-drop_take Q zero n xs h.1)
Each-drop_take Q (suc k) zero xs h = tt
Each-drop_take Q (suc k) (suc n) [] h = tt
Each-drop_take Q (suc k) (suc n) (x ∷ xs) h = Each-drop_take Q k n xs h

pub get_take : {X : Type 0} (xs : List X) (n k : ℕ) → k < n → slice_get (take n xs) k ≡ slice_get xs k
get_take xs zero k less = absurd (omega (arith, less))
get_take [] (suc n) k less = refl
get_take (x ∷ xs) (suc n) zero less = refl
get_take (x ∷ xs) (suc n) (suc k) less = get_take xs n k (omega (arith, less))

pub get_push_old : {X : Type 0} (xs : List X) (y : X) (k : ℕ) → k < length xs → slice_get (xs ++ y ∷ []) k ≡ slice_get xs k
get_push_old [] y k within = absurd (omega (arith, within))
get_push_old (x ∷ xs) y zero within = refl
get_push_old (x ∷ xs) y (suc k) within = get_push_old xs y k (omega (arith, within))

pub get_push_new : {X : Type 0} (xs : List X) (y : X) (k : ℕ) → k ≡ length xs → slice_get (xs ++ y ∷ []) k ≡ Some y
get_push_new [] y zero is = refl
get_push_new [] y (suc k) is = absurd (omega (arith, is))
get_push_new (x ∷ xs) y zero is = absurd (omega (arith, is))
get_push_new (x ∷ xs) y (suc k) is = get_push_new xs y k (omega (arith, is))

pub get_behind : {X : Type 0} (xs : List X) (n k : ℕ) → slice_get (drop n xs) k ≡ slice_get xs (n + k)
get_behind xs zero k = ap (slice_get xs) (let e : k ≡ 0 + k = omega arith in e)
get_behind [] (suc n) k = refl
get_behind (x ∷ xs) (suc n) k = get_behind xs n k ∙ ap (slice_get (x ∷ xs)) (let e : suc (n + k) ≡ suc n + k = omega arith in e)

module _ {P S : Type 0} (b : Behaviour P S) (p : ℕ) where
  pub sent_from_later : LooksAhead b → (t n : ℕ) (s : S) (es : List (Event P)) → AreFrom t es → Each (λ (e : Event P). t < e.time) (sent_from b p n s es)
  sent_from_later ahead t n s [] h = tt
  sent_from_later ahead t n s (e ∷ es) h =
      Each-append (λ (x : Event P). t < x.time) (stamped p n (b.drafts p s e)) (sent_from b p (n + length (b.drafts p s e)) (b.after p s e) es)
      (Each-stamped (λ (x : Event P). t < x.time) (λ (d : Draft P). e.time < d.time) p n (λ d m later. let up = h.0 in omega (arith, later, up)) (b.drafts p s e) (ahead p s e)) (sent_from_later ahead t (n + length (b.drafts p s e)) (b.after p s e) es h.1)

  module _ (n : ℕ) (s : S) (events : List (Event P)) (marks : List ℕ) (sent : List (Event P)) (serial : ℕ) (h : IsRun b p n s events marks sent serial) where
    -- what the first events sent, and what those behind them sent
    pub record Back (keep m : ℕ) : Type 0 where
      pub front : List (Event P)
      pub back : List (Event P)
      pub whole : sent ≡ front ++ back
      pub is_front : front ≡ sent_from b p n s (take keep events)
      pub mark_is : m ≡ n + length front
      pub is_back : back ≡ sent_from b p (n + length (sent_from b p n s (take keep (take (length marks) events)))) (state_from b p s (take keep (take (length marks) events))) (drop keep (take (length marks) events))

    pub back_of : (keep m : ℕ) → keep < length marks → slice_get marks keep ≡ Some m → Back keep m
    back_of keep m less there =
        let ran = take (length marks) events in
        let few = take_less keep (length marks) events (omega (arith, less)) in
        let front = sent_from b p n s (take keep ran) in
        record {
          front = front;
          back = sent_from b p (n + length front) (state_from b p s (take keep ran)) (drop keep ran);
          whole = h.outputs ∙ ap (sent_from b p n s) (sym (take-append-drop keep ran)) ∙ sent_from-append b p n s (take keep ran) (drop keep ran);
          is_front = ap (sent_from b p n s) few;
          mark_is = let at : Some m ≡ Some (n + length (sent_from b p n s (take keep events))) = sym there ∙ h.mark keep less in let is : m ≡ n + length (sent_from b p n s (take keep events)) = cc in is ∙ ap (λ l. n + length (sent_from b p n s l)) (sym few);
          is_back = refl;
        }

    pub run_back : (keep m : ℕ) (new_sent : List (Event P)) → keep < length marks → slice_get marks keep ≡ Some m → new_sent ≡ sent_from b p n s (take keep events) → IsRun b p n s events (take keep marks) new_sent m
    run_back keep m new_sent less there is =
        let count = length-take-le keep marks (omega (arith, less)) in
        record {
          mark = λ k few. get_take marks keep k (omega (arith, few, count)) ∙ h.mark k (omega (arith, few, count, less));
          outputs = is ∙ ap (λ j. sent_from b p n s (take j events)) (sym count);
          total = let at : Some m ≡ Some (n + length (sent_from b p n s (take keep events))) = sym there ∙ h.mark keep less in let m_is : m ≡ n + length (sent_from b p n s (take keep events)) = cc in m_is ∙ ap (λ l. n + length l) (sym is);
        }

    pub run_on : (e d : Event P) → length marks < length events → e ≡ get_or events (length marks) d → IsRun b p n s events (marks ++ serial ∷ []) (sent ++ stamped p serial (b.drafts p (state_from b p s (take (length marks) events)) e)) (serial + length (b.drafts p (state_from b p s (take (length marks) events)) e))
    run_on e d more is =
        let ran = take (length marks) events in
        let s' = state_from b p s ran in
        let count : length (marks ++ serial ∷ []) ≡ length marks + 1 = length-append marks (serial ∷ []) in
        let now : take (length (marks ++ serial ∷ [])) events ≡ ran ++ e ∷ [] = ap (λ j. take j events) count ∙ take_more events (length marks) d more ∙ ap (λ x. ran ++ x ∷ []) (sym is) in
        let serial_is : serial ≡ n + length (sent_from b p n s ran) = h.total ∙ ap (λ l. n + length l) h.outputs in
        record {
          mark = λ k few. elim (cases_lt k (length marks)) as (λ _. slice_get (marks ++ serial ∷ []) k ≡ Some (n + length (sent_from b p n s (take k events)))) [
            | inl here ↦ (get_push_old marks serial k here ∙ h.mark k here)
            | inr past ↦ (let at : k ≡ length marks = omega (arith, past, few, count) in get_push_new marks serial k at ∙ ap Some serial_is ∙ ap (λ j. Some (n + length (sent_from b p n s (take j events)))) (sym at))
          ];
          outputs = ap (λ l. l ++ stamped p serial (b.drafts p s' e)) h.outputs ∙ ap (λ j. sent_from b p n s ran ++ stamped p j (b.drafts p s' e)) serial_is ∙ sym (sent_from-push b p n s ran e) ∙ ap (sent_from b p n s) (sym now);
          total = let all = length-append sent (stamped p serial (b.drafts p s' e)) in let few = length-stamped p serial (b.drafts p s' e) in let total = h.total in omega (arith, all, few, total);
        }

    -- with the first events in the past
    pub run_behind : (front rest : List (Event P)) → events ≡ front ++ rest → length front ≤ length marks → IsRun b p (n + length (sent_from b p n s front)) (state_from b p s front) rest (drop (length front) marks) (drop (length (sent_from b p n s front)) sent) serial
    run_behind front rest whole within =
        let first = sent_from b p n s front in
        let s' = state_from b p s front in
        let m = length (drop (length front) marks) in
        let count = length-drop (length front) marks in
        let all : length marks ≡ length front + m = omega (arith, count, within) in
        let ran : (k : ℕ) → sent_from b p n s (take (length front + k) events) ≡ first ++ sent_from b p (n + length first) s' (take k rest) = λ k. ap (λ l. sent_from b p n s (take (length front + k) l)) whole ∙ ap (sent_from b p n s) (take-append-add front rest k) ∙ sent_from-append b p n s front (take k rest) in
        let outputs : sent ≡ first ++ sent_from b p (n + length first) s' (take m rest) = h.outputs ∙ ap (λ j. sent_from b p n s (take j events)) all ∙ ran m in
        let behind : drop (length first) sent ≡ sent_from b p (n + length first) s' (take m rest) = ap (drop (length first)) outputs ∙ drop-append_seam first (sent_from b p (n + length first) s' (take m rest)) in
        record {
          mark = λ k few.
              let parts = length-append first (sent_from b p (n + length first) s' (take k rest)) in
              let sum : n + length (first ++ sent_from b p (n + length first) s' (take k rest)) ≡ n + length first + length (sent_from b p (n + length first) s' (take k rest)) = omega (arith, parts) in
              get_behind marks (length front) k ∙ h.mark (length front + k) (omega (arith, few, all)) ∙ ap (λ l. Some (n + length l)) (ran k) ∙ ap Some sum;
          outputs = behind;
          total =
              let parts = ap length outputs ∙ length-append first (sent_from b p (n + length first) s' (take m rest)) in
              let few = ap length behind in
              let total = h.total in
              omega (arith, parts, few, total);
        }

    -- how much the first events sent
    pub record SentBy (count sum : ℕ) : Type 0 where
      pub few : length sent ≤ serial
      pub more : serial ≤ sum + length sent
      pub within : sum + length sent ≤ serial + length sent
      pub is : (k : ℕ) → k + serial ≡ sum + length sent → (k ≡ length (sent_from b p n s (take count events))) × (k ≤ length sent)

    pub sent_by_mark : (count m : ℕ) → slice_get marks count ≡ Some m → SentBy count m
    sent_by_mark count m there =
        let back = back_of count m (slice_get_within marks count m there) there in
        let whole = ap length back.whole ∙ length-append back.front back.back in
        let front = ap length back.is_front in
        let mark_is = back.mark_is in
        let total = h.total in
        record {
          few = omega (arith, total);
          more = omega (arith, total, mark_is);
          within = omega (arith, total, mark_is, whole);
          is = λ k sum. (omega (arith, sum, total, mark_is, front), omega (arith, sum, total, mark_is, whole));
        }

-- all that is sent, the past's first
pub sent_kept : {P S : Type 0} (b : Behaviour P S) (p : ℕ) (past events : List (Event P)) (marks : List ℕ) (sent : List (Event P)) (serial : ℕ) → IsRun b p (length (all_sent b p past)) (state_after b p past) events marks sent serial → all_sent b p (past ++ take (length marks) events) ≡ all_sent b p past ++ sent
sent_kept b p past events marks sent serial h = all_sent-append b p past (take (length marks) events) ∙ ap (λ l. all_sent b p past ++ l) (sym h.outputs)
