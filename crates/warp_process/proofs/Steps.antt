-- Each step keeps that a process is one.
use Rattle.std.proofs.Common.{◌≡◌, ℕ, ◌+◌, ◌^◌, ◌<◌, ◌≤◌, ◌⊎◌, inl, inr, true, false, nat_le, List, [], ◌∷◌, ◌++◌, length, take, drop, get_or, Option, Some, IfSome, IfNone, slice_get, map, ap, sym, subst, ◌∙◌, arith, append_assoc, length-append}
use Rattle.std.proofs.lemmas.List.{take-append-drop, take-append-le, length-take-le, append_cancel_left, take_more}
use Rattle.std.proofs.lemmas.Bool.{cases_Bool, le-leb, leb-true}
use Rattle.std.proofs.Math.Seq.{take_at}
use Rattle.warp_base.specs.declared.event.Event.{Event}
use Rattle.warp_base.specs.declared.event.Message.{Message}
use Rattle.warp_base.specs.declared.event.Message.TheVariants as Variants
use Rattle.warp_base.specs.Events.{Each, AreFrom}
use Rattle.warp_base.specs.Histories.{Behaviour, LooksAhead, stamped, state_from, state_after, sent_from, all_sent}
use Rattle.warp_base.proofs.Lists.{filter_yes, filter_no, Each-filter, Each-weaker}
use Rattle.warp_base.specs.declared.event.Draft.{Draft}
use Rattle.warp_base.proofs.Folds.{Each-stamped, length-stamped, state_after-append, state_after-push, all_sent-push}
use Rattle.warp_process.specs.Savers.{until, AreAscending}
use Rattle.warp_process.specs.Processes.{ProcessFace, IsProcess, IsCopy, IsFirstFault, fault_with, done_of, HasPosted, IsTooMany}
use Rattle.warp_process.proofs.Runs.{take_less, Each-drop_take, sent_from_later, back_of, run_back, run_on, sent_kept}
use Rattle.warp_process.proofs.Outgoing.{taken_back, newly_sent}
use Rattle.warp_process.proofs.Faults.{fault_back, fault_next}

module _ {S : Type 0} where
  until_ascending : (date : ℕ) (cs : List (ℕ × S)) → AreAscending cs → AreAscending (until date cs)
  until_ascending date [] h = tt
  until_ascending date (c ∷ cs) h =
      elim (cases_Bool (nat_le c.0 date)) as (λ _. AreAscending (until date (c ∷ cs))) [
        | inl holds ↦ rw (filter_yes (λ (d : ℕ × S). nat_le d.0 date) c cs holds) (Each-filter (λ (d : ℕ × S). nat_le d.0 date) (λ (d : ℕ × S). c.0 < d.0) cs h.0, until_ascending date cs h.1)
        | inr fails ↦ rw (filter_no (λ (d : ℕ × S). nat_le d.0 date) c cs fails) (until_ascending date cs h.1)
      ]

  Each-until : (Q R : ℕ × S → Type 0) (date : ℕ) (cs : List (ℕ × S)) → ((c : ℕ × S) → c.0 ≤ date → Q c → R c) → Each Q cs → Each R (until date cs)
  Each-until Q R date [] tells h = tt
  Each-until Q R date (c ∷ cs) tells h =
      elim (cases_Bool (nat_le c.0 date)) as (λ _. Each R (until date (c ∷ cs))) [
        | inl holds ↦ rw (filter_yes (λ (d : ℕ × S). nat_le d.0 date) c cs holds) (tells c (leb-true c.0 date holds) h.0, Each-until Q R date cs tells h.1)
        | inr fails ↦ rw (filter_no (λ (d : ℕ × S). nat_le d.0 date) c cs fails) (Each-until Q R date cs tells h.1)
      ]

module _ {P S : Type 0} (words : P → List ℕ) (b : Behaviour P S) (past : List (Event P)) (f : ProcessFace P S) (h : IsProcess words b past f) where
  pub length-done : length (done_of past f) ≡ length past + length f.marks
  length-done =
      let all = length-append past (take (length f.marks) f.events) in
      let few = length-take-le (length f.marks) f.events h.ran_within in
      omega (arith, all, few)

  -- what a rollback reckons with stays in bounds
  pub record BackBounds (keep m : ℕ) : Type 0 where
    pub few : m ≤ f.serial
    pub many : f.serial ≤ m + length f.sent
    pub date : f.first_date + length f.fossils + keep < 2 ^ 64

  pub back_bounds : (keep m : ℕ) → keep < length f.marks → slice_get f.marks keep ≡ Some m → BackBounds keep m
  back_bounds keep m less there =
      let back = back_of b f.number (length (all_sent b f.number past)) (state_after b f.number past) f.events f.marks f.sent f.serial h.run keep m less there in
      let whole = ap length back.whole ∙ length-append back.front back.back in
      let mark_is = back.mark_is in
      let total = h.run.total in
      let counted = h.counted in
      let done = length-done in
      let dates = h.dates in
      record {
        few = omega (arith, whole, mark_is, total);
        many = omega (arith, whole, mark_is, total);
        date = omega (arith, counted, done, dates, less);
      }

  pub back_to : (keep first m date : ℕ) (new_state : S) (new_marks : List ℕ) (new_sent : List (Event P)) (new_copies : List (ℕ × S)) (new_fault : Option ℕ) → keep < length f.marks → slice_get f.marks keep ≡ Some m → first + f.serial ≡ length f.sent + m → date ≡ f.first_date + length f.fossils + keep → new_marks ≡ take keep f.marks → new_sent ≡ take first f.sent → new_copies ≡ until date f.copies → IfSome new_fault (λ first. (f.fault ≡ Some first) × (first ≤ date)) → IfNone new_fault (IfSome f.fault (λ first. date < first)) → IsProcess words b past (record f { marks = new_marks; sent = new_sent; serial = m; copies = new_copies; is_stale = true; state = new_state; fault = new_fault })
  back_to keep first m date new_state new_marks new_sent new_copies new_fault less there split date_is marks_are sent_is copies_are faults_kept faults_gone =
      let n = length (all_sent b f.number past) in
      let s = state_after b f.number past in
      let back = back_of b f.number n s f.events f.marks f.sent f.serial h.run keep m less there in
      let whole = ap length back.whole ∙ length-append back.front back.back in
      let mark_is = back.mark_is in
      let total = h.run.total in
      let first_is : first ≡ length back.front = omega (arith, whole, mark_is, total, split) in
      let front_is : new_sent ≡ back.front = sent_is ∙ ap (take first) back.whole ∙ take_at back.front back.back first (sym first_is) in
      let run = run_back b f.number n s f.events f.marks f.sent f.serial h.run keep m new_sent less there (front_is ∙ back.is_front) in
      let count : length new_marks ≡ keep = ap length marks_are ∙ length-take-le keep f.marks (omega (arith, less)) in
      let ran = take (length f.marks) f.events in
      let done' = past ++ take keep f.events in
      let few = take_less keep (length f.marks) f.events (omega (arith, less)) in
      let done_is : done_of past f ≡ done' ++ drop keep ran = ap (λ l. past ++ l) (sym (take-append-drop keep ran)) ∙ sym (append_assoc past (take keep ran) (drop keep ran)) ∙ ap (λ l. (past ++ l) ++ drop keep ran) few in
      let now_is : done' ≡ past ++ take (length new_marks) f.events = ap (λ j. past ++ take j f.events) (sym count) in
      let within = h.ran_within in
      let dates = h.dates in
      let long : length done' ≡ length past + keep = (let all = length-append past (take keep f.events) in let part = length-take-le keep f.events (omega (arith, less, within)) in omega (arith, all, part)) in
      let date_long : date ≡ length done' = omega (arith, date_is, dates, long) in
      let counted = h.counted in
      let all_long = ap length done_is ∙ length-append done' (drop keep ran) in
      let at_most : (c : ℕ × S) → c.0 ≤ date → IsCopy b f.number (done_of past f) c → IsCopy b f.number done' c = λ c soon is. (omega (arith, soon, date_is, dates, long), is.1 ∙ ap (λ l. state_after b f.number (take c.0 l)) done_is ∙ ap (state_after b f.number) (take-append-le c.0 done' (drop keep ran) (omega (arith, soon, date_is, dates, long)))) in
      record {
        in_order = h.in_order;
        own = h.own;
        committed = h.committed;
        pending = h.pending;
        early_own = h.early_own;
        early_from = h.early_from;
        apart = h.apart;
        ran_within = omega (arith, count, less, within);
        run = rw marks_are run;
        fossils = h.fossils;
        dates = h.dates;
        counted = subst (λ (l : List (Event P)). length l < 2 ^ 64) now_is (omega (arith, counted, all_long));
        ascending = rw copies_are (until_ascending date f.copies h.ascending);
        kept = rw copies_are (subst (λ l. Each (IsCopy b f.number l) (until date f.copies)) now_is (Each-until (IsCopy b f.number (done_of past f)) (IsCopy b f.number done') date f.copies at_most h.kept));
        oldest = (h.oldest.0, until date h.oldest.1, copies_are ∙ ap (until date) h.oldest.2 ∙ filter_yes (λ (d : ℕ × S). nat_le d.0 date) (f.first_date, h.oldest.0) h.oldest.1 (le-leb f.first_date date (omega (arith, date_is))));
        state = λ fresh. absurd (both fresh);
        fault = subst (λ l. IsFirstFault b f.number l new_fault) now_is (fault_back b f.number done' (drop keep ran) f.fault new_fault (subst (λ l. IsFirstFault b f.number l f.fault) done_is h.fault) (subst (λ n. IfSome new_fault (λ k. (f.fault ≡ Some k) × (k ≤ n))) date_long faults_kept) (subst (λ n. IfNone new_fault (IfSome f.fault (λ k. n < k))) date_long faults_gone));
      }
    where
      both : true ≡ false → ⊥
      both against = cc

  -- and what that puts out is about later events than those that are undone
  pub posted_back : LooksAhead b → (keep first m t : ℕ) (new_sent : List (Event P)) (out new_out : List (Message P)) → keep < length f.marks → slice_get f.marks keep ≡ Some m → first + f.serial ≡ length f.sent + m → AreFrom t (drop keep f.events) → new_sent ≡ take first f.sent → new_out ≡ out ++ map Variants.Anti (drop first f.sent) → HasPosted words t f.sent new_sent out new_out
  posted_back ahead keep first m t new_sent out new_out less there split from sent_is out_is =
      let n = length (all_sent b f.number past) in
      let s = state_after b f.number past in
      let back = back_of b f.number n s f.events f.marks f.sent f.serial h.run keep m less there in
      let whole = ap length back.whole ∙ length-append back.front back.back in
      let mark_is = back.mark_is in
      let total = h.run.total in
      let first_is : first ≡ length back.front = omega (arith, whole, mark_is, total, split) in
      let front_is : take first f.sent ≡ back.front = ap (take first) back.whole ∙ take_at back.front back.back first (sym first_is) in
      let back_is : drop first f.sent ≡ back.back = append_cancel_left back.front (drop first f.sent) back.back (ap (λ l. l ++ drop first f.sent) (sym front_is) ∙ take-append-drop first f.sent ∙ back.whole) in
      let ran = take (length f.marks) f.events in
      let later = sent_from_later b f.number ahead t (n + length (sent_from b f.number n s (take keep ran))) (state_from b f.number s (take keep ran)) (drop keep ran) (Each-drop_take (λ (e : Event P). t ≤ e.time) keep (length f.marks) f.events from) in
      taken_back words t f.sent new_sent (drop first f.sent) out new_out (sym (take-append-drop first f.sent) ∙ ap (λ l. l ++ drop first f.sent) (sym sent_is)) (subst (Each (λ (e : Event P). t < e.time)) (sym (back_is ∙ back.is_back)) later) out_is

  -- the next event is run
  pub ran_next : (e d : Event P) (ds : List (Draft P)) (new_state : S) (new_marks : List ℕ) (new_sent : List (Event P)) (new_serial : ℕ) (new_fault : Option ℕ) → length f.marks < length f.events → e ≡ get_or f.events (length f.marks) d → new_state ≡ b.after f.number (state_after b f.number (done_of past f)) e → ds ≡ b.drafts f.number (state_after b f.number (done_of past f)) e → new_marks ≡ f.marks ++ f.serial ∷ [] → new_sent ≡ f.sent ++ stamped f.number f.serial ds → new_serial ≡ f.serial + length ds → f.first_date + length f.fossils + length f.marks + 1 < 2 ^ 64 → new_fault ≡ fault_with f.fault (b.faulty new_state) (f.first_date + length f.fossils + length new_marks) → IsProcess words b past (record f { marks = new_marks; sent = new_sent; serial = new_serial; state = new_state; is_stale = false; fault = new_fault })
  ran_next e d ds new_state new_marks new_sent new_serial new_fault more is_e state_is ds_are marks_are sent_is serial_is few fault_is =
      let p = f.number in
      let n = length (all_sent b p past) in
      let s = state_after b p past in
      let ran = take (length f.marks) f.events in
      let here : state_after b p (done_of past f) ≡ state_from b p s ran = state_after-append b p past ran in
      let drafts_are : ds ≡ b.drafts p (state_from b p s ran) e = ds_are ∙ ap (λ t. b.drafts p t e) here in
      let on = run_on b p n s f.events f.marks f.sent f.serial h.run e d more is_e in
      let count : length new_marks ≡ length f.marks + 1 = ap length marks_are ∙ length-append f.marks (f.serial ∷ []) in
      let now : take (length new_marks) f.events ≡ ran ++ e ∷ [] = ap (λ j. take j f.events) count ∙ take_more f.events (length f.marks) d more ∙ ap (λ x. ran ++ x ∷ []) (sym is_e) in
      let done_is : past ++ take (length new_marks) f.events ≡ done_of past f ++ e ∷ [] = ap (λ l. past ++ l) now ∙ sym (append_assoc past ran (e ∷ [])) in
      let dates = h.dates in
      let done_long = length-done in
      let long = length-append (done_of past f) (e ∷ []) in
      let here_now : new_state ≡ state_after b p (done_of past f ++ e ∷ []) = state_is ∙ sym (state_after-push b p (done_of past f) e) in
      let date = f.first_date + length f.fossils + length new_marks in
      let still : (c : ℕ × S) → IsCopy b p (done_of past f) c → IsCopy b p (done_of past f ++ e ∷ []) c = λ c old. (let within = old.0 in omega (arith, within, long), old.1 ∙ ap (state_after b p) (sym (take-append-le c.0 (done_of past f) (e ∷ []) old.0))) in
      record {
        in_order = h.in_order;
        own = h.own;
        committed = h.committed;
        pending = h.pending;
        early_own = h.early_own;
        early_from = h.early_from;
        apart = h.apart;
        ran_within = omega (arith, count, more);
        run = rw (marks_are, sent_is, serial_is, drafts_are) on;
        fossils = h.fossils;
        dates = h.dates;
        counted = subst (λ (l : List (Event P)). length l < 2 ^ 64) (sym done_is) (omega (arith, long, done_long, dates, few));
        ascending = h.ascending;
        kept = subst (λ l. Each (IsCopy b p l) f.copies) (sym done_is) (Each-weaker (IsCopy b p (done_of past f)) (IsCopy b p (done_of past f ++ e ∷ [])) still f.copies h.kept);
        oldest = h.oldest;
        state = λ fresh. here_now ∙ ap (state_after b p) (sym done_is);
        fault = subst (λ l. IsFirstFault b p l new_fault) (sym done_is) (subst (IsFirstFault b p (done_of past f ++ e ∷ [])) (sym (fault_is ∙ ap (λ t. fault_with f.fault (b.faulty t) date) here_now)) (fault_next b p (done_of past f) e f.fault date (omega (arith, count, done_long, dates)) h.fault));
      }

  -- and what it sends is later than itself
  pub posted_next : LooksAhead b → (e : Event P) (ds : List (Draft P)) (s : S) (new_sent : List (Event P)) (out new_out : List (Message P)) → ds ≡ b.drafts f.number s e → new_sent ≡ f.sent ++ stamped f.number f.serial ds → new_out ≡ out ++ map Variants.Event (stamped f.number f.serial ds) → HasPosted words e.time f.sent new_sent out new_out
  posted_next ahead e ds s new_sent out new_out ds_are sent_is out_is =
      newly_sent words e.time f.sent (stamped f.number f.serial ds) new_sent out new_out sent_is (Each-stamped (λ (x : Event P). e.time < x.time) (λ (d : Draft P). e.time < d.time) f.number f.serial (λ d m later. later) ds (subst (Each (λ (d : Draft P). e.time < d.time)) (sym ds_are) (ahead f.number s e))) out_is

  -- where the next event is too many to be counted, so it is of all that the process runs or sends
  pub too_many : (e : Event P) (ds : List (Draft P)) → ds ≡ b.drafts f.number (state_after b f.number (done_of past f)) e → (2 ^ 64 ≤ f.serial + length ds) ⊎ (2 ^ 64 ≤ f.first_date + length f.fossils + length f.marks + 1) → IsTooMany b past f e
  too_many e ds ds_are (inl many) =
      let p = f.number in
      let done = done_of past f in
      let now = ap length (all_sent-push b p done e) ∙ length-append (all_sent b p done) (stamped p (length (all_sent b p done)) (b.drafts p (state_after b p done) e)) in
      let few = length-stamped p (length (all_sent b p done)) (b.drafts p (state_after b p done) e) in
      let count = ap length ds_are in
      let kept = ap length (sent_kept b p past f.events f.marks f.sent f.serial h.run) ∙ length-append (all_sent b p past) f.sent in
      let total = h.run.total in
      inr (omega (arith, many, now, few, count, kept, total))
  too_many e ds ds_are (inr many) =
      let all = length-append (done_of past f) (e ∷ []) in
      let done = length-done in
      let dates = h.dates in
      inl (omega (arith, many, all, done, dates))
