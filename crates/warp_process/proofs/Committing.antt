-- The first events are committed, and copies that nobody needs go.
use Rattle.std.proofs.Common.{◌≡◌, ℕ, suc, ◌+◌, ◌-◌, ◌^◌, ◌<◌, ◌≤◌, List, [], ◌∷◌, ◌++◌, length, take, drop, Some, ap, sym, subst, ◌∙◌, arith, append_assoc, length-append}
use Rattle.std.proofs.lemmas.List.{length-drop}
use Rattle.std.proofs.Math.Seq.{take-append-add, drop-append-le}
use Rattle.warp_base.specs.declared.event.Event.{Event}
use Rattle.warp_base.specs.Events.{Each, copies, IsInOrder, AreFrom}
use Rattle.warp_base.specs.Histories.{Behaviour, state_from, state_after, sent_from, all_sent}
use Rattle.warp_base.proofs.Lists.{Each-append, Each-back, Each-weaker}
use Rattle.warp_base.proofs.Folds.{state_after-append, all_sent-append}
use Rattle.warp_base.proofs.Orders.{copies-append}
use Rattle.warp_process.specs.Savers.{AreAscending, KeepsFrom}
use Rattle.warp_process.specs.Processes.{ProcessFace, IsProcess, IsCopy, IsRun, IsFirstFault, done_of, bound_of}
use Rattle.warp_process.proofs.Runs.{run_behind}
use Rattle.warp_process.proofs.Catching.{drop_more}

module _ {S : Type 0} where
  ascending_back : (xs ys : List (ℕ × S)) → AreAscending (xs ++ ys) → AreAscending ys
  ascending_back [] ys h = h
  ascending_back (x ∷ xs) ys h = ascending_back xs ys h.1

  oldest_first : (cs gone later more : List (ℕ × S)) (first date : ℕ) (s t : S) → AreAscending cs → cs ≡ (first, t) ∷ later → cs ≡ gone ++ (date, s) ∷ more → first ≤ date
  oldest_first cs [] later more first date s t h begin end =
      let heads : (first, t) ∷ later ≡ (date, s) ∷ more = sym begin ∙ end in
      let same : (first, t) ≡ (date, s) = cc in
      let dates = ap (λ (d : ℕ × S). d.0) same in
      omega (arith, dates)
  oldest_first cs (c ∷ gone) later more first date s t h begin end =
      let up = subst AreAscending end h in
      let less = Each-back (λ (d : ℕ × S). c.0 < d.0) gone ((date, s) ∷ more) up.0 in
      let heads : (first, t) ∷ later ≡ c ∷ (gone ++ (date, s) ∷ more) = sym begin ∙ end in
      let same : (first, t) ≡ c = cc in
      let dates = ap (λ (d : ℕ × S). d.0) same in
      let late = less.0 in
      omega (arith, dates, late)

-- what is run stays what it was
pub done_stays : {P S : Type 0} (f : ProcessFace P S) (gone rest : List (Event P)) (new_marks : List ℕ) → f.events ≡ gone ++ rest → length gone ≤ length f.marks → new_marks ≡ drop (length gone) f.marks → (past : List (Event P)) → (past ++ gone) ++ take (length new_marks) rest ≡ done_of past f
done_stays f gone rest new_marks whole within marks_are past =
    let count = ap length marks_are ∙ length-drop (length gone) f.marks in
    let all : length gone + length new_marks ≡ length f.marks = omega (arith, count, within) in
    append_assoc past gone (take (length new_marks) rest) ∙ ap (λ l. past ++ l) (sym (take-append-add gone rest (length new_marks)) ∙ ap (take (length gone + length new_marks)) (sym whole) ∙ ap (λ j. take j f.events) all)

module _ {P S : Type 0} (words : P → List ℕ) (b : Behaviour P S) (past : List (Event P)) (f : ProcessFace P S) (h : IsProcess words b past f) where
  pub handed_over : (last : ℕ) (gone rest : List (Event P)) (new_marks : List ℕ) (new_sent new_fossils : List (Event P)) → f.events ≡ gone ++ rest → length gone ≤ length f.marks → bound_of f.last ≤ suc last → Each (λ (e : Event P). e.time ≤ last) gone → AreFrom (suc last) rest → AreFrom (suc last) f.early → new_marks ≡ drop (length gone) f.marks → new_sent ≡ drop (length (sent_from b f.number (length (all_sent b f.number past)) (state_after b f.number past) gone)) f.sent → new_fossils ≡ f.fossils ++ gone → IsProcess words b (past ++ gone) (record f { last = Some last; events = rest; marks = new_marks; sent = new_sent; fossils = new_fossils })
  handed_over last gone rest new_marks new_sent new_fossils is within forward before behind early marks_are sent_is fossils_are =
      let p = f.number in
      let n = length (all_sent b p past) in
      let s = state_after b p past in
      let first = sent_from b p n s gone in
      let whole : past ++ f.events ≡ (past ++ gone) ++ rest = ap (λ l. past ++ l) is ∙ sym (append_assoc past gone rest) in
      let same = done_stays f gone rest new_marks is within marks_are past in
      let sents : n + length first ≡ length (all_sent b p (past ++ gone)) = sym (ap length (all_sent-append b p past gone) ∙ length-append (all_sent b p past) first) in
      let state : state_from b p s gone ≡ state_after b p (past ++ gone) = sym (state_after-append b p past gone) in
      let run = run_behind b p n s f.events f.marks f.sent f.serial h.run gone rest is within in
      let here = subst (λ j. IsRun b p j (state_after b p (past ++ gone)) rest (drop (length gone) f.marks) (drop (length first) f.sent) f.serial) sents (subst (λ t. IsRun b p (n + length first) t rest (drop (length gone) f.marks) (drop (length first) f.sent) f.serial) state run) in
      let dates = h.dates in
      let fossils_long = ap length fossils_are ∙ length-append f.fossils gone in
      let past_long = length-append past gone in
      let events_long = ap length is ∙ length-append gone rest in
      let marks_long = ap length marks_are ∙ length-drop (length gone) f.marks in
      let ran_within = h.ran_within in
      record {
        in_order = subst (IsInOrder words) whole h.in_order;
        own = subst (Each (λ (e : Event P). e.receiver ≡ p)) whole h.own;
        committed = Each-append (λ (e : Event P). e.time < suc last) past gone
            (Each-weaker (λ (e : Event P). e.time < bound_of f.last) (λ (e : Event P). e.time < suc last) (λ e soon. omega (arith, soon, forward)) past h.committed)
            (Each-weaker (λ (e : Event P). e.time ≤ last) (λ (e : Event P). e.time < suc last) (λ e soon. omega (arith, soon)) gone before);
        pending = behind;
        early_own = h.early_own;
        early_from = early;
        apart = λ e there. let none = h.apart e there in let all = ap (copies words e) is ∙ copies-append words e gone rest in omega (arith, none, all);
        ran_within = omega (arith, marks_long, events_long, ran_within, within);
        run = rw (marks_are, sent_is) here;
        fossils = fossils_are ∙ ap (λ l. l ++ gone) h.fossils ∙ sym (drop-append-le f.first_date past gone (omega (arith, dates)));
        dates = omega (arith, dates, fossils_long, past_long);
        counted = subst (λ (l : List (Event P)). length l < 2 ^ 64) (sym same) h.counted;
        ascending = h.ascending;
        kept = subst (λ l. Each (IsCopy b p l) f.copies) (sym same) h.kept;
        oldest = h.oldest;
        state = λ fresh. h.state fresh ∙ ap (state_after b p) (sym same);
        fault = subst (λ l. IsFirstFault b p l f.fault) (sym same) h.fault;
      }

  pub oldest_late : (before date : ℕ) (new_copies : List (ℕ × S)) → KeepsFrom f.copies before date new_copies → f.first_date ≤ date
  oldest_late before date new_copies keeps =
      oldest_first f.copies keeps.gone h.oldest.1 keeps.later f.first_date date keeps.oldest h.oldest.0 h.ascending h.oldest.2 (keeps.whole ∙ ap (λ l. keeps.gone ++ l) keeps.first)

  pub pruned : (before date : ℕ) (new_copies : List (ℕ × S)) (new_fossils : List (Event P)) → before ≡ length past → KeepsFrom f.copies before date new_copies → new_fossils ≡ drop (date - f.first_date) f.fossils → IsProcess words b past (record f { first_date = date; fossils = new_fossils; copies = new_copies })
  pruned before date new_copies new_fossils all keeps fossils_are =
      let late = oldest_late before date new_copies keeps in
      let soon = keeps.not_later in
      let dates = h.dates in
      let fossils_long = ap length fossils_are ∙ length-drop (date - f.first_date) f.fossils in
      let at : f.first_date + (date - f.first_date) ≡ date = omega (arith, late) in
      record {
        in_order = h.in_order;
        own = h.own;
        committed = h.committed;
        pending = h.pending;
        early_own = h.early_own;
        early_from = h.early_from;
        apart = h.apart;
        ran_within = h.ran_within;
        run = h.run;
        fossils = fossils_are ∙ ap (drop (date - f.first_date)) h.fossils ∙ drop_more f.first_date (date - f.first_date) past ∙ ap (λ j. drop j past) at;
        dates = omega (arith, late, soon, all, dates, fossils_long);
        counted = h.counted;
        ascending = ascending_back keeps.gone new_copies (subst AreAscending keeps.whole h.ascending);
        kept = Each-back (IsCopy b f.number (done_of past f)) keeps.gone new_copies (subst (Each (IsCopy b f.number (done_of past f))) keeps.whole h.kept);
        oldest = (keeps.oldest, keeps.later, keeps.first);
        state = h.state;
        fault = h.fault;
      }
