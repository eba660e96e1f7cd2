-- What histories come to where more events follow, from any state on: what a committed past and the events since it come to together.
use Rattle.std.proofs.Common.{◌≡◌, ℕ, ◌+◌, ◌<◌, List, [], ◌∷◌, ◌++◌, length, refl, ap, sym, ◌∙◌, arith, append_assoc, length-append, suc}
use Rattle.std.proofs.lemmas.List.{append-nil}
use Rattle.warp_base.specs.declared.event.Event.{Event}
use Rattle.warp_base.specs.declared.event.Draft.{Draft}
use Rattle.warp_base.specs.Events.{Each}
use Rattle.warp_base.specs.Histories.{Behaviour, stamp, stamped, state_from, sent_from, state_after, all_sent, SendsWithin}
use Rattle.warp_base.proofs.Lists.{Each-append}

module _ {P : Type 0} where
  pub length-stamped : (p n : ℕ) (ds : List (Draft P)) → length (stamped p n ds) ≡ length ds
  length-stamped p n [] = refl
  length-stamped p n (d ∷ ds) = ap suc (length-stamped p (n + 1) ds)

  pub stamped-push : (p n : ℕ) (ds : List (Draft P)) (d : Draft P) → stamped p n (ds ++ d ∷ []) ≡ stamped p n ds ++ stamp p (n + length ds) d ∷ []
  stamped-push p n [] d = ap (λ m. stamp p m d ∷ []) (let e : n ≡ n + 0 = omega arith in e)
  stamped-push p n (x ∷ ds) d =
      ap (λ l. stamp p n x ∷ l) (stamped-push p (n + 1) ds d ∙ ap (λ m. stamped p (n + 1) ds ++ stamp p m d ∷ []) (let e : n + 1 + length ds ≡ n + suc (length ds) = omega arith in e))

  -- a fact of each draft is one of each event that it becomes
  pub Each-stamped : (Q : Event P → Type 0) (R : Draft P → Type 0) (p n : ℕ) → ((d : Draft P) (m : ℕ) → R d → Q (stamp p m d)) → (ds : List (Draft P)) → Each R ds → Each Q (stamped p n ds)
  Each-stamped Q R p n tells [] h = tt
  Each-stamped Q R p n tells (d ∷ ds) h = (tells d n h.0, Each-stamped Q R p (n + 1) tells ds h.1)

module _ {P S : Type 0} (b : Behaviour P S) (p : ℕ) where
  pub state_from-append : (s : S) (xs ys : List (Event P)) → state_from b p s (xs ++ ys) ≡ state_from b p (state_from b p s xs) ys
  state_from-append s [] ys = refl
  state_from-append s (x ∷ xs) ys = state_from-append (b.after p s x) xs ys

  pub state_from-push : (s : S) (xs : List (Event P)) (e : Event P) → state_from b p s (xs ++ e ∷ []) ≡ b.after p (state_from b p s xs) e
  state_from-push s xs e = state_from-append s xs (e ∷ [])

  pub sent_from-append : (n : ℕ) (s : S) (xs ys : List (Event P)) → sent_from b p n s (xs ++ ys) ≡ sent_from b p n s xs ++ sent_from b p (n + length (sent_from b p n s xs)) (state_from b p s xs) ys
  sent_from-append n s [] ys = ap (λ m. sent_from b p m s ys) (let e : n ≡ n + 0 = omega arith in e)
  sent_from-append n s (x ∷ xs) ys =
      let first = stamped p n (b.drafts p s x) in
      let m = n + length (b.drafts p s x) in
      let s' = b.after p s x in
      let rest = sent_from b p m s' xs in
      let count : m + length rest ≡ n + length (first ++ rest) = let all = length-append first rest in let few = length-stamped p n (b.drafts p s x) in omega (arith, all, few) in
      ap (λ l. first ++ l) (sent_from-append m s' xs ys) ∙ sym (append_assoc first rest (sent_from b p (m + length rest) (state_from b p s' xs) ys)) ∙ ap (λ j. (first ++ rest) ++ sent_from b p j (state_from b p s' xs) ys) count

  pub sent_from-push : (n : ℕ) (s : S) (xs : List (Event P)) (e : Event P) → sent_from b p n s (xs ++ e ∷ []) ≡ sent_from b p n s xs ++ stamped p (n + length (sent_from b p n s xs)) (b.drafts p (state_from b p s xs) e)
  sent_from-push n s xs e =
      sent_from-append n s xs (e ∷ []) ∙ ap (λ l. sent_from b p n s xs ++ l) (append-nil (stamped p (n + length (sent_from b p n s xs)) (b.drafts p (state_from b p s xs) e)))

  pub all_sent-append : (xs ys : List (Event P)) → all_sent b p (xs ++ ys) ≡ all_sent b p xs ++ sent_from b p (length (all_sent b p xs)) (state_after b p xs) ys
  all_sent-append xs ys =
      let first = stamped p 0 (b.firsts p) in
      let m = length (b.firsts p) in
      let rest = sent_from b p m (b.start p) xs in
      let count : m + length rest ≡ length (first ++ rest) = let all = length-append first rest in let few = length-stamped p 0 (b.firsts p) in omega (arith, all, few) in
      ap (λ l. first ++ l) (sent_from-append m (b.start p) xs ys) ∙ sym (append_assoc first rest (sent_from b p (m + length rest) (state_after b p xs) ys)) ∙ ap (λ j. (first ++ rest) ++ sent_from b p j (state_after b p xs) ys) count

  pub state_after-append : (xs ys : List (Event P)) → state_after b p (xs ++ ys) ≡ state_from b p (state_after b p xs) ys
  state_after-append xs ys = state_from-append (b.start p) xs ys

  pub state_after-push : (xs : List (Event P)) (e : Event P) → state_after b p (xs ++ e ∷ []) ≡ b.after p (state_after b p xs) e
  state_after-push xs e = state_from-append (b.start p) xs (e ∷ [])

  pub all_sent-push : (xs : List (Event P)) (e : Event P) → all_sent b p (xs ++ e ∷ []) ≡ all_sent b p xs ++ stamped p (length (all_sent b p xs)) (b.drafts p (state_after b p xs) e)
  all_sent-push xs e =
      all_sent-append xs (e ∷ []) ∙ ap (λ l. all_sent b p xs ++ l) (append-nil (stamped p (length (all_sent b p xs)) (b.drafts p (state_after b p xs) e)))

  -- a fact of all that is sent
  pub Each-sent_from : (Q : Event P → Type 0) (R : Draft P → Type 0) → ((d : Draft P) (m : ℕ) → R d → Q (stamp p m d)) → ((s : S) (e : Event P) → Each R (b.drafts p s e)) → (n : ℕ) (s : S) (es : List (Event P)) → Each Q (sent_from b p n s es)
  Each-sent_from Q R tells all n s [] = tt
  Each-sent_from Q R tells all n s (e ∷ es) =
      Each-append Q (stamped p n (b.drafts p s e)) (sent_from b p (n + length (b.drafts p s e)) (b.after p s e) es) (Each-stamped Q R p n tells (b.drafts p s e) (all s e)) (Each-sent_from Q R tells all (n + length (b.drafts p s e)) (b.after p s e) es)

  pub Each-all_sent : (Q : Event P → Type 0) (R : Draft P → Type 0) → ((d : Draft P) (m : ℕ) → R d → Q (stamp p m d)) → Each R (b.firsts p) → ((s : S) (e : Event P) → Each R (b.drafts p s e)) → (es : List (Event P)) → Each Q (all_sent b p es)
  Each-all_sent Q R tells first all es =
      Each-append Q (stamped p 0 (b.firsts p)) (sent_from b p (length (b.firsts p)) (b.start p) es) (Each-stamped Q R p 0 tells (b.firsts p) first) (Each-sent_from Q R tells all (length (b.firsts p)) (b.start p) es)

pub nothing_beyond : {P S : Type 0} (b : Behaviour P S) (n p : ℕ) (es : List (Event P)) → SendsWithin n b → Each (λ (e : Event P). e.receiver < n) (all_sent b p es)
nothing_beyond {P} b n p es h =
    Each-all_sent b p (λ (e : Event P). e.receiver < n) (λ (d : Draft P). d.receiver < n) (λ d m less. less) (h.firsts p) (h.drafts p) es
