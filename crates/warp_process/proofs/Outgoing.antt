-- What goes out: the events of drafts, and anti-messages.
use Rattle.std.proofs.Common.{◌≡◌, ℕ, ◌+◌, ◌<◌, List, [], ◌∷◌, ◌++◌, length, take, get_or, map, refl, ap, sym, ◌∙◌, arith, append_assoc}
use Rattle.std.proofs.lemmas.List.{take_more, length-take-le}
use Rattle.warp_base.specs.declared.event.Event.{Event}
use Rattle.warp_base.specs.declared.event.Draft.{Draft}
use Rattle.warp_base.specs.declared.event.Message.{Message}
use Rattle.warp_base.specs.declared.event.Message.TheVariants as Variants
use Rattle.warp_base.specs.Events.{Each, copies, hit}
use Rattle.warp_base.specs.Messages.{event_of, positives, negatives}
use Rattle.warp_base.specs.Histories.{stamp, stamped}
use Rattle.std.proofs.lemmas.List.{append-nil}
use Rattle.warp_base.proofs.Folds.{stamped-push}
use Rattle.warp_base.proofs.Orders.{hit_self, copies-append}
use Rattle.warp_process.specs.Processes.{HasPosted}

pub map-push : {X Y : Type 0} (f : X → Y) (xs : List X) (x : X) → map f (xs ++ x ∷ []) ≡ map f xs ++ f x ∷ []
map-push f [] x = refl
map-push f (y ∷ xs) x = ap (λ l. f y ∷ l) (map-push f xs x)

module _ {P : Type 0} where
  -- one draft more is an event more
  pub stamped_more : (p n i : ℕ) (ds : List (Draft P)) (d : Draft P) → i < length ds → d ≡ get_or ds i d → stamped p n (take (i + 1) ds) ≡ stamped p n (take i ds) ++ stamp p (n + i) d ∷ []
  stamped_more p n i ds d within is =
      let count = length-take-le i ds (omega (arith, within)) in
      ap (stamped p n) (take_more ds i d within) ∙ stamped-push p n (take i ds) (get_or ds i d) ∙ ap (λ m. stamped p n (take i ds) ++ stamp p (n + m) (get_or ds i d) ∷ []) count ∙ ap (λ x. stamped p n (take i ds) ++ stamp p (n + i) x ∷ []) (sym is)

  pub one_sent : (sent now new more new_more : List (Event P)) (x : Event P) → now ≡ sent ++ more → new ≡ now ++ x ∷ [] → new_more ≡ more ++ x ∷ [] → new ≡ sent ++ new_more
  one_sent sent now new more new_more x so_far push is =
      push ∙ ap (λ l. l ++ x ∷ []) so_far ∙ append_assoc sent more (x ∷ []) ∙ ap (λ l. sent ++ l) (sym is)

  pub one_out : (out now new : List (Message P)) (more new_more : List (Event P)) (x : Event P) → now ≡ out ++ map Variants.Event more → new ≡ now ++ Variants.Event x ∷ [] → new_more ≡ more ++ x ∷ [] → new ≡ out ++ map Variants.Event new_more
  one_out out now new more new_more x so_far push is =
      push ∙ ap (λ l. l ++ Variants.Event x ∷ []) so_far ∙ append_assoc out (map Variants.Event more) (Variants.Event x ∷ []) ∙ ap (λ l. out ++ l) (sym (ap (map Variants.Event) is ∙ map-push Variants.Event more x))

Each-map : {X Y : Type 0} (f : X → Y) (Q : Y → Type 0) (xs : List X) → Each (λ x. Q (f x)) xs → Each Q (map f xs)
Each-map f Q [] h = tt
Each-map f Q (x ∷ xs) h = (h.0, Each-map f Q xs h.1)

Each-both : {X : Type 0} (Q R : X → Type 0) (xs : List X) → Each Q xs → ((x : X) → Q x → R x) → Each R xs
Each-both Q R [] h tells = tt
Each-both Q R (x ∷ xs) h tells = (tells x h.0, Each-both Q R xs h.1 tells)

module _ {P : Type 0} (words : P → List ℕ) where
  antis-negatives : (e : Event P) (xs : List (Event P)) → negatives words e (map Variants.Anti xs) ≡ copies words e xs
  antis-negatives e [] = refl
  antis-negatives e (x ∷ xs) = ap (λ n. hit words e x + n) (antis-negatives e xs)

  antis-positives : (e : Event P) (xs : List (Event P)) → positives words e (map Variants.Anti xs) ≡ 0
  antis-positives e [] = refl
  antis-positives e (x ∷ xs) = antis-positives e xs

  events-positives : (e : Event P) (xs : List (Event P)) → positives words e (map Variants.Event xs) ≡ copies words e xs
  events-positives e [] = refl
  events-positives e (x ∷ xs) = ap (λ n. hit words e x + n) (events-positives e xs)

  events-negatives : (e : Event P) (xs : List (Event P)) → negatives words e (map Variants.Event xs) ≡ 0
  events-negatives e [] = refl
  events-negatives e (x ∷ xs) = events-negatives e xs

  -- each element has a copy
  each_there : (xs : List (Event P)) → Each (λ x. 0 < copies words x xs) xs
  each_there [] = tt
  each_there (x ∷ xs) =
      (let one = hit_self words x in omega (arith, one), Each-both (λ y. 0 < copies words y xs) (λ y. 0 < copies words y (x ∷ xs)) xs (each_there xs) (λ y some. omega (arith, some)))

  -- events that were sent behind others are taken back
  pub taken_back : (t : ℕ) (sent front back : List (Event P)) (out new_out : List (Message P)) → sent ≡ front ++ back → Each (λ (e : Event P). t < e.time) back → new_out ≡ out ++ map Variants.Anti back → HasPosted words t sent front out new_out
  taken_back t sent front back out new_out whole later add = record {
    more = map Variants.Anti back;
    appended = add;
    balance = λ e.
        let all = ap (copies words e) whole ∙ copies-append words e front back in
        let neg = antis-negatives e back in
        let pos = antis-positives e back in
        omega (arith, all, neg, pos);
    later = Each-map Variants.Anti (λ m. t < (event_of m).time) back later;
    own = Each-map Variants.Anti (λ m. 0 < copies words (event_of m) sent + copies words (event_of m) front) back (Each-both (λ x. 0 < copies words x back) (λ x. 0 < copies words x sent + copies words x front) back (each_there back) (λ x some. let all = ap (copies words x) whole ∙ copies-append words x front back in omega (arith, all, some)));
  }

  -- events are sent behind others
  pub newly_sent : (t : ℕ) (sent more new_sent : List (Event P)) (out new_out : List (Message P)) → new_sent ≡ sent ++ more → Each (λ (e : Event P). t < e.time) more → new_out ≡ out ++ map Variants.Event more → HasPosted words t sent new_sent out new_out
  newly_sent t sent more new_sent out new_out whole later add = record {
    more = map Variants.Event more;
    appended = add;
    balance = λ e.
        let all = ap (copies words e) whole ∙ copies-append words e sent more in
        let neg = events-negatives e more in
        let pos = events-positives e more in
        omega (arith, all, neg, pos);
    later = Each-map Variants.Event (λ m. t < (event_of m).time) more later;
    own = Each-map Variants.Event (λ m. 0 < copies words (event_of m) sent + copies words (event_of m) new_sent) more (Each-both (λ x. 0 < copies words x more) (λ x. 0 < copies words x sent + copies words x new_sent) more (each_there more) (λ x some. let all = ap (copies words x) whole ∙ copies-append words x sent more in omega (arith, all, some)));
  }

  -- nothing goes out
  pub nothing_sent : (t : ℕ) (sent : List (Event P)) (out : List (Message P)) → HasPosted words t sent sent out out
  nothing_sent t sent out = record { more = []; appended = sym (append-nil out); balance = λ e. refl; later = tt; own = tt }
