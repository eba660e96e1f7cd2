-- The works of a wave, made one by one.
use Rattle.std.proofs.Common.{◌≡◌, ℕ, zero, suc, ◌+◌, ◌<◌, Bool, true, false, List, [], ◌∷◌, ◌++◌, length, map, get_or, All, Option, None, Some, option_to_list, MatchOption, Result, Ok, Err, IfOk, refl, sym, ap, subst, ◌∙◌, arith, append_assoc, append-nil, length-append}
use Rattle.std.specs.Prelude.{is_some, option_map, IfSome}
use Rattle.std.proofs.lemmas.List.{map_push, nil_from_length}
use Rattle.std.proofs.lemmas.List.Elements.{All-push}
use Rattle.dym_script.specs.declared.parts.Part.{Part}
use Rattle.dym_script.specs.OwnCommands.{own_of}
use Rattle.dym_view.specs.Histories.{Beginning}
use Rattle.dym_wave.specs.declared.wave_options.WaveOptions.{WaveOptions}
use Rattle.dym_wave.specs.Parts.{quota_of}
use Rattle.dym_wave.specs.Results.{origin_shown, own_shown, run_shown}
use Rattle.dym_wave.specs.WorkLists.{ArePublishers, RunAs, TakesParts}
use Rattle.dym_wave.specs.Works.{OriginMeaning}
use Rattle.dym_wave.proofs.Lists.{all_front, all_last, one_head, one_tail}

-- an element of one list goes over to another, and the images stay
module _ {A B X : Type 0} (f : A → X) (g : B → X) where
  pub gone_over : (xs : List A) (x : A) (b : B) (left fewer : List B) (all : List X) → left ≡ b ∷ fewer → f x ≡ g b → map f xs ++ map g left ≡ all
      → map f (xs ++ x ∷ []) ++ map g fewer ≡ all
  gone_over xs x b left fewer all next same is =
      ap (λ l. l ++ map g fewer) (map_push f xs x) ∙ append_assoc (map f xs) (f x ∷ []) (map g fewer)
      ∙ (λ i. map f xs ++ same i ∷ map g fewer) ∙ ap (λ l. map f xs ++ map g l) (sym next) ∙ is

  pub all_gone : (xs : List A) (left : List B) (all : List X) → left ≡ [] → map f xs ++ map g left ≡ all → map f xs ≡ all
  all_gone xs left all none is = sym (append-nil (map f xs)) ∙ ap (λ l. map f xs ++ map g l) (sym none) ∙ is

-- numbers that go on
abbrev pub AreNumbered : List OriginMeaning → Type 0
AreNumbered os = (k : ℕ) (d : OriginMeaning) → k < length os → (get_or os k d).number ≡ k

pub numbered_more : (os : List OriginMeaning) (o : OriginMeaning) → o.number ≡ length os → AreNumbered os → AreNumbered (os ++ o ∷ [])
numbered_more os o is numbered = λ k d within. omega (arith, from 0 os (λ i e l. omega (arith, numbered i e l)) (omega (arith, is)) k d within)
  where
    from : (n : ℕ) (xs : List OriginMeaning) → ((k : ℕ) (d : OriginMeaning) → k < length xs → (get_or xs k d).number ≡ n + k) → o.number ≡ n + length xs
        → (k : ℕ) (d : OriginMeaning) → k < length (xs ++ o ∷ []) → (get_or (xs ++ o ∷ []) k d).number ≡ n + k
    from n [] all last zero d within = omega (arith, last)
    from n [] all last (suc k) d within = absurd (omega (arith, within))
    from n (x ∷ xs) all last zero d within = all 0 d (omega arith)
    from n (x ∷ xs) all last (suc k) d within =
        omega (arith, from (n + 1) xs (λ i e l. omega (arith, all (suc i) e (omega (arith, l)))) (omega (arith, last)) k d (omega (arith, within)))

-- the first of the parts and of the berths leave together
module _ {B : Type 0} (q : B → ℕ) (bs all : List B) (b : B) (parts ps : List Part) (p : Part) (rest : List ℕ)
    (next : all ≡ b ∷ bs) (first : parts ≡ p ∷ ps) (lined : map quota_of parts ≡ map q all ++ rest) where
  in_line : p.decl.quota ∷ map quota_of ps ≡ q b ∷ (map q bs ++ rest)
  in_line = sym (ap (map quota_of) first) ∙ lined ∙ ap (λ l. map q l ++ rest) next

  pub next_quota : p.decl.quota ≡ q b
  next_quota = one_head p.decl.quota (q b) (map quota_of ps) (map q bs ++ rest) in_line

  pub still_lined : map quota_of ps ≡ map q bs ++ rest
  still_lined = one_tail p.decl.quota (q b) (map quota_of ps) (map q bs ++ rest) in_line

-- a part's work is made: what is printed of the one is printed of the other
pub part_shown : (options : WaveOptions) (p : Part) (o : OriginMeaning) → o.name ≡ p.decl.name → o.object.version ≡ options.report.version
    → o.object.quota ≡ p.decl.quota → o.commands ≡ p.commands → is_some o.history ≡ options.report.views → origin_shown o ≡ own_shown options.report (own_of p)
part_shown options p o name version quota commands views = λ i. run_shown (views i) (name i) (version i) (quota i) (commands i)

pub takes_more : (options : WaveOptions) (makes_text : Bool) (before now rest : List Part) (origins more : List OriginMeaning) (p : Part) (o : OriginMeaning)
    → now ≡ p ∷ rest → more ≡ origins ++ o ∷ [] → origin_shown o ≡ own_shown options.report (own_of p) → o.quantum ≡ options.shape.quantum
    → o.makes_text ≡ makes_text → TakesParts options makes_text before now origins → TakesParts options makes_text before rest more
takes_more options makes_text before now rest origins more p o is put shown quantum text t = record {
  done = t.done ++ p ∷ [];
  taken = t.taken ∙ ap (λ l. t.done ++ l) is ∙ sym (append_assoc t.done (p ∷ []) rest);
  shown = ap (map origin_shown) put ∙ map_push origin_shown origins o ∙ (λ i. t.shown i ++ shown i ∷ [])
      ∙ sym (map_push (λ (x : Part). own_shown options.report (own_of x)) t.done p);
  run_as = subst (RunAs options makes_text) (sym put)
      (All-push (λ (x : OriginMeaning). (x.quantum ≡ options.shape.quantum) × (x.makes_text ≡ makes_text)) origins o t.run_as (quantum, text));
}

-- ---- publishers that are taken one by one

-- what the last publisher of a list leaves, where there is one: its view is told where views are, and it has published nothing
pub record PublisherTaken (views : Bool) (count : ℕ) (publisher : Option Beginning) (rest : List Beginning) : Type 0 where
  pub told : is_some publisher ≡ views
  pub empty : IfSome publisher (λ (b : Beginning). b.commits ≡ [])
  pub left : ArePublishers views count rest

-- a publisher has a history
pub told_view : (publisher : Option Beginning) → is_some (option_map (λ (b : Beginning). b.history) publisher) ≡ is_some publisher
told_view None = refl
told_view (Some b) = refl

pub publisher_taken : (P Q : Type 0) (views : Bool) (count all k : ℕ) (publishers rest : List Beginning) (publisher : Option Beginning) → k ≡ length publishers
    → MatchOption publisher ((k ≡ 0) × P) (λ _. Q) → publishers ≡ rest ++ option_to_list publisher → all ≡ count + 1 → ArePublishers views all publishers
    → PublisherTaken views count publisher rest
publisher_taken P Q true count all k publishers rest None long cases cut one are = absurd (omega (arith, long, cases.0, one, are.0))
publisher_taken P Q true count all k publishers rest (Some b) long cases cut one are = record {
  told = refl;
  empty = all_last (λ (p : Beginning). p.commits ≡ []) rest publishers b cut are.1;
  left = (omega (arith, ap {B = ℕ} length cut, length-append rest (b ∷ []), are.0, one), all_front (λ (p : Beginning). p.commits ≡ []) rest publishers b cut are.1);
}
publisher_taken P Q false count all k publishers rest None long cases cut one are = record {
  told = refl;
  empty = tt;
  left = nil_from_length rest (omega (arith, ap {B = ℕ} length cut, ap {B = ℕ} length are, length-append rest []));
}
publisher_taken P Q false count all k publishers rest (Some b) long cases cut one are =
    absurd (omega (arith, ap {B = ℕ} length cut, ap {B = ℕ} length are, length-append rest (b ∷ [])))

-- publishers that were opened where views are told, and the empty list elsewhere
pub opened_told : {T E : Type 0} (views : Bool) (count : ℕ) (len : T → ℕ) (of : T → List Beginning) (r : Result T E) → ((t : T) → len t ≡ length (of t)) → views ≡ true
    → IfOk r (λ t. len t ≡ count) → IfOk r (λ t. All (λ (p : Beginning). p.commits ≡ []) (of t)) → IfOk r (λ t. ArePublishers views count (of t))
opened_told views count len of (Ok t) long told many empty = subst (λ b. ArePublishers b count (of t)) (sym told) (sym (long t) ∙ many, empty)
opened_told views count len of (Err e) long told many empty = tt

pub opened_untold : (views : Bool) (count : ℕ) (publishers : List Beginning) → views ≡ false → publishers ≡ [] → ArePublishers views count publishers
opened_untold views count publishers untold none = subst (λ b. ArePublishers b count publishers) (sym untold) none
