-- Objects that are handed over one after the other.
use Rattle.std.proofs.Common.{◌≡◌, ℕ, ◌+◌, ◌<◌, ◌≤◌, IsPermutation, List, [], ◌∷◌, ◌++◌, length, map, take, drop, get_or, Result, Ok, Err, IsErrAnd, refl, sym, ap, subst, ◌∙◌, arith, append_assoc}
use Rattle.std.proofs.Math.Seq.{drop-cons}
use Rattle.std.proofs.lemmas.List.{length-map, map-append, map_more}
use Rattle.std.proofs.lemmas.List.Sorted.{length_permutation}
use Rattle.std.proofs.Common.{take-append-drop, add-one}
use Rattle.std.specs.List.{FoldsTo}
use Rattle.dym_script.specs.OwnCommands.{own_of}
use Rattle.dym_script.specs.declared.parts.Part.{Part}
use Rattle.dym_wave.specs.declared.report_options.ReportOptions.{ReportOptions}
use Rattle.dym_wave.specs.declared.run_fail.RunFail.{RunFail}
use Rattle.dym_wave.specs.declared.run_fail.RunFail.TheVariants.{Memory, Refused}
use Rattle.dym_wave.specs.Consumers.{CanTakeAll, HandsOver, HandsOverFirst, Stops}
use Rattle.dym_wave.specs.Results.{Shown, own_shown, parts_shown}

module _ {C : Type 0} (Takes : C → Shown → C → Type 0) where
  pub folds_both : (a b c : C) (xs ys : List Shown) → FoldsTo Takes a xs b → FoldsTo Takes b ys c → FoldsTo Takes a (xs ++ ys) c
  folds_both a b c [] ys is more = subst (λ x. FoldsTo Takes x ys c) (sym is) more
  folds_both a b c (x ∷ xs) ys (m, one, rest) more = (m, one, folds_both m b c xs ys rest more)

  -- behind the first ones the others may be handed over
  pub can_after : (Can : C → Shown → Type 0) (a b : C) (xs ys : List Shown) → FoldsTo Takes a xs b → CanTakeAll Can Takes a (xs ++ ys) → CanTakeAll Can Takes b ys
  can_after Can a b [] ys is can = subst (λ x. CanTakeAll Can Takes x ys) is can
  can_after Can a b (x ∷ xs) ys (m, one, rest) can = can_after Can m b xs ys rest (can.1 m one)

  pub can_front : (Can : C → Shown → Type 0) (a : C) (xs ys : List Shown) → CanTakeAll Can Takes a (xs ++ ys) → CanTakeAll Can Takes a xs
  can_front Can a [] ys can = tt
  can_front Can a (x ∷ xs) ys can = (can.0, λ m one. can_front Can m xs ys (can.1 m one))

module _ {C F : Type 0} (Can : C → Shown → Type 0) (Takes : C → Shown → C → Type 0) (Fails : C → Shown → C → F → Type 0) where
  -- a run that stopped among the last ones, or among the first ones, stopped among all
  pub stops_after : (a b c : C) (xs ys : List Shown) (e : RunFail F) → FoldsTo Takes a xs b → Stops Takes Fails b ys c e → Stops Takes Fails a (xs ++ ys) c e
  stops_after a b c xs ys Memory folds (front, rest, is, more) =
      (xs ++ front, rest, ap (λ l. xs ++ l) is ∙ sym (append_assoc xs front rest), folds_both Takes a b c xs front folds more)
  stops_after a b c xs ys (Refused e) folds (front, s, rest, mid, is, more, fail) =
      (xs ++ front, s, rest, mid, ap (λ l. xs ++ l) is ∙ sym (append_assoc xs front (s ∷ rest)), folds_both Takes a b mid xs front folds more, fail)

  pub stops_within : (a c : C) (xs ys : List Shown) (e : RunFail F) → Stops Takes Fails a xs c e → Stops Takes Fails a (xs ++ ys) c e
  stops_within a c xs ys Memory (front, rest, is, more) = (front, rest ++ ys, ap (λ l. l ++ ys) is ∙ append_assoc front rest ys, more)
  stops_within a c xs ys (Refused e) (front, s, rest, mid, is, more, fail) =
      (front, s, rest ++ ys, mid, ap (λ l. l ++ ys) is ∙ append_assoc front (s ∷ rest) ys, more, fail)

  -- memory was wanting before any object was handed over
  pub stops_first : {T : Type 0} (a : C) (xs : List Shown) (r : Result T (RunFail F)) → IsErrAnd r (λ e. e ≡ Memory) → HandsOver Takes Fails a xs a r
  stops_first a xs (Ok x) is = absurd is
  stops_first a xs (Err e) is = subst (Stops Takes Fails a xs a) (sym is) ([], xs, refl, refl)

  -- the same error is passed on
  pub stops_passed : {T : Type 0} (a b : C) (xs : List Shown) (r : Result T (RunFail F)) (e : RunFail F) → IsErrAnd r (λ x. x ≡ e) → Stops Takes Fails a xs b e
      → HandsOver Takes Fails a xs b r
  stops_passed a b xs (Ok x) e is stops = absurd is
  stops_passed a b xs (Err x) e is stops = subst (Stops Takes Fails a xs b) (sym is) stops

  -- ---- works that are handed over in a loop: the first i of them were
  module _ {X : Type 0} (f : X → Shown) (items : List X) (i : ℕ) (x : X) (a b : C) (within : i < length items) (is : x ≡ get_or items i x)
      (folds : FoldsTo Takes a (map f (take i items)) b) where
    behind : drop i items ≡ get_or items i x ∷ drop (i + 1) items
    behind = rw add-one (drop-cons items i x within)

    split : map f items ≡ map f (take i items) ++ f x ∷ map f (drop (i + 1) items)
    split =
        ap (map f) (sym (take-append-drop i items)) ∙ map-append f (take i items) (drop i items)
        ∙ ap (λ l. map f (take i items) ++ map f l) behind
        ∙ ap (λ (y : X). map f (take i items) ++ f y ∷ map f (drop (i + 1) items)) (sym is)

    pub item_can : CanTakeAll Can Takes a (map f items) → Can b (f x)
    item_can can = (can_after Takes Can a b (map f (take i items)) (f x ∷ map f (drop (i + 1) items)) folds (subst (CanTakeAll Can Takes a) split can)).0

    pub item_taken : (c : C) → Takes b (f x) c → FoldsTo Takes a (map f (take (i + 1) items)) c
    item_taken c one =
        subst (λ l. FoldsTo Takes a l c) (ap (λ (y : X). map f (take i items) ++ f y ∷ []) is ∙ sym (map_more f items i x within))
        (folds_both Takes a b c (map f (take i items)) (f x ∷ []) folds (c, one, refl))

    pub item_refused : (c : C) (e : F) → Fails b (f x) c e → Stops Takes Fails a (map f items) c (Refused e)
    item_refused c e fail = (map f (take i items), f x, map f (drop (i + 1) items), b, split, folds, fail)

    pub item_short : Stops Takes Fails a (map f items) b Memory
    item_short = (map f (take i items), f x ∷ map f (drop (i + 1) items), split, folds)

  -- ---- wave after wave: of the parts all but those that are left were handed over
  pub record HandedOver (options : ReportOptions) (all left : List Part) (old new : C) : Type 0 where
    pub done : List Part
    pub taken : all ≡ done ++ left
    pub folds : FoldsTo Takes old (parts_shown options done) new

  both_shown : (options : ReportOptions) (xs ys : List Part) → parts_shown options (xs ++ ys) ≡ parts_shown options xs ++ parts_shown options ys
  both_shown options xs ys = map-append (λ (p : Part). own_shown options (own_of p)) xs ys

  module _ (options now : ReportOptions) (same : now ≡ options) (all left : List Part) (a b : C) (so_far : HandedOver options all left a b) where
    shown_is : parts_shown options all ≡ parts_shown options so_far.done ++ parts_shown options left
    shown_is = ap (parts_shown options) so_far.taken ∙ both_shown options so_far.done left

    pub wave_can : CanTakeAll Can Takes a (parts_shown options all) → CanTakeAll Can Takes b (parts_shown now left)
    wave_can can =
        subst (λ o. CanTakeAll Can Takes b (parts_shown o left)) (sym same)
        (can_after Takes Can a b (parts_shown options so_far.done) (parts_shown options left) so_far.folds (subst (CanTakeAll Can Takes a) shown_is can))

    pub wave_done : (rest : List Part) (c : C) → (done : List Part) × (0 < length done) × (left ≡ done ++ rest) × FoldsTo Takes b (parts_shown now done) c
        → HandedOver options all rest a c
    wave_done rest c (done, some, cut, more) = record {
      done = so_far.done ++ done;
      taken = so_far.taken ∙ ap (λ l. so_far.done ++ l) cut ∙ sym (append_assoc so_far.done done rest);
      folds = subst (λ l. FoldsTo Takes a l c) (sym (both_shown options so_far.done done))
          (folds_both Takes a b c (parts_shown options so_far.done) (parts_shown options done) so_far.folds
          (subst (λ o. FoldsTo Takes b (parts_shown o done) c) same more));
    }

    pub wave_stops : (c : C) (e : RunFail F) → Stops Takes Fails b (parts_shown now left) c e → Stops Takes Fails a (parts_shown options all) c e
    wave_stops c e stops =
        subst (λ l. Stops Takes Fails a l c e) (sym shown_is)
        (stops_after a b c (parts_shown options so_far.done) (parts_shown options left) e so_far.folds
        (subst (λ o. Stops Takes Fails b (parts_shown o left) c e) same stops))

  -- one wave's works were handed over
  pub wave_handed_over : {T : Type 0} (options : ReportOptions) (before after done : List Part) (a b : C) (shown : List Shown) (r : Result T (RunFail F))
      → 0 < length done → before ≡ done ++ after → shown ≡ parts_shown options done → HandsOver Takes Fails a shown b r
      → HandsOverFirst Takes Fails options before after a b r
  wave_handed_over options before after done a b shown (Ok x) some cut is folds = (done, some, cut, subst (λ l. FoldsTo Takes a l b) is folds)
  wave_handed_over options before after done a b shown (Err e) some cut is stops =
      subst (λ l. Stops Takes Fails a l b e) (sym (ap (parts_shown options) cut ∙ both_shown options done after))
      (stops_within a b (parts_shown options done) (parts_shown options after) e (subst (λ l. Stops Takes Fails a l b e) is stops))

-- where the segments of a wave are back they are enough for the next one
pub still_enough : {S I : Type 0} (id : S → I) (before after : List S) (n m most rest : ℕ) → n ≡ length before → m ≡ length after
    → IsPermutation (map id before) (map id after) → rest ≡ most → most ≤ n → rest ≤ m
still_enough id before after n m most rest many long same is enough =
    omega (arith, enough, is, length_permutation (map id before) (map id after) same, length-map before id, length-map after id, many, long)

-- memory was wanting before any object of a wave was handed over
pub wave_wanting : {C F T : Type 0} (Takes : C → Shown → C → Type 0) (Fails : C → Shown → C → F → Type 0) (options : ReportOptions) (before after : List Part) (a : C)
    (r : Result T (RunFail F)) → IsErrAnd r (λ e. e ≡ Memory) → HandsOverFirst Takes Fails options before after a a r
wave_wanting Takes Fails options before after a (Ok x) is = absurd is
wave_wanting Takes Fails options before after a (Err e) is =
    subst (Stops Takes Fails a (parts_shown options before) a) (sym is) ([], parts_shown options before, refl, refl)
