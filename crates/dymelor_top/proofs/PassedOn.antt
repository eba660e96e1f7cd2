-- An error that is passed on, of whatever cause.
use Rattle.std.proofs.Common.{◌≡◌, ℕ, suc, ◌+◌, ◌<◌, List, ◌∷◌, ◌++◌, length, take, drop, get_or, flat_map, Result, IsErrAnd, sym, ap, subst, ◌∙◌, add-one, drop-cons, take-append-drop}
use Rattle.std.proofs.lemmas.Grind.{flat_map-append}
use Rattle.dym_io.specs.Sink.{Output, Appended, AppendedFront, Stopped, FaultsTellCause, WritesOr}
use Rattle.dym_io.specs.Laws.{appended_both, front_after, front_within, stopped_after, stopped_within, writes_or_stopped}
use Rattle.dym_report.specs.declared.write_fail.WriteFail.{WriteFail}
use Rattle.dym_report.specs.declared.write_fail.WriteFail.TheVariants as fail
use Rattle.dym_wave.proofs.Passing.{writes_or_passed}

-- the error is the sink's
abbrev pub IsSinks : WriteFail → Type 0
IsSinks failed = failed ≡ fail.Sink

-- a text of two pieces, of which the first is written, and then the second
module _ (a : Output) (text t u : List ℕ) (whole : text ≡ t ++ u) where
  pub first_stopped : {T : Type 0} → (b : Output) (r : Result T WriteFail) → IsErrAnd r IsSinks → Stopped a b t → WritesOr IsSinks a b text r
  first_stopped b r is p = writes_or_stopped IsSinks a b text r is (subst (Stopped a b) (sym whole) (stopped_within a b t u p))

  pub first_passed : {T : Type 0} → (b : Output) (r : Result T WriteFail) (e : WriteFail) → IsErrAnd r (λ x. x ≡ e) → AppendedFront a b t → FaultsTellCause (IsSinks e) a b
      → WritesOr IsSinks a b text r
  first_passed b r e is p q = writes_or_passed IsSinks a b text r e is (subst (AppendedFront a b) (sym whole) (front_within a b t u p)) q

  pub second_stopped : {T : Type 0} → (b c : Output) (r : Result T WriteFail) → IsErrAnd r IsSinks → Appended a b t → Stopped b c u → WritesOr IsSinks a c text r
  second_stopped b c r is p q = writes_or_stopped IsSinks a c text r is (subst (Stopped a c) (sym whole) (stopped_after a b c t u p q))

  pub second_done : (b c : Output) → Appended a b t → Appended b c u → Appended a c text
  second_done b c p q = subst (Appended a c) (sym whole) (appended_both a b c t u p q)

-- of the texts of some items those of the first i are written, and the front of the next
pub each_front_item : {X : Type 0} → (f : X → List ℕ) (items : List X) (i : ℕ) (x : X) (a b c : Output) → i < length items → x ≡ get_or items i x
    → Appended a b (flat_map f (take i items)) → AppendedFront b c (f x) → AppendedFront a c (flat_map f items)
each_front_item f items i x a b c within is p q =
    let cut : drop i items ≡ x ∷ drop (i + 1) items = rw (add-one, drop-cons items i x within) (λ j. sym is j ∷ drop (suc i) items) in
    let whole : flat_map f items ≡ flat_map f (take i items) ++ (f x ++ flat_map f (drop (i + 1) items)) =
    ap (flat_map f) (sym (take-append-drop i items)) ∙ flat_map-append f (take i items) (drop i items) ∙ ap (λ l. flat_map f (take i items) ++ flat_map f l) cut in
    subst (AppendedFront a c) (sym whole)
    (front_after a b c (flat_map f (take i items)) (f x ++ flat_map f (drop (i + 1) items)) p (front_within b c (f x) (flat_map f (drop (i + 1) items)) q))
