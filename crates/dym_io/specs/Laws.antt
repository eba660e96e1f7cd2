-- How texts that are written one after the other make one text, and counts of faults in parts of a call one count.
use Rattle.std.specs.Prelude.{◌≡◌, ℕ, ◌+◌, ◌<◌, List, [], ◌∷◌, ◌++◌, refl, length, take, drop, get_or, Result, Ok, Err, IsErr, IsErrAnd, flat_map}
use Rattle.std.proofs.Common.{sym, ◌∙◌, ap, subst, inl, inr, append_assoc, append-nil, arith, take-append-drop, add-one}
use Rattle.std.proofs.Math.Seq.{drop-cons}
use Rattle.std.proofs.lemmas.Grind.{flat_map-append}
use Rattle.std.proofs.KnownBytes.{Appends-nil, Appends-trans}
use Rattle.dym_io.specs.Faults.{Rose, RoseOnce}
use Rattle.dym_io.specs.Sink.{Output, Appended, AppendedFront, Stopped, Writes, FaultsTellCause, WritesOr, Leaves}

-- ---- a fault in the last part of a call

-- before it the count stood still
pub rose_later : (old mid new : ℕ) → mid ≡ old → RoseOnce mid new → RoseOnce old new
rose_later old mid new same rose = subst (λ n. RoseOnce n new) same rose

-- a count that rose by one rose
pub once_rose : (old new : ℕ) → RoseOnce old new → Rose old new
once_rose old new (inl more) = inl (omega (arith, more))
once_rose old new (inr stands) = inr (stands.1 ∙ stands.0)

-- ---- all of a text

pub appended_nothing : (s : Output) → Appended s s []
appended_nothing s = record { written = Appends-nil s.written; flushed = refl; faults = refl }

pub appended_both : (a b c : Output) (t u : List ℕ) → Appended a b t → Appended b c u → Appended a c (t ++ u)
appended_both a b c t u p q = record {
  written = Appends-trans a.written b.written c.written t u p.written q.written;
  flushed = q.flushed ∙ p.flushed;
  faults = q.faults ∙ p.faults;
}

-- ---- the front of a text

pub front_of_appended : (a b : Output) (t u : List ℕ) → Appended a b t → AppendedFront a b (t ++ u)
front_of_appended a b t u p = record { front = t; rest = u; whole = refl; written = p.written; flushed = p.flushed }

pub front_within : (a b : Output) (t u : List ℕ) → AppendedFront a b t → AppendedFront a b (t ++ u)
front_within a b t u p = record {
  front = p.front;
  rest = p.rest ++ u;
  whole = ap (λ l. l ++ u) p.whole ∙ append_assoc p.front p.rest u;
  written = p.written;
  flushed = p.flushed;
}

pub front_after : (a b c : Output) (t u : List ℕ) → Appended a b t → AppendedFront b c u → AppendedFront a c (t ++ u)
front_after a b c t u p q = record {
  front = t ++ q.front;
  rest = q.rest;
  whole = ap (λ l. t ++ l) q.whole ∙ sym (append_assoc t q.front q.rest);
  written = Appends-trans a.written b.written c.written t q.front p.written q.written;
  flushed = q.flushed ∙ p.flushed;
}

-- ---- the front of a text, and a fault

pub stopped_within : (a b : Output) (t u : List ℕ) → Stopped a b t → Stopped a b (t ++ u)
stopped_within a b t u p = record { front = front_within a b t u p.front; rose = p.rose }

pub stopped_after : (a b c : Output) (t u : List ℕ) → Appended a b t → Stopped b c u → Stopped a c (t ++ u)
stopped_after a b c t u p q = record {
  front = front_after a b c t u p q.front;
  rose = rose_later a.faults b.faults c.faults p.faults q.rose;
}

-- ---- a text that is written after another

pub writes_after : {T E : Type 0} → (a b c : Output) (t u : List ℕ) (r : Result T E) → Appended a b t → Writes b c u r → Writes a c (t ++ u) r
writes_after a b c t u (Ok x) p q = appended_both a b c t u p q
writes_after a b c t u (Err e) p q = stopped_after a b c t u p q

-- what the count tells of a cause it tells behind a text that was written, too
pub cause_told_later : (is_sinks : Type 0) (a b c : Output) (t : List ℕ) → Appended a b t → FaultsTellCause is_sinks b c → FaultsTellCause is_sinks a c
cause_told_later is_sinks a b c t p q = (λ is. rose_later a.faults b.faults c.faults p.faults (q.0 is), λ other. q.1 other ∙ p.faults)

-- ---- at an error that `?` passes on

pub writes_stopped : {T E : Type 0} → (a b : Output) (t : List ℕ) (r : Result T E) → IsErr r → Stopped a b t → Writes a b t r
writes_stopped a b t (Ok x) is p = cc
writes_stopped a b t (Err e) is p = p

-- the front of a longer text
pub writes_cut : {T E : Type 0} → (a b : Output) (t u : List ℕ) (r : Result T E) → IsErr r → Stopped a b t → Writes a b (t ++ u) r
writes_cut a b t u r is p = writes_stopped a b (t ++ u) r is (stopped_within a b t u p)

-- the sink's fault
pub writes_or_stopped : {T E : Type 0} → (IsSinks : E → Type 0) (a b : Output) (t : List ℕ) (r : Result T E) → IsErrAnd r IsSinks → Stopped a b t → WritesOr IsSinks a b t r
writes_or_stopped IsSinks a b t (Ok x) is p = absurd is
writes_or_stopped IsSinks a b t (Err e) is p = (p.front, (λ _. p.rose, λ other. absurd (other is)))

-- ---- a chain of texts: all but a rest is written

pub leaves_all : (s : Output) (text : List ℕ) → Leaves s s text text
leaves_all s text = record { done = []; whole = refl; appended = appended_nothing s }

pub leaves_same : (a b : Output) (text rest other : List ℕ) → Leaves a b text rest → rest ≡ other → Leaves a b text other
leaves_same a b text rest other p e = record { done = p.done; whole = p.whole ∙ ap (λ l. p.done ++ l) e; appended = p.appended }

pub leaves_more : (a b c : Output) (text t u : List ℕ) → Leaves a b text (t ++ u) → Appended b c t → Leaves a c text u
leaves_more a b c text t u p q = record {
  done = p.done ++ t;
  whole = p.whole ∙ sym (append_assoc p.done t u);
  appended = appended_both a b c p.done t p.appended q;
}

-- of the rest its first n were written
pub leaves_drop : (a b c : Output) (text rest : List ℕ) (n : ℕ) → Leaves a b text rest → Appended b c (take n rest) → Leaves a c text (drop n rest)
leaves_drop a b c text rest n p q =
    leaves_more a b c text (take n rest) (drop n rest) (leaves_same a b text rest _ p (sym (take-append-drop n rest))) q

pub leaves_cut : (a b c : Output) (text t u : List ℕ) → Leaves a b text (t ++ u) → Stopped b c t → Stopped a c text
leaves_cut a b c text t u p q =
    let whole = stopped_after a b c p.done (t ++ u) p.appended (stopped_within b c t u q) in
    subst (Stopped a c) (sym p.whole) whole

pub leaves_last : {T E : Type 0} → (a b c : Output) (text t : List ℕ) (r : Result T E) → Leaves a b text t → Writes b c t r → Writes a c text r
leaves_last a b c text t r p q =
    let P : List ℕ → Type 0 = λ l. Writes a c l r in
    subst P (sym p.whole) (writes_after a b c p.done t r p.appended q)

pub leaves_nothing : (a b : Output) (text : List ℕ) → Leaves a b text [] → Appended a b text
leaves_nothing a b text p = subst (Appended a b) (sym (p.whole ∙ append-nil p.done)) p.appended

-- ---- a loop: of the texts of some items, those of the first i are written. `d` is what a read past the end gives

texts_at_item : {X : Type 0} → (f : X → List ℕ) (items : List X) (i : ℕ) (d : X) → i < length items
    → flat_map f items ≡ flat_map f (take i items) ++ (f (get_or items i d) ++ flat_map f (drop (i + 1) items))
texts_at_item f items i d within =
    let tail : drop i items ≡ get_or items i d ∷ drop (i + 1) items = rw add-one (drop-cons items i d within) in
    ap (flat_map f) (sym (take-append-drop i items)) ∙ flat_map-append f (take i items) (drop i items) ∙ ap (λ l. flat_map f (take i items) ++ flat_map f l) tail

pub each_cut : {X : Type 0} → (f : X → List ℕ) (items : List X) (i : ℕ) (d : X) (a b c : Output) → i < length items
    → Appended a b (flat_map f (take i items)) → Stopped b c (f (get_or items i d)) → Stopped a c (flat_map f items)
each_cut f items i d a b c within p q =
    let rest = flat_map f (drop (i + 1) items) in
    let text = f (get_or items i d) in
    let whole = stopped_after a b c (flat_map f (take i items)) (text ++ rest) p (stopped_within b c text rest q) in
    subst (Stopped a c) (sym (texts_at_item f items i d within)) whole

-- For an answer of `search` or `grind`, or for a function's `using`: texts of which each stands as it is in the whole.
pub ruleset writing = (appended_nothing, appended_both, stopped_within, stopped_after, writes_stopped, writes_or_stopped, front_of_appended, front_after, front_within)
