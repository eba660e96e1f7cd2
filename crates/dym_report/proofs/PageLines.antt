-- Lines that wait on a page: of a text all but them and a rest is written.
use Rattle.std.proofs.Common.{◌≡◌, ℕ, suc, ◌+◌, ◌<◌, ◌≤◌, Result, Ok, Err, IsErr, OnOk, OnErr, List, [], ◌∷◌, ◌++◌, length, drop, get_or, flat_map, sym, ap, ◌∙◌, append_assoc, append-nil, add-one, drop-cons}
use Rattle.std.proofs.Math.ListN.{drop_of_length-le}
use Rattle.dym_io.specs.Sink.{Output, Appended, Writes, Leaves, Stopped}
use Rattle.dym_io.specs.Laws.{appended_both, stopped_within, stopped_after, leaves_same, leaves_more, leaves_cut, leaves_last}

-- of a text that stands before a rest all but an end is written
pub leaves_within : (a b c : Output) (text t u left : List ℕ) → Leaves a b text (t ++ u) → Leaves b c t left → Leaves a c text (left ++ u)
leaves_within a b c text t u left p q =
    leaves_more a b c text q.done (left ++ u) (leaves_same a b text (t ++ u) _ p (ap (λ l. l ++ u) q.whole ∙ append_assoc q.done left u)) q.appended

-- the lines of the items from the ith on
lines_from : {X : Type 0} → (f : X → List ℕ) (items : List X) (i : ℕ) (x : X) (page : List ℕ) → i < length items → x ≡ get_or items i x
    → page ++ flat_map f (drop i items) ≡ (page ++ f x) ++ flat_map f (drop (i + 1) items)
lines_from f items i x page within is =
    let cut : drop i items ≡ x ∷ drop (i + 1) items = rw (add-one, drop-cons items i x within) (λ j. sym is j ∷ drop (suc i) items) in
    ap (λ l. page ++ flat_map f l) cut ∙ sym (append_assoc page (f x) (flat_map f (drop (i + 1) items)))

-- an item's line was added to the page
pub page_more : {X : Type 0} → (f : X → List ℕ) (items : List X) (i : ℕ) (x : X) (page left text : List ℕ) (a b c : Output) → i < length items → x ≡ get_or items i x
    → Leaves a b text (page ++ flat_map f (drop i items)) → Leaves b c (page ++ f x) left → Leaves a c text (left ++ flat_map f (drop (i + 1) items))
page_more f items i x page left text a b c within is p q =
    leaves_within a b c text (page ++ f x) (flat_map f (drop (i + 1) items)) left (leaves_same a b text _ _ p (lines_from f items i x page within is)) q

-- or it was cut short
pub page_cut : {X : Type 0} → (f : X → List ℕ) (items : List X) (i : ℕ) (x : X) (page text : List ℕ) (a b c : Output) → i < length items → x ≡ get_or items i x
    → Leaves a b text (page ++ flat_map f (drop i items)) → Stopped b c (page ++ f x) → Stopped a c text
page_cut f items i x page text a b c within is p q =
    leaves_cut a b c text (page ++ f x) (flat_map f (drop (i + 1) items)) (leaves_same a b text _ _ p (lines_from f items i x page within is)) q

-- the page was written, and a line behind it
pub behind_added : {T E : Type 0} → (a b c : Output) (page line left : List ℕ) (r : Result T E) → Appended a b page → left ≡ [] → Writes b c line r
    → OnOk r (Leaves a c (page ++ line) left)
behind_added a b c page line left (Ok x) p none q =
    record { done = page ++ line; whole = sym (ap (λ l. (page ++ line) ++ l) none ∙ append-nil (page ++ line)); appended = appended_both a b c page line p q }
behind_added a b c page line left (Err e) p none q = tt

pub behind_stopped : {T E : Type 0} → (a b c : Output) (page line : List ℕ) (r : Result T E) → Appended a b page → Writes b c line r
    → OnErr r (Stopped a c (page ++ line))
behind_stopped a b c page line (Ok x) p q = tt
behind_stopped a b c page line (Err e) p q = stopped_after a b c page line p q

pub behind_cut : {T E : Type 0} → (a b : Output) (page line : List ℕ) (r : Result T E) → IsErr r → Stopped a b page → OnErr r (Stopped a b (page ++ line))
behind_cut a b page line (Ok x) is p = tt
behind_cut a b page line (Err e) is p = stopped_within a b page line p

-- what waits is written last
pub page_last : {X T E : Type 0} → (f : X → List ℕ) (items : List X) (i : ℕ) (page text : List ℕ) (a b c : Output) (r : Result T E) → length items ≤ i
    → Leaves a b text (page ++ flat_map f (drop i items)) → Writes b c page r → Writes a c text r
page_last f items i page text a b c r all p q =
    leaves_last a b c text page r (leaves_same a b text _ _ p (ap (λ l. page ++ flat_map f l) (drop_of_length-le items all) ∙ append-nil page)) q
