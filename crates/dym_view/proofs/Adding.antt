-- Each step on the book of a history keeps its rule.
use Rattle.std.proofs.Common.{◌≡◌, ◌≢◌, ℕ, zero, suc, ◌+◌, ◌<◌, ◌==◌, Bool, true, false, true≢false, List, [], ◌∷◌, ◌++◌, length, map, set, refl, ap, sym, subst, ◌∙◌, arith, inl, length-append, None, Some}
use Rattle.std.proofs.lemmas.List.{append-nil, length-map, length-set, map-append, map_push, nil_from_length, get_or-set_same, get_or-set_other}
use Rattle.std.proofs.lemmas.Bool.Decides.{nat_tests}
use mathlib.Core.List.{IsPrefix}
use prog.Atomic.{either}
use Rattle.logbook.specs.Pages.{Cell, cell, keeps, gives, adds, Nib, no_nib, may_write, step, Moves, Goes}
use Rattle.dym_view.specs.Commits.{CommitMeaning}
use Rattle.dym_view.specs.Histories.{IsHistory, MayFollow, last_commit}
use Rattle.dym_view.specs.Rules.{Entry, IsBookOf, IsHome, AreUsed, commits_of, next_key, Claims, Begins, Adds}

abbrev pub shown : List Entry → List Entry
shown log = []

abbrev pub moved : List Entry → List Entry → ℕ → Type 0
moved xs ys n = Unit {0}

-- the last of a list that was added to
pub last-more : (v : List CommitMeaning) (c : CommitMeaning) → last_commit (v ++ c ∷ []) ≡ Some c
last-more [] c = refl
last-more (d ∷ []) c = refl
last-more (d ∷ e ∷ v) c = last-more (e ∷ v) c

-- a commit that may come next leaves the times rising
pub rises_more : (v : List CommitMeaning) (c : CommitMeaning) → IsHistory v → MayFollow v c.time → IsHistory (v ++ c ∷ [])
rises_more [] c h may = (tt, tt)
rises_more (d ∷ []) c h may = (may d.time refl, (tt, tt))
rises_more (d ∷ e ∷ v) c h may = (h.0, rises_more (e ∷ v) c h.1 may)

-- a cell that is home stays home where another value is written that is home
home_set : (cs : List Cell) (k i v : ℕ) → IsHome cs i → IsHome (set cs k (v, true)) i
home_set [] k i v h = h
home_set (c ∷ cs) zero zero v h = refl
home_set (c ∷ cs) zero (suc i) v h = h
home_set (c ∷ cs) (suc k) zero v h = h
home_set (c ∷ cs) (suc k) (suc i) v h = home_set cs k i v h

-- and where a cell is added
home_more : (cs : List Cell) (c : Cell) (i : ℕ) → IsHome cs i → IsHome (cs ++ c ∷ []) i
home_more [] c i h = absurd (true≢false (sym h))
home_more (d ∷ cs) c zero h = h
home_more (d ∷ cs) c (suc i) h = home_more cs c i h

home_here : (cs : List Cell) (k v : ℕ) → k < length cs → IsHome (set cs k (v, true)) k
home_here [] k v low = absurd (omega arith)
home_here (c ∷ cs) zero v low = refl
home_here (c ∷ cs) (suc k) v low = home_here cs k v (omega arith)

first_more : (cs : List Cell) (c : Cell) → 0 < length cs → cell (cs ++ c ∷ []) 0 ≡ cell cs 0
first_more [] c low = absurd (omega arith)
first_more (d ∷ cs) c low = refl

used_kept : (cs ds : List Cell) → ((i : ℕ) → IsHome cs i → IsHome ds i) → (log : List Entry) → AreUsed cs log → AreUsed ds log
used_kept cs ds stays [] used = tt
used_kept cs ds stays (e ∷ []) used = tt
used_kept cs ds stays (e ∷ f ∷ es) used = (stays e.1 used.0, used_kept cs ds stays (f ∷ es) used.1)

used_more : (cs : List Cell) (log : List Entry) (e : Entry) → AreUsed cs log → IsHome cs (next_key log) → AreUsed cs (log ++ e ∷ [])
used_more cs [] e used home = tt
used_more cs (f ∷ []) e used home = (home, tt)
used_more cs (f ∷ g ∷ es) e used home = (used.0, used_more cs (g ∷ es) e used.1 home)

commits_more : (log : List Entry) (e : Entry) → 0 < length log → commits_of (log ++ e ∷ []) ≡ commits_of log ++ e.0 ∷ []
commits_more [] e some = absurd (omega arith)
commits_more (f ∷ es) e some = map_push (λ (x : Entry). x.0) es e

-- an entry whose cell isn't home is the last
pub is_whole : (v log : List Entry) (cs : List Cell) → IsPrefix v log → AreUsed cs log → 0 < length v → (cell cs (next_key v)).1 ≡ false → v ≡ log
is_whole [] log cs pre used some away = absurd (omega arith)
is_whole (e ∷ v) [] cs pre used some away = absurd (cc (pre.1))
is_whole (e ∷ []) (f ∷ []) cs pre used some away = cc (pre.1)
is_whole (e ∷ []) (f ∷ g ∷ log) cs pre used some away =
    let same : e ≡ f = cc (pre.1) in
    absurd (true≢false (sym used.0 ∙ ap (λ (x : Entry). (cell cs x.1).1) (sym same) ∙ away))
is_whole (e ∷ d ∷ v) (f ∷ []) cs pre used some away = absurd (cc (pre.1))
is_whole (e ∷ d ∷ v) (f ∷ g ∷ log) cs pre used some away =
    let same : e ≡ f = cc (pre.1) in
    let rest : d ∷ v ≡ g ∷ log = is_whole (d ∷ v) (g ∷ log) cs (pre.0, cc (pre.1)) used.1 (omega arith) away in
    cc (same, rest)

-- what a compare and exchange leaves
becomes : (n old new : ℕ) → n ≡ old → (b : Bool) → (n == old) ≡ b → either (n == old) new n ≡ new
becomes n old new same true is = rw is refl
becomes n old new same false is = absurd (grind (arith, nat_tests))

stays_as : (n old : ℕ) (b : Bool) → (n == old) ≡ b → either (n == old) old n ≡ n
stays_as n old true is = rw is (grind (arith, nat_tests))
stays_as n old false is = rw is refl

-- a step that adds a cell keeps the rule
pub claims_moves : (v : List Entry) (e : Entry)
    → Moves IsBookOf shown moved 0 (v, (no_nib, None)) (λ n. either (n == 0) 0 n) (Claims (step 0 0 0 e) (v, (no_nib, None)))
claims_moves v e cs log kept pre away =
    let n = (cell cs 0).0 in
    let x = either (n == 0) 0 n in
    let ds = set cs 0 (x, true) in
    let es = ds ++ (0, false) ∷ [] in
    let some : 0 < length ds = omega (arith, kept.some, length-set cs 0 (x, true)) in
    let count : x ≡ length log = stays_as n 0 (n == 0) refl ∙ ap (λ (c : Cell). c.0) kept.word in
    let word : cell es 0 ≡ (length log, true) = first_more ds (0, false) some ∙ get_or-set_same cs 0 (x, true) (0, false) kept.some ∙ ap (λ (k : ℕ). (k, true)) count in
    let is : IsBookOf es log = record {
      some = omega (arith, some, length-append ds ((0, false) ∷ []));
      word = word;
      rising = kept.rising;
      used = used_kept cs es (λ i home. home_more ds (0, false) i (home_set cs 0 i x home)) log kept.used;
    } in (
      kept.some,
      ap (λ (c : Cell). c.1) kept.word,
      (adds, [], None, tt, subst (IsBookOf es) (sym (append-nil log)) is, inl (refl, refl), refl),
    )

-- the first entry, or none
begins_goes : (v : List Entry) (e : Entry) (p : Nib) (cs : List Cell) (log : List Entry) → IsBookOf cs log → (b : Bool) → ((cell cs 0).0 == 0) ≡ b
    → Goes IsBookOf shown moved 0 (v, (p, None)) (λ n. either (n == 0) 1 n) (Begins (step 0 0 1 e) (v, (p, None))) cs log
begins_goes v e p cs log kept true is =
    let n = (cell cs 0).0 in
    let x = either (n == 0) 1 n in
    let ds = set cs 0 (x, true) in
    let none : n ≡ 0 = grind (arith, nat_tests) in
    let empty : log ≡ [] = nil_from_length log (ap (λ (c : Cell). c.0) (sym kept.word) ∙ none) in
    let whole : log ++ e ∷ [] ≡ e ∷ [] = ap (λ (l : List Entry). l ++ e ∷ []) empty in
    let one : x ≡ 1 = becomes n 0 1 none true is in
    let book : IsBookOf ds (e ∷ []) = record {
      some = omega (arith, kept.some, length-set cs 0 (x, true));
      word = get_or-set_same cs 0 (x, true) (0, false) kept.some ∙ ap (λ (k : ℕ). (k, true)) one;
      rising = tt;
      used = tt;
    } in (keeps, e ∷ [], None, tt, subst (IsBookOf ds) (sym whole) book, inl (refl, refl), (refl, rw is whole))
begins_goes v e p cs log kept false is =
    let n = (cell cs 0).0 in
    let x = either (n == 0) 1 n in
    let ds = set cs 0 (x, true) in
    let count : x ≡ length log = rw is (ap (λ (c : Cell). c.0) kept.word) in
    let book : IsBookOf ds log = record {
      some = omega (arith, kept.some, length-set cs 0 (x, true));
      word = get_or-set_same cs 0 (x, true) (0, false) kept.some ∙ ap (λ (k : ℕ). (k, true)) count;
      rising = kept.rising;
      used = used_kept cs ds (λ i home. home_set cs 0 i x home) log kept.used;
    } in (keeps, [], None, tt, subst (IsBookOf ds) (sym (append-nil log)) book, inl (refl, refl), (refl, rw is tt))

pub begins_moves : (v : List Entry) (e : Entry) (p : Nib)
    → Moves IsBookOf shown moved 0 (v, (p, None)) (λ n. either (n == 0) 1 n) (Begins (step 0 0 1 e) (v, (p, None)))
begins_moves v e p cs log kept pre away =
    (kept.some, ap (λ (c : Cell). c.1) kept.word, begins_goes v e p cs log kept ((cell cs 0).0 == 0) refl)

-- whoever has the right to bring the last cell home adds an entry to all that was seen
pub adds_moves : (v : List Entry) (e : Entry) (p : Nib) (old new : ℕ) → new ≡ old + 1 → 0 < length v → length v ≡ old → p.right ≡ may_write → p.key ≡ next_key v
    → IsHistory (commits_of v) → MayFollow (commits_of v) e.0.time
    → Moves IsBookOf shown moved 0 (v, (p, None)) (λ n. either (n == old) new n) (Adds (step 0 old new e) (v, (p, None)))
adds_moves v e p old new up some len right key rising may cs log kept pre away =
    let out = away right in
    let gone : (cell cs (next_key v)).1 ≡ false = ap (λ (k : ℕ). (cell cs k).1) (sym key) ∙ out.1 in
    let same : v ≡ log = is_whole v log cs pre kept.used some gone in
    let n = (cell cs 0).0 in
    let x = either (n == old) new n in
    let ds = set cs 0 (x, true) in
    let es = set ds p.key (p.value, true) in
    let here : n ≡ old = ap (λ (c : Cell). c.0) kept.word ∙ ap length (sym same) ∙ len in
    let other : 0 ≢ p.key = λ (is : 0 ≡ p.key). true≢false (sym (ap (λ (c : Cell). c.1) kept.word) ∙ ap (λ (k : ℕ). (cell cs k).1) is ∙ out.1) in
    let more : x ≡ length (v ++ e ∷ []) = becomes n old new here (n == old) refl ∙ omega (arith, up, len, length-append v (e ∷ [])) in
    let low : p.key < length ds = omega (arith, out.0, length-set cs 0 (x, true)) in
    let stays : (i : ℕ) → IsHome cs i → IsHome es i = λ i home. home_set ds p.key i p.value (home_set cs 0 i x home) in
    let home : IsHome es (next_key v) = subst (IsHome es) key (home_here ds p.key p.value low) in
    let used : AreUsed es v = used_kept cs es stays v (subst (AreUsed cs) (sym same) kept.used) in
    let book : IsBookOf es (v ++ e ∷ []) = record {
      some = omega (arith, kept.some, length-set cs 0 (x, true), length-set ds p.key (p.value, true));
      word = get_or-set_other ds p.key 0 (p.value, true) (0, false) other ∙ get_or-set_same cs 0 (x, true) (0, false) kept.some ∙ ap (λ (k : ℕ). (k, true)) more;
      rising = subst IsHistory (sym (commits_more v e some)) (rises_more (commits_of v) e.0 rising may);
      used = used_more es v e used home;
    } in (
      kept.some,
      ap (λ (c : Cell). c.1) kept.word,
      (
        gives,
        e ∷ [],
        None,
        right,
        subst (λ (l : List Entry). IsBookOf es (l ++ e ∷ [])) same book,
        inl (refl, refl),
        ap (λ (l : List Entry). l ++ e ∷ []) (sym same),
      ),
    )

-- what was seen after an entry was added
next_more : (v : List Entry) (e : Entry) → next_key (v ++ e ∷ []) ≡ e.1
next_more [] e = refl
next_more (f ∷ []) e = refl
next_more (f ∷ g ∷ v) e = next_more (g ∷ v) e

module _ (v w : List Entry) (e : Entry) (is : w ≡ v ++ e ∷ []) where
  pub begun_more : 0 < length w
  begun_more = omega (arith, ap length is ∙ length-append v (e ∷ []))

  pub key_more : e.1 ≡ next_key w
  key_more = sym (ap next_key is ∙ next_more v e)

  pub is_more : 0 < length v → commits_of w ≡ commits_of v ++ e.0 ∷ []
  is_more some = ap commits_of is ∙ commits_more v e some

  pub rising_more : 0 < length v → IsHistory (commits_of v) → MayFollow (commits_of v) e.0.time → IsHistory (commits_of w)
  rising_more some rising may = subst IsHistory (sym (is_more some)) (rises_more (commits_of v) e.0 rising may)

-- the entries are one more than the commits
pub counts_entries : (v : List Entry) → 0 < length v → length v ≡ length (commits_of v) + 1
counts_entries [] some = absurd (omega arith)
counts_entries (e ∷ es) some = omega (arith, length-map es (λ (x : Entry). x.0))

-- the last commit of a history that has one commit more
pub last_more : (old new : List CommitMeaning) (c : CommitMeaning) → new ≡ old ++ c ∷ [] → Some c ≡ last_commit new
last_more old new c is = sym (ap last_commit is ∙ last-more old c)

-- a beginning of the entries has a beginning of the commits
pub commits_begin : (v w : List Entry) → IsPrefix v w → IsPrefix (commits_of v) (commits_of w)
commits_begin [] w pre = (commits_of w, refl)
commits_begin (e ∷ v) [] pre = absurd (cc (pre.1))
commits_begin (e ∷ v) (f ∷ w) pre =
    let rest : v ++ pre.0 ≡ w = cc (pre.1) in
    (map (λ (x : Entry). x.0) pre.0, sym (map-append (λ (x : Entry). x.0) v pre.0) ∙ ap (map (λ (x : Entry). x.0)) rest)
