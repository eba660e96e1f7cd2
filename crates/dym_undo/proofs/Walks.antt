-- The two passes of a restore: from the front, the first change of each chunk counting.
use Rattle.std.proofs.Common.{◌≡◌, ℕ, Bool, true, false, not, cond, ◌&&◌, ◌||◌, ◌==◌, ◌*◌, ◌+◌, ◌<◌, ◌≤◌, drop, is_some, if◌then◌else◌, List, [], ◌∷◌, length, Option, None, Some, refl, sym, ap, subst, ◌∙◌, arith, eq-eqb, eqb-true, true≢false}
use Rattle.std.specs.FinMap.{get, contains_key}
use Rattle.dym_base.specs.HeapStep.{key}
use Rattle.dym_base.specs.Heaps.{Live}
use Rattle.dym_base.proofs.Maps.{get_insert, get_remove}
use Rattle.dym_undo.specs.Changes.{Change, is_noted}
use Rattle.dym_undo.specs.Keys.{IsKey, is_stamped, with_stamp, without_stamp}
use Rattle.dym_undo.specs.Passes.{Way, is_headed, cleared, taken, take_one, take_dead, put, put_one, put_live, AreKeys, AreHeadKeys}
use Rattle.dym_undo.specs.declared.head.Head.{Head}
use Rattle.dym_undo.proofs.Lists.{next}
use Rattle.dym_undo.proofs.Patches.{first_of}
use Rattle.dym_undo.proofs.Stamping.{is_stamped-with, is_stamped-without, length-with, length-without}

pub length-cleared : (hs : List Head) (words : List ℕ) → length (cleared hs words) ≡ length words
length-cleared [] words = refl
length-cleared (h ∷ hs) words = length-cleared hs (without_stamp words (key h.handle)) ∙ length-without words (key h.handle)

pub not_either : (a b c : Bool) → (not b && (not a && c)) ≡ (not (a || b) && c)
not_either true true c = refl
not_either true false c = refl
not_either false b c = refl

pub is_stamped-cleared : (quota : ℕ) (hs : List Head) (words : List ℕ) (q : ℕ) → AreHeadKeys quota hs → IsKey quota q → quota * 64 ≤ length words → is_stamped (cleared hs words) q ≡ (not (is_headed q hs) && is_stamped words q)
is_stamped-cleared quota [] words q keys is le = refl
is_stamped-cleared quota (h ∷ hs) words q keys is le =
    is_stamped-cleared quota hs (without_stamp words (key h.handle)) q keys.1 is (omega (arith, length-without words (key h.handle)))
    ∙ ap (λ b. not (is_headed q hs) && b) (is_stamped-without quota words (key h.handle) q keys.0 is le)
    ∙ not_either (q == key h.handle) (is_headed q hs) (is_stamped words q)

abbrev pub no_head : Head
no_head = record { handle = record { exp = 0; index = 0 }; len = None }

-- ---- the first pass

pub length-take_one : (h : Head) (w : Way) (b : Bool) → length (if b then w else record { words = with_stamp w.words (key h.handle); live = taken w.live (key h.handle) h.len }).words ≡ length w.words
length-take_one h w true = refl
length-take_one h w false = length-with w.words (key h.handle)

pub length-take_dead : (hs : List Head) (w : Way) → length (take_dead hs w).words ≡ length w.words
length-take_dead [] w = refl
length-take_dead (h ∷ hs) w = length-take_dead hs (take_one h w) ∙ length-take_one h w (is_stamped w.words (key h.handle))

-- which chunks are met by the first pass: stamped are those that were and the heads'
pub take_one-words : (quota : ℕ) (h : Head) (w : Way) (q : ℕ) (b : Bool) → IsKey quota (key h.handle) → IsKey quota q → quota * 64 ≤ length w.words → is_stamped w.words (key h.handle) ≡ b
    → is_stamped (if b then w else record { words = with_stamp w.words (key h.handle); live = taken w.live (key h.handle) h.len }).words q ≡ ((q == key h.handle) || is_stamped w.words q)
take_one-words quota h w q true a is le e = by (q == key h.handle) refl
  where
    by : (t : Bool) → (q == key h.handle) ≡ t → is_stamped w.words q ≡ (t || is_stamped w.words q)
    by true same = ap (is_stamped w.words) (eqb-true q (key h.handle) same) ∙ e
    by false other = refl
take_one-words quota h w q false a is le e = is_stamped-with quota w.words (key h.handle) q a is le

either_swap : (a b c : Bool) → ((a || c) || b) ≡ (c || (a || b))
either_swap true b true = refl
either_swap true b false = refl
either_swap false b true = refl
either_swap false b false = refl

pub take_dead-words : (quota : ℕ) (hs : List Head) (w : Way) (q : ℕ) → AreHeadKeys quota hs → IsKey quota q → quota * 64 ≤ length w.words → is_stamped (take_dead hs w).words q ≡ (is_stamped w.words q || is_headed q hs)
take_dead-words quota [] w q keys is le = or_false (is_stamped w.words q)
  where
    or_false : (b : Bool) → b ≡ (b || false)
    or_false true = refl
    or_false false = refl
take_dead-words quota (h ∷ hs) w q keys is le =
    take_dead-words quota hs (take_one h w) q keys.1 is (omega (arith, length-take_one h w (is_stamped w.words (key h.handle))))
    ∙ ap (λ b. b || is_headed q hs) (take_one-words quota h w q (is_stamped w.words (key h.handle)) keys.0 is le refl)
    ∙ either_swap (q == key h.handle) (is_headed q hs) (is_stamped w.words q)

get_taken : (live : Live) (k : ℕ) (len : Option ℕ) (q : ℕ) → (q == k) ≡ false → get (taken live k len) q ≡ get live q
get_taken live k None q other = get_remove live k q ∙ ap (λ b. cond b None (get live q)) other
get_taken live k (Some n) q other = refl

-- a chunk that isn't among the heads stays
pub take_dead-other : (hs : List Head) (w : Way) (q : ℕ) → is_headed q hs ≡ false → get (take_dead hs w).live q ≡ get w.live q
take_dead-other [] w q new = refl
take_dead-other (h ∷ hs) w q new =
    let parts = neither (q == key h.handle) (is_headed q hs) new in
    take_dead-other hs (take_one h w) q parts.1 ∙ by (is_stamped w.words (key h.handle)) parts.0
  where
    neither : (a b : Bool) → (a || b) ≡ false → (a ≡ false) × (b ≡ false)
    neither true b e = absurd (true≢false e)
    neither false b e = (refl, e)

    by : (b : Bool) → (q == key h.handle) ≡ false → get (if b then w else record { words = with_stamp w.words (key h.handle); live = taken w.live (key h.handle) h.len }).live q ≡ get w.live q
    by true other = refl
    by false other = get_taken w.live (key h.handle) h.len q other

-- the first pass only takes away
get_less : (live : Live) (k : ℕ) (len : Option ℕ) (q : ℕ) → contains_key (taken live k len) q ≡ true → contains_key live q ≡ true
get_less live k None q has = by (q == k) (sym (ap is_some (get_remove live k q)) ∙ has)
  where
    by : (b : Bool) → is_some (cond b None (get live q)) ≡ true → contains_key live q ≡ true
    by true e = absurd (true≢false (sym e))
    by false e = e
get_less live k (Some n) q has = has

pub take_dead-less : (hs : List Head) (w : Way) (q : ℕ) → contains_key (take_dead hs w).live q ≡ true → contains_key w.live q ≡ true
take_dead-less [] w q has = has
take_dead-less (h ∷ hs) w q has = by (is_stamped w.words (key h.handle)) (take_dead-less hs (take_one h w) q has)
  where
    by : (b : Bool) → contains_key (if b then w else record { words = with_stamp w.words (key h.handle); live = taken w.live (key h.handle) h.len }).live q ≡ true → contains_key w.live q ≡ true
    by true is = is
    by false is = get_less w.live (key h.handle) h.len q is

-- ---- the second pass

pub length-put_one : (c : Change) (w : Way) (b : Bool) → length (if b then record { words = without_stamp w.words c.key; live = put w.live c.key c.before } else w).words ≡ length w.words
length-put_one c w true = length-without w.words c.key
length-put_one c w false = refl

pub length-put_live : (cs : List Change) (w : Way) → length (put_live cs w).words ≡ length w.words
length-put_live [] w = refl
length-put_live (c ∷ cs) w = length-put_live cs (put_one c w) ∙ length-put_one c w (is_stamped w.words c.key)

-- a chunk that isn't stamped, or isn't noted, stays
get_put : (live : Live) (k : ℕ) (before : Option (List ℕ)) (q : ℕ) → (q == k) ≡ false → get (put live k before) q ≡ get live q
get_put live k None q other = refl
get_put live k (Some bytes) q other = get_insert live k bytes q ∙ ap (λ b. cond b (Some bytes) (get live q)) other

neither : (a b : Bool) → (a || b) ≡ false → (a ≡ false) × (b ≡ false)
neither true b e = absurd (true≢false e)
neither false b e = (refl, e)

pub put_live-other : (cs : List Change) (w : Way) (q : ℕ) → is_noted q cs ≡ false → get (put_live cs w).live q ≡ get w.live q
put_live-other [] w q new = refl
put_live-other (c ∷ cs) w q new =
    let parts = neither (q == c.key) (is_noted q cs) new in
    put_live-other cs (put_one c w) q parts.1
    ∙ elim (is_stamped w.words c.key) as (λ b. get (if b then record { words = without_stamp w.words c.key; live = put w.live c.key c.before } else w).live q ≡ get w.live q) [
      | true ↦ get_put w.live c.key c.before q parts.0
      | false ↦ refl
    ]

-- the stamps after one step: those of the others
put_one-words : (quota : ℕ) (c : Change) (w : Way) (q : ℕ) (b : Bool) → IsKey quota c.key → IsKey quota q → quota * 64 ≤ length w.words → is_stamped w.words c.key ≡ b
    → is_stamped (if b then record { words = without_stamp w.words c.key; live = put w.live c.key c.before } else w).words q ≡ (not (q == c.key) && is_stamped w.words q)
put_one-words quota c w q true a is le e = is_stamped-without quota w.words c.key q a is le
put_one-words quota c w q false a is le e = by (q == c.key) refl
  where
    by : (t : Bool) → (q == c.key) ≡ t → is_stamped w.words q ≡ (not t && is_stamped w.words q)
    by true same = ap (is_stamped w.words) (eqb-true q c.key same) ∙ e
    by false other = refl

pub put_live-words : (quota : ℕ) (cs : List Change) (w : Way) (q : ℕ) → AreKeys quota cs → IsKey quota q → quota * 64 ≤ length w.words → is_stamped (put_live cs w).words q ≡ (not (is_noted q cs) && is_stamped w.words q)
put_live-words quota [] w q keys is le = refl
put_live-words quota (c ∷ cs) w q keys is le =
    put_live-words quota cs (put_one c w) q keys.1 is (omega (arith, length-put_one c w (is_stamped w.words c.key)))
    ∙ ap (λ b. not (is_noted q cs) && b) (put_one-words quota c w q (is_stamped w.words c.key) keys.0 is le refl)
    ∙ not_either (q == c.key) (is_noted q cs) (is_stamped w.words q)

get_put_here : (live : Live) (k : ℕ) (before : Option (List ℕ)) → (before ≡ None → get live k ≡ None) → get (put live k before) k ≡ before
get_put_here live k None dead = dead refl
get_put_here live k (Some bytes) dead = get_insert live k bytes k ∙ ap (λ b. cond b (Some bytes) (get live k)) (eq-eqb k k refl)

-- a chunk that isn't stamped any more stays
pub put_live-unstamped : (quota : ℕ) (cs : List Change) (w : Way) (q : ℕ) → AreKeys quota cs → IsKey quota q → quota * 64 ≤ length w.words → is_stamped w.words q ≡ false → get (put_live cs w).live q ≡ get w.live q
put_live-unstamped quota [] w q keys is le new = refl
put_live-unstamped quota (c ∷ cs) w q keys is le new =
    put_live-unstamped quota cs (put_one c w) q keys.1 is (omega (arith, length-put_one c w (is_stamped w.words c.key)))
    (put_one-words quota c w q (is_stamped w.words c.key) keys.0 is le refl ∙ ap (λ b. not (q == c.key) && b) new ∙ and_false (q == c.key))
    ∙ stays (is_stamped w.words c.key) refl
  where
    and_false : (b : Bool) → (not b && false) ≡ false
    and_false true = refl
    and_false false = refl

    stays : (b : Bool) → is_stamped w.words c.key ≡ b → get (if b then record { words = without_stamp w.words c.key; live = put w.live c.key c.before } else w).live q ≡ get w.live q
    stays false e = refl
    stays true e = get_put w.live c.key c.before q (apart (q == c.key) refl)
      where
        apart : (t : Bool) → (q == c.key) ≡ t → t ≡ false
        apart true same = absurd (true≢false (sym e ∙ ap (is_stamped w.words) (sym (eqb-true q c.key same)) ∙ new))
        apart false other = refl

-- a stamped chunk gets what it was before its first change
pub put_live-stamped : (quota : ℕ) (cs : List Change) (w : Way) (q : ℕ) → AreKeys quota cs → IsKey quota q → quota * 64 ≤ length w.words → is_stamped w.words q ≡ true → (first_of q cs (get w.live q) ≡ None → get w.live q ≡ None) → get (put_live cs w).live q ≡ first_of q cs (get w.live q)
put_live-stamped quota [] w q keys is le old dead = refl
put_live-stamped quota (c ∷ cs) w q keys is le old dead = by (q == c.key) refl dead (λ old dead. put_live-stamped quota cs (put_one c w) q keys.1 is (omega (arith, length-put_one c w (is_stamped w.words c.key))) old dead)
  where
    still : is_stamped (put_one c w).words q ≡ (not (q == c.key) && is_stamped w.words q)
    still = put_one-words quota c w q (is_stamped w.words c.key) keys.0 is le refl

    other : (q == c.key) ≡ false → (b : Bool) → get (if b then record { words = without_stamp w.words c.key; live = put w.live c.key c.before } else w).live q ≡ get w.live q
    other e true = get_put w.live c.key c.before q e
    other e false = refl

    here : (b : Bool) → b ≡ true → (c.before ≡ None → get w.live q ≡ None) → q ≡ c.key → get (if b then record { words = without_stamp w.words c.key; live = put w.live c.key c.before } else w).live q ≡ c.before
    here true e dead same = ap (get (put w.live c.key c.before)) same ∙ get_put_here w.live c.key c.before (λ none. ap (get w.live) (sym same) ∙ dead none)
    here false e dead same = absurd (true≢false (sym e))

    by : (t : Bool) → (q == c.key) ≡ t → (cond t c.before (first_of q cs (get w.live q)) ≡ None → get w.live q ≡ None)
        → (is_stamped (put_one c w).words q ≡ true → (first_of q cs (get (put_one c w).live q) ≡ None → get (put_one c w).live q ≡ None) → get (put_live cs (put_one c w)).live q ≡ first_of q cs (get (put_one c w).live q))
        → get (put_live cs (put_one c w)).live q ≡ cond t c.before (first_of q cs (get w.live q))
    by true e dead rest =
        put_live-unstamped quota cs (put_one c w) q keys.1 is (omega (arith, length-put_one c w (is_stamped w.words c.key))) (still ∙ ap (λ b. not b && is_stamped w.words q) e)
        ∙ here (is_stamped w.words c.key) (ap (is_stamped w.words) (sym (eqb-true q c.key e)) ∙ old) dead (eqb-true q c.key e)
    by false e dead rest =
        let same : get (put_one c w).live q ≡ get w.live q = other e (is_stamped w.words c.key) in
        rest (still ∙ ap (λ b. not b && is_stamped w.words q) e ∙ old) (λ none. same ∙ dead (ap (first_of q cs) (sym same) ∙ none)) ∙ ap (first_of q cs) same

pub keys_next : (quota : ℕ) (hs : List Head) (i : ℕ) → i < length hs → AreHeadKeys quota (drop i hs) → AreHeadKeys quota (drop (i + 1) hs)
keys_next quota hs i lt keys = (subst (AreHeadKeys quota) (next hs i no_head lt) keys).1
