-- Heads and their bytes.
use Rattle.std.proofs.Common.{◌≡◌, ℕ, zero, suc, ◌+◌, ◌≤◌, ◌||◌, ◌==◌, List, [], ◌∷◌, ◌++◌, length, take, drop, Option, None, Some, refl, sym, ap, ap₂, ◌∙◌, arith, length-drop, take-append-drop, length-take-le}
use Rattle.std.proofs.lemmas.List.{take-append-le, drop-append-le}
use Rattle.std.proofs.Math.Seq.{drop-nil, drop-append_seam}
use Rattle.dym_base.specs.HeapStep.{key}
use Rattle.dym_undo.specs.Changes.{Change, bytes_of, noted_bytes, is_noted}
use Rattle.dym_undo.specs.Heads.{len_of, before_of, change_of, changes_of, bytes_in}
use Rattle.dym_undo.specs.Passes.{is_headed, AreKeys, AreHeadKeys, AreFitting, Fits}
use Rattle.dym_base.specs.declared.command.Version.{Version}
use Rattle.dym_undo.specs.UndoLogs.{last_place, ArePlaced}
use Rattle.std.proofs.Common.{◌-◌, slice_get}
use Rattle.dym_undo.specs.declared.head.Head.{Head}

pub length-changes_of : (hs : List Head) (bytes : List ℕ) → length (changes_of hs bytes) ≡ length hs
length-changes_of [] bytes = refl
length-changes_of (h ∷ hs) bytes = ap suc (length-changes_of hs (drop (len_of h.len) bytes))

before_of-append : (len : Option ℕ) (bytes more : List ℕ) → len_of len ≤ length bytes → before_of len (bytes ++ more) ≡ before_of len bytes
before_of-append None bytes more within = refl
before_of-append (Some n) bytes more within = ap Some (take-append-le n bytes more within)

-- bytes behind those of the heads change nothing
pub changes_of-append : (hs : List Head) (bytes more : List ℕ) → bytes_in hs ≤ length bytes → changes_of hs (bytes ++ more) ≡ changes_of hs bytes
changes_of-append [] bytes more within = refl
changes_of-append (h ∷ hs) bytes more within =
    let here : len_of h.len ≤ length bytes = omega arith in
    let there : bytes_in hs ≤ length (drop (len_of h.len) bytes) = omega (arith, length-drop (len_of h.len) bytes) in
    ap₂ (λ (b : Option (List ℕ)) (cs : List Change). record { key = key h.handle; before = b } ∷ cs)
    (before_of-append h.len bytes more here)
    (ap (changes_of hs) (drop-append-le (len_of h.len) bytes more here) ∙ changes_of-append hs (drop (len_of h.len) bytes) more there)

pub drop_more : {A : Type 0} (m n : ℕ) (xs : List A) → drop n (drop m xs) ≡ drop (m + n) xs
drop_more zero n xs = ap (λ k. drop k xs) (let e : n ≡ 0 + n = omega arith in e)
drop_more (suc m) n [] = drop-nil n ∙ sym (drop-nil (suc m + n))
drop_more (suc m) n (x ∷ xs) =
    let e : suc m + n ≡ suc (m + n) = omega arith in
    drop_more m n xs ∙ ap (λ k. drop k (x ∷ xs)) (sym e)

pub changes_of-join : (hs gs : List Head) (bytes : List ℕ) → changes_of (hs ++ gs) bytes ≡ changes_of hs bytes ++ changes_of gs (drop (bytes_in hs) bytes)
changes_of-join [] gs bytes = refl
changes_of-join (h ∷ hs) gs bytes =
    ap (λ (cs : List Change). change_of h bytes ∷ cs)
    (changes_of-join hs gs (drop (len_of h.len) bytes)
    ∙ ap (λ (bs : List ℕ). changes_of hs (drop (len_of h.len) bytes) ++ changes_of gs bs) (drop_more (len_of h.len) (bytes_in hs) bytes))

pub bytes_in-join : (hs gs : List Head) → bytes_in (hs ++ gs) ≡ bytes_in hs + bytes_in gs
bytes_in-join [] gs = omega arith
bytes_in-join (h ∷ hs) gs = omega (arith, bytes_in-join hs gs)

-- a head more, with its bytes
pub changes_of-push : (hs : List Head) (bytes : List ℕ) (h : Head) (more : List ℕ) → bytes_in hs ≡ length bytes → len_of h.len ≡ length more → changes_of (hs ++ h ∷ []) (bytes ++ more) ≡ changes_of hs bytes ++ change_of h more ∷ []
changes_of-push hs bytes h more whole same =
    changes_of-join hs (h ∷ []) (bytes ++ more)
    ∙ ap₂ (λ (cs : List Change) (bs : List ℕ). cs ++ change_of h bs ∷ [])
    (changes_of-append hs bytes more (omega arith))
    (ap (λ n. drop n (bytes ++ more)) whole ∙ drop-append_seam bytes more)

-- the first heads are gone, and their bytes
pub changes_of-drop : (n : ℕ) (hs : List Head) (bytes : List ℕ) → changes_of (drop n hs) (drop (bytes_in (take n hs)) bytes) ≡ drop n (changes_of hs bytes)
changes_of-drop zero hs bytes = refl
changes_of-drop (suc n) [] bytes = refl
changes_of-drop (suc n) (h ∷ hs) bytes =
    ap (changes_of (drop n hs)) (sym (drop_more (len_of h.len) (bytes_in (take n hs)) bytes))
    ∙ changes_of-drop n hs (drop (len_of h.len) bytes)

changes_of-take : (n : ℕ) (hs : List Head) (bytes : List ℕ) → changes_of (take n hs) bytes ≡ take n (changes_of hs bytes)
changes_of-take zero hs bytes = refl
changes_of-take (suc n) [] bytes = refl
changes_of-take (suc n) (h ∷ hs) bytes = ap (λ (cs : List Change). change_of h bytes ∷ cs) (changes_of-take n hs (drop (len_of h.len) bytes))

pub bytes_in-split : (n : ℕ) (hs : List Head) → bytes_in (take n hs) + bytes_in (drop n hs) ≡ bytes_in hs
bytes_in-split zero hs = omega arith
bytes_in-split (suc n) [] = refl
bytes_in-split (suc n) (h ∷ hs) = omega (arith, bytes_in-split n hs)

-- the newest heads are gone, and their bytes
pub changes_of-cut : (n : ℕ) (hs : List Head) (bytes : List ℕ) → bytes_in hs ≡ length bytes → changes_of (take n hs) (take (bytes_in (take n hs)) bytes) ≡ take n (changes_of hs bytes)
changes_of-cut n hs bytes whole =
    let low : bytes_in (take n hs) ≤ length bytes = omega (arith, bytes_in-split n hs) in
    sym (changes_of-append (take n hs) (take (bytes_in (take n hs)) bytes) (drop (bytes_in (take n hs)) bytes) (omega (arith, length-take-le (bytes_in (take n hs)) bytes low)))
    ∙ ap (changes_of (take n hs)) (take-append-drop (bytes_in (take n hs)) bytes)
    ∙ changes_of-take n hs bytes

bytes_of-before_of : (len : Option ℕ) (bytes : List ℕ) → len_of len ≤ length bytes → bytes_of (before_of len bytes) ≡ len_of len
bytes_of-before_of None bytes within = refl
bytes_of-before_of (Some n) bytes within = length-take-le n bytes within

pub noted_bytes-changes_of : (hs : List Head) (bytes : List ℕ) → bytes_in hs ≤ length bytes → noted_bytes (changes_of hs bytes) ≡ bytes_in hs
noted_bytes-changes_of [] bytes within = refl
noted_bytes-changes_of (h ∷ hs) bytes within =
    let here : len_of h.len ≤ length bytes = omega arith in
    let there : bytes_in hs ≤ length (drop (len_of h.len) bytes) = omega (arith, length-drop (len_of h.len) bytes) in
    ap₂ (λ a b. a + b) (bytes_of-before_of h.len bytes here) (noted_bytes-changes_of hs (drop (len_of h.len) bytes) there)

pub is_noted-changes_of : (k : ℕ) (hs : List Head) (bytes : List ℕ) → is_noted k (changes_of hs bytes) ≡ is_headed k hs
is_noted-changes_of k [] bytes = refl
is_noted-changes_of k (h ∷ hs) bytes = ap (λ b. (k == key h.handle) || b) (is_noted-changes_of k hs (drop (len_of h.len) bytes))

pub keys-changes_of : (quota : ℕ) (hs : List Head) (bytes : List ℕ) → AreHeadKeys quota hs → AreKeys quota (changes_of hs bytes)
keys-changes_of quota [] bytes keys = tt
keys-changes_of quota (h ∷ hs) bytes keys = (keys.0, keys-changes_of quota hs (drop (len_of h.len) bytes) keys.1)

pub keys-push : (quota : ℕ) (hs : List Head) (h : Head) → AreHeadKeys quota hs → Rattle.dym_undo.specs.Keys.IsKey quota (key h.handle) → AreHeadKeys quota (hs ++ h ∷ [])
keys-push quota [] h keys is = (is, tt)
keys-push quota (x ∷ hs) h keys is = (keys.0, keys-push quota hs h keys.1 is)

pub keys-take : (quota n : ℕ) (hs : List Head) → AreHeadKeys quota hs → AreHeadKeys quota (take n hs)
keys-take quota zero hs keys = tt
keys-take quota (suc n) [] keys = tt
keys-take quota (suc n) (h ∷ hs) keys = (keys.0, keys-take quota n hs keys.1)

pub keys-drop : (quota n : ℕ) (hs : List Head) → AreHeadKeys quota hs → AreHeadKeys quota (drop n hs)
keys-drop quota zero hs keys = keys
keys-drop quota (suc n) [] keys = tt
keys-drop quota (suc n) (h ∷ hs) keys = keys-drop quota n hs keys.1

-- the place of the newest log is the last
pub last_there : (ps : List ℕ) (p n : ℕ) → n ≡ length ps - 1 → slice_get ps n ≡ Some p → last_place ps ≡ p
last_there [] p n is e = absurd cc
last_there (q ∷ []) p zero is e = cc
last_there (q ∷ []) p (suc n) is e = absurd (omega arith)
last_there (q ∷ r ∷ ps) p zero is e = absurd (omega arith)
last_there (q ∷ r ∷ ps) p (suc n) is e = last_there (r ∷ ps) p n (omega arith) e

pub placed_last : (low high : ℕ) (ps : List ℕ) → ArePlaced low high ps → last_place ps ≤ high
placed_last low high [] p = omega arith
placed_last low high (x ∷ []) p = p.1
placed_last low high (x ∷ y ∷ ps) p = placed_last x high (y ∷ ps) p.1

pub fitting-drop : (v : Version) (n : ℕ) (cs : List Change) → AreFitting v cs → AreFitting v (drop n cs)
fitting-drop v zero cs fit = fit
fitting-drop v (suc n) [] fit = tt
fitting-drop v (suc n) (c ∷ cs) fit = fitting-drop v n cs fit.1

pub fitting-take : (v : Version) (n : ℕ) (cs : List Change) → AreFitting v cs → AreFitting v (take n cs)
fitting-take v zero cs fit = tt
fitting-take v (suc n) [] fit = tt
fitting-take v (suc n) (c ∷ cs) fit = (fit.0, fitting-take v n cs fit.1)

pub fitting-push : (v : Version) (cs : List Change) (c : Change) → AreFitting v cs → Fits v c.key c.before → AreFitting v (cs ++ c ∷ [])
fitting-push v [] c fit is = (is, tt)
fitting-push v (x ∷ cs) c fit is = (fit.0, fitting-push v cs c fit.1 is)
