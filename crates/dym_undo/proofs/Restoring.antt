-- Both passes over changes give the map before them, and on the way no more than the map after and the map before need.
use Rattle.std.proofs.Common.{◌≡◌, ℕ, Bool, true, false, not, cond, ◌&&◌, ◌||◌, ◌==◌, ◌*◌, ◌≤◌, is_some, if◌then◌else◌, List, [], ◌∷◌, length, drop, Option, None, Some, refl, sym, ap, subst, ◌∙◌, arith, eq-eqb, eqb-true, true≢false, inl, inr}
use Rattle.std.specs.FinMap.{get, contains_key, insert}
use Rattle.dym_base.specs.HeapStep.{key}
use Rattle.dym_base.specs.Heaps.{held}
use Rattle.dym_base.proofs.Heaps.{held_grows}
use Rattle.dym_base.proofs.Maps.{get_remove, has_cases}
use Rattle.dym_undo.specs.Changes.{Change, patched, is_noted}
use Rattle.dym_undo.specs.Heads.{changes_of, len_of, before_of}
use Rattle.dym_undo.specs.Keys.{IsKey, is_stamped, with_stamp, without_stamp}
use Rattle.dym_undo.specs.Passes.{Way, is_headed, taken, take_one, take_dead, put, put_one, put_live, AreKeys, AreHeadKeys, IsAmong}
use Rattle.dym_undo.specs.declared.head.Head.{Head}
use Rattle.dym_undo.proofs.Lists.{none_of, false_of}
use Rattle.dym_undo.proofs.Patches.{first_of, get-patched, first_of-noted, first_of-unnoted, same_live}
use Rattle.dym_undo.proofs.Decoding.{is_noted-changes_of, keys-changes_of}
use Rattle.dym_undo.proofs.Walks.{length-take_one, take_one-words, length-take_dead, take_dead-words, take_dead-other, take_dead-less, put_live-other, put_live-stamped, put_live-words, length-put_live}

noted_key : (quota : ℕ) (cs : List Change) (q : ℕ) → AreKeys quota cs → is_noted q cs ≡ true → IsKey quota q
noted_key quota [] q keys noted = absurd (true≢false (sym noted))
noted_key quota (c ∷ cs) q keys noted =
    elim (q == c.key) as (λ b. (q == c.key) ≡ b → (b || is_noted q cs) ≡ true → IsKey quota q) [
      | true ↦ λ e _. subst (IsKey quota) (sym (eqb-true q c.key e)) keys.0
      | false ↦ λ _ is. noted_key quota cs q keys.1 is
    ] refl noted

gone_stays : (hs : List Head) (w : Way) (q : ℕ) → get w.live q ≡ None → get (take_dead hs w).live q ≡ None
gone_stays hs w q gone = none_of _ (false_of _ (λ has. true≢false (sym (take_dead-less hs w q has) ∙ ap is_some gone)))

-- a chunk that was dead before its first change is taken away
take_dead-dead : (quota : ℕ) (hs : List Head) (bytes : List ℕ) (w : Way) (q : ℕ) (x : Option (List ℕ)) → AreHeadKeys quota hs → IsKey quota q → quota * 64 ≤ length w.words → is_stamped w.words q ≡ false
    → is_headed q hs ≡ true → first_of q (changes_of hs bytes) x ≡ None → get (take_dead hs w).live q ≡ None
take_dead-dead quota [] bytes w q x keys is le new headed dead = absurd (true≢false (sym headed))
take_dead-dead quota (h ∷ hs) bytes w q x keys is le new headed dead =
    elim (q == key h.handle) as (λ t. (q == key h.handle) ≡ t → (t || is_headed q hs) ≡ true → cond t (before_of h.len bytes) (first_of q (changes_of hs (drop (len_of h.len) bytes)) x) ≡ None → get (take_dead hs (take_one h w)).live q ≡ None) [
      | true ↦ λ e _ dead. gone_stays hs (take_one h w) q (here (eqb-true q (key h.handle) e) dead (is_stamped w.words (key h.handle)) refl)
      | false ↦ λ e there dead. take_dead-dead quota hs (drop (len_of h.len) bytes) (take_one h w) q x keys.1 is (omega (arith, length-take_one h w (is_stamped w.words (key h.handle))))
          (take_one-words quota h w q (is_stamped w.words (key h.handle)) keys.0 is le refl ∙ ap (λ b. b || is_stamped w.words q) e ∙ new) there dead
    ] refl headed dead
  where
    gone : (len : Option ℕ) → before_of len bytes ≡ None → q ≡ key h.handle → get (taken w.live (key h.handle) len) q ≡ None
    gone None none same = get_remove w.live (key h.handle) q ∙ ap (λ b. cond b None (get w.live q)) (eq-eqb q (key h.handle) same)
    gone (Some n) none same = absurd (true≢false (ap is_some none))

    here : q ≡ key h.handle → before_of h.len bytes ≡ None → (b : Bool) → is_stamped w.words (key h.handle) ≡ b
        → get (if b then w else record { words = with_stamp w.words (key h.handle); live = taken w.live (key h.handle) h.len }).live q ≡ None
    here same none true e = absurd (true≢false (sym e ∙ ap (is_stamped w.words) (sym same) ∙ new))
    here same none false e = gone h.len none same

-- over stamps none of which is set
module _ (quota : ℕ) (hs : List Head) (bytes : List ℕ) (w : Way) (keys : AreHeadKeys quota hs) (le : quota * 64 ≤ length w.words) (unstamped : (q : ℕ) → IsKey quota q → is_stamped w.words q ≡ false) where
  abbrev cs : List Change
  cs = changes_of hs bytes

  abbrev mid : Way
  mid = take_dead hs w

  mid_le : quota * 64 ≤ length mid.words
  mid_le = omega (arith, length-take_dead hs w)

  mid_stamped : (q : ℕ) → IsKey quota q → is_stamped mid.words q ≡ is_headed q hs
  mid_stamped q is = take_dead-words quota hs w q keys is le ∙ ap (λ b. b || is_headed q hs) (unstamped q is)

  dead : (q : ℕ) → IsKey quota q → is_headed q hs ≡ true → first_of q cs (get mid.live q) ≡ None → get mid.live q ≡ None
  dead q is headed none = take_dead-dead quota hs bytes w q (get mid.live q) keys is le (unstamped q is) headed none

  -- what each chunk is after the second pass
  after : (q : ℕ) (b : Bool) → is_noted q cs ≡ b → (get (put_live cs mid).live q ≡ first_of q cs (get w.live q)) × (contains_key mid.live q ≡ true → contains_key (put_live cs mid).live q ≡ true)
  after q false e =
      let same = put_live-other cs mid q e in
      (same ∙ take_dead-other hs w q (sym (is_noted-changes_of q hs bytes) ∙ e) ∙ sym (first_of-unnoted q cs (get w.live q) e), λ has. ap is_some same ∙ has)
  after q true e =
      let is : IsKey quota q = noted_key quota cs q (keys-changes_of quota hs bytes keys) e in
      let headed : is_headed q hs ≡ true = sym (is_noted-changes_of q hs bytes) ∙ e in
      let same : get (put_live cs mid).live q ≡ first_of q cs (get mid.live q)
      = put_live-stamped quota cs mid q (keys-changes_of quota hs bytes keys) is mid_le (mid_stamped q is ∙ headed) (dead q is headed) in
      (same ∙ first_of-noted q cs (get mid.live q) (get w.live q) e, λ has. there (is_some (get (put_live cs mid).live q)) refl has (λ none. dead q is headed (sym same ∙ none)))
    where
      there : (b : Bool) → is_some (get (put_live cs mid).live q) ≡ b → contains_key mid.live q ≡ true → (get (put_live cs mid).live q ≡ None → get mid.live q ≡ None) → b ≡ true
      there true e has gone = refl
      there false e has gone = absurd (true≢false (sym has ∙ ap is_some (gone (none_of _ e))))

  pub passes-patched : (put_live cs mid).live ≡ patched cs w.live
  passes-patched = same_live _ _ (λ q. (after q (is_noted q cs) refl).0 ∙ sym (get-patched cs w.live q))

  pub passes-among : (q : ℕ) → contains_key mid.live q ≡ true → contains_key (put_live cs mid).live q ≡ true
  passes-among q = (after q (is_noted q cs) refl).1

  pub passes-unstamped : (q : ℕ) → IsKey quota q → is_stamped (put_live cs mid).words q ≡ false
  passes-unstamped q is =
      put_live-words quota cs mid q (keys-changes_of quota hs bytes keys) is mid_le
      ∙ ap (λ b. not (is_noted q cs) && b) (mid_stamped q is ∙ sym (is_noted-changes_of q hs bytes)) ∙ none (is_noted q cs)
    where
      none : (b : Bool) → (not b && b) ≡ false
      none true = refl
      none false = refl

  pub length-passes : length (put_live cs mid).words ≡ length w.words
  length-passes = length-put_live cs mid ∙ length-take_dead hs w

-- one step of the second pass stays within what the end needs
pub put_within : (quota limit : ℕ) (c : Change) (cs : List Change) (w : Way) → AreKeys limit (c ∷ cs) → limit * 64 ≤ length w.words → is_stamped w.words c.key ≡ true → held w.live ≤ quota
    → held (put_live (c ∷ cs) w).live ≤ quota → ((q : ℕ) → contains_key w.live q ≡ true → contains_key (put_live (c ∷ cs) w).live q ≡ true)
    → held (put w.live c.key c.before) ≤ quota
put_within quota limit c cs w keys le stamped now end among = by c.before refl
  where
    first : (bytes : List ℕ) → c.before ≡ Some bytes → first_of c.key (c ∷ cs) (get w.live c.key) ≡ Some bytes
    first bytes e = ap (λ b. cond b c.before (first_of c.key cs (get w.live c.key))) (eq-eqb c.key c.key refl) ∙ e

    by : (before : Option (List ℕ)) → c.before ≡ before → held (put w.live c.key before) ≤ quota
    by None e = now
    by (Some bytes) e =
        let got : get (put_live (c ∷ cs) w).live c.key ≡ Some bytes
        = put_live-stamped limit (c ∷ cs) w c.key keys keys.0 le stamped (λ none. absurd (true≢false (ap is_some (sym (first bytes e) ∙ none)))) ∙ first bytes e in
        omega (
          arith,
          end,
          held_grows (insert w.live c.key bytes) (put_live (c ∷ cs) w).live (λ q has. elim (has_cases w.live c.key bytes q has) [
            | inl same ↦ ap (λ k. contains_key (put_live (c ∷ cs) w).live k) same ∙ ap is_some got
            | inr old ↦ among q old
          ]),
        )

-- what was live, or is put back, is live at the end
pub among_next : (limit : ℕ) (c : Change) (cs : List Change) (w : Way) → AreKeys limit (c ∷ cs) → limit * 64 ≤ length w.words
    → IsAmong w.live (put_live (c ∷ cs) w).live → IsAmong (put_one c w).live (put_live (c ∷ cs) w).live
among_next limit c cs w keys le among q has = by (is_stamped w.words c.key) refl has
  where
    inserted : is_stamped w.words c.key ≡ true → (before : Option (List ℕ)) → c.before ≡ before → contains_key (put w.live c.key before) q ≡ true → contains_key (put_live (c ∷ cs) w).live q ≡ true
    inserted stamped None e has = among q has
    inserted stamped (Some bytes) e has =
        let first : first_of c.key (c ∷ cs) (get w.live c.key) ≡ Some bytes = ap (λ b. cond b c.before (first_of c.key cs (get w.live c.key))) (eq-eqb c.key c.key refl) ∙ e in
        let got : get (put_live (c ∷ cs) w).live c.key ≡ Some bytes
        = put_live-stamped limit (c ∷ cs) w c.key keys keys.0 le stamped (λ none. absurd (true≢false (ap is_some (sym first ∙ none)))) ∙ first in
        elim (has_cases w.live c.key bytes q has) [
          | inl same ↦ ap (λ k. contains_key (put_live (c ∷ cs) w).live k) same ∙ ap is_some got
          | inr old ↦ among q old
        ]

    by : (b : Bool) → is_stamped w.words c.key ≡ b → contains_key (if b then record { words = without_stamp w.words c.key; live = put w.live c.key c.before } else w).live q ≡ true → contains_key (put_live (c ∷ cs) w).live q ≡ true
    by true e has = inserted e c.before refl has
    by false e has = among q has
