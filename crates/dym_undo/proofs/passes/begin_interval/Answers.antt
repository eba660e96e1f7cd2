use Rattle.std.proofs.Common.{◌≡◌, ℕ, ◌/◌, ◌-◌, ◌<◌, Bool, true, false, not, ◌&&◌, List, [], ◌∷◌, length, drop, Some, slice_get, refl, sym, ap, subst, ◌∙◌, arith}
use Rattle.dym_undo.specs.Keys.{IsKey, is_stamped}
use Rattle.dym_undo.specs.Passes.{is_headed, AreHeadKeys}
use Rattle.dym_undo.specs.UndoLogs.{last_place}
use Rattle.dym_undo.specs.declared.head.Head.{Head}
use Rattle.dym_undo.proofs.Decoding.{keys-drop, last_there}
use Rattle.dym_undo.proofs.Walks.{is_stamped-cleared, length-cleared}
use Rattle.dym_undo.proofs.passes.begin_interval.Given as given
use Rattle.dym_undo.proofs.passes.begin_interval.Goals.{In-Some}
use Rattle.dym_undo.proofs.passes.begin_interval.Goals as goal

module _ (g : given.Over) (c : In-Some g) where
  abbrev place : ℕ
  place = c.in-Some.place.now

  last : last_place c.args.places.now ≡ place
  last = last_there c.args.places.now place (length c.args.places.now - 1) refl (sym c.in-Some.ensures.value)

  some : (ps : List ℕ) (n : ℕ) → slice_get ps n ≡ Some place → 0 < length ps
  some [] n e = absurd cc
  some (p ∷ ps) n e = omega arith

  logged : 0 < length c.args.places.now
  logged = some c.args.places.now (length c.args.places.now - 1) (sym c.in-Some.ensures.value)

pub split_at-requires : goal.split_at-requires
split_at-requires g c = omega (arith, c.requires.within, last g (goal.at.split_at-requires g c).In-Some)

pub clear_stamps-requires : goal.clear_stamps-requires
clear_stamps-requires g c =
    subst (AreHeadKeys (length c.args.words.now / 64)) (sym c.split_at.ensures.back) (keys-drop (length c.args.words.now / 64) c.in-Some.place.now c.args.heads.now c.requires.keys)

pub forget_touched-requires-clause-noted : goal.forget_touched-requires-clause-noted
forget_touched-requires-clause-noted g c k is =
    let o = (goal.at.forget_touched-requires-clause-noted g c).In-Some in
    ap (is_headed k) (c.split_at.ensures.back ∙ ap (λ n. drop n c.args.heads.now) (sym (last g o))) ∙ c.requires.noted (logged g o) k is

none_both : (b : Bool) → (not b && b) ≡ false
none_both true = refl
none_both false = refl

pub returns-in-Some-clause-unstamped : goal.returns-in-Some-clause-unstamped
returns-in-Some-clause-unstamped g c q is =
    let o = (goal.at.returns-in-Some-clause-unstamped g c).In-Some in
    let hs : List Head = c.split_at.result.1.now in
    let limit : ℕ = length c.args.words.now / 64 in
    let back : hs ≡ drop (last_place c.args.places.now) c.args.heads.now = c.split_at.ensures.back ∙ ap (λ n. drop n c.args.heads.now) (sym (last g o)) in
    let same : length c.clear_stamps.new.words ≡ length c.args.words.now = ap length c.clear_stamps.ensures ∙ length-cleared hs c.args.words.now in
    let key : IsKey limit q = subst (λ n. IsKey (n / 64) q) same is in
    ap (λ (w : List ℕ). is_stamped w q) c.clear_stamps.ensures
    ∙ is_stamped-cleared limit hs c.args.words.now q (subst (AreHeadKeys limit) (sym back) (keys-drop limit (last_place c.args.places.now) c.args.heads.now c.requires.keys)) key (omega arith)
    ∙ ap (λ b. not (is_headed q hs) && b) (c.requires.stamps q key ∙ ap (is_headed q) (sym back))
    ∙ none_both (is_headed q hs)
