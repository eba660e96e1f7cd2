-- The records of a queue's slots: one more, one out, one back, and those before or after a place gone.
use Rattle.std.proofs.Common.{◌≡◌, ℕ, zero, suc, ◌+◌, ◌<◌, ◌≤◌, inl, inr, Option, Some, None, IsSome, List, [], ◌∷◌, ◌++◌, length, map, take, drop, get_or, unwrap_or, refl, sym, ap, subst, ◌∙◌, arith, length-append}
use Rattle.std.proofs.Math.ListN.{set, length-set}
use Rattle.std.proofs.Math.Seq.{map-set_same}
use Rattle.std.specs.List.{All}
use Rattle.std.proofs.lemmas.List.Elements.{All-head, All-tail, All-from_get_or, All-push, All-take, All-drop}
use Rattle.std.proofs.lemmas.Bool.{cases_eq, true≢false}
use Rattle.std.proofs.lemmas.Option.{same_Some, none-some}
use Rattle.std.proofs.lemmas.List.{length-take, length-drop, get_or-set_same, get_or-set_other, map-append, take-map, drop-map}
use Rattle.dym_slots.specs.Meanings.{Numbered, first_number, NumbersRise}
use Rattle.dym_chain.specs.VecKeeps.{shown, bytes_out, place_out, no_slot, IsValidKeep}
use Rattle.dym_chain.specs.declared.vec_keep.Slot.{Slot}
use Rattle.dym_chain.specs.declared.vec_keep.Lifted.{Lifted}

-- numbers that rise

all_below : (r : Numbered) (rs : List Numbered) (made : ℕ) → NumbersRise (r ∷ rs) made → r.number < made
all_below r [] made rise = rise.0
all_below r (q ∷ rs) made rise = (let next = all_below q rs made rise.1 in omega (arith, rise.0))

pub rise_push : (rs : List Numbered) (made : ℕ) (bytes : List ℕ) → NumbersRise rs made → NumbersRise (rs ++ record { number = made; bytes = bytes } ∷ []) (made + 1)
rise_push [] made bytes rise = (omega arith, tt)
rise_push (r ∷ []) made bytes rise = (rise.0, rise_push [] made bytes tt)
rise_push (r ∷ q ∷ rs) made bytes rise = (rise.0, rise_push (q ∷ rs) made bytes rise.1)

first_take : (r : Numbered) (n : ℕ) (rs : List Numbered) (made : ℕ) → NumbersRise (r ∷ rs) made → r.number < first_number (take n rs) made
first_take r zero rs made rise = all_below r rs made rise
first_take r (suc n) [] made rise = rise.0
first_take r (suc n) (q ∷ rs) made rise = rise.0

pub rise_take : (n : ℕ) (rs : List Numbered) (made : ℕ) → NumbersRise rs made → NumbersRise (take n rs) made
rise_take zero rs made rise = tt
rise_take (suc n) [] made rise = tt
rise_take (suc n) (r ∷ rs) made rise = (first_take r n rs made rise, rise_take n rs made rise.1)

pub rise_drop : (n : ℕ) (rs : List Numbered) (made : ℕ) → NumbersRise rs made → NumbersRise (drop n rs) made
rise_drop zero rs made rise = rise
rise_drop (suc n) [] made rise = tt
rise_drop (suc n) (r ∷ rs) made rise = rise_drop n rs made rise.1

-- ---- where each slot has its record, it doesn't matter which one is out

abbrev pub IsHeld : Slot → Type 0
IsHeld s = IsSome s.held

unwrap_there : (o : Option (List ℕ)) (a b : List ℕ) → IsSome o → unwrap_or o a ≡ unwrap_or o b
unwrap_there None a b is = absurd (true≢false (sym is))
unwrap_there (Some x) a b is = refl

shown_there : (a b : List ℕ) (slots : List Slot) → All IsHeld slots → map (shown a) slots ≡ map (shown b) slots
shown_there a b [] all = refl
shown_there a b (s ∷ slots) all =
    ap (λ (bytes : List ℕ). record { number = s.number; bytes = bytes } ∷ map (shown a) slots) (unwrap_there s.held a b (All-head IsHeld s slots all))
    ∙ ap (λ l. shown b s ∷ l) (shown_there a b slots (All-tail IsHeld s slots all))

pub all_held : {slots : List Slot} {lifted : Option Lifted} {made capacity : ℕ} → IsValidKeep slots lifted made capacity → place_out lifted ≡ None → All IsHeld slots
all_held {slots = slots} kept idle = All-from_get_or IsHeld slots no_slot (λ i within. kept.there i within (λ e. none-some i (sym idle ∙ e)))

-- all slots again, once the one that is out is back
pub all_back : {slots : List Slot} {lifted : Option Lifted} {made capacity : ℕ} (i number : ℕ) (rec : List ℕ) → IsValidKeep slots lifted made capacity → place_out lifted ≡ Some i → All IsHeld (set slots i (record { number = number; held = Some rec }))
all_back {slots = slots} i number rec kept out =
    let S : Slot = record { number = number; held = Some rec } in
    All-from_get_or IsHeld (set slots i S) no_slot (λ j within.
    elim (cases_eq j i) as (λ _. IsHeld (get_or (set slots i S) j no_slot)) [
      | inl same ↦ subst (λ q. IsHeld (get_or (set slots i S) q no_slot)) (sym same) (subst IsHeld (sym (get_or-set_same slots i S no_slot (kept.inside i out))) refl)
      | inr other ↦ subst IsHeld (sym (get_or-set_other slots i j S no_slot other)) (kept.there j (omega (arith, within, length-set slots i S)) (λ e. other (sym (same_Some i j (sym out ∙ e)))))
    ])

-- ---- one is taken out, and comes back

pub shown_lifted : (out b : List ℕ) (slots : List Slot) (i : ℕ) (s : Slot) → All IsHeld slots → s ≡ get_or slots i no_slot → s.held ≡ Some out → map (shown out) (set slots i (record { number = s.number; held = None })) ≡ map (shown b) slots
shown_lifted out b slots i s all is held =
    map-set_same (shown out) slots i (record { number = s.number; held = None }) no_slot (ap (λ (o : Option (List ℕ)). record { number = s.number; bytes = unwrap_or o out }) (sym held) ∙ ap (shown out) is)
    ∙ shown_there out b slots all

pub shown_lowered : (a out rec : List ℕ) (slots : List Slot) (i : ℕ) (s : Slot) → All IsHeld (set slots i (record { number = s.number; held = Some rec })) → s ≡ get_or slots i no_slot → rec ≡ (shown out s).bytes
    → map (shown a) (set slots i (record { number = s.number; held = Some rec })) ≡ map (shown out) slots
shown_lowered a out rec slots i s all is bytes =
    let S : Slot = record { number = s.number; held = Some rec } in
    shown_there a out (set slots i S) all ∙ map-set_same (shown out) slots i S no_slot (ap (λ (b : List ℕ). record { number = s.number; bytes = b }) bytes ∙ ap (shown out) is)

-- ---- what each call keeps

-- a keep with no record out
idle_keep : {slots : List Slot} {lifted : Option Lifted} {made capacity : ℕ} → 288 ≤ capacity → length slots ≤ 288 → NumbersRise (map (shown (bytes_out lifted)) slots) made → place_out lifted ≡ None → All IsHeld slots
    → IsValidKeep slots lifted made capacity
idle_keep room few rise idle all = record {
  room = room;
  few = few;
  rise = rise;
  there = λ i within out. all i no_slot within;
  inside = λ i out. absurd (none-some i (sym idle ∙ out));
}

pub kept_push : {slots : List Slot} {lifted : Option Lifted} {made capacity capacity' : ℕ} (rec : List ℕ) → capacity' ≡ capacity → length slots < 288 → place_out lifted ≡ None → IsValidKeep slots lifted made capacity
    → IsValidKeep (slots ++ record { number = made; held = Some rec } ∷ []) lifted (made + 1) capacity'
kept_push {slots = slots} {lifted = lifted} {made = number} rec same few idle kept =
    let S : Slot = record { number = number; held = Some rec } in
    idle_keep (omega (arith, kept.room, same)) (omega (arith, length-append slots (S ∷ []), few))
    (rw (map-append (shown (bytes_out lifted)) slots (S ∷ [])) (rise_push (map (shown (bytes_out lifted)) slots) number rec kept.rise)) idle (All-push IsHeld slots S (all_held kept idle) refl)

pub kept_lift : {slots : List Slot} {lifted : Option Lifted} {made capacity : ℕ} (i : ℕ) (s : Slot) (new : Option Lifted) → IsValidKeep slots lifted made capacity → place_out lifted ≡ None → i < length slots → s ≡ get_or slots i no_slot
    → s.held ≡ Some (bytes_out new) → place_out new ≡ Some i → IsValidKeep (set slots i (record { number = s.number; held = None })) new made capacity
kept_lift {slots = slots} {lifted = lifted} {made = number} i s new kept idle inside is held place =
    let S : Slot = record { number = s.number; held = None } in
    let same : length (set slots i S) ≡ length slots = length-set slots i S in
    record {
      room = kept.room;
      few = omega (arith, same, kept.few);
      rise = subst (λ rs. NumbersRise rs number) (sym (shown_lifted (bytes_out new) (bytes_out lifted) slots i s (all_held kept idle) is held)) kept.rise;
      there = λ j within other. subst IsHeld (sym (get_or-set_other slots i j S no_slot (λ e. other (place ∙ ap Some (sym e))))) (all_held kept idle j no_slot (omega (arith, same, within)));
      inside = λ j out. (let e : i ≡ j = same_Some i j (sym place ∙ out) in omega (arith, same, e, inside));
    }

pub kept_lower : {slots : List Slot} {lifted : Option Lifted} {made capacity : ℕ} (i : ℕ) (s : Slot) (rec : List ℕ) → IsValidKeep slots lifted made capacity → place_out lifted ≡ Some i → s ≡ get_or slots i no_slot
    → rec ≡ (shown (bytes_out lifted) s).bytes → IsValidKeep (set slots i (record { number = s.number; held = Some rec })) None made capacity
kept_lower {slots = slots} {lifted = lifted} {made = number} i s rec kept out is bytes =
    let all = all_back i s.number rec kept out in
    idle_keep kept.room (omega (arith, length-set slots i (record { number = s.number; held = Some rec }), kept.few))
    (subst (λ rs. NumbersRise rs number) (sym (shown_lowered [] (bytes_out lifted) rec slots i s all is bytes)) kept.rise) refl all

pub kept_take : {slots slots' : List Slot} {lifted : Option Lifted} {made capacity capacity' : ℕ} (n : ℕ) → capacity' ≡ capacity → slots' ≡ take n slots → place_out lifted ≡ None → IsValidKeep slots lifted made capacity
    → IsValidKeep slots' lifted made capacity'
kept_take {slots = slots} {lifted = lifted} {made = number} {capacity' = capacity'} n same is idle kept =
    subst (λ l. IsValidKeep l lifted number capacity') (sym is) (idle_keep (omega (arith, kept.room, same)) (omega (arith, length-take n slots, kept.few))
    (subst (λ rs. NumbersRise rs number) (take-map (shown (bytes_out lifted)) n slots) (rise_take n (map (shown (bytes_out lifted)) slots) number kept.rise)) idle (All-take IsHeld n slots (all_held kept idle)))

pub kept_drop : {slots slots' : List Slot} {lifted : Option Lifted} {made capacity capacity' : ℕ} (n : ℕ) → capacity' ≡ capacity → slots' ≡ drop n slots → place_out lifted ≡ None → IsValidKeep slots lifted made capacity
    → IsValidKeep slots' lifted made capacity'
kept_drop {slots = slots} {lifted = lifted} {made = number} {capacity' = capacity'} n same is idle kept =
    subst (λ l. IsValidKeep l lifted number capacity') (sym is) (idle_keep (omega (arith, kept.room, same)) (omega (arith, length-drop n slots, kept.few))
    (subst (λ rs. NumbersRise rs number) (drop-map (shown (bytes_out lifted)) n slots) (rise_drop n (map (shown (bytes_out lifted)) slots) number kept.rise)) idle (All-drop IsHeld n slots (all_held kept idle)))
