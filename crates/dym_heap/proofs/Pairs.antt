-- A chunk that was copied over one of another area, where the areas were split between the two.
use Rattle.std.proofs.Common.{◌≡◌, ℕ, ◌+◌, ◌-◌, ◌<◌, true, Some, None, List, ◌++◌, length, get_or, set, take, sym, ap, subst, ◌∙◌, arith, le_refl, MatchOption}
use Rattle.std.proofs.lemmas.List.{get_or_default, get_or_append_left, get_or-append-add, set-append_left, set-append_right}
use Rattle.dym_base.specs.HeapStep.{splice}
use Rattle.dym_heap.specs.SizedAreas.{SizedAreaMeaning, IsSizedArea, IsCopiedOver, area_with_chunk}

-- area p became p', with the first n bytes of chunk j of area q in its chunk i
abbrev pub Step : SizedAreaMeaning → ℕ → SizedAreaMeaning → ℕ → ℕ → SizedAreaMeaning → Type 0
Step q j p i n p' = MatchOption (get_or q.chunks j None) ⊥ (λ bytes. MatchOption (get_or p.chunks i None) ⊥ (λ target. p' ≡ area_with_chunk p i (Some (splice 0 (take n bytes) target)) true))

over : (old : List SizedAreaMeaning) {new : List SizedAreaMeaning} (s j t i n : ℕ) {q p p' : SizedAreaMeaning} → s < length old → t < length old → q ≡ get_or old s q → p ≡ get_or old t p → new ≡ set old t p' → Step q j p i n p' → IsSizedArea p' → IsCopiedOver old new s j t i n
over old s j t i n {q} {p} {p'} source target at_q at_p areas step valid =
    let here_q : q ≡ get_or old s p' = at_q ∙ get_or_default old s q p' source in
    let here_p : p ≡ get_or old t p' = at_p ∙ get_or_default old t p p' target in
    record {
      sized_area = p';
      areas = areas;
      chunk = subst (λ x. Step (get_or old s p') j x i n p') here_p (subst (λ x. Step x j p i n p') here_q step);
      valid = valid;
    }

pub up : {old : List SizedAreaMeaning} (low high : List SizedAreaMeaning) (s j : ℕ) {t : ℕ} (i n : ℕ) {q p p' : SizedAreaMeaning} → s < t → t < length old → old ≡ low ++ high → length low ≡ t → q ≡ get_or low s q → p ≡ get_or high 0 p → Step (get_or low s q) j (get_or high 0 p) i n p' → IsSizedArea p'
    → IsCopiedOver old (low ++ set high 0 p') s j t i n
up {old} low high s j {t} i n {q} {p} {p'} before within split long at_q at_p step valid =
    let first : t ≡ length low + 0 = omega (arith, long) in
    let none : t - t ≡ 0 = omega arith in
    over old s j t i n (omega arith) within
    (at_q ∙ sym (get_or_append_left low high q s (omega (arith, before, long))) ∙ ap (λ l. get_or l s q) (sym split))
    (at_p ∙ sym (get_or-append-add low high 0 p) ∙ ap (λ k. get_or (low ++ high) k p) (sym first) ∙ ap (λ l. get_or l t p) (sym split))
    (sym (set-append_right low high t t p' long (le_refl t) ∙ ap (λ k. low ++ set high k p') none) ∙ ap (λ l. set l t p') (sym split))
    (subst (λ x. Step q j x i n p') (sym at_p) (subst (λ x. Step x j (get_or high 0 p) i n p') (sym at_q) step)) valid

pub down : {old : List SizedAreaMeaning} (low high : List SizedAreaMeaning) {s : ℕ} (j t i n : ℕ) {q p p' : SizedAreaMeaning} → t < s → s < length old → old ≡ low ++ high → length low ≡ s → q ≡ get_or high 0 q → p ≡ get_or low t p → Step (get_or high 0 q) j (get_or low t p) i n p' → IsSizedArea p'
    → IsCopiedOver old (set low t p' ++ high) s j t i n
down {old} low high {s} j t i n {q} {p} {p'} before within split long at_q at_p step valid =
    let first : s ≡ length low + 0 = omega (arith, long) in
    over old s j t i n within (omega arith)
    (at_q ∙ sym (get_or-append-add low high 0 q) ∙ ap (λ k. get_or (low ++ high) k q) (sym first) ∙ ap (λ l. get_or l s q) (sym split))
    (at_p ∙ sym (get_or_append_left low high p t (omega (arith, before, long))) ∙ ap (λ l. get_or l t p) (sym split))
    (sym (set-append_left low high t p' (omega (arith, before, long))) ∙ ap (λ l. set l t p') (sym split))
    (subst (λ x. Step q j x i n p') (sym at_p) (subst (λ x. Step x j (get_or low t p) i n p') (sym at_q) step)) valid
