use Rattle.std.proofs.Common.{◌≡◌, ◌<◌, ◌≤◌, ◌+◌, ◌-◌, ◌++◌, ℕ, zero, suc, List, [], ◌∷◌, map, take, drop, set, get_or, length, ap, ap₂, refl, ◌∙◌, arith}
use Rattle.dym_undo.specs.UndoLogs.{ArePlaced}
use Rattle.dym_undo.proofs.rooms.move_places.Goals as goal

moved_at : (f : ℕ → ℕ) (i : ℕ) (ps : List ℕ) → i < length ps → get_or (map f (take i ps) ++ drop i ps) i 0 ≡ get_or ps i 0
moved_at f i [] lt = absurd (omega arith)
moved_at f zero (x ∷ ps) lt = refl
moved_at f (suc i) (x ∷ ps) lt = moved_at f i ps (omega arith)

moved_set : (f : ℕ → ℕ) (i : ℕ) (ps : List ℕ) → i < length ps → set (map f (take i ps) ++ drop i ps) i (f (get_or ps i 0)) ≡ map f (take (suc i) ps) ++ drop (suc i) ps
moved_set f i [] lt = absurd (omega arith)
moved_set f zero (x ∷ ps) lt = refl
moved_set f (suc i) (x ∷ ps) lt = ap (λ (xs : List ℕ). f x ∷ xs) (moved_set f i ps (omega arith))

placed_each : (low high : ℕ) (ps : List ℕ) (k : ℕ) → ArePlaced low high ps → k < length ps → low ≤ get_or ps k 0
placed_each low high [] k p lt = absurd (omega arith)
placed_each low high (x ∷ ps) zero p lt = p.0
placed_each low high (x ∷ ps) (suc k) p lt = omega (arith, p.0, placed_each x high ps k p.1 (omega arith))

pub overflow_sub-place : goal.overflow_sub-place
overflow_sub-place c =
    let here : get_or c.loop-place.places c.loop-place.place-index 0 ≡ get_or c.args.places.now c.loop-place.place-index 0
    = ap (λ (ps : List ℕ). get_or ps c.loop-place.place-index 0) c.loop-place.invariant ∙ moved_at (λ p. p - c.args.count) c.loop-place.place-index c.args.places.now c.loop-place-test.true in
    omega (arith, here, placed_each c.args.count c.requires.0 c.args.places.now c.loop-place.place-index c.requires.1 c.loop-place-test.true)

pub loop-place-preserved : goal.loop-place-preserved
loop-place-preserved c =
    let i = c.loop-place.place-index in
    let f : ℕ → ℕ = λ p. p - c.args.count in
    let here : get_or c.loop-place.places i 0 ≡ get_or c.args.places.now i 0
    = ap (λ (ps : List ℕ). get_or ps i 0) c.loop-place.invariant ∙ moved_at f i c.args.places.now c.loop-place-test.true in
    let next : suc i ≡ i + 1 = omega arith in
    ap₂ (λ (ps : List ℕ) (x : ℕ). set ps i (x - c.args.count)) c.loop-place.invariant here
    ∙ moved_set f i c.args.places.now c.loop-place-test.true
    ∙ ap (λ n. map f (take n c.args.places.now) ++ drop n c.args.places.now) next
