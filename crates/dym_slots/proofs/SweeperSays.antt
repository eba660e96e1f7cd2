-- From what a step tells to what the sweeper's functions say.
use Rattle.std.proofs.Common.{◌≡◌, ℕ, ◌+◌, ◌<◌, List, [], ◌∷◌, sym, ap, ◌∙◌, subst, Some, None}
use Rattle.atomic_table.specs.Table.{rest, Allows}
use Rattle.dym_slots.specs.declared.machine.Slot.{Slot}
use Rattle.dym_slots.specs.declared.machine.Slot.TheVariants.{Free}
use Rattle.dym_slots.specs.SlotWords.{slot_word}
use Rattle.dym_slots.specs.declared.view.SeatView.TheVariants.{Sweeps}
use Rattle.dym_slots.specs.SeatViews.{sweeper_of, IsSweeper, glanced, with_taken_back}
use Rattle.dym_slots.specs.TableStates.{Held, Knowing, Holds}
use Rattle.dym_slots.specs.Moves.{SweeperLooked, GaveBack}
use Rattle.dym_slots.proofs.SweeperMoves.{sweeper_frees}

pub glanced_at : (n : ℕ) (me after : Knowing) (x : Slot) → SweeperLooked me n after → ((shown : Slot) → n ≡ slot_word shown → x ≡ shown) → after ≡ (Sweeps (glanced x (sweeper_of me.0)), me.1)
glanced_at n me after x l reads = l.after_is ∙ ap (λ (y : Slot). (Sweeps (glanced y (sweeper_of me.0)), me.1)) (sym (reads l.state l.shown))

pub gives_by : (count slots id : ℕ) (me mid : Knowing) (s word : ℕ) → word ≡ slot_word Free → IsSweeper me.0 → (sweeper_of me.0).out ≡ Some s → ((home : Held) × (me.1 ≡ (s, home) ∷ [])) → mid ≡ (me.0, (s, None) ∷ rest me.1)
    → s ≡ (sweeper_of me.0).clean → s < count → Allows (Holds count) slots id mid (s + 1) (λ _. word) (λ _ after. GaveBack mid after)
gives_by count slots id me mid s word w seat out has is turn inside =
    let here : Knowing = (me.0, (s, None) ∷ rest me.1) in
    let held : here.1 ≡ (s, None) ∷ [] = ap (λ (l : List (ℕ × Held)). (s, None) ∷ rest l) has.1 in
    subst (λ (m : Knowing). Allows (Holds count) slots id m (s + 1) (λ _. word) (λ _ after. GaveBack m after)) (sym is)
    (sweeper_frees count slots id here s word w seat out held turn inside)

pub gave_by : (me mid after : Knowing) (s : ℕ) → mid ≡ (me.0, (s, None) ∷ rest me.1) → GaveBack mid after → after ≡ (Sweeps (with_taken_back (sweeper_of me.0)), [])
gave_by me mid after s is gave = gave ∙ (λ j. (Sweeps (with_taken_back (sweeper_of (is j).0)), []))
