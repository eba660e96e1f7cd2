-- A new table keeps the rule, and so does one whose second seat was made.
use Rattle.std.proofs.Common.{◌≡◌, ℕ, zero, suc, ◌+◌, ◌<◌, inl, inr, List, [], ◌∷◌, ◌++◌, map, length, get_or, replicate, set, sym, refl, ap, ◌∙◌, subst, arith, Option, None}
use Rattle.std.specs.Prelude.{zip}
use Rattle.std.specs.List.{range_with_len}
use Rattle.std.proofs.lemmas.List.FromFn.{get_or-map-range_with_len, length-map-range_with_len}
use Rattle.dym_base.specs.declared.limits.TheConstants.{LOG_SLOTS}
use Rattle.dym_slots.specs.Orders.{IsOrder}
use Rattle.std.proofs.lemmas.List.{length-replicate}
use mathlib.Core.Option as M
use mathlib.Core.Option.{some, some-injective, some-ne-none}
use lib.ListN.{get_elem?}
use Rattle.atomic_table.specs.Table.{opening, Splits}
use Rattle.dym_slots.specs.declared.machine.Slot.{Slot}
use Rattle.dym_slots.specs.declared.machine.Slot.TheVariants.{Free}
use Rattle.dym_slots.specs.SlotWords.{slot_word}
use Rattle.dym_slots.specs.SlotNotes.{noted_start}
use Rattle.dym_slots.proofs.Steps.{start_meets}
use Rattle.dym_slots.proofs.Notes.{start_stands}
use Rattle.dym_slots.proofs.Running.{note_at}
use Rattle.dym_slots.specs.declared.view.SeatView.{SeatView}
use Rattle.dym_slots.specs.declared.view.SeatView.TheVariants.{Alone, Owns, Sweeps, Knows}
use Rattle.dym_slots.specs.declared.view.OwnerSeat.{OwnerSeat}
use Rattle.dym_slots.specs.declared.view.SweeperSeat.{SweeperSeat}
use Rattle.dym_slots.specs.SeatViews.{new_owner, new_sweeper}
use Rattle.dym_slots.specs.TableStates.{Held, home_shown, Holds}

words_new : (count : ℕ) → replicate count 0 ≡ map slot_word (replicate count Free)
words_new zero = refl
words_new (suc count) = ap (λ (l : List ℕ). 0 ∷ l) (words_new count)

homes_new : (count : ℕ) → map some (replicate count None) ≡ map (λ (p : Slot × Option ℕ). home_shown (λ n. []) p.0 p.1) (zip (replicate count Free) (replicate count None))
homes_new zero = refl
homes_new (suc count) = ap (λ (l : List (M.Option Held)). some None ∷ l) (homes_new count)

pub begins : (count : ℕ) → Holds count (opening (replicate (count + 1) 0) (replicate count None) Alone)
begins count = inl (record {
  words = (let up : count + 1 ≡ suc count = omega arith in rw up (ap (λ (l : List ℕ). 0 ∷ l) (words_new count)));
  homes = homes_new count;
  views = refl;
})

alone_id : (id : ℕ) → get_elem? (Alone ∷ []) id ≡ some Alone → id ≡ 0
alone_id zero e = refl
alone_id (suc i) e = absurd (some-ne-none Alone (sym e))

no_alone : (o : OwnerSeat) (w : SweeperSeat) (notes : List ℕ) (id : ℕ) → get_elem? (Owns o ∷ Sweeps w ∷ map Knows notes) id ≡ some Alone → ⊥
no_alone o w notes zero e = let same : Owns o ≡ Alone = some-injective (Owns o) Alone e in cc
no_alone o w notes (suc zero) e = let same : Sweeps w ≡ Alone = some-injective (Sweeps w) Alone e in cc
no_alone o w notes (suc (suc i)) e = let n = note_at notes i Alone e in let same : Knows n.0 ≡ Alone = n.2 in cc

pub splits : (count id : ℕ) (v : SeatView) → v ≡ Alone → Splits (Holds count) id v (Owns new_owner) (Sweeps new_sweeper)
splits count id v alone st (inl new) at =
    let first = alone_id id (ap (λ (l : List SeatView). get_elem? l id) (sym new.views) ∙ at ∙ ap some alone) in
    inr (
      noted_start count,
      (λ n. []),
      record {
        words = new.words;
        homes = new.homes;
        least_root = 0;
        notes = [];
        views = λ k. set (new.views k) (first k) (Owns new_owner) ++ Sweeps new_sweeper ∷ [];
        reached = omega arith;
        all_reached = λ k d lt. absurd (omega arith);
      },
      record { count_is = length-replicate count Free; numbered = omega arith; facts = start_meets count; notes = start_stands count; root = refl },
    )
splits count id v alone st (inr (a, records, shows, sound)) at =
    absurd (no_alone _ _ shows.notes id (ap (λ (l : List SeatView). get_elem? l id) (sym shows.views) ∙ at ∙ ap some alone))

-- all slots in their order
pub all_order : (order : List ℕ) (n : ℕ) → n ≡ LOG_SLOTS → order ≡ map (λ s. s) (range_with_len 0 n) → IsOrder order
all_order order n size is =
    let at : (k : ℕ) (d : ℕ) → k < n → get_or order k d ≡ k = λ k d lt.
    ap (λ (l : List ℕ). get_or l k d) is ∙ get_or-map-range_with_len (λ s. s) 0 n k k d lt (omega arith) in
    let len : length order ≡ n = ap length is ∙ length-map-range_with_len (λ (s : ℕ). s) 0 n in
    record {
      size = len ∙ size;
      inside = λ k d lt. subst (λ (s : ℕ). s < LOG_SLOTS) (sym (at k d (omega arith))) (let b : k < n = omega arith in subst (λ (m : ℕ). k < m) size b);
      differ = λ i j d lt within e.
          let same : i ≡ j = sym (at i d (omega arith)) ∙ e ∙ at j d (omega arith) in
          omega arith;
    }
