use Rattle.std.proofs.Common.{◌≡◌, inl, inr}
use Rattle.std.proofs.lemmas.Bool.Decides.{Decides-eqb}
use Rattle.std.proofs.lemmas.Slice.Eq.{slice_eq-Decides}
use Rattle.dym_trace.proofs.Reading.{no_space, swap_parts}
use Rattle.dym_trace.proofs.event_reader.read_swap.Goals as goal

pub returns-in_err-slot : goal.returns-in_err-slot
returns-in_err-slot c = rw c.from_residual.ensures (no_space c.args.words.now c.in_err-slot.ensures)

pub returns-in_err-slot-2 : goal.returns-in_err-slot-2
returns-in_err-slot-2 c = rw c.from_residual-in_err-slot-2.ensures (λ e reads.
    let parts = swap_parts c.args.words.now c.in_ok-slot.slot.now c.in_ok-slot.home.now c.in_ok-slot.ensures.0 c.in_ok-slot.ensures.1 e reads in
    c.in_err-slot-2.ensures parts.0 parts.1 parts.2)

pub returns-in_err-read_number : goal.returns-in_err-read_number
returns-in_err-read_number c = rw c.from_residual-in_err-read_number.ensures (λ e reads.
    let parts = swap_parts c.args.words.now c.in_ok-slot.slot.now c.in_ok-slot.home.now c.in_ok-slot.ensures.0 c.in_ok-slot.ensures.1 e reads in
    elim parts.3 [
      | inl dash ↦
          let same : c.in_ok-slot.home.now ≡ c.as_slice.result.now = cc in
          let hit = (slice_eq-Decides Decides-eqb c.in_ok-slot.home.now c.as_slice.result.now c.eq.result c.eq.ensures).1 same in
          let miss = c.if-eq.false in
          cc
      | inr number ↦ c.in_err-read_number.ensures number.0 number.1 number.2
    ])
