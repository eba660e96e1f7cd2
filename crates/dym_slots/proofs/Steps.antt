-- Each step keeps the facts, by the lemma of its kind.
use Rattle.std.proofs.Common.{◌≡◌, inl, inr, ℕ, List, [], ◌∷◌, length, replicate, ap, sym, subst, ◌∙◌, None, arith}
use Rattle.std.proofs.lemmas.Bool.{cases_lt}
use Rattle.std.proofs.lemmas.List.{length-set, length-replicate, get_or-replicate, get_or_past}
use Rattle.dym_slots.specs.declared.machine.Slot.TheVariants.{Free, Live, OutOwner, OutSweeper}
use Rattle.dym_slots.specs.declared.machine.Event.{Event}
use Rattle.dym_slots.specs.declared.machine.Event.TheVariants.{OwnerLook, OwnerClaim, OwnerTake, OwnerEmpty, OwnerFill, OwnerPut, OwnerLower, OwnerFree, OwnerRaise, SweeperRoot, SweeperLook, SweeperGrab, SweeperEmpty, SweeperFree}
use Rattle.dym_slots.specs.Slots.{Core, start, state_of, home_of}
use Rattle.dym_slots.specs.SlotSteps.{Step, Steps}
use Rattle.dym_slots.specs.SlotFacts.{Facts}
use Rattle.dym_slots.proofs.OwnerSteps.{look_keeps, claim_keeps, take_keeps, empty_keeps, fill_keeps, put_keeps, lower_keeps, free_keeps, raise_keeps}
use Rattle.dym_slots.proofs.SweeperSteps.{root_keeps, sweeper_look_keeps, grab_keeps, sweeper_empty_keeps, sweeper_free_keeps}

pub step_keeps : (e : Event) (c d : Core) → Step e c d → Facts c → Facts d
step_keeps (OwnerLook s) c d h f = look_keeps s c d h f
step_keeps (OwnerClaim s) c d h f = claim_keeps s c d h f
step_keeps (OwnerTake s) c d h f = take_keeps s c d h f
step_keeps (OwnerEmpty s) c d h f = empty_keeps s c d h f
step_keeps (OwnerFill s n) c d h f = fill_keeps s n c d h f
step_keeps (OwnerPut s) c d h f = put_keeps s c d h f
step_keeps (OwnerLower s) c d h f = lower_keeps s c d h f
step_keeps (OwnerFree s) c d h f = free_keeps s c d h f
step_keeps (OwnerRaise n) c d h f = raise_keeps n c d h f
step_keeps SweeperRoot c d h f = root_keeps c d h f
step_keeps (SweeperLook s) c d h f = sweeper_look_keeps s c d h f
step_keeps (SweeperGrab s) c d h f = grab_keeps s c d h f
step_keeps (SweeperEmpty s) c d h f = sweeper_empty_keeps s c d h f
step_keeps (SweeperFree s) c d h f = sweeper_free_keeps s c d h f

-- no step adds a slot or takes one away
pub step_counts : (e : Event) (c d : Core) → Step e c d → length d.slots ≡ length c.slots
step_counts (OwnerClaim s) c d h = rw h.after (simp length-set)
step_counts (OwnerTake s) c d h = rw h.after (simp length-set)
step_counts (OwnerPut s) c d h = rw h.after (simp length-set)
step_counts (OwnerLower s) c d h = rw h.after (simp length-set)
step_counts (OwnerFree s) c d h = rw h.after (simp length-set)
step_counts (SweeperGrab s) c d h = rw h.after (simp length-set)
step_counts (SweeperFree s) c d h = rw h.after (simp length-set)
step_counts _ c d h = ap (λ (x : Core). length x.slots) h.after

-- the start meets the facts
pub start_meets : (count : ℕ) → Facts (start count)
start_meets count =
    let free : (s : ℕ) → state_of (start count) s ≡ Free = λ s. elim (cases_lt s count) [
      | inl inside ↦ get_or-replicate count s Free Free inside
      | inr past ↦ get_or_past (replicate count Free) s Free (rw length-replicate past)
    ] in
    let empty : (s : ℕ) → home_of (start count) s ≡ None = λ s. elim (cases_lt s count) [
      | inl inside ↦ get_or-replicate count s None None inside
      | inr past ↦ get_or_past (replicate count None) s None (rw length-replicate past)
    ] in
    record {
      homes = length-replicate count None ∙ sym (length-replicate count Free);
      list = record {
        numbers_rise = λ i j d lt within. absurd (omega arith);
        slots_differ = λ i j d lt within. absurd (omega arith);
        from_root = λ s n e. absurd (let none = e.1 in omega arith);
        below_next = λ s n e. absurd (let none = e.1 in omega arith);
        root_below_next = omega arith;
      };
      seen = omega arith;
      entries = λ s n e. absurd (let none = e.1 in omega arith);
      live = record {
        at_home = λ s n l. let f = free s in cc;
        listed_or_retired = λ s n l. let f : Free ≡ Live n = sym (free s) ∙ l in cc;
      };
      owner = record {
        held = λ s n o. let f : Free ≡ OutOwner n = sym (free s) ∙ o in cc;
        out = λ s o. absurd cc;
        number = λ s n o. let f : Free ≡ OutOwner n = sym (free s) ∙ o in cc;
      };
      sweeper = record {
        held = λ s n o. let f : Free ≡ OutSweeper n = sym (free s) ∙ o in cc;
        out = λ s o. absurd cc;
        number = λ s n o. let f : Free ≡ OutSweeper n = sym (free s) ∙ o in cc;
      };
      free = λ s f. empty s;
      remembered = record { state = λ s e. absurd (let none = e.1 in omega arith); only_last = λ i j d lt within. absurd (omega arith) };
      clean = λ s n lt l. absurd (omega arith);
    }

pub run_keeps : (es : List Event) (c d : Core) → Steps es c d → Facts c → Facts d × (length d.slots ≡ length c.slots)
run_keeps [] c d same f = (subst Facts same f, ap (λ (x : Core). length x.slots) (sym same))
run_keeps (e ∷ es) c d (m, step, rest) f =
    let after = run_keeps es m d rest (step_keeps e c m step f) in
    (after.0, after.1 ∙ step_counts e c m step)
