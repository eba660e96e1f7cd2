-- A process that has run nothing.
use Rattle.std.proofs.Common.{◌≡◌, ℕ, zero, suc, Bool, true, false, cond, Some, None, List, take, [], ◌∷◌, length, refl, ap, sym, subst, arith, lit<, ◌∙◌}
use Rattle.std.proofs.lemmas.List.{append-nil}
use Rattle.warp_base.specs.declared.event.Event.{Event}
use Rattle.warp_base.specs.declared.event.Draft.{Draft}
use Rattle.warp_base.specs.Events.{Each}
use Rattle.warp_base.specs.Histories.{Behaviour, stamped, state_after}
use Rattle.warp_base.proofs.Folds.{length-stamped}
use Rattle.warp_process.specs.Savers.{AreAscending}
use Rattle.warp_process.specs.Processes.{IsProcess, IsCopy, IsFirstFault}

pub opened : {P S : Type 0} (words : P → List ℕ) (b : Behaviour P S) (number serial : ℕ) (s : S) (copies : List (ℕ × S)) (drafts : List (Draft P)) (is_faulty : Bool) → s ≡ b.start number → drafts ≡ b.firsts number → serial ≡ length drafts → copies ≡ (0, s) ∷ [] → is_faulty ≡ b.faulty (b.start number) → IsProcess words b [] (record { number = number; last = None; events = []; marks = []; sent = []; serial = serial; early = []; first_date = 0; fossils = []; is_stale = false; state = s; copies = copies; fault = cond is_faulty (Some 0) None })
opened {P} {S} words b number serial s copies drafts is_faulty is_start are_firsts serial_is copies_are are_faulty = record {
  in_order = tt;
  own = tt;
  committed = tt;
  pending = tt;
  early_own = tt;
  early_from = tt;
  apart = λ e there. refl;
  ran_within = omega arith;
  run = record {
    mark = λ k few. absurd (omega (arith, few));
    outputs = refl;
    total = let firsts = ap length are_firsts in let all = ap length (append-nil (stamped number 0 (b.firsts number))) in let count = length-stamped number 0 (b.firsts number) in omega (arith, serial_is, firsts, all, count);
  };
  fossils = refl;
  dates = refl;
  counted = lit< tt;
  ascending = subst AreAscending (sym copies_are) (tt, tt);
  kept = subst (Each (IsCopy b number [])) (sym copies_are) ((omega arith, is_start), tt);
  oldest = (s, [], copies_are);
  state = λ fresh. is_start;
  fault = first is_faulty are_faulty;
}
  where
    none : (k : ℕ) → take k (let empty : List (Event P) = [] in empty) ≡ []
    none zero = refl
    none (suc k) = refl

    first : (t : Bool) → t ≡ b.faulty (b.start number) → IsFirstFault b number [] (cond t (Some 0) None)
    first true is = (omega arith, sym is, λ k less. absurd (omega (arith, less)))
    first false is = λ k few. ap (λ l. b.faulty (state_after b number l)) (none k) ∙ sym is
