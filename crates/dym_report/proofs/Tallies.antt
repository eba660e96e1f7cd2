-- Sums of tallies, and how many replies are refusals.
use Rattle.std.proofs.Common.{◌≡◌, ℕ, suc, ◌+◌, true, false, not, cond, Bool, List, [], ◌∷◌, length, count_by, refl, ap, ◌-◌, add-zero, arith}
use Rattle.std.proofs.lemmas.List.Sums.{sum_by-cons}
use Rattle.dym_base.specs.Objects.{ObjectState, object_step, replies_from}
use Rattle.dym_base.specs.declared.command.Version.{Version}
use Rattle.dym_base.specs.declared.command.Command.{Command}
use Rattle.dym_base.specs.declared.reply.Reply.{Reply}
use Rattle.dym_report.specs.declared.tally.Tally.{Tally}
use Rattle.dym_report.specs.Summary.{is_refusal, no_tally, both_tallies}

zero_add : (n : ℕ) → 0 + n ≡ n
zero_add n = omega arith

regroup : (x y z : ℕ) → (x + y) + z ≡ x + (y + z)
regroup x y z = omega arith

pub tally_none : (t : Tally) → both_tallies no_tally t ≡ t
tally_none t = λ i. record {
  ok = zero_add t.ok i;
  refused = zero_add t.refused i;
  chunks = zero_add t.chunks i;
  segments = zero_add t.segments i;
  kept = zero_add t.kept i;
  slots = zero_add t.slots i;
}

pub tally_last : (t : Tally) → both_tallies t no_tally ≡ t
tally_last t = λ i. record {
  ok = add-zero t.ok i;
  refused = add-zero t.refused i;
  chunks = add-zero t.chunks i;
  segments = add-zero t.segments i;
  kept = add-zero t.kept i;
  slots = add-zero t.slots i;
}

pub tally_regroup : (a b c : Tally) → both_tallies (both_tallies a b) c ≡ both_tallies a (both_tallies b c)
tally_regroup a b c = λ i. record {
  ok = regroup a.ok b.ok c.ok i;
  refused = regroup a.refused b.refused c.refused i;
  chunks = regroup a.chunks b.chunks c.chunks i;
  segments = regroup a.segments b.segments c.segments i;
  kept = regroup a.kept b.kept c.kept i;
  slots = regroup a.slots b.slots c.slots i;
}

-- an object gives a reply to each of its commands
pub length_replies : (v : Version) (quota : ℕ) (s : ObjectState) (commands : List Command) → length (replies_from v quota s commands) ≡ length commands
length_replies v quota s [] = refl
length_replies v quota s (c ∷ cs) = ap suc (length_replies v quota (object_step v quota s c).object cs)

-- those that are no refusals and those that are make all
count_not : (replies : List Reply) → count_by (λ r. not (is_refusal r)) replies + count_by is_refusal replies ≡ length replies
count_not [] = refl
count_not (r ∷ rs) =
    omega (
      arith,
      one (is_refusal r),
      count_not rs,
      sum_by-cons (λ (r : Reply). cond (not (is_refusal r)) 1 0) r rs,
      sum_by-cons (λ (r : Reply). cond (is_refusal r) 1 0) r rs,
    )
  where
    one : (b : Bool) → cond (not b) 1 0 + cond b 1 0 ≡ 1
    one true = refl
    one false = refl

pub not_refused : (replies : List Reply) (n refused : ℕ) → n ≡ length replies → refused ≡ count_by is_refusal replies
    → n - refused ≡ count_by (λ r. not (is_refusal r)) replies
not_refused replies n refused all is = omega (arith, all, is, count_not replies)
