-- What objects come to, added one after the other.
use Rattle.std.proofs.Common.{◌≡◌, ℕ, ◌+◌, ◌≤◌, List, [], ◌∷◌, length, map, sum_by, refl, sym, ap, subst, ◌∙◌, arith}
use Rattle.std.proofs.lemmas.List.{length-map}
use Rattle.std.proofs.lemmas.List.Sums.{sum_by-cons}
use Rattle.std.specs.List.{FoldsTo}
use Rattle.dym_base.specs.Objects.{object_start}
use Rattle.dym_base.specs.declared.limits.TheConstants.{MOST_OBJECTS, MOST_COMMANDS}
use Rattle.dym_script.specs.OwnCommands.{own_of}
use Rattle.dym_report.specs.Summary.{both_tallies, no_tally}
use Rattle.dym_wave.specs.Reports.{tally_of, tally_all}
use Rattle.dym_report.specs.declared.tally.Tally.{Tally}
use Rattle.dym_report.proofs.Tallies.{tally_none, tally_last, tally_regroup, length_replies}
use Rattle.dym_script.specs.declared.parts.Part.{Part}
use Rattle.dym_wave.specs.declared.report_options.ReportOptions.{ReportOptions}
use Rattle.dym_wave.specs.declared.wave_sum.WaveSum.{WaveSum}
use Rattle.dym_wave.specs.Consumers.{CanTakeAll}
use Rattle.dym_wave.specs.Results.{IsTallyOf, Shown, own_shown, parts_shown, shown_tally}
use Rattle.dym_wave.specs.Sums.{CanAdd, IsSmall, IsSumWith}

abbrev replies_in : List Shown → ℕ
replies_in objects = sum_by (λ (s : Shown). length s.replies) objects

-- where there are no more objects and replies than a script has, each may be added
pub can_add_all : (sum : WaveSum) (objects : List Shown) → IsSmall sum → sum.objects + length objects ≤ MOST_OBJECTS
    → sum.tally.ok + sum.tally.refused + replies_in objects ≤ MOST_COMMANDS → CanTakeAll CanAdd IsSumWith sum objects
can_add_all sum [] small few little = tt
can_add_all sum (s ∷ rest) small few little =
    let said = sum_by-cons (λ (s : Shown). length s.replies) s rest in (
      record { small = small; objects = omega (arith, few); replies = omega (arith, little, said) },
      λ new is.
          can_add_all new rest is.small (omega (arith, few, is.objects)) (omega (arith, little, said, is.replies)),
    )

-- an object is added
pub added : (old : WaveSum) (object : Shown) (tally sum : Tally) → IsTallyOf tally object → IsSmall old → sum ≡ both_tallies old.tally tally
    → IsSumWith old object (record { tally = sum; objects = old.objects + 1 })
added old object tally sum of small is = record {
  tally = is ∙ ap (both_tallies old.tally) of.counted;
  objects = refl;
  replies = omega (arith, of.replies, ap (λ (t : Tally). t.ok) is, ap (λ (t : Tally). t.refused) is);
  small = record {
    chunks = omega (arith, small.chunks, of.chunks, ap (λ (t : Tally). t.chunks) is);
    segments = omega (arith, small.segments, of.segments, ap (λ (t : Tally). t.segments) is);
    kept = omega (arith, small.kept, of.kept, ap (λ (t : Tally). t.kept) is);
    slots = omega (arith, small.slots, of.slots, ap (λ (t : Tally). t.slots) is);
  };
}

-- what is printed of a part comes to what the part comes to
part_tally : (v : ReportOptions) (p : Part) → shown_tally (own_shown v (own_of p)) ≡ tally_of v.version (own_of p)
unfolding tally_of
part_tally v p = refl

-- the sum in the end
pub sum_of_parts : (v : ReportOptions) (parts : List Part) (old new : WaveSum) → FoldsTo IsSumWith old (parts_shown v parts) new
    → new.tally ≡ both_tallies old.tally (tally_all v.version (map own_of parts))
sum_of_parts v [] old new is = ap (λ (s : WaveSum). s.tally) (sym is) ∙ sym (tally_last old.tally)
sum_of_parts v (p ∷ parts) old new (mid, one, rest) =
    sum_of_parts v parts mid new rest
    ∙ ap (λ t. both_tallies t (tally_all v.version (map own_of parts))) (one.tally ∙ ap (both_tallies old.tally) (part_tally v p))
    ∙ tally_regroup old.tally (tally_of v.version (own_of p)) (tally_all v.version (map own_of parts))

pub replies_of_parts : (v : ReportOptions) (parts : List Part) → replies_in (parts_shown v parts) ≡ sum_by (λ part. length part.commands) parts
replies_of_parts v [] = refl
replies_of_parts v (p ∷ parts) =
    omega (
      arith,
      replies_of_parts v parts,
      length_replies v.version p.decl.quota object_start p.commands,
      sum_by-cons (λ (s : Shown). length s.replies) (own_shown v (own_of p)) (parts_shown v parts),
      sum_by-cons (λ (part : Part). length part.commands) p parts,
    )

pub sum_of_replies : (objects : List Shown) (old new : WaveSum) → FoldsTo IsSumWith old objects new
    → new.tally.ok + new.tally.refused ≡ old.tally.ok + old.tally.refused + replies_in objects
sum_of_replies [] old new is = omega (arith, ap (λ (s : WaveSum). s.tally.ok) is, ap (λ (s : WaveSum). s.tally.refused) is)
sum_of_replies (s ∷ rest) old new (mid, one, more) =
    omega (arith, sum_of_replies rest mid new more, one.replies, sum_by-cons (λ (s : Shown). length s.replies) s rest)

-- ---- all parts, from nothing
module _ (v : ReportOptions) (parts : List Part) (none : WaveSum) (is : none ≡ record { tally = no_tally; objects = 0 }) where
  no_replies : none.tally.ok + none.tally.refused ≡ 0
  no_replies = ap (λ (s : WaveSum). s.tally.ok + s.tally.refused) is

  no_objects : none.objects ≡ 0
  no_objects = ap (λ (s : WaveSum). s.objects) is

  pub can_count : length parts ≤ MOST_OBJECTS → sum_by (λ part. length part.commands) parts ≤ MOST_COMMANDS
      → CanTakeAll CanAdd IsSumWith none (parts_shown v parts)
  can_count few little =
      can_add_all none (parts_shown v parts)
      (subst IsSmall (sym is) (record { chunks = omega arith; segments = omega arith; kept = omega arith; slots = omega arith }))
      (omega (arith, few, no_objects, length-map parts (λ (p : Part). own_shown v (own_of p))))
      (omega (arith, little, no_replies, replies_of_parts v parts))

  pub counted : (new : WaveSum) → FoldsTo IsSumWith none (parts_shown v parts) new → new.tally ≡ tally_all v.version (map own_of parts)
  counted new folds =
      sum_of_parts v parts none new folds
      ∙ ap (λ (s : WaveSum). both_tallies s.tally (tally_all v.version (map own_of parts))) is
      ∙ tally_none (tally_all v.version (map own_of parts))

  pub replied : (new : WaveSum) → FoldsTo IsSumWith none (parts_shown v parts) new
      → new.tally.ok + new.tally.refused ≡ sum_by (λ part. length part.commands) parts
  replied new folds = omega (arith, sum_of_replies (parts_shown v parts) none new folds, no_replies, replies_of_parts v parts)
