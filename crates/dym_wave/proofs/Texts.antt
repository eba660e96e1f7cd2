-- The texts of parts, written one after the other.
use Rattle.std.proofs.Common.{◌≡◌, List, [], ◌∷◌, ◌++◌, ℕ, flat_map, refl, sym, ap, subst, ◌∙◌, Result, IsErr}
use Rattle.std.proofs.lemmas.Grind.{flat_map-append}
use Rattle.std.specs.Prelude.{⊤}
use Rattle.std.specs.List.{FoldsTo}
use Rattle.dym_io.specs.Sink.{Output, Appended, AppendedFront, FaultsTellCause, Stopped, Writes}
use Rattle.dym_io.specs.Laws.{appended_nothing, appended_both, front_after, front_of_appended, front_within, rose_later, stopped_after, stopped_within, writes_after, writes_stopped}
use Rattle.dym_script.specs.OwnCommands.{own_of}
use Rattle.dym_wave.specs.Reports.{part_text}
use Rattle.dym_script.specs.declared.parts.Part.{Part}
use Rattle.dym_wave.specs.declared.report_options.ReportOptions.{ReportOptions}
use Rattle.dym_wave.specs.Consumers.{CanTakeAll}
use Rattle.dym_wave.specs.Results.{Shown, own_shown, parts_shown, parts_text, shown_text}
use Rattle.dym_wave.specs.Views.{part_with_view}

part_is : (v : ReportOptions) (p : Part) → shown_text (own_shown v (own_of p)) ≡ part_with_view v (own_of p)
unfolding part_text
part_is v p = refl

pub texts_of_parts : (v : ReportOptions) (parts : List Part) → flat_map shown_text (parts_shown v parts) ≡ parts_text v parts
texts_of_parts v [] = refl
texts_of_parts v (p ∷ parts) = λ i. part_is v p i ++ texts_of_parts v parts i

module _ {W : Type 0} (out : W → Output) where
  abbrev pub Wrote : W → Shown → W → Type 0
  Wrote old s new = Appended (out old) (out new) (shown_text s)

  pub all_wrote : (old new : W) (objects : List Shown) → FoldsTo Wrote old objects new → Appended (out old) (out new) (flat_map shown_text objects)
  all_wrote old new [] is = subst (λ w. Appended (out old) (out w) []) is (appended_nothing (out old))
  all_wrote old new (s ∷ rest) (mid, one, more) =
      appended_both (out old) (out mid) (out new) (shown_text s) (flat_map shown_text rest) one (all_wrote mid new rest more)

  -- any objects may be written
  pub can_write_all : (old : W) (objects : List Shown) → CanTakeAll (λ _ _. ⊤) Wrote old objects
  can_write_all old [] = tt
  can_write_all old (s ∷ rest) = (tt, λ new one. can_write_all new rest)

  -- some were written, and of the next a front
  pub front_wrote : (old mid new : W) (all front rest : List Shown) (s : Shown) → all ≡ front ++ s ∷ rest → FoldsTo Wrote old front mid
      → AppendedFront (out mid) (out new) (shown_text s) → AppendedFront (out old) (out new) (flat_map shown_text all)
  front_wrote old mid new all front rest s is wrote stopped =
      subst (AppendedFront (out old) (out new)) (sym (ap (flat_map shown_text) is ∙ flat_map-append shown_text front (s ∷ rest)))
      (front_after (out old) (out mid) (out new) (flat_map shown_text front) (shown_text s ++ flat_map shown_text rest) (all_wrote old mid front wrote)
      (front_within (out mid) (out new) (shown_text s) (flat_map shown_text rest) stopped))

  -- some were written
  pub some_wrote : (old new : W) (all front rest : List Shown) → all ≡ front ++ rest → FoldsTo Wrote old front new
      → AppendedFront (out old) (out new) (flat_map shown_text all)
  some_wrote old new all front rest is wrote =
      subst (AppendedFront (out old) (out new)) (sym (ap (flat_map shown_text) is ∙ flat_map-append shown_text front rest))
      (front_of_appended (out old) (out new) (flat_map shown_text front) (flat_map shown_text rest) (all_wrote old new front wrote))

-- ---- four texts, one after the other
module _ (a : Output) (t u v w : List ℕ) where
  pub first_cut : {T E : Type 0} → (b : Output) (r : Result T E) → IsErr r → Stopped a b t → Writes a b (t ++ u ++ v ++ w) r
  first_cut b r is p = writes_stopped a b (t ++ u ++ v ++ w) r is (stopped_within a b (t ++ u ++ v) w (stopped_within a b (t ++ u) v (stopped_within a b t u p)))

  pub second_cut : {T E : Type 0} → (b c : Output) (r : Result T E) → IsErr r → Appended a b t → Stopped b c u → Writes a c (t ++ u ++ v ++ w) r
  second_cut b c r is p q =
      writes_stopped a c (t ++ u ++ v ++ w) r is (stopped_within a c (t ++ u ++ v) w (stopped_within a c (t ++ u) v (stopped_after a b c t u p q)))

  pub third_cut : {T E : Type 0} → (b c d : Output) (r : Result T E) → IsErr r → Appended a b t → Appended b c u → Stopped c d v → Writes a d (t ++ u ++ v ++ w) r
  third_cut b c d r is p q s =
      writes_stopped a d (t ++ u ++ v ++ w) r is (stopped_within a d (t ++ u ++ v) w (stopped_after a c d (t ++ u) v (appended_both a b c t u p q) s))

  pub all_four : {T E : Type 0} → (b c d e : Output) (r : Result T E) → Appended a b t → Appended b c u → Appended c d v → Writes d e w r
      → Writes a e (t ++ u ++ v ++ w) r
  all_four b c d e r p q s z = writes_after a d e (t ++ u ++ v) w r (appended_both a c d (t ++ u) v (appended_both a b c t u p q) s) z

-- ---- why not all texts of parts were written
module _ {W : Type 0} (out : W → Output) (v : ReportOptions) (parts : List Part) (old new : W) where
  front_of_parts : AppendedFront (out old) (out new) (flat_map shown_text (parts_shown v parts)) → AppendedFront (out old) (out new) (parts_text v parts)
  front_of_parts front = subst (AppendedFront (out old) (out new)) (texts_of_parts v parts) front

  -- memory was wanting behind the first ones, and the sink isn't the cause
  pub memory_wanting : (IsSinks : Type 0) → ¬ IsSinks → (front rest : List Shown) → parts_shown v parts ≡ front ++ rest → FoldsTo (Wrote out) old front new
      → AppendedFront (out old) (out new) (parts_text v parts) × FaultsTellCause IsSinks (out old) (out new)
  memory_wanting IsSinks other front rest is wrote = (
    front_of_parts (some_wrote out old new (parts_shown v parts) front rest is wrote),
    (λ failed. absurd (other failed), λ _. (all_wrote out old new front wrote).faults),
  )

  -- the sink took the first ones, and of the next a front
  pub sink_failed : (IsSinks : Type 0) → IsSinks → (front rest : List Shown) (s : Shown) (mid : W) → parts_shown v parts ≡ front ++ s ∷ rest
      → FoldsTo (Wrote out) old front mid → Stopped (out mid) (out new) (shown_text s)
      → AppendedFront (out old) (out new) (parts_text v parts) × FaultsTellCause IsSinks (out old) (out new)
  sink_failed IsSinks failed front rest s mid is wrote stopped = (
    front_of_parts (front_wrote out old mid new (parts_shown v parts) front rest s is wrote stopped.front),
    (
      λ _. rose_later (out old).faults (out mid).faults (out new).faults (all_wrote out old mid front wrote).faults stopped.rose,
      λ other. absurd (other failed),
    ),
  )
