-- The works of a wave and the parts that they were made of.
use Rattle.std.proofs.Common.{◌≡◌, ℕ, ◌<◌, Bool, List, length, map, All, Result, sym, ap, subst, ◌∙◌, arith}
use Rattle.std.proofs.lemmas.Simd.{map-map}
use Rattle.std.proofs.lemmas.List.{length-map, map-append}
use Rattle.dym_script.specs.OwnCommands.{own_of}
use Rattle.dym_script.specs.declared.parts.Part.{Part}
use Rattle.dym_wave.specs.declared.run_fail.RunFail.{RunFail}
use Rattle.dym_wave.specs.declared.wave_options.WaveOptions.{WaveOptions}
use Rattle.dym_wave.specs.Consumers.{CanTakeAll, HandsOver, HandsOverFirst}
use Rattle.dym_wave.specs.Results.{Shown, origin_shown, own_shown, parts_shown}
use Rattle.dym_wave.specs.WorkLists.{TakesParts}
use Rattle.dym_wave.specs.Works.{OriginMeaning, WorkMeaning, origin_of}
use Rattle.dym_wave.proofs.HandingOver.{can_front, wave_handed_over}
use Rattle.dym_wave.proofs.Lists.{all_images}

abbrev pub work_shown : WorkMeaning → Shown
work_shown w = origin_shown w.origin

-- there are as many as parts that were taken
pub as_many_parts : (options : WaveOptions) (makes_text : Bool) (before after : List Part) (origins : List OriginMeaning)
    (taken : TakesParts options makes_text before after origins) → length taken.done ≡ length origins
as_many_parts options makes_text before after origins taken =
    sym (length-map taken.done (λ (p : Part). own_shown options.report (own_of p))) ∙ ap {B = ℕ} length (sym taken.shown) ∙ length-map origins origin_shown

module _ (options : WaveOptions) (makes_text : Bool) (before after : List Part) (made works : List WorkMeaning)
    (taken : TakesParts options makes_text before after (map origin_of made)) (same : map origin_of works ≡ map origin_of made) where
  works_shown : map work_shown works ≡ parts_shown options.report taken.done
  works_shown = sym (map-map origin_shown origin_of works) ∙ ap (map origin_shown) same ∙ taken.shown

  pub works_text : All (λ (w : WorkMeaning). w.origin.makes_text ≡ makes_text) works
  works_text k d within =
      (all_images origin_of (λ (o : OriginMeaning). (o.quantum ≡ options.shape.quantum) × (o.makes_text ≡ makes_text)) works (map origin_of made) same
      taken.run_as k d within).1

  module _ {C : Type 0} (Can : C → Shown → Type 0) (Takes : C → Shown → C → Type 0) where
    pub works_can : (a : C) → CanTakeAll Can Takes a (parts_shown options.report before) → CanTakeAll Can Takes a (map work_shown works)
    works_can a can =
        subst (CanTakeAll Can Takes a) (sym works_shown)
        (can_front Takes Can a (parts_shown options.report taken.done) (parts_shown options.report after)
        (subst (CanTakeAll Can Takes a)
        (ap (parts_shown options.report) taken.taken ∙ map-append (λ (p : Part). own_shown options.report (own_of p)) taken.done after) can))

    pub works_handed_over : {F T : Type 0} (Fails : C → Shown → C → F → Type 0) (a b : C) (r : Result T (RunFail F)) → 0 < length works
        → HandsOver Takes Fails a (map work_shown works) b r → HandsOverFirst Takes Fails options.report before after a b r
    works_handed_over Fails a b r some over =
        wave_handed_over Can Takes Fails options.report before after taken.done a b (map work_shown works) r
        (omega (
          arith,
          some,
          length-map works work_shown,
          ap {B = ℕ} length works_shown,
          length-map taken.done (λ (p : Part). own_shown options.report (own_of p)),
        ))
        taken.taken works_shown over
