-- The works of a wave: each part over a berth, in order.
use Rattle.std.specs.Prelude.{◌≡◌, ℕ, ◌<◌, Bool, true, false, List, [], ◌++◌, length, map, slice_index_or, All}
use Rattle.dym_base.specs.Origins.{shared}
use Rattle.dym_quota.specs.QueueShape.{queue_name}
use Rattle.dym_quota.specs.declared.berth.Berth.{Berth}
use Rattle.dym_script.specs.declared.parts.Part.{Part}
use Rattle.dym_slots.specs.Meanings.{KeepMeaning}
use Rattle.dym_view.specs.Histories.{Beginning}
use Rattle.dym_wave.specs.declared.wave_options.WaveOptions.{WaveOptions}
use Rattle.dym_wave.specs.Results.{origin_shown, parts_shown}
use Rattle.dym_wave.specs.Works.{OriginMeaning}

-- where views are told there is a publisher for each of so many objects, which has published nothing; where they aren't, there is none
abbrev pub ArePublishers : Bool → ℕ → List Beginning → Type 0
ArePublishers true count publishers = (length publishers ≡ count) × All (λ (p : Beginning). p.commits ≡ []) publishers
ArePublishers false count publishers = publishers ≡ []

-- works that come from there run as is asked for
abbrev pub RunAs : WaveOptions → Bool → List OriginMeaning → Type 0
RunAs options makes_text origins =
    All (λ (o : OriginMeaning). (o.quantum ≡ options.shape.quantum) × (o.makes_text ≡ makes_text)) origins

-- a list of parts lost its first ones, and what is printed of works that come from there is printed of these, in order
pub record TakesParts (options : WaveOptions) (makes_text : Bool) (before after : List Part) (origins : List OriginMeaning) : Type 0 where
  pub done : List Part
  pub taken : before ≡ done ++ after
  pub shown : map origin_shown origins ≡ parts_shown options.report done
  pub run_as : RunAs options makes_text origins

-- works that come from there are over these berths and keeps, in order, and have the numbers 0, 1, 2 and so on
pub record ArePlaced {R : Type 0} (berths : List (Berth R)) (keeps : List KeepMeaning) (origins : List OriginMeaning) : Type 0 where
  pub quotas : map (λ (o : OriginMeaning). o.object.quota) origins ≡ map (λ (b : Berth R). b.quota) berths
  pub supplies : map (λ (o : OriginMeaning). o.object.supply) origins ≡ map (λ (b : Berth R). shared (queue_name b.pass)) berths
  pub keeps_are : map (λ (o : OriginMeaning). o.object.keep) origins ≡ map (λ (k : KeepMeaning). k.origin) keeps
  pub numbers : (k : ℕ) (d : OriginMeaning) → k < length origins → (slice_index_or origins k d).number ≡ k
