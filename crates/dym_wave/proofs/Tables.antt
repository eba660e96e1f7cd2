-- Works and sweepers that come back still belong together.
use Rattle.std.proofs.Common.{◌≡◌, ℕ, ◌+◌, ◌<◌, suc, List, [], ◌∷◌, ◌++◌, All, length, map, get_or, sum, sum_by, Result, Ok, Err, IfOk, refl, sym, ap, subst, ◌∙◌, arith, length-append}
use Rattle.std.proofs.lemmas.Simd.{map-map}
use Rattle.std.proofs.lemmas.List.{length-map, get_or-map, map_push}
use Rattle.std.proofs.lemmas.List.Elements.{All-map}
use Rattle.std.proofs.lemmas.List.Sums.{sum-map}
use Rattle.dym_base.specs.Origins.{Origin, TableName, shared}
use Rattle.dym_slots.specs.Meanings.{KeepMeaning, SweeperMeaning}
use Rattle.dym_pool.specs.Jobs.{labels, EveryJobBack}
use Rattle.dym_prune.specs.Sweeps.{Pruned}
use Rattle.dym_quota.specs.QueueShape.{QueueShape, queue_name}
use Rattle.dym_quota.specs.declared.berth.Berth.{Berth}
use Rattle.dym_wave.specs.Waves.{AreOfWave, AreSweptBy, IsReady, WavePromise, tables_of}
use Rattle.dym_wave.specs.WorkLists.{ArePlaced}
use Rattle.dym_wave.specs.Works.{WorkMeaning, OriginMeaning, number_of, left_of, origin_of}
use Rattle.dym_wave.proofs.Lists.{all_images}

-- works that are back with their labels come from where they did
pub origins_back : (before after : List WorkMeaning) → labels number_of origin_of after ≡ labels number_of origin_of before
    → map origin_of after ≡ map origin_of before
origins_back before after same = sym (of after) ∙ ap (map (λ (l : ℕ × OriginMeaning). l.1)) same ∙ of before
  where
    of : (ws : List WorkMeaning) → map (λ (l : ℕ × OriginMeaning). l.1) (labels number_of origin_of ws) ≡ map origin_of ws
    of [] = refl
    of (w ∷ ws) = ap {B = List OriginMeaning} (λ l. origin_of w ∷ l) (of ws)

-- the keeps of works, by where these come from
pub keeps_of : (works : List WorkMeaning) → map (λ (w : WorkMeaning). w.origin.object.keep) works ≡ map (λ (o : OriginMeaning). o.object.keep) (map origin_of works)
keeps_of works = sym (map-map (λ (o : OriginMeaning). o.object.keep) origin_of works)

pub still_swept : (works after : List WorkMeaning) (sweepers : List SweeperMeaning) → map origin_of after ≡ map origin_of works → AreSweptBy works sweepers
    → AreSweptBy after sweepers
still_swept works after sweepers same of = keeps_of after ∙ ap (map (λ (o : OriginMeaning). o.object.keep)) same ∙ sym (keeps_of works) ∙ of

-- sweepers of the same log tables, one by one
pub same_tables : (old new : List SweeperMeaning) → length new ≡ length old
    → ((k : ℕ) (d : SweeperMeaning) → k < length old → (get_or new k d).table ≡ (get_or old k d).table) → tables_of new ≡ tables_of old
same_tables [] [] long each = refl
same_tables [] (t ∷ new) long each = absurd (omega (arith, long))
same_tables (s ∷ old) [] long each = absurd (omega (arith, long))
same_tables (s ∷ old) (t ∷ new) long each =
    λ i. shared (each 0 s (omega arith) i) ∷ same_tables old new (omega (arith, long)) (λ k d l. each (suc k) d (omega (arith, l))) i

pub swept_tables : (old new : List SweeperMeaning) (taken : ℕ) → Pruned old new taken → tables_of new ≡ tables_of old
swept_tables old new taken pruned = same_tables old new pruned.same (λ k d l. (pruned.swept k d l).table)

-- a call's answer, where it is one, is what a wave promises
pub promised : {A E : Type 0} (works_in : A → List WorkMeaning) (sweepers_in : A → List SweeperMeaning) (taken_in : A → ℕ)
    (works : List WorkMeaning) (sweepers : List SweeperMeaning) (r : Result A E)
    → IfOk r (λ a. EveryJobBack number_of left_of origin_of works (works_in a)) → IfOk r (λ a. Pruned sweepers (sweepers_in a) (taken_in a))
    → AreSweptBy works sweepers → IfOk r (λ a. WavePromise works (works_in a) sweepers (sweepers_in a) (taken_in a))
promised works_in sweepers_in taken_in works sweepers (Ok a) back pruned of = record {
  back = back;
  tables = still_swept works (works_in a) sweepers (origins_back works (works_in a) back.0) of ∙ sym (swept_tables sweepers (sweepers_in a) (taken_in a) pruned);
  sweeps = pruned;
}
promised works_in sweepers_in taken_in works sweepers (Err e) back pruned of = tt

-- ---- works of a wave

module _ (queue : QueueShape) (sweepers : List SweeperMeaning) (works : List WorkMeaning) (are : AreOfWave queue sweepers (map origin_of works)) where
  pub ready : IsReady works sweepers
  ready = record {
    numbered = λ k d l.
        sym (ap (λ (o : OriginMeaning). o.number) (get_or-map origin_of works k d (origin_of d) l))
        ∙ are.numbers k (origin_of d) (omega (arith, l, length-map works origin_of));
    queue = (shared queue.name, all_images origin_of (λ (o : OriginMeaning). o.object.supply ≡ shared queue.name) works (map origin_of works) refl are.supplies);
    tables = keeps_of works ∙ are.tables;
  }

-- works that came back are of the wave
pub still_of_wave : (queue : QueueShape) (before after : List SweeperMeaning) (works back : List WorkMeaning) → map origin_of back ≡ map origin_of works
    → AreSweptBy back after → AreOfWave queue before (map origin_of works) → AreOfWave queue after (map origin_of back)
still_of_wave queue before after works back same swept are =
    let moved = subst (AreOfWave queue before) (sym same) are in
    record { supplies = moved.supplies; quotas = moved.quotas; numbers = moved.numbers; tables = sym (keeps_of back) ∙ swept }

-- works that were made over berths of one queue and over the keeps of these log tables are of a wave
pub placed_of_wave : {R : Type 0} (queue : QueueShape) (berths : List (Berth R)) (keeps : List KeepMeaning) (sweepers : List SweeperMeaning)
    (origins : List OriginMeaning)
    → All (λ (b : Berth R). shared (queue_name b.pass) ≡ shared queue.name) berths → sum_by (λ (b : Berth R). b.quota) berths ≡ length queue.stocked
    → map (λ (k : KeepMeaning). k.origin) keeps ≡ tables_of sweepers → ArePlaced berths keeps origins → AreOfWave queue sweepers origins
placed_of_wave {R} queue berths keeps sweepers origins of all tables placed =
    let quota : OriginMeaning → ℕ = λ o. o.object.quota in
    record {
      supplies = all_images (λ (o : OriginMeaning). o.object.supply) (λ s. s ≡ shared queue.name) origins (map (λ (b : Berth R). shared (queue_name b.pass)) berths)
          placed.supplies (All-map (λ s. s ≡ shared queue.name) (λ (b : Berth R). shared (queue_name b.pass)) berths of);
      quotas = sym (sum-map quota origins) ∙ ap sum placed.quotas ∙ sum-map (λ (b : Berth R). b.quota) berths ∙ all;
      numbers = placed.numbers;
      tables = placed.keeps_are ∙ tables;
    }

pub placed_many : {R : Type 0} (berths : List (Berth R)) (keeps : List KeepMeaning) (works : List WorkMeaning) → ArePlaced berths keeps (map origin_of works)
    → length works ≡ length berths
placed_many {R} berths keeps works placed =
    sym (length-map works origin_of) ∙ sym (length-map (map origin_of works) (λ (o : OriginMeaning). o.object.quota)) ∙ ap {B = ℕ} length placed.quotas
    ∙ length-map berths (λ (b : Berth R). b.quota)

-- what the quotas of works sum to, by where these come from
pub sum_of_origins : (works : List WorkMeaning)
    → sum_by (λ (o : OriginMeaning). o.object.quota) (map origin_of works) ≡ sum_by (λ (w : WorkMeaning). w.origin.object.quota) works
sum_of_origins works =
    let quota : OriginMeaning → ℕ = λ o. o.object.quota in
    sym (sum-map quota (map origin_of works)) ∙ ap sum (map-map quota origin_of works) ∙ sum-map (λ (w : WorkMeaning). w.origin.object.quota) works

pub one_name : (a b : TableName) → shared a ≡ shared b → a ≡ b
one_name a b same = cc same

-- ---- works and sweepers that leave from the end together

ends_same : {A : Type 0} (xs ys : List A) (x y : A) → xs ++ x ∷ [] ≡ ys ++ y ∷ [] → (xs ≡ ys) × (x ≡ y)
ends_same [] [] x y is = (refl, cc is)
ends_same [] (z ∷ ys) x y is = absurd (omega (arith, ap {B = ℕ} length is, length-append ys (y ∷ [])))
ends_same (z ∷ xs) [] x y is = absurd (omega (arith, ap {B = ℕ} length is, length-append xs (x ∷ [])))
ends_same (z ∷ xs) (w ∷ ys) x y is =
    let tail : xs ++ x ∷ [] ≡ ys ++ y ∷ [] = cc is in
    let head : z ≡ w = cc is in
    let rest = ends_same xs ys x y tail in
    ((λ i. head i ∷ rest.0 i), rest.1)

module _ (works front : List WorkMeaning) (w : WorkMeaning) (sweepers before : List SweeperMeaning) (s : SweeperMeaning)
    (last : works ≡ front ++ w ∷ []) (last_swept : sweepers ≡ before ++ s ∷ [])
    (of : map (λ (w : WorkMeaning). w.origin.object.keep) works ≡ tables_of sweepers) where
  keep_of : WorkMeaning → Origin
  keep_of v = v.origin.object.keep

  both_last : (map keep_of front ≡ tables_of before) × (keep_of w ≡ shared s.table)
  unfolding keep_of
  both_last =
      ends_same (map keep_of front) (tables_of before) (keep_of w) (shared s.table)
      (sym (map_push keep_of front w) ∙ ap (map keep_of) (sym last) ∙ of ∙ ap tables_of last_swept ∙ map_push (λ (t : SweeperMeaning). shared t.table) before s)

  pub own_table : w.origin.object.keep ≡ shared s.table
  unfolding keep_of
  own_table = both_last.1

  pub others_swept : map (λ (v : WorkMeaning). v.origin.object.keep) front ≡ tables_of before
  unfolding keep_of
  others_swept = both_last.0
