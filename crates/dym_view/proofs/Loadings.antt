-- Records that are loaded one after the other.
use Rattle.std.proofs.Common.{◌≡◌, ℕ, ◌+◌, ◌<◌, ◌≤◌, true, true≢false, cond, is_some, Option, Some, None, List, [], ◌∷◌, ◌++◌, length, map, take, get_or, refl, sym, ap, subst, ◌∙◌, arith}
use Rattle.std.specs.Cmp.{nat_cmp_total}
use Rattle.std.specs.List.{AllByRecursion}
use Rattle.std.specs.FinMap.{get, same_map, nat_cmp-IsAntisymmetric}
use Rattle.std.proofs.lemmas.List.{length-map, length-take-le, get_or-map, get_or-take, take_all, take_more}
use Rattle.std.proofs.lemmas.List.Elements.{All-from_recursion, All-get_or}
use Rattle.dym_base.specs.Heaps.{Live}
use Rattle.dym_base.specs.Packed.{Logged, packed}
use Rattle.dym_base.specs.Recorded.{IsRecorded}
use Rattle.dym_base.specs.StandsFor.{packed_by, or_else, newest_packed, LogsStandFor}
use Rattle.dym_base.specs.declared.command.Version.TheVariants.{One}
use Rattle.dym_pack.specs.ParsedAreas.{OfLog}
use Rattle.dym_heap.specs.RecordLoads.{IsLoaded, HaveOneSetOfHandles}
use Rattle.dym_slots.specs.Meanings.{Numbered, no_record, record_at}
use Rattle.dym_chain.specs.Chains.{no_entry}
use Rattle.dym_chain.specs.Keeps.{bytes_of}
use Rattle.dym_chain.specs.Lawful.{logged_of}
use Rattle.dym_chain.proofs.Stands.{packed_push}
use Rattle.dym_view.specs.LoadedHeaps.{AreLoaded}

-- the bytes of a chunk that had these, after some were brought where it is live
abbrev brought : Option (List ℕ) → Option (List ℕ) → Option (List ℕ)
brought new old = cond (is_some old) (or_else new old) None

brought_twice : (p q o : Option (List ℕ)) → brought p (brought q o) ≡ brought (or_else p q) o
brought_twice p q None = refl
brought_twice None None (Some x) = refl
brought_twice None (Some z) (Some x) = refl
brought_twice (Some y) None (Some x) = refl
brought_twice (Some y) (Some z) (Some x) = refl

brought_is : (p o copy : Option (List ℕ)) → is_some o ≡ is_some copy → (is_some copy ≡ true → p ≡ copy) → brought p o ≡ copy
brought_is p None None same bytes = refl
brought_is p None (Some x) same bytes = absurd (true≢false (sym same))
brought_is p (Some y) None same bytes = absurd (true≢false same)
brought_is p (Some y) (Some x) same bytes = ap (λ q. or_else q (Some y)) (bytes refl)

-- one log more is loaded
loaded_push : (logs : List Logged) (l : Logged) (old mid new : Live) → AreLoaded logs old mid → IsLoaded l mid new → AreLoaded (logs ++ l ∷ []) old new
loaded_push logs l old mid new loaded next k =
    next k ∙ ap (brought (packed_by l k)) (loaded k)
    ∙ brought_twice (packed_by l k) (newest_packed logs k) (get old k)
    ∙ ap (λ o. brought o (get old k)) (sym (packed_push logs l k))

-- logs that stand for a map bring it into a heap that has its handles
pub loaded_is : (logs : List Logged) (copy old new : Live) → LogsStandFor logs copy → HaveOneSetOfHandles old copy → AreLoaded logs old new → new ≡ copy
loaded_is logs copy old new stand same loaded =
    same_map nat_cmp_total nat_cmp-IsAntisymmetric new copy
    (λ k. loaded k ∙ brought_is (newest_packed logs k) (get old k) (get copy k) (same k) (stand.bytes k))

some_log : Logged
some_log = logged_of One no_entry

-- the logs of the first `count` records
module _ (records : List Numbered) (count place : ℕ) (logs : List Logged) (within : count ≤ length records) (are : map packed logs ≡ take count (bytes_of records)) where
  as_many : length logs ≡ count
  as_many =
      sym (length-map logs packed) ∙ ap length are
      ∙ length-take-le count (bytes_of records) (omega (arith, within, length-map records (λ (r : Numbered). r.bytes)))

  pub loaded_step : (rec : List ℕ) (old mid new : Live) → place < count → rec ≡ (record_at records place).bytes → AllByRecursion IsRecorded logs
      → AreLoaded (take place logs) old mid → OfLog rec (λ log. IsLoaded log mid new) → AreLoaded (take (place + 1) logs) old new
  loaded_step rec old mid new more is all loaded next =
      let inside : place < length logs = omega (arith, as_many, more) in
      let l : Logged = get_or logs place some_log in
      let bytes : packed l ≡ rec =
      sym (get_or-map packed logs place some_log [] inside)
      ∙ ap (λ (parts : List (List ℕ)). get_or parts place []) are
      ∙ get_or-take count (bytes_of records) place [] more
      ∙ get_or-map (λ (r : Numbered). r.bytes) records place no_record [] (omega (arith, more, within))
      ∙ sym is in
      let recorded = All-get_or IsRecorded logs place some_log inside (All-from_recursion IsRecorded logs all) in
      subst (λ part. AreLoaded part old new) (sym (take_more logs place some_log inside))
      (loaded_push (take place logs) l old mid new loaded (next l recorded bytes))

  pub loaded_end : (old new : Live) → count ≤ place → AreLoaded (take place logs) old new → AreLoaded logs old new
  loaded_end old new over = subst (λ part. AreLoaded part old new) (take_all place logs (omega (arith, as_many, over)))
