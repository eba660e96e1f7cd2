-- What fetching records leaves in a heap.
use Rattle.std.proofs.Common.{◌≡◌, ℕ, zero, suc, drop, Bool, true, false, cond, not, ◌&&◌, is_some, Option, Some, None, List, [], ◌∷◌, refl, sym, ap, subst, ◌∙◌, nat_cmp, ◌+◌, ◌-◌, ◌<◌, ◌≤◌, length, map, take, get_or, arith, drop-cons}
use Rattle.std.specs.Cmp.{nat_cmp_total}
use Rattle.std.specs.FinMap.{get, contains_key, same_map, nat_cmp-IsAntisymmetric}
use Rattle.std.specs.FinSet as set
use Rattle.std.specs.FinSet.{contains, contains-empty, same_set}
use Rattle.std.proofs.lemmas.Bool.{cond-true, cond-false, not-false}
use Rattle.dym_base.specs.Heaps.{Live, HeapState}
use Rattle.dym_base.specs.Packed.{Logged, packed}
use Rattle.dym_base.specs.StandsFor.{packed_by, or_else, newest_packed, LogsStandFor}
use Rattle.dym_heap.specs.Fetches.{ChunkMeaning, heap_chunk, fetched, is_unmodified, IsReshaped}
use Rattle.dym_chain.specs.Loads.{AreFetched, HaveVersion}
use Rattle.dym_chain.proofs.Stands.{or_some, none_of}
use Rattle.std.specs.List.{AllByRecursion}
use Rattle.std.proofs.lemmas.List.{length-take, length-drop, length-map, get_or-take, get_or-drop, get_or-map, drop_all}
use Rattle.std.proofs.lemmas.List.Elements.{All-from_recursion}
use Rattle.dym_base.specs.declared.command.Version.{Version}
use Rattle.dym_base.specs.declared.command.Version.TheVariants.{One}
use Rattle.dym_base.specs.Recorded.{IsRecorded}
use Rattle.dym_pack.specs.ParsedAreas.{OfLog}
use Rattle.dym_slots.specs.Meanings.{Numbered, no_record, record_at}
use Rattle.dym_chain.specs.Keeps.{bytes_of}
use Rattle.dym_chain.specs.Chains.{no_entry}
use Rattle.dym_chain.specs.Lawful.{logged_of}

-- ---- one log more

fetch_mark : (t : Bool) (p q : Option (List ℕ)) → ((t && not (is_some q)) && not (is_some p)) ≡ (t && not (is_some (or_else q p)))
fetch_mark false p q = refl
fetch_mark true p None = refl
fetch_mark true None (Some y) = refl
fetch_mark true (Some x) (Some y) = refl

fetch_bytes : (t : Bool) (p q b : Option (List ℕ)) → cond (t && not (is_some q)) (or_else p (cond t (or_else q b) b)) (cond t (or_else q b) b) ≡ cond t (or_else (or_else q p) b) b
fetch_bytes false p q b = refl
fetch_bytes true p None b = refl
fetch_bytes true p (Some y) b = refl

same_bytes : (t : Bool) (b : Option (List ℕ)) → b ≡ cond t (or_else None b) b
same_bytes true b = refl
same_bytes false b = refl

same_mark : (t : Bool) → t ≡ (t && true)
same_mark true = refl
same_mark false = refl

pub fetched_nothing : (s : HeapState) → AreFetched [] s s
fetched_nothing s k = λ i. record { bytes = same_bytes (contains s.touched k) (get s.live k) i; touched = same_mark (contains s.touched k) i }

-- the log before those that were fetched
pub fetched_cons : (logs : List Logged) (l : Logged) (old mid new : HeapState) → AreFetched logs old mid → ((k : ℕ) → heap_chunk new k ≡ fetched (packed_by l k) (heap_chunk mid k)) → AreFetched (l ∷ logs) old new
fetched_cons logs l old mid new before next k =
    let a : ChunkMeaning = heap_chunk old k in
    let p : Option (List ℕ) = packed_by l k in
    let q : Option (List ℕ) = newest_packed logs k in
    next k ∙ ap (fetched p) (before k) ∙ (λ i. record { bytes = fetch_bytes a.touched p q a.bytes i; touched = fetch_mark a.touched p q i })

-- ---- where nothing is touched any more, the logs that are left would fetch nothing

quiet_chunk : (p : Option (List ℕ)) (t : Bool) (b : Option (List ℕ)) → t ≡ false → record { bytes = b; touched = t } ≡ fetched p (record { bytes = b; touched = t })
quiet_chunk p false b h = refl
quiet_chunk p true b h = absurd cc

pub settled_all : (s t : HeapState) → t.touched ≡ set.empty {R = nat_cmp} → (n : ℕ) (logs : List Logged) → AreFetched (drop n logs) s t → AreFetched logs s t
settled_all s t none zero logs h = h
settled_all s t none (suc n) [] h = h
settled_all s t none (suc n) (l ∷ logs) h =
    fetched_cons logs l s t t (settled_all s t none n logs h)
    (λ k. quiet_chunk (packed_by l k) (contains t.touched k) (get t.live k) (ap (λ x. contains x k) none ∙ contains-empty nat_cmp k))

-- ---- the heap at the end of a restore

-- a handle of the copy
chunk_back : (copy : Live) (k : ℕ) (np : Option (List ℕ)) (m r f : ChunkMeaning) → contains_key copy k ≡ true → np ≡ get copy k → IsReshaped true m r → f ≡ fetched np r → (is_unmodified m ≡ true → get copy k ≡ m.bytes)
    → f ≡ record { bytes = get copy k; touched = false }
chunk_back copy k np m r f has packed shaped fetch unmodified =
    elim r.touched as (λ b. r.touched ≡ b → f ≡ record { bytes = get copy k; touched = false }) [
      | true ↦ λ t.
          let some : is_some np ≡ true = ap is_some packed ∙ has in
          let bytes : cond r.touched (or_else np r.bytes) r.bytes ≡ get copy k = cond-true r.touched (or_else np r.bytes) r.bytes t ∙ or_some np r.bytes some ∙ packed in
          let mark : (r.touched && not (is_some np)) ≡ false = (λ i. t i && not (some i)) in
          fetch ∙ (λ i. record { bytes = bytes i; touched = mark i })
      | false ↦ λ t.
          let was : is_unmodified m ≡ true = not-false (is_unmodified m) (sym shaped.wanted ∙ t) in
          let bytes : cond r.touched (or_else np r.bytes) r.bytes ≡ get copy k = cond-false r.touched (or_else np r.bytes) r.bytes t ∙ shaped.kept refl t ∙ sym (unmodified was) in
          let mark : (r.touched && not (is_some np)) ≡ false = (λ i. t i && not (is_some np)) in
          fetch ∙ (λ i. record { bytes = bytes i; touched = mark i })
    ] refl

-- a number that is none
chunk_gone : (np : Option (List ℕ)) (m r f : ChunkMeaning) → IsReshaped false m r → f ≡ fetched np r → f ≡ record { bytes = None; touched = false }
chunk_gone np m r f shaped fetch =
    let quiet : r.touched ≡ false = shaped.wanted in
    let none : r.bytes ≡ None = none_of r.bytes shaped.used in
    let bytes : cond r.touched (or_else np r.bytes) r.bytes ≡ None = cond-false r.touched (or_else np r.bytes) r.bytes quiet ∙ none in
    let mark : (r.touched && not (is_some np)) ≡ false = (λ i. quiet i && not (is_some np)) in
    fetch ∙ (λ i. record { bytes = bytes i; touched = mark i })

-- the heap was shaped to the copy, and what it wants was fetched from the logs that stand for it
pub restored_state : (m r f : HeapState) (copy : Live) (logs : List Logged) → ((k : ℕ) → is_unmodified (heap_chunk m k) ≡ true → get copy k ≡ get m.live k)
    → ((k : ℕ) → IsReshaped (contains_key copy k) (heap_chunk m k) (heap_chunk r k)) → LogsStandFor logs copy → AreFetched logs r f → f ≡ record { live = copy; touched = set.empty }
restored_state m r f copy logs unmodified shaped stand fetch =
    let each : (k : ℕ) → heap_chunk f k ≡ record { bytes = get copy k; touched = false } = λ k.
    elim (contains_key copy k) as (λ b. contains_key copy k ≡ b → heap_chunk f k ≡ record { bytes = get copy k; touched = false }) [
      | true ↦ λ has.
          chunk_back copy k (newest_packed logs k) (heap_chunk m k) (heap_chunk r k) (heap_chunk f k) has (stand.bytes k has) (subst (λ b. IsReshaped b (heap_chunk m k) (heap_chunk r k)) has (shaped k)) (fetch k) (unmodified k)
      | false ↦ λ gone.
          chunk_gone (newest_packed logs k) (heap_chunk m k) (heap_chunk r k) (heap_chunk f k) (subst (λ b. IsReshaped b (heap_chunk m k) (heap_chunk r k)) gone (shaped k)) (fetch k)
          ∙ (λ i. record { bytes = sym (none_of (get copy k) gone) i; touched = false })
    ] refl in
    let live : f.live ≡ copy = same_map nat_cmp_total nat_cmp-IsAntisymmetric f.live copy (λ k. ap (λ (c : ChunkMeaning). c.bytes) (each k)) in
    let touched : f.touched ≡ set.empty {R = nat_cmp} =
    same_set nat_cmp_total nat_cmp-IsAntisymmetric f.touched (set.empty {R = nat_cmp}) (λ k. ap (λ (c : ChunkMeaning). c.touched) (each k) ∙ sym (contains-empty nat_cmp k)) in
    λ i. record { live = live i; touched = touched i }

-- ---- records that are fetched one after the other

-- which record stands at a place of a part
part_at : (records : List Numbered) (first count place : ℕ) → first ≤ place → place < first + count → first + count ≤ length records → get_or (take count (drop first (bytes_of records))) (place - first) [] ≡ (record_at records place).bytes
part_at records first count place low high within =
    let n_is : first + (place - first) ≡ place = omega (arith, low) in
    get_or-take count (drop first (bytes_of records)) (place - first) [] (omega (arith, low, high))
    ∙ get_or-drop first (bytes_of records) (place - first) []
    ∙ ap (λ k. get_or (bytes_of records) k []) n_is
    ∙ get_or-map (λ (r : Numbered). r.bytes) records place no_record [] (omega (arith, high, within))

part_len : (records : List Numbered) (first count : ℕ) → first + count ≤ length records → length (take count (drop first (bytes_of records))) ≡ count
part_len records first count within =
    let a = length-take count (drop first (bytes_of records)) in
    let b = length-drop first (bytes_of records) in
    let d = length-map records (λ (r : Numbered). r.bytes) in
    omega (arith, a, b, d, within)

pub version_at : (v : Version) (records : List Numbered) (first count place : ℕ) (rec : List ℕ) → first ≤ place → place < first + count → first + count ≤ length records → rec ≡ (record_at records place).bytes → HaveVersion v (take count (drop first (bytes_of records))) → OfLog rec (λ log. log.version ≡ v)
version_at v records first count place rec low high within is all =
    subst (λ (bytes : List ℕ). OfLog bytes (λ log. log.version ≡ v)) (part_at records first count place low high within ∙ sym is)
    (All-from_recursion (λ (bytes : List ℕ). OfLog bytes (λ log. log.version ≡ v)) (take count (drop first (bytes_of records))) all (place - first) [] (omega (arith, part_len records first count within, low, high)))

some_log : Logged
some_log = logged_of One no_entry

-- the log of a record that stands in a part
log_at_part : (records : List Numbered) (first count place : ℕ) (rec : List ℕ) (logs : List Logged) → first ≤ place → place < first + count → first + count ≤ length records → rec ≡ (record_at records place).bytes → map packed logs ≡ take count (drop first (bytes_of records))
    → place - first < length logs → packed (get_or logs (place - first) some_log) ≡ rec
log_at_part records first count place rec logs low high within is are inside =
    sym (get_or-map packed logs (place - first) some_log [] inside) ∙ ap (λ (parts : List (List ℕ)). get_or parts (place - first) []) are ∙ part_at records first count place low high within ∙ sym is

logs_len : (records : List Numbered) (first count : ℕ) (logs : List Logged) → first + count ≤ length records → map packed logs ≡ take count (drop first (bytes_of records)) → length logs ≡ count
logs_len records first count logs within are = sym (length-map logs packed) ∙ ap length are ∙ part_len records first count within

-- one record further down
pub fetched_step : (records : List Numbered) (last count back : ℕ) (rec : List ℕ) (logs : List Logged) (old mid new : HeapState) → last < length records → count ≤ last + 1 → back < count → rec ≡ (record_at records (last - back)).bytes
    → AllByRecursion IsRecorded logs → map packed logs ≡ take count (drop (last + 1 - count) (bytes_of records)) → AreFetched (drop (count - back) logs) old mid
    → OfLog rec (λ log. (k : ℕ) → heap_chunk new k ≡ fetched (packed_by log k) (heap_chunk mid k)) → AreFetched (drop (count - (back + 1)) logs) old new
fetched_step records last count back rec logs old mid new inside_last there less is all are before next =
    let first : ℕ = last + 1 - count in
    let place : ℕ = last - back in
    let n : ℕ = place - first in
    let within : first + count ≤ length records = omega (arith, inside_last, there) in
    let low : first ≤ place = omega (arith, there, less) in
    let high : place < first + count = omega (arith, there, less) in
    let len = logs_len records first count logs within are in
    let inside : n < length logs = omega (arith, len, low, high) in
    let l : Logged = get_or logs n some_log in
    let bytes : packed l ≡ rec = log_at_part records first count place rec logs low high within is are inside in
    let at : count - (back + 1) ≡ n = omega (arith, there, less) in
    let behind : suc n ≡ count - back = omega (arith, there, less) in
    let split : drop n logs ≡ l ∷ drop (suc n) logs = drop-cons logs n some_log inside in
    subst (λ k. AreFetched (drop k logs) old new) (sym at)
    (subst (λ p. AreFetched p old new) (sym split)
    (fetched_cons (drop (suc n) logs) l old mid new (subst (λ k. AreFetched (drop k logs) old mid) (sym behind) before) (next l (All-from_recursion IsRecorded logs all n some_log inside) bytes)))

pub fetched_start : (records : List Numbered) (last count : ℕ) (logs : List Logged) (s : HeapState) → last < length records → count ≤ last + 1 → map packed logs ≡ take count (drop (last + 1 - count) (bytes_of records)) → AreFetched (drop (count - 0) logs) s s
fetched_start records last count logs s inside there are =
    let len = logs_len records (last + 1 - count) count logs (omega (arith, inside, there)) are in
    subst (λ (p : List Logged). AreFetched p s s) (sym (drop_all (count - 0) logs (omega (arith, len)))) (fetched_nothing s)
