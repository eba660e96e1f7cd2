-- What was loaded of a file can be read record by record.
use Rattle.std.proofs.Common.{◌≡◌, ℕ, ◌+◌, ◌≤◌, inl, inr, List, [], ◌∷◌, ◌++◌, length, sym, ap, subst, ◌∙◌, arith}
use Rattle.std.specs.List.{AllByRecursion}
use Rattle.dym_base.specs.BaseLogs.{oldest_depth}
use Rattle.dym_base.specs.Heaps.{held}
use Rattle.dym_base.specs.Laws.{IsWellSized}
use Rattle.dym_base.specs.Objects.{LogEntry, newest}
use Rattle.dym_base.specs.Recorded.{IsRecorded}
use Rattle.dym_base.specs.RunLaws.{EachFollows, FoundLive}
use Rattle.dym_heap.specs.Meaning.{HeapMeaning}
use Rattle.dym_chain.specs.Chains.{ChainMeaning, all_logs, object_of}
use Rattle.dym_chain.specs.KeptRecords.{AreKeptRecords}
use Rattle.dym_chain.specs.Lawful.{logged_of}
use Rattle.dym_chain.proofs.Lawfuls.{recorded_at}
use Rattle.dym_ckpt.specs.FileReads.{IsLoaded, heap_at}
use Rattle.dym_ckpt.specs.SavedFiles.{AreWithinQuota}
use Rattle.dym_ckpt.specs.declared.file_reader.Loaded.{Loaded}
use Rattle.dym_undo_files.specs.LoadedLogs.{IsLoadedUndo}
use Rattle.dym_undo_files.specs.RecordedLogs.{IsReadable}

all_append : (P : LogEntry → Type 0) (xs ys : List LogEntry) → AllByRecursion P xs → AllByRecursion P ys → AllByRecursion P (xs ++ ys)
all_append P [] ys all others = others
all_append P (x ∷ xs) ys all others = (all.0, all_append P xs ys all.1 others)

all_behind : (P : LogEntry → Type 0) (xs ys : List LogEntry) → AllByRecursion P (xs ++ ys) → AllByRecursion P ys
all_behind P [] ys all = all
all_behind P (x ∷ xs) ys all = all_behind P xs ys all.1

-- no log of few is deep
few_shallow : (e : LogEntry) (es : List LogEntry) → EachFollows (e ∷ es) → e.depth + length es ≤ 31 → AllByRecursion (λ (f : LogEntry). f.depth ≤ 31) (e ∷ es)
few_shallow e [] each few = (omega (arith, few), tt)
few_shallow e (f ∷ es) each few =
    let next : f.depth + length es ≤ 31 = elim each.0.1 as (λ _. f.depth + length es ≤ 31) [
      | inl none ↦ omega (arith, none, few)
      | inr one ↦ omega (arith, one, few)
    ] in
    (omega (arith, few), few_shallow f es each.1 next)

base_shallow : (base logs : List LogEntry) → EachFollows (base ++ logs) → oldest_depth (base ++ logs) ≡ 0 → length base ≤ 31
    → AllByRecursion (λ (f : LogEntry). f.depth ≤ 31) base
base_shallow [] logs each full few = tt
base_shallow (e ∷ es) logs each full few = let zero : e.depth ≡ 0 = full in few_shallow e es (front e es logs each) (omega (arith, zero, few))
  where
    front : (e : LogEntry) (es logs : List LogEntry) → EachFollows (e ∷ (es ++ logs)) → EachFollows (e ∷ es)
    front e [] logs each = (tt, tt)
    front e (f ∷ es) logs each = (each.0, front f es logs each.1)

oldest_small : (logs : List LogEntry) → AllByRecursion (λ (e : LogEntry). e.depth ≤ 31) logs → oldest_depth logs ≤ 31
oldest_small [] all = omega arith
oldest_small (e ∷ logs) all = all.0

module _ (bytes : List ℕ) (l : Loaded) (is : IsLoaded bytes l) (k : AreKeptRecords l.chain)
    (within : AreWithinQuota l.heap.quota (object_of l.heap.state l.chain) l.chain.base_logs) where
  recorded : AllByRecursion (λ (e : LogEntry). IsRecorded (logged_of l.heap.version e)) (all_logs l.chain)
  recorded = recorded_at (all_logs l.chain) l.heap.version k.version (sym k.records ∙ is.belongs.records) k.recorded

  pub readable : IsReadable l.heap.version l.heap.quota l.chain
  readable = record {
    idle = ap (λ (c : ChainMeaning). c.lifted) is.chain;
    records = is.belongs.records;
    recorded = recorded;
    within = all_append (λ (e : LogEntry). held e.copy ≤ l.heap.quota) l.chain.base_logs l.chain.logs within.base within.logs;
    shallow = all_append (λ (e : LogEntry). e.depth ≤ 31) l.chain.base_logs l.chain.logs
        (base_shallow l.chain.base_logs l.chain.logs k.follows k.full (omega (arith, k.base, oldest_small l.chain.logs k.list.1))) k.list.1;
    base = k.base;
    full = k.full;
    follows = k.follows;
    keeps = k.keeps;
  }

  sizes : (logs : List LogEntry) → AllByRecursion (λ (e : LogEntry). IsRecorded (logged_of l.heap.version e)) logs
      → AllByRecursion (λ (e : LogEntry). IsWellSized l.heap.version e.copy) logs
  sizes [] all = tt
  sizes (e ∷ es) all = (all.0.sized, sizes es all.1)

  founds : (logs : List LogEntry) → AllByRecursion (λ (e : LogEntry). IsRecorded (logged_of l.heap.version e)) logs → AllByRecursion FoundLive logs
  founds [] all = tt
  founds (e ∷ es) all = (all.0.found_live, founds es all.1)

  pub sized : AllByRecursion (λ (e : LogEntry). IsWellSized l.heap.version e.copy) l.chain.logs
  sized = sizes l.chain.logs (all_behind (λ (e : LogEntry). IsRecorded (logged_of l.heap.version e)) l.chain.base_logs l.chain.logs recorded)

  pub found : AllByRecursion FoundLive l.chain.logs
  found = founds l.chain.logs (all_behind (λ (e : LogEntry). IsRecorded (logged_of l.heap.version e)) l.chain.base_logs l.chain.logs recorded)

  pub loaded_undo : (h : HeapMeaning) (logs : List LogEntry) → logs ≡ l.chain.logs
      → h ≡ record { version = l.heap.version; quota = l.heap.quota; state = heap_at (newest l.chain.logs); held_ids = h.held_ids; origin = h.origin; applied = 0 }
      → IsLoadedUndo bytes l.name h logs
  loaded_undo h logs same heap = record {
    head = is.head;
    records = is.records;
    base_logs = l.chain.base_logs;
    file = is.file;
    name_is = is.name;
    entries = subst (Rattle.dym_chain.specs.AdoptedLogs.AreEntriesOf is.head.depth is.records l.chain.base_logs) (sym same) is.entries;
    heap_is = heap
        ∙ ap (λ (x : HeapMeaning). record {
          version = x.version;
          quota = x.quota;
          state = heap_at (newest l.chain.logs);
          held_ids = h.held_ids;
          origin = h.origin;
          applied = 0;
        }) is.heap
        ∙ ap (λ (x : List LogEntry). record {
          version = is.head.version;
          quota = is.head.quota;
          state = heap_at (newest x);
          held_ids = h.held_ids;
          origin = h.origin;
          applied = 0;
        }) (sym same);
  }
