-- What the records of a lawful list say: logs of these bytes, each of which follows the one before it and keeps from it what it
-- didn't find touched.
use Rattle.std.proofs.Common.{◌≡◌, ℕ, suc, ◌+◌, ◌<◌, ◌≤◌, ◌⊎◌, inl, inr, Bool, true, false, cond, is_some, ◌==◌, Option, Some, None, List, [], ◌∷◌, ◌++◌, map, ⊎_elim, refl, sym, ap, subst, ◌∙◌, arith}
use Rattle.std.specs.List.{AllByRecursion}
use Rattle.std.specs.FinMap.{get, contains_key}
use Rattle.std.specs.FinSet.{contains}
use Rattle.std.specs.FinSet as set
use Rattle.std.specs.Ordering.{nat_cmp}
use Rattle.std.proofs.lemmas.Bool.{cases_Bool, cond-true, cond-false, ne_eqb, true≢false}
use Rattle.dym_base.specs.Heaps.{Live, Touched}
use Rattle.dym_base.specs.Laws.{FitsClass}
use Rattle.dym_base.specs.LawfulLists.{MayFollow, FirstMayFollow, EachMayFollow, depth_after}
use Rattle.dym_base.specs.Objects.{LogEntry, record_of}
use Rattle.dym_base.specs.Packed.{Logged, packs_by, packed}
use Rattle.dym_base.specs.Recorded.{IsRecorded}
use Rattle.dym_base.specs.RunLaws.{FirstFollows, EachFollows}
use Rattle.dym_base.specs.StandsFor.{packed_by, or_else, newest_packed}
use Rattle.dym_base.specs.declared.command.Version.{Version}
use Rattle.dym_base.specs.declared.command.Kind.{Kind}
use Rattle.dym_base.specs.declared.command.Kind.TheVariants.{Full, Inc}
use Rattle.dym_base.proofs.Heaps.{held_same}
use Rattle.dym_pack.specs.Areas.{found_by}
use Rattle.dym_chain.specs.AdoptedLogs.{stood_for, run_to, entry_in, entries_from}
use Rattle.dym_chain.specs.Chains.{KeepsUntouched, FirstKeeps, EachKeeps}
use Rattle.dym_chain.specs.Lawful.{logged_of}
use Rattle.dym_chain.proofs.SameBytes.{same_bytes}
use Rattle.dym_chain.proofs.Stands.{not_inc, or_some, some_or, packed_push, stood_has, stood_newest}

-- ---- what one log packs

packed_get : (p : Bool) (o : Option (List ℕ)) (bytes : List ℕ) → cond p o None ≡ Some bytes → o ≡ Some bytes
packed_get true o bytes is = is
packed_get false o bytes is = absurd (true≢false (sym (ap is_some is)))

packs_is : (log : Logged) (q : ℕ) → packs_by log.kind log.copy log.found q ≡ true → packed_by log q ≡ get log.copy q
packs_is log q packs = cond-true (packs_by log.kind log.copy log.found q) (get log.copy q) None packs

packs_none : (log : Logged) (q : ℕ) → packs_by log.kind log.copy log.found q ≡ false → packed_by log q ≡ None
packs_none log q none = cond-false (packs_by log.kind log.copy log.found q) (get log.copy q) None none

packs_has : (kind : Kind) (copy : Live) (found : Touched) → ((q : ℕ) → contains found q ≡ true → contains_key copy q ≡ true) → (q : ℕ) → packs_by kind copy found q ≡ true → contains_key copy q ≡ true
packs_has Full copy found live q packs = packs
packs_has Inc copy found live q packs = live q packs

full_packs : (log : Logged) → log.kind ≡ Full → (q : ℕ) → contains_key log.copy q ≡ true → packs_by log.kind log.copy log.found q ≡ true
full_packs log full q has = ap (λ d. packs_by d log.copy log.found q) full ∙ has

sized_in : (v : Version) (log : Logged) → IsRecorded log → log.version ≡ v → (q : ℕ) (bytes : List ℕ) → packed_by log q ≡ Some bytes → FitsClass v q bytes
sized_in v log is version q bytes packs =
    subst (λ w. FitsClass w q bytes) version (is.sized q bytes (packed_get (packs_by log.kind log.copy log.found q) (get log.copy q) bytes packs))

-- ---- the logs from the last full one up to one that is n behind it

pub record IsRun (v : Version) (n : ℕ) (run : List Logged) (last : Logged) : Type 0 where
  pub recorded : IsRecorded last
  pub version : last.version ≡ v
  pub kind : last.kind ≡ cond (n == 0) Full Inc
  pub sized : (q : ℕ) (bytes : List ℕ) → newest_packed run q ≡ Some bytes → FitsClass v q bytes
  pub covered : (q : ℕ) → contains_key last.copy q ≡ true → is_some (newest_packed run q) ≡ true
  pub top : (q : ℕ) → is_some (packed_by last q) ≡ true → newest_packed run q ≡ packed_by last q

run_full : (v : Version) (log : Logged) → log.kind ≡ Full → IsRecorded log → log.version ≡ v → IsRun v 0 (log ∷ []) log
run_full v log full recorded version = record {
  recorded = recorded;
  version = version;
  kind = full;
  sized = λ q bytes is. sized_in v log recorded version q bytes is;
  covered = λ q has. ap is_some (packs_is log q (full_packs log full q has)) ∙ has;
  top = λ q packs. refl;
}

sized_or : (v : Version) (q : ℕ) (bytes : List ℕ) (a b : Option (List ℕ)) → (a ≡ Some bytes → FitsClass v q bytes) → (b ≡ Some bytes → FitsClass v q bytes) → or_else a b ≡ Some bytes → FitsClass v q bytes
sized_or v q bytes None b fits also is = also is
sized_or v q bytes (Some x) b fits also is = fits is

run_inc : (v : Version) (n : ℕ) (run : List Logged) (last log : Logged) → IsRun v n run last → log.kind ≡ Inc → IsRecorded log → log.version ≡ v → MayFollow last log → IsRun v (suc n) (run ++ log ∷ []) log
run_inc v n run last log is inc recorded version may = record {
  recorded = recorded;
  version = version;
  kind = inc ∙ sym (cond-false (suc n == 0) Full Inc (ne_eqb (suc n) 0 (λ none. (let no_such : ⊥ = omega (arith, none) in no_such))));
  sized = λ q bytes packed. sized_or v q bytes (packed_by log q) (newest_packed run q) (sized_in v log recorded version q bytes) (is.sized q bytes) (sym (packed_push run log q) ∙ packed);
  covered = λ q has. ap is_some (packed_push run log q) ∙ ⊎_elim
      (λ packs. ap is_some (or_some (packed_by log q) (newest_packed run q) (ap is_some (packs_is log q packs) ∙ has)) ∙ ap is_some (packs_is log q packs) ∙ has)
      (λ none. some_or (packed_by log q) (newest_packed run q) (is.covered q (may.based inc q has none)))
      (cases_Bool (packs_by log.kind log.copy log.found q));
  top = λ q packs. packed_push run log q ∙ or_some (packed_by log q) (newest_packed run q) packs;
}

pub run_next : (v : Version) (n : ℕ) (run : List Logged) (last log : Logged) (kind : Kind) → log.kind ≡ kind → IsRun v n run last → IsRecorded log → log.version ≡ v → MayFollow last log → IsRun v (depth_after n kind) (run_to kind run log) log
run_next v n run last log Full is run_is recorded version may = run_full v log is recorded version
run_next v n run last log Inc is run_is recorded version may = run_inc v n run last log run_is is recorded version may

pub run_first : (v : Version) (log : Logged) (kind : Kind) → log.kind ≡ kind → log.kind ≡ Full → IsRecorded log → log.version ≡ v → IsRun v (depth_after 0 kind) (run_to kind [] log) log
run_first v log Full is full recorded version = run_full v log is recorded version
run_first v log Inc is full recorded version = absurd (not_inc (sym full ∙ is))

-- ---- what is said of the last log of a run

module _ (v : Version) (n : ℕ) (run : List Logged) (last : Logged) (is : IsRun v n run last) where
  abbrev copy : Live
  copy = stood_for run last.copy

  abbrev found : Touched
  found = found_by last.kind last.found

  abbrev pub entry : LogEntry
  entry = entry_in n run last

  pub has_bytes : (q : ℕ) → contains_key last.copy q ≡ true → get copy q ≡ newest_packed run q
  has_bytes q has = stood_newest run last.copy q has (is.covered q has)

  packs_bytes : (q : ℕ) → packs_by last.kind last.copy last.found q ≡ true → get copy q ≡ get last.copy q
  packs_bytes q packs =
      let has : contains_key last.copy q ≡ true = packs_has last.kind last.copy last.found is.recorded.found_live q packs in
      has_bytes q has ∙ is.top q (ap is_some (packs_is last q packs) ∙ has) ∙ packs_is last q packs

  found_here : (kind : Kind) (q : ℕ) → kind ≡ Inc → contains (found_by kind last.found) q ≡ contains last.found q
  found_here Full q inc = absurd (not_inc inc)
  found_here Inc q inc = refl

  packs_too : (kind : Kind) (q : ℕ) → packs_by kind copy (found_by kind last.found) q ≡ packs_by kind last.copy last.found q
  packs_too Full q = stood_has run last.copy q
  packs_too Inc q = refl

  same_chunk : (p o : Bool) (q : ℕ) → p ≡ o → (o ≡ true → get copy q ≡ get last.copy q) → cond p (get copy q) None ≡ cond o (get last.copy q) None
  same_chunk true true q same bytes = bytes refl
  same_chunk false false q same bytes = refl
  same_chunk true false q same bytes = absurd (true≢false same)
  same_chunk false true q same bytes = absurd (true≢false (sym same))

  pub record_is : record_of v entry ≡ packed last
  record_is = same_bytes (logged_of v entry) last (record {
    version = sym is.version;
    kind = sym is.kind;
    time = refl;
    handles = stood_has run last.copy;
    found = λ inc q. found_here last.kind q (is.kind ∙ inc);
    chunks = λ q. ap (λ d. cond (packs_by d copy found q) (get copy q) None) (sym is.kind)
        ∙ same_chunk (packs_by last.kind copy found q) (packs_by last.kind last.copy last.found q) q (packs_too last.kind q) (packs_bytes q);
  })

  found_live : (kind : Kind) → ((q : ℕ) → contains last.found q ≡ true → contains_key last.copy q ≡ true) → (q : ℕ) → contains (found_by kind last.found) q ≡ true → contains_key copy q ≡ true
  found_live Full live q here = absurd (true≢false (sym here ∙ set.contains-empty nat_cmp q))
  found_live Inc live q here = stood_has run last.copy q ∙ live q here

  pub recorded_is : IsRecorded (logged_of v entry)
  recorded_is = record {
    sized = λ q bytes at.
        let has : contains_key last.copy q ≡ true = sym (stood_has run last.copy q) ∙ ap is_some at in
        is.sized q bytes (sym (has_bytes q has) ∙ at);
    found_live = found_live last.kind is.recorded.found_live;
    few = subst (λ m. m ≤ 1024) (held_same last.copy copy (λ q has. stood_has run last.copy q ∙ has) (λ q has. sym (stood_has run last.copy q) ∙ has)) is.recorded.few;
    time = is.recorded.time;
  }

-- ---- a log and the one that stands behind it

deeper : (n : ℕ) (kind : Kind) → (depth_after n kind ≡ 0) ⊎ (depth_after n kind ≡ n + 1)
deeper n Full = inl refl
deeper n Inc = inr (omega arith)

keeps_by : (v : Version) (n : ℕ) (run : List Logged) (last log : Logged) (kind : Kind) → log.kind ≡ kind → IsRun v n run last → MayFollow last log → 0 < depth_after n kind
    → KeepsUntouched (stood_for (run_to kind run log) log.copy) (found_by kind log.found) (stood_for run last.copy)
keeps_by v n run last log Full kind_is is may deep = absurd (omega (arith, deep))
keeps_by v n run last log Inc kind_is is may deep = λ q has quiet.
    let used : contains_key log.copy q ≡ true = sym (stood_has (run ++ log ∷ []) log.copy q) ∙ has in
    let none : packs_by log.kind log.copy log.found q ≡ false = ap (λ d. packs_by d log.copy log.found q) kind_is ∙ quiet in
    let before : contains_key last.copy q ≡ true = may.based kind_is q used none in
    let newest : newest_packed (run ++ log ∷ []) q ≡ newest_packed run q = packed_push run log q ∙ ap (λ o. or_else o (newest_packed run q)) (packs_none log q none) in
    has_bytes v n run last is q before
    ∙ sym (stood_newest (run ++ log ∷ []) log.copy q used (ap is_some newest ∙ is.covered q before) ∙ newest)

-- ---- all that is said behind a log

pub record AreSaid (v : Version) (e : LogEntry) (logs : List Logged) (es : List LogEntry) : Type 0 where
  pub records : map (record_of v) es ≡ map packed logs
  pub recorded : AllByRecursion (λ (f : LogEntry). IsRecorded (logged_of v f)) es
  pub first_follows : FirstFollows e es
  pub follows : EachFollows es
  pub first_keeps : FirstKeeps e es
  pub keeps : EachKeeps es

pub said_from : (v : Version) (n : ℕ) (run : List Logged) (last : Logged) (logs : List Logged) → IsRun v n run last → AllByRecursion IsRecorded logs → AllByRecursion (λ (l : Logged). l.version ≡ v) logs → FirstMayFollow last logs → EachMayFollow logs
    → AreSaid v (entry_in n run last) logs (entries_from n run logs)
said_from v n run last [] is recorded version first each = record { records = refl; recorded = tt; first_follows = tt; follows = tt; first_keeps = tt; keeps = tt }
said_from v n run last (log ∷ logs) is recorded version first each =
    let m : ℕ = depth_after n log.kind in
    let longer : List Logged = run_to log.kind run log in
    let next : IsRun v m longer log = run_next v n run last log log.kind refl is recorded.0 version.0 first in
    let rest = said_from v m longer log logs next recorded.1 version.1 each.0 each.1 in
    record {
      records = λ i. record_is v m longer log next i ∷ rest.records i;
      recorded = (recorded_is v m longer log next, rest.recorded);
      first_follows = (first.later, deeper n log.kind);
      follows = (rest.first_follows, rest.follows);
      first_keeps = keeps_by v n run last log log.kind refl is first;
      keeps = (rest.first_keeps, rest.keeps);
    }
