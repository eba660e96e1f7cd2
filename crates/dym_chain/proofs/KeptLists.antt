-- The records of a chain are a lawful list.
use Rattle.std.proofs.Common.{◌≡◌, ℕ, zero, suc, ◌+◌, ◌<◌, ◌≤◌, ◌⊎◌, inl, inr, true, false, is_some, List, [], ◌∷◌, ◌++◌, length, map, take, drop, refl, sym, ap, subst, ◌∙◌, arith, length-append}
use Rattle.std.specs.List.{AllByRecursion}
use Rattle.std.specs.FinMap.{contains_key}
use Rattle.std.specs.FinSet.{contains}
use Rattle.std.proofs.Math.Seq.{take-append_seam}
use Rattle.dym_base.specs.BaseLogs.{oldest_depth}
use Rattle.dym_base.specs.LawfulLists as lawful
use Rattle.dym_base.specs.LawfulLists.{IsLawfulList, StartsFull, MayFollow, FirstMayFollow, EachMayFollow, depths_from}
use Rattle.dym_base.specs.Objects.{LogEntry, kind_of}
use Rattle.dym_base.specs.Packed.{Logged, packs_by}
use Rattle.dym_base.specs.RunLaws.{Follows, FirstFollows, EachFollows}
use Rattle.dym_base.specs.declared.command.Version.{Version}
use Rattle.dym_base.specs.declared.command.Kind.{Kind}
use Rattle.dym_base.specs.declared.command.Kind.TheVariants.{Inc}
use Rattle.dym_base.proofs.Runs.{follows_take}
use Rattle.dym_chain.specs.Keeps.{bytes_of}
use Rattle.dym_chain.specs.Chains.{ChainMeaning, all_logs, log_at, KeepsFromBefore, FirstKeeps, EachKeeps}
use Rattle.dym_chain.specs.KeptRecords.{AreKeptRecords}
use Rattle.dym_chain.specs.Lawful.{IsLawful, logged_of}
use Rattle.dym_chain.proofs.Stands.{not_inc, kind_full, kind_inc}
use Rattle.dym_chain.proofs.Lawfuls.{packed_of, logged_all, stands}

-- ---- versions, and the first log

have_version : (v : Version) (logs : List LogEntry) → AllByRecursion (λ (l : Logged). l.version ≡ v) (map (logged_of v) logs)
have_version v [] = tt
have_version v (e ∷ logs) = (refl, have_version v logs)

starts_full : (v : Version) (logs : List LogEntry) → oldest_depth logs ≡ 0 → StartsFull (map (logged_of v) logs)
starts_full v [] full = tt
starts_full v (e ∷ logs) full = kind_full e full

-- ---- depths: each log is full or one deeper than the one before it

-- a log is at most as much deeper than the first as places lie between them
deeper : (e : LogEntry) (es : List LogEntry) (n : ℕ) → EachFollows (e ∷ es) → n ≤ length es → (log_at (e ∷ es) n).depth ≤ e.depth + n
deeper e es zero each within = omega arith
deeper e [] (suc n) each within = absurd (omega arith)
deeper e (f ∷ es) (suc n) each within =
    let rest : (log_at (f ∷ es) n).depth ≤ f.depth + n = deeper f es n each.1 (omega arith) in
    elim each.0.1 as (λ _. (log_at (f ∷ es) n).depth ≤ e.depth + suc n) [
      | inl none ↦ omega (arith, rest, none)
      | inr one ↦ omega (arith, rest, one)
    ]

-- where it is just as much deeper, the logs between are incremental
all_between : (v : Version) (e : LogEntry) (es : List LogEntry) (n : ℕ) → EachFollows (e ∷ es) → n ≤ length es → (log_at (e ∷ es) n).depth ≡ e.depth + n → AllByRecursion (λ (l : Logged). l.kind ≡ Inc) (take n (map (logged_of v) es))
all_between v e es zero each within is = tt
all_between v e [] (suc n) each within is = absurd (omega arith)
all_between v e (f ∷ es) (suc n) each within is =
    let low : (log_at (f ∷ es) n).depth ≤ f.depth + n = deeper f es n each.1 (omega arith) in
    elim each.0.1 as (λ _. AllByRecursion (λ (l : Logged). l.kind ≡ Inc) (take (suc n) (map (logged_of v) (f ∷ es)))) [
      | inl none ↦ (let no_such : ⊥ = omega (arith, low, none, is) in absurd no_such)
      | inr one ↦ (kind_inc f e.depth one, all_between v f es n each.1 (omega arith) (omega (arith, is, one)))
    ]

base_between : (v : Version) (logs : List LogEntry) (n : ℕ) → EachFollows logs → oldest_depth logs ≡ 0 → n < length logs → (log_at logs n).depth ≡ n → AllByRecursion (λ (l : Logged). l.kind ≡ Inc) (take n (drop 1 (map (logged_of v) logs)))
base_between v [] n each full within is = absurd (omega arith)
base_between v (e ∷ es) n each full within is = all_between v e es n each (omega arith) (omega (arith, is, full))

are_based : (v : Version) (base_logs logs : List LogEntry) → EachFollows (base_logs ++ logs) → oldest_depth (base_logs ++ logs) ≡ 0 → length base_logs ≡ oldest_depth logs → AllByRecursion (λ (l : Logged). l.kind ≡ Inc) (take (oldest_depth logs) (drop 1 (map (logged_of v) (base_logs ++ logs))))
are_based v base_logs [] each full base = tt
are_based v base_logs (e ∷ logs) each full base =
    let at : log_at (base_logs ++ (e ∷ logs)) (length base_logs + 0) ≡ e = Rattle.std.proofs.Math.Seq.get_or-append-add base_logs (e ∷ logs) 0 Rattle.dym_chain.specs.Chains.no_entry in
    let place : length base_logs + 0 ≡ e.depth = omega (arith, base) in
    base_between v (base_logs ++ (e ∷ logs)) e.depth each full (omega (arith, length-append base_logs (e ∷ logs), base))
    (ap (λ n. (log_at (base_logs ++ (e ∷ logs)) n).depth) (sym place) ∙ ap (λ (f : LogEntry). f.depth) at)

-- the depth of a log that may stand after one of depth n
pub depth_is : (e : LogEntry) (n : ℕ) → (e.depth ≡ 0) ⊎ (e.depth ≡ n + 1) → lawful.depth_after n (kind_of e) ≡ e.depth
depth_is e n (inl none) = ap (lawful.depth_after n) (kind_full e none) ∙ sym none
depth_is e n (inr one) = ap (lawful.depth_after n) (kind_inc e n one) ∙ (let same : suc n ≡ e.depth = omega (arith, one) in same)

shallow_from : (v : Version) (e : LogEntry) (es : List LogEntry) → EachFollows (e ∷ es) → AllByRecursion (λ (f : LogEntry). f.depth ≤ 31) es → AllByRecursion (λ depth. depth ≤ 31) (depths_from e.depth (map (logged_of v) es))
shallow_from v e [] each small = tt
shallow_from v e (f ∷ es) each small =
    let is : lawful.depth_after e.depth (kind_of f) ≡ f.depth = depth_is f e.depth each.0.1 in
    subst (λ d. AllByRecursion (λ depth. depth ≤ 31) (d ∷ depths_from d (map (logged_of v) es))) (sym is) (small.0, shallow_from v f es each.1 small.1)

are_shallow : (v : Version) (logs : List LogEntry) → EachFollows logs → oldest_depth logs ≡ 0 → AllByRecursion (λ (f : LogEntry). f.depth ≤ 31) logs → AllByRecursion (λ depth. depth ≤ 31) (depths_from 0 (map (logged_of v) logs))
are_shallow v [] each full small = tt
are_shallow v (e ∷ es) each full small =
    let is : lawful.depth_after 0 (kind_of e) ≡ e.depth = depth_is e 0 (inl full) in
    subst (λ d. AllByRecursion (λ depth. depth ≤ 31) (d ∷ depths_from d (map (logged_of v) es))) (sym is) (small.0, shallow_from v e es each small.1)

-- no log of few is deep
few_shallow : (e : LogEntry) (es : List LogEntry) → EachFollows (e ∷ es) → e.depth + length es ≤ 31 → AllByRecursion (λ (f : LogEntry). f.depth ≤ 31) (e ∷ es)
few_shallow e [] each few = (omega arith, tt)
few_shallow e (f ∷ es) each few =
    let next : f.depth + length es ≤ 31 = elim each.0.1 as (λ _. f.depth + length es ≤ 31) [
      | inl none ↦ omega (arith, none, few)
      | inr one ↦ omega (arith, one, few)
    ] in
    (omega arith, few_shallow f es each.1 next)

base_shallow : (base_logs : List LogEntry) → EachFollows base_logs → oldest_depth base_logs ≡ 0 → length base_logs ≤ 31 → AllByRecursion (λ (f : LogEntry). f.depth ≤ 31) base_logs
base_shallow [] each full few = tt
base_shallow (e ∷ es) each full few = few_shallow e es each (omega (arith, full, few))

oldest_base : (base_logs logs : List LogEntry) → oldest_depth (base_logs ++ logs) ≡ 0 → oldest_depth base_logs ≡ 0
oldest_base [] logs full = refl
oldest_base (e ∷ es) logs full = full

follows_base : (base_logs logs : List LogEntry) → EachFollows (base_logs ++ logs) → EachFollows base_logs
follows_base base_logs logs each = subst EachFollows (take-append_seam base_logs logs) (follows_take (length base_logs) (base_logs ++ logs) each)

all_append : (P : LogEntry → Type 0) (xs ys : List LogEntry) → AllByRecursion P xs → AllByRecursion P ys → AllByRecursion P (xs ++ ys)
all_append P [] ys all others = others
all_append P (x ∷ xs) ys all others = (all.0, all_append P xs ys all.1 others)

pub oldest_small : (logs : List LogEntry) → AllByRecursion (λ (e : LogEntry). e.depth ≤ 31) logs → oldest_depth logs ≤ 31
oldest_small [] all = omega arith
oldest_small (e ∷ logs) all = all.0

-- ---- each log may stand behind the one before it

may_follow : (v : Version) (e f : LogEntry) → Follows e f → KeepsFromBefore e f → MayFollow (logged_of v e) (logged_of v f)
may_follow v e f follows keeps = record {
  later = follows.0;
  based = λ inc k has packs.
      elim follows.1 as (λ _. contains_key e.copy k ≡ true) [
        | inl none ↦ absurd (not_inc (sym (kind_full f none) ∙ inc))
        | inr one ↦
            let quiet : contains f.found k ≡ false = sym (ap (λ (d : Kind). packs_by d f.copy f.found k) (kind_inc f e.depth one)) ∙ packs in
            ap is_some (keeps (omega (arith, one)) k has quiet) ∙ has
      ];
}

first_may_follow : (v : Version) (e : LogEntry) (es : List LogEntry) → FirstFollows e es → FirstKeeps e es → FirstMayFollow (logged_of v e) (map (logged_of v) es)
first_may_follow v e [] follows keeps = tt
first_may_follow v e (f ∷ es) follows keeps = may_follow v e f follows keeps

each_may_follow : (v : Version) (logs : List LogEntry) → EachFollows logs → EachKeeps logs → EachMayFollow (map (logged_of v) logs)
each_may_follow v [] follows keeps = tt
each_may_follow v (e ∷ es) follows keeps = (first_may_follow v e es follows.0 keeps.0, each_may_follow v es follows.1 keeps.1)

-- ---- a lawful chain

pub lawful_logs : (c : ChainMeaning) (law : IsLawful c) → lawful.IsLawful law.version (oldest_depth c.logs) (map (logged_of law.version) (all_logs c))
lawful_logs c law =
    let v = law.version in
    let few : length c.base_logs ≤ 31 = omega (arith, law.base, oldest_small c.logs law.list.1) in
    let small : AllByRecursion (λ (f : LogEntry). f.depth ≤ 31) (all_logs c) =
    all_append (λ (f : LogEntry). f.depth ≤ 31) c.base_logs c.logs (base_shallow c.base_logs (follows_base c.base_logs c.logs law.follows) (oldest_base c.base_logs c.logs law.full) few) law.list.1 in
    record {
      recorded = logged_all v (all_logs c) law.recorded;
      version = have_version v (all_logs c);
      full = starts_full v (all_logs c) law.full;
      base = are_based v c.base_logs c.logs law.follows law.full law.base;
      shallow = are_shallow v (all_logs c) law.follows law.full small;
      follow = each_may_follow v (all_logs c) law.follows law.keeps;
    }

pub lawful_list : (c : ChainMeaning) (law : IsLawful c) → IsLawfulList law.version (oldest_depth c.logs) (bytes_of c.records)
lawful_list c law = (map (logged_of law.version) (all_logs c), lawful_logs c law, packed_of law.version (all_logs c) ∙ sym law.records)

pub are_kept : (c : ChainMeaning) → IsLawful c → AreKeptRecords c
are_kept c law = record {
  version = law.version;
  records = law.records;
  lawful = lawful_list c law;
  list = law.list;
  base = law.base;
  stands = stands c law;
  recorded = law.recorded;
  full = law.full;
  follows = law.follows;
  keeps = law.keeps;
}
