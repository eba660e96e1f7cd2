-- What a list of logs stands for as it grows, and what it leaves in a heap that it is loaded into.
use Rattle.std.proofs.Common.{◌≡◌, ℕ, zero, suc, ◌+◌, ◌-◌, ◌<◌, ◌≤◌, inl, inr, true, false, cond, is_some, ⊎_elim, ◌==◌, Option, Some, None, List, [], ◌∷◌, ◌++◌, length, map, take, drop, refl, sym, ap, subst, ◌∙◌, arith, Bool, unwrap_or}
use Rattle.std.specs.List.{AllByRecursion}
use Rattle.std.specs.FinMap.{get, contains_key, entries, find, same_map, nat_cmp-IsAntisymmetric, get-entries, get-from_entries}
use Rattle.std.specs.FinSet.{contains}
use Rattle.std.proofs.lemmas.Bool.{cases_Bool, cond-true, cond-false, true≢false, eq-eqb, ne_eqb, eqb-true}
use Rattle.std.proofs.lemmas.List.{map-append}
use Rattle.dym_base.specs.Heaps.{Live}
use Rattle.dym_base.specs.Objects.{LogEntry, kind_of}
use Rattle.dym_base.specs.Packed.{Logged, packs_by}
use Rattle.dym_base.specs.StandsFor.{packed_by, or_else, newest_packed, IsChain, UsesLast, LogsStandFor}
use Rattle.dym_base.specs.RunLaws.{EachFollows}
use Rattle.dym_base.specs.declared.command.Version.{Version}
use Rattle.dym_base.specs.declared.command.Kind.{Kind}
use Rattle.dym_base.specs.declared.command.Kind.TheVariants.{Full, Inc}
use Rattle.dym_base.proofs.Standing.{full_stands_alone}
use Rattle.dym_base.specs.BaseLogs.{oldest_depth}
use Rattle.dym_chain.specs.Chains.{KeepsUntouched, EachKeeps, log_at}
use Rattle.dym_chain.specs.Lawful.{logged_of}
use Rattle.dym_chain.proofs.Places.{follows_at, keeps_at, first_depth, depth_within, part_more}
use Rattle.std.specs.Cmp.{nat_cmp_total, unsigned_tied}
use Rattle.std.specs.Ordering.{nat_cmp, eq_by_cmp}
use Rattle.dym_chain.specs.AdoptedLogs.{stood_for}

-- the first of two, or else the second

or_none : (o : Option (List ℕ)) → o ≡ or_else o None
or_none None = refl
or_none (Some x) = refl

or_assoc : (a b c : Option (List ℕ)) → or_else (or_else a b) c ≡ or_else a (or_else b c)
or_assoc None b c = refl
or_assoc (Some x) b c = refl

pub or_some : (o other : Option (List ℕ)) → is_some o ≡ true → or_else o other ≡ o
or_some None other has = absurd (true≢false (sym has))
or_some (Some x) other has = refl

pub some_or : (o other : Option (List ℕ)) → is_some other ≡ true → is_some (or_else o other) ≡ true
some_or None other has = has
some_or (Some x) other has = refl

pub none_of : (o : Option (List ℕ)) → is_some o ≡ false → o ≡ None
none_of None gone = refl
none_of (Some x) gone = absurd (true≢false gone)

pub not_inc : Full ≡ Inc → ⊥
not_inc same = cc

-- one log more

pub packed_push : (logs : List Logged) (l : Logged) (k : ℕ) → newest_packed (logs ++ l ∷ []) k ≡ or_else (packed_by l k) (newest_packed logs k)
packed_push [] l k = or_none (packed_by l k)
packed_push (x ∷ logs) l k = ap (λ o. or_else o (packed_by x k)) (packed_push logs l k) ∙ or_assoc (packed_by l k) (newest_packed logs k) (packed_by x k)

all_inc : (logs : List Logged) (l : Logged) → AllByRecursion (λ (n : Logged). n.kind ≡ Inc) logs → l.kind ≡ Inc → AllByRecursion (λ (n : Logged). n.kind ≡ Inc) (logs ++ l ∷ [])
all_inc [] l all inc = (inc, tt)
all_inc (x ∷ logs) l all inc = (all.0, all_inc logs l all.1 inc)

chain_push : (logs : List Logged) (l : Logged) → IsChain logs → l.kind ≡ Inc → IsChain (logs ++ l ∷ [])
chain_push [] l chain inc = absurd chain
chain_push (x ∷ logs) l chain inc = (chain.0, all_inc logs l chain.1 inc)

uses_push : (logs : List Logged) (l : Logged) → UsesLast (logs ++ l ∷ []) l.copy
uses_push [] l = λ k. refl
uses_push (x ∷ []) l = λ k. refl
uses_push (x ∷ y ∷ logs) l = uses_push (y ∷ logs) l

packs_inc : (l : Logged) (k : ℕ) → l.kind ≡ Inc → packed_by l k ≡ cond (contains l.found k) (get l.copy k) None
packs_inc l k inc = ap (λ (kind : Kind). cond (packs_by kind l.copy l.found k) (get l.copy k) None) inc

pub stands_push : (logs : List Logged) (before : Live) (l : Logged) → LogsStandFor logs before → l.kind ≡ Inc → KeepsUntouched l.copy l.found before → LogsStandFor (logs ++ l ∷ []) l.copy
stands_push logs before l stand inc keeps = record {
  chain = chain_push logs l stand.chain inc;
  handles = uses_push logs l;
  bytes = λ k has. packed_push logs l k ∙ ap (λ o. or_else o (newest_packed logs k)) (packs_inc l k inc) ∙ ⊎_elim
      (λ packs. ap (λ o. or_else o (newest_packed logs k)) (cond-true (contains l.found k) (get l.copy k) None packs) ∙ or_some (get l.copy k) (newest_packed logs k) has)
      (λ kept. ap (λ o. or_else o (newest_packed logs k)) (cond-false (contains l.found k) (get l.copy k) None kept)
      ∙ stand.bytes k (ap is_some (keeps k has kept) ∙ has) ∙ keeps k has kept)
      (cases_Bool (contains l.found k));
}

-- the logs from the last full one up to log i stand for its copy

pub kind_full : (e : LogEntry) → e.depth ≡ 0 → kind_of e ≡ Full
kind_full e none = cond-true (e.depth == 0) Full Inc (eq-eqb e.depth 0 none)

pub kind_inc : (e : LogEntry) (d : ℕ) → e.depth ≡ d + 1 → kind_of e ≡ Inc
kind_inc e d some = cond-false (e.depth == 0) Full Inc (ne_eqb e.depth 0 (λ none. (let no_such : ⊥ = omega (arith, some, none) in no_such)))

alone_at : (v : Version) (logs : List LogEntry) (i : ℕ) → i < length logs → (log_at logs i).depth ≡ 0 → LogsStandFor (map (logged_of v) (take ((log_at logs i).depth + 1) (drop (i - (log_at logs i).depth) logs))) (log_at logs i).copy
alone_at v logs i within none =
    let one : take 1 (drop i logs) ≡ log_at logs i ∷ [] = part_more logs i 0 i (omega arith) within in
    let P : ℕ → Type 0 = λ d. LogsStandFor (map (logged_of v) (take (d + 1) (drop (i - d) logs))) (log_at logs i).copy in
    let at : i ≡ i - 0 = omega arith in
    subst P (sym none) (subst (λ b. LogsStandFor (map (logged_of v) (take 1 (drop b logs))) (log_at logs i).copy) at
    (subst (λ part. LogsStandFor (map (logged_of v) part) (log_at logs i).copy) (sym one) (full_stands_alone (logged_of v (log_at logs i)) (kind_full (log_at logs i) none))))

pub stands_at : (v : Version) (logs : List LogEntry) → EachFollows logs → EachKeeps logs → oldest_depth logs ≡ 0 → (i : ℕ) → i < length logs → LogsStandFor (map (logged_of v) (take ((log_at logs i).depth + 1) (drop (i - (log_at logs i).depth) logs))) (log_at logs i).copy
stands_at v logs follows keeps full zero within = alone_at v logs zero within (first_depth logs within ∙ full)
stands_at v logs follows keeps full (suc i) within =
    let e : LogEntry = log_at logs i in
    let f : LogEntry = log_at logs (suc i) in
    let low : e.depth ≤ i = depth_within logs follows full i (omega (arith, within)) in
    let Stand : List LogEntry → Type 0 = λ part. LogsStandFor (map (logged_of v) part) f.copy in
    elim (follows_at logs i follows within).1 as (λ _. Stand (take (f.depth + 1) (drop (suc i - f.depth) logs))) [
      | inl none ↦ alone_at v logs (suc i) within none
      | inr one ↦ (
          let b : ℕ = i - e.depth in
          let before = stands_at v logs follows keeps full i (omega (arith, within)) in
          let more : take (suc (e.depth + 1)) (drop b logs) ≡ take (e.depth + 1) (drop b logs) ++ f ∷ [] = part_more logs b (e.depth + 1) (suc i) (omega (arith, low)) within in
          let grown : LogsStandFor (map (logged_of v) (take (e.depth + 1) (drop b logs)) ++ logged_of v f ∷ []) f.copy =
          stands_push (map (logged_of v) (take (e.depth + 1) (drop b logs))) e.copy (logged_of v f) before (kind_inc f e.depth one) (keeps_at logs i keeps within (omega (arith, one))) in
          let n_is : suc (e.depth + 1) ≡ f.depth + 1 = omega (arith, one) in
          let b_is : b ≡ suc i - f.depth = omega (arith, one, low) in
          subst (λ n. Stand (take n (drop (suc i - f.depth) logs))) n_is
          (subst (λ at. Stand (take (suc (e.depth + 1)) (drop at logs))) b_is
          (subst Stand (sym more) (subst (λ l. LogsStandFor l f.copy) (sym (map-append (logged_of v) (take (e.depth + 1) (drop b logs)) (f ∷ []))) grown))))
    ]

-- ---- what the map that logs stand for has, where it is made of the handles of the last of them

found_here : (g : ℕ → List ℕ) (q k : ℕ) (b : Bool) (o p : Option (List ℕ)) (bytes : List ℕ) → (b ≡ true → q ≡ k) → o ≡ cond (is_some p) (Some (g q)) None
    → cond b (Some (g k)) o ≡ cond (is_some (cond b (Some bytes) p)) (Some (g q)) None
found_here g q k true o p bytes same rest = ap (λ n. Some (g n)) (sym (same refl))
found_here g q k false o p bytes same rest = rest

-- the same keys with other values
find_by_key : (g : ℕ → List ℕ) (q : ℕ) (es : List (ℕ × List ℕ)) → find nat_cmp q (map (λ (e : ℕ × List ℕ). (e.0, g e.0)) es) ≡ cond (is_some (find nat_cmp q es)) (Some (g q)) None
find_by_key g q [] = refl
find_by_key g q (e ∷ es) =
    found_here g q e.0 (eq_by_cmp nat_cmp q e.0) (find nat_cmp q (map (λ (f : ℕ × List ℕ). (f.0, g f.0)) es)) (find nat_cmp q es) e.1
    (λ tied. eqb-true q e.0 (sym (unsigned_tied q e.0) ∙ tied)) (find_by_key g q es)

pub stood_get : (logs : List Logged) (last : Live) (q : ℕ) → get (stood_for logs last) q ≡ cond (contains_key last q) (Some (unwrap_or (newest_packed logs q) [])) None
unfolding stood_for
stood_get logs last q =
    get-from_entries nat_cmp_total (map (λ (e : ℕ × List ℕ). (e.0, unwrap_or (newest_packed logs e.0) [])) (entries last)) q
    ∙ find_by_key (λ k. unwrap_or (newest_packed logs k) []) q (entries last)
    ∙ ap (λ o. cond (is_some o) (Some (unwrap_or (newest_packed logs q) [])) None) (sym (get-entries last q))

some_of : (b : Bool) (x : List ℕ) → is_some (cond b (Some x) None) ≡ b
some_of true x = refl
some_of false x = refl

pub stood_has : (logs : List Logged) (last : Live) (q : ℕ) → contains_key (stood_for logs last) q ≡ contains_key last q
stood_has logs last q = ap is_some (stood_get logs last q) ∙ some_of (contains_key last q) (unwrap_or (newest_packed logs q) [])

pub unwrapped : (o : Option (List ℕ)) → is_some o ≡ true → Some (unwrap_or o []) ≡ o
unwrapped None has = absurd (true≢false (sym has))
unwrapped (Some x) has = refl

-- a handle of the last log that some log packs
pub stood_newest : (logs : List Logged) (last : Live) (q : ℕ) → contains_key last q ≡ true → is_some (newest_packed logs q) ≡ true → get (stood_for logs last) q ≡ newest_packed logs q
stood_newest logs last q has packed =
    stood_get logs last q
    ∙ cond-true (contains_key last q) (Some (unwrap_or (newest_packed logs q) [])) None has
    ∙ unwrapped (newest_packed logs q) packed

-- logs that pack the same stand for the same
pub stood_same : (logs others : List Logged) (last other : Live) → ((q : ℕ) → newest_packed logs q ≡ newest_packed others q) → ((q : ℕ) → contains_key last q ≡ contains_key other q) → stood_for logs last ≡ stood_for others other
stood_same logs others last other packed handles =
    same_map nat_cmp_total nat_cmp-IsAntisymmetric (stood_for logs last) (stood_for others other) (λ q.
    stood_get logs last q
    ∙ ap (λ b. cond b (Some (unwrap_or (newest_packed logs q) [])) None) (handles q)
    ∙ ap (λ o. cond (contains_key other q) (Some (unwrap_or o [])) None) (packed q)
    ∙ sym (stood_get others other q))

-- what logs stand for is this map
pub stood_is : (logs : List Logged) (copy : Live) → LogsStandFor logs copy → stood_for logs copy ≡ copy
stood_is logs copy stand =
    same_map nat_cmp_total nat_cmp-IsAntisymmetric (stood_for logs copy) copy (λ q.
    ⊎_elim
    (λ has. stood_newest logs copy q has (ap is_some (stand.bytes q has) ∙ has) ∙ stand.bytes q has)
    (λ gone. none_of (get (stood_for logs copy) q) (stood_has logs copy q ∙ gone) ∙ sym (none_of (get copy q) gone))
    (cases_Bool (contains_key copy q)))
