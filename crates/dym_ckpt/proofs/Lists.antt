-- A lawful list with one record more.
use Rattle.std.proofs.Common.{◌≡◌, ℕ, zero, suc, ◌<◌, ◌≤◌, List, [], ◌∷◌, ◌++◌, length, take, drop, refl, ap, subst, arith}
use Rattle.std.specs.List.{AllByRecursion}
use Rattle.std.proofs.lemmas.List.{append_assoc}
use Rattle.dym_base.specs.LawfulLists.{IsLawful, IsLawfulList, StartsFull, EachMayFollow, MayFollow, depth_after, depths_from}
use Rattle.dym_base.specs.Packed.{Logged}
use Rattle.dym_base.specs.Recorded.{IsRecorded}
use Rattle.dym_base.specs.declared.limits.TheConstants.{MOST_DEPTH}
use Rattle.dym_base.specs.declared.command.Version.{Version}
use Rattle.dym_base.specs.declared.command.Kind.TheVariants.{Full, Inc}
use Rattle.dym_ckpt.specs.Lists.{last_depth, FitsPlace}

-- ---- one element more at the end

pub all_more : {X : Type 0} (P : X → Type 0) (xs : List X) (x : X) → AllByRecursion P xs → P x → AllByRecursion P (xs ++ x ∷ [])
all_more P [] x each last = (last, tt)
all_more P (y ∷ xs) x each last = (each.0, all_more P xs x each.1 last)

pub all_front : {X : Type 0} (P : X → Type 0) (xs : List X) (x : X) → AllByRecursion P (xs ++ x ∷ []) → AllByRecursion P xs
all_front P [] x each = tt
all_front P (y ∷ xs) x each = (each.0, all_front P xs x each.1)

pub all_last : {X : Type 0} (P : X → Type 0) (xs : List X) (x : X) → AllByRecursion P (xs ++ x ∷ []) → P x
all_last P [] x each = each.0
all_last P (y ∷ xs) x each = all_last P xs x each.1

take_more : (P : Logged → Type 0) (d : ℕ) (xs : List Logged) (x : Logged) → AllByRecursion P (take d xs) → (length xs < d → P x) → AllByRecursion P (take d (xs ++ x ∷ []))
take_more P zero xs x each last = tt
take_more P (suc d) [] x each last = (last (omega arith), take_none P d)
  where
    take_none : (P : Logged → Type 0) (d : ℕ) → AllByRecursion P (take d [])
    take_none P zero = tt
    take_none P (suc d) = tt
take_more P (suc d) (y ∷ xs) x each last = (each.0, take_more P d xs x each.1 (λ base_logs. last (omega (arith, base_logs))))

take_last : (P : Logged → Type 0) (d : ℕ) (xs : List Logged) (x : Logged) → AllByRecursion P (take d (xs ++ x ∷ [])) → length xs < d → P x
take_last P zero xs x each base_logs = absurd (omega (arith, base_logs))
take_last P (suc d) [] x each base_logs = each.0
take_last P (suc d) (y ∷ xs) x each base_logs = take_last P d xs x each.1 (omega (arith, base_logs))

-- ---- depths

pub depths_more : (n : ℕ) (logs : List Logged) (log : Logged) → AllByRecursion (λ depth. depth ≤ MOST_DEPTH) (depths_from n logs) → depth_after (last_depth n logs) log.kind ≤ MOST_DEPTH → AllByRecursion (λ depth. depth ≤ MOST_DEPTH) (depths_from n (logs ++ log ∷ []))
depths_more n [] log each last = (last, tt)
depths_more n (x ∷ logs) log each last = (each.0, depths_more (depth_after n x.kind) logs log each.1 last)

pub depths_last : (n : ℕ) (logs : List Logged) (log : Logged) → AllByRecursion (λ depth. depth ≤ MOST_DEPTH) (depths_from n (logs ++ log ∷ [])) → depth_after (last_depth n logs) log.kind ≤ MOST_DEPTH
depths_last n [] log each = each.0
depths_last n (x ∷ logs) log each = depths_last (depth_after n x.kind) logs log each.1

pub last_depth_more : (n : ℕ) (logs : List Logged) (log : Logged) → last_depth n (logs ++ log ∷ []) ≡ depth_after (last_depth n logs) log.kind
last_depth_more n [] log = refl
last_depth_more n (x ∷ logs) log = last_depth_more (depth_after n x.kind) logs log

-- ---- what follows

follow_more : (logs : List Logged) (log : Logged) → EachMayFollow logs → ((front : List Logged) (b : Logged) → logs ≡ front ++ b ∷ [] → MayFollow b log) → EachMayFollow (logs ++ log ∷ [])
follow_more [] log each last = (tt, tt)
follow_more (x ∷ []) log each last = (last [] x refl, (tt, tt))
follow_more (x ∷ y ∷ logs) log each last = (each.0, follow_more (y ∷ logs) log each.1 (λ front b is. last (x ∷ front) b (ap (λ zs. x ∷ zs) is)))

follow_last : (front : List Logged) (b log : Logged) → EachMayFollow (front ++ (b ∷ log ∷ [])) → MayFollow b log
follow_last [] b log each = each.0
follow_last (x ∷ []) b log each = each.1.0
follow_last (x ∷ y ∷ front) b log each = follow_last (y ∷ front) b log each.1

-- ---- lawful lists

pub lawful_more : (v : Version) (d : ℕ) (logs : List Logged) (log : Logged) → IsLawful v d logs → IsRecorded log → log.version ≡ v → FitsPlace d (length logs) (last_depth 0 logs) log.kind → ((front : List Logged) (b : Logged) → logs ≡ front ++ b ∷ [] → MayFollow b log) → IsLawful v d (logs ++ log ∷ [])
lawful_more v d logs log is ok version fits follows = record {
  recorded = all_more IsRecorded logs log is.recorded ok;
  version = all_more (λ (x : Logged). x.version ≡ v) logs log is.version version;
  full = full logs is.full fits.first;
  base = base logs is.base fits.base;
  shallow = depths_more 0 logs log is.shallow fits.shallow;
  follow = follow_more logs log is.follow follows;
}
  where
    full : (xs : List Logged) → StartsFull xs → (length xs ≡ 0 → log.kind ≡ Full) → StartsFull (xs ++ log ∷ [])
    full [] starts first = first refl
    full (x ∷ xs) starts first = starts

    base : (xs : List Logged) → AllByRecursion (λ (x : Logged). x.kind ≡ Inc) (take d (drop 1 xs)) → (0 < length xs → length xs ≤ d → log.kind ≡ Inc) → AllByRecursion (λ (x : Logged). x.kind ≡ Inc) (take d (drop 1 (xs ++ log ∷ [])))
    base [] each inc = each
    base (x ∷ xs) each inc = take_more (λ (y : Logged). y.kind ≡ Inc) d xs log each (λ base_logs. inc (omega arith) (omega (arith, base_logs)))

pub lawful_fits : (v : Version) (d : ℕ) (logs : List Logged) (log : Logged) → IsLawful v d (logs ++ log ∷ []) → FitsPlace d (length logs) (last_depth 0 logs) log.kind
lawful_fits v d logs log is = record {
  first = full logs is.full;
  base = base logs is.base;
  shallow = depths_last 0 logs log is.shallow;
}
  where
    full : (xs : List Logged) → StartsFull (xs ++ log ∷ []) → length xs ≡ 0 → log.kind ≡ Full
    full [] starts none = starts
    full (x ∷ xs) starts none = absurd (omega (arith, none))

    base : (xs : List Logged) → AllByRecursion (λ (x : Logged). x.kind ≡ Inc) (take d (drop 1 (xs ++ log ∷ []))) → 0 < length xs → length xs ≤ d → log.kind ≡ Inc
    base [] each some base_logs = absurd (omega (arith, some))
    base (x ∷ xs) each some base_logs = take_last (λ (y : Logged). y.kind ≡ Inc) d xs log each (omega (arith, base_logs))

pub lawful_follows : (v : Version) (d : ℕ) (front : List Logged) (b log : Logged) → IsLawful v d ((front ++ b ∷ []) ++ log ∷ []) → MayFollow b log
lawful_follows v d front b log is = follow_last front b log (subst EachMayFollow (append_assoc front (b ∷ []) (log ∷ [])) is.follow)

-- ---- no element

pub nothing_lawful : (v : Version) (d : ℕ) → IsLawfulList v d []
nothing_lawful v d = ([], record { recorded = tt; version = tt; full = tt; base = none d; shallow = tt; follow = tt }, refl)
  where
    none : (d : ℕ) → AllByRecursion (λ (x : Logged). x.kind ≡ Inc) (take d [])
    none zero = tt
    none (suc d) = tt
