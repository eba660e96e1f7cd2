-- What is true of every chain stays true as logs are added, and as those at either end are dropped.
use Rattle.std.proofs.Common.{◌≡◌, ℕ, ◌+◌, ◌-◌, ◌<◌, ◌≤◌, Option, List, [], ◌∷◌, length, map, take, drop, refl, sym, ap, subst, ◌∙◌, arith, length-append, ◌^◌, cond, nat_lt, ◌++◌, append_assoc}
use Rattle.std.specs.List.{AllByRecursion, flat_map}
use Rattle.std.proofs.Math.Seq.{get_or-append-add, drop-append_seam, take-append_seam}
use Rattle.std.proofs.lemmas.List.{take-map, drop-map}
use Rattle.dym_base.specs.Objects.{LogEntry, record_of}
use Rattle.dym_base.specs.Packed.{packed, Logged, kind_byte, packed_class}
use Rattle.dym_base.specs.Recorded.{IsRecorded}
use Rattle.dym_base.specs.StandsFor.{LogsStandFor}
use Rattle.dym_base.specs.declared.command.Version.{Version}
use Rattle.dym_base.proofs.Runs.{all_take, all_drop}
use Rattle.dym_chain.specs.Keeps.{bytes_of}
use Rattle.dym_base.specs.BaseLogs.{oldest_depth}
use Rattle.dym_chain.specs.Chains.{ChainMeaning, all_logs, no_entry, log_at, StandsForCopies}
use Rattle.dym_chain.specs.Copies.{ChainCopies}
use Rattle.dym_chain.specs.ChainInvariants.{chain_of, IsChainWithDifferences}
use Rattle.dym_chain.specs.Differences.{AreDifferences}
use Rattle.dym_chain.specs.Lawful.{IsLawful, logged_of, entry_of}
use Rattle.dym_chain.specs.declared.entry.Entry.{Entry}
use Rattle.dym_slots.specs.Meanings.{KeepMeaning}
use Rattle.dym_chain.proofs.Stands.{stands_at}
use Rattle.std.specs.Int.{w32, w64, to_le_bytes, from_le_bytes}
use Rattle.std.proofs.lemmas.Nat.{from_le_bytes-to_le_bytes_4}
use Rattle.dym_base.specs.Numbers.{classes}
use Rattle.dym_base.specs.Heaps.{held}
use Rattle.dym_base.specs.declared.command.Version.TheVariants.{One, Two}
use Rattle.dym_base.specs.declared.command.Kind.{Kind}
use Rattle.dym_base.specs.declared.command.Kind.TheVariants.{Full, Inc}

-- every lawful chain stands for its copies

pub packed_of : (v : Version) (logs : List LogEntry) → map packed (map (logged_of v) logs) ≡ map (record_of v) logs
packed_of v [] = refl
packed_of v (e ∷ logs) = ap (λ l. record_of v e ∷ l) (packed_of v logs)

pub logged_all : (v : Version) (logs : List LogEntry) → AllByRecursion (λ (e : LogEntry). IsRecorded (logged_of v e)) logs → AllByRecursion IsRecorded (map (logged_of v) logs)
logged_all v [] all = tt
logged_all v (e ∷ logs) all = (all.0, logged_all v logs all.1)

pub at_place : (c : ChainMeaning) (k : ℕ) → log_at (all_logs c) (length c.base_logs + k) ≡ log_at c.logs k
at_place c k = get_or-append-add c.base_logs c.logs k no_entry

pub stands : (c : ChainMeaning) → IsLawful c → StandsForCopies c
stands c law k within =
    let v = law.version in
    let i : ℕ = length c.base_logs + k in
    let e : LogEntry = log_at (all_logs c) i in
    let is : e ≡ log_at c.logs k = at_place c k in
    let inside : i < length (all_logs c) = omega (arith, length-append c.base_logs c.logs, within) in
    let d : ℕ = (log_at c.logs k).depth in
    let part : List LogEntry = take (d + 1) (drop (i - d) (all_logs c)) in
    let base : length c.base_logs + k - d ≡ oldest_depth c.logs + k - d = ap (λ n. n + k - d) law.base in
    let stand : LogsStandFor (map (logged_of v) part) (log_at c.logs k).copy =
    subst (λ (f : LogEntry). LogsStandFor (map (logged_of v) (take (f.depth + 1) (drop (i - f.depth) (all_logs c)))) f.copy) is (stands_at v (all_logs c) law.follows law.keeps law.full i inside) in
    let R : LogEntry → Type 0 = λ f. IsRecorded (logged_of v f) in
    record {
      logs = map (logged_of v) part;
      recorded = logged_all v part (all_take R (d + 1) (drop (i - d) (all_logs c)) (all_drop R (i - d) (all_logs c) law.recorded));
      are = packed_of v part
          ∙ sym (take-map (record_of v) (d + 1) (drop (i - d) (all_logs c)))
          ∙ ap (λ l. take (d + 1) l) (sym (drop-map (record_of v) (i - d) (all_logs c)))
          ∙ ap (λ l. take (d + 1) (drop (i - d) l)) (sym law.records)
          ∙ ap (λ n. take (d + 1) (drop n (bytes_of c.records))) base;
      stand = stand;
    }

-- fields show a lawful chain where they have its logs' times and depths
pub fields_show : {kept : List Entry} {capacity : ℕ} {differences : List (Option (List ℕ))} {keep : KeepMeaning} {copies : ChainCopies} (c : ChainMeaning) → chain_of copies keep ≡ c → IsLawful c → kept ≡ map entry_of c.logs → 256 ≤ capacity
    → AreDifferences c.logs differences → IsChainWithDifferences kept capacity differences keep copies
fields_show {differences = differences} c view law entries room each = record {
  chain = record {
    shows = record { entries = entries ∙ ap (λ (x : ChainMeaning). map entry_of x.logs) (sym view); room = room };
    lawful = subst IsLawful (sym view) law;
  };
  differences = subst (λ (x : ChainMeaning). AreDifferences x.logs differences) (sym view) each;
}

-- ---- what the bytes of a record tell of the log that it holds

-- the version that a first byte tells
version_by : List ℕ → Version
version_by [] = One
version_by (b ∷ bytes) = cond (nat_lt b 0x50) One Two

by_kind : (v : Version) (kind : Kind) (rest : List ℕ) → version_by (kind_byte v kind ∷ rest) ≡ v
unfolding version_by
by_kind One Full rest = refl
by_kind One Inc rest = refl
by_kind Two Full rest = refl
by_kind Two Inc rest = refl

version_is : (log : Logged) → version_by (packed log) ≡ log.version
unfolding packed
version_is log = by_kind log.version log.kind (to_le_bytes w64 log.time ++ to_le_bytes w32 (held log.copy) ++ flat_map (packed_class log) classes)

pub version_same : (a b : Logged) → packed a ≡ packed b → a.version ≡ b.version
version_same a b same = sym (version_is a) ∙ ap version_by same ∙ version_is b

-- the number of areas that bytes tell
areas_by : List ℕ → ℕ
areas_by bytes = from_le_bytes w32 (take 4 (drop 9 bytes))

after_time : (k : ℕ) (t h f : List ℕ) → length t ≡ 8 → length h ≡ 4 → take 4 (drop 9 (k ∷ t ++ h ++ f)) ≡ h
after_time k t h f eight four =
    ap (λ l. take 4 (drop 8 l)) (append_assoc t h f)
    ∙ ap (λ n. take 4 (drop n (t ++ (h ++ f)))) (sym eight)
    ∙ ap (λ l. take 4 l) (drop-append_seam t (h ++ f))
    ∙ ap (λ n. take n (h ++ f)) (sym four)
    ∙ take-append_seam h f

areas_are : (log : Logged) → held log.copy < 2 ^ 32 → areas_by (packed log) ≡ held log.copy
unfolding packed areas_by
areas_are log few =
    ap (from_le_bytes w32) (after_time (kind_byte log.version log.kind) (to_le_bytes w64 log.time) (to_le_bytes w32 (held log.copy)) (flat_map (packed_class log) classes) refl refl)
    ∙ from_le_bytes-to_le_bytes_4 (held log.copy) few

pub held_same : (a b : Logged) → IsRecorded a → IsRecorded b → packed a ≡ packed b → held a.copy ≡ held b.copy
held_same a b ra rb same =
    let fewa : held a.copy < 2 ^ 32 = omega (arith, ra.few) in
    let fewb : held b.copy < 2 ^ 32 = omega (arith, rb.few) in
    sym (areas_are a fewa) ∙ ap areas_by same ∙ areas_are b fewb

-- ---- logs whose records are those of logs of another version

pub heads : (a b : List ℕ) (xs ys : List (List ℕ)) → a ∷ xs ≡ b ∷ ys → a ≡ b
heads a b xs ys same = cc

pub tails : (a b : List ℕ) (xs ys : List (List ℕ)) → a ∷ xs ≡ b ∷ ys → xs ≡ ys
tails a b xs ys same = cc

pub recorded_at : (logs : List LogEntry) (v w : Version) → map (record_of w) logs ≡ map (record_of v) logs → AllByRecursion (λ (e : LogEntry). IsRecorded (logged_of w e)) logs → AllByRecursion (λ (e : LogEntry). IsRecorded (logged_of v e)) logs
recorded_at [] v w same all = tt
recorded_at (e ∷ logs) v w same all =
    let version : w ≡ v = version_same (logged_of w e) (logged_of v e) (heads (record_of w e) (record_of v e) (map (record_of w) logs) (map (record_of v) logs) same) in
    (subst (λ x. IsRecorded (logged_of x e)) version all.0, recorded_at logs v w (tails (record_of w e) (record_of v e) (map (record_of w) logs) (map (record_of v) logs) same) all.1)
