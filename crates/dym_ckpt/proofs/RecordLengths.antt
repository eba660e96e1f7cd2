-- A record's length has 32 bits.
use Rattle.std.proofs.Common.{◌≡◌, ℕ, zero, suc, ◌+◌, ◌*◌, ◌^◌, ◌<◌, ◌≤◌, List, [], ◌∷◌, length, map, refl, sym, ap, subst, ◌∙◌, arith}
use Rattle.std.specs.List.{AllByRecursion}
use Rattle.dym_base.specs.Heaps.{held}
use Rattle.dym_base.specs.LawfulLists.{IsRecordOf, IsLawfulList}
use Rattle.dym_base.specs.Packed.{Logged, packed}
use Rattle.dym_base.specs.Recorded.{IsRecorded}
use Rattle.dym_base.specs.declared.command.Version.{Version}
use Rattle.dym_base.specs.declared.command.Kind.TheVariants.{Full, Inc}
use Rattle.dym_pack.specs.Areas.{area_at}
use Rattle.dym_pack.specs.Offsets.{area_bytes, start_of}
use Rattle.dym_pack.proofs.Chunks.{packable, body_most}
use Rattle.dym_pack.proofs.Fronts.{start_none, start_more, start_last, area_len_is}
use Rattle.dym_pack.proofs.Heads.{maps, maps_len_full, maps_len_inc, map_few, head_len}

maps_short : (log : Logged) (k : ℕ) → k < held log.copy → length (maps log k) ≤ 512
maps_short log k within =
    elim log.kind as (λ d. log.kind ≡ d → length (maps log k) ≤ 512) [
      | Full ↦ λ is. omega (arith, maps_len_full log k is, map_few log.copy k within)
      | Inc ↦ λ is. omega (arith, maps_len_inc log k is, map_few log.copy k within)
    ] refl

area_short : (log : Logged) → IsRecorded log → (k : ℕ) → k < held log.copy → length (area_bytes log (area_at log.copy k)) ≤ 131072
area_short log ok k within =
    omega (arith, area_len_is log k, head_len log k, maps_short log k within, body_most log (packable log ok) k within)

starts_short : (log : Logged) → IsRecorded log → (k : ℕ) → k ≤ held log.copy → start_of log k ≤ 13 + k * 131072
starts_short log ok zero within = omega (arith, start_none log)
starts_short log ok (suc k) within =
    let next : k + 1 ≡ suc k = omega arith in
    let more : start_of log (suc k) ≡ start_of log k + length (area_bytes log (area_at log.copy k)) = ap (start_of log) (sym next) ∙ start_more log k (omega arith) in
    omega (arith, more, starts_short log ok k (omega arith), area_short log ok k (omega arith))

pub packed_short : (log : Logged) → IsRecorded log → length (packed log) < 2 ^ 32
packed_short log ok =
    let all = starts_short log ok (held log.copy) (omega arith) in
    omega (arith, all, ok.few, start_last log (held log.copy) (omega arith))

pub record_short : (v : Version) (quota : ℕ) (bytes : List ℕ) → IsRecordOf v quota bytes → length bytes < 2 ^ 32
record_short v quota bytes is = subst (λ bs. length bs < 2 ^ 32) is.2 (packed_short is.0 is.1.recorded)

all_short : (logs : List Logged) → AllByRecursion IsRecorded logs → AllByRecursion (λ (bytes : List ℕ). length bytes < 2 ^ 32) (map packed logs)
all_short [] each = tt
all_short (log ∷ logs) each = (packed_short log each.0, all_short logs each.1)

pub list_short : (v : Version) (d : ℕ) (records : List (List ℕ)) → IsLawfulList v d records → AllByRecursion (λ (bytes : List ℕ). length bytes < 2 ^ 32) records
list_short v d records list = subst (AllByRecursion (λ (bytes : List ℕ). length bytes < 2 ^ 32)) list.2 (all_short list.0 list.1.recorded)
