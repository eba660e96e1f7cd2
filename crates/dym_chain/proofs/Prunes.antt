-- The fields of a chain as logs are dropped, and what stays below the kept ones.
use Rattle.std.proofs.Common.{◌≡◌, ℕ, ◌+◌, ◌-◌, ◌<◌, ◌≤◌, List, [], ◌∷◌, ◌++◌, length, take, drop, get_or, sym, ap, subst, ◌∙◌, arith, length-append, zero, suc, inl, inr, true, false, ◌||◌, ◌==◌, refl}
use Rattle.std.proofs.Math.Seq.{take-append_seam, take-append-add}
use Rattle.std.proofs.lemmas.List.{length-map, length-take, get_or-take, drop-take}
use Rattle.std.proofs.lemmas.List.Elements.{All-from_recursion}
use Rattle.dym_base.specs.Objects.{LogEntry, record_of, slots}
use Rattle.dym_slots.specs.Meanings.{Numbered, KeepMeaning, from}
use Rattle.dym_base.specs.BaseLogs.{oldest_depth, has_full, from_last_full, left_base_logs, dropped_base_logs}
use Rattle.dym_chain.specs.Chains.{ChainMeaning, all_logs, no_entry, log_at}
use Rattle.dym_chain.specs.Lawful.{IsLawful}
use Rattle.dym_chain.specs.Copies.{ChainCopies}
use Rattle.dym_chain.specs.ChainInvariants.{chain_of, IsChain}
use Rattle.dym_chain.specs.declared.entry.Entry.{Entry}
use Rattle.dym_chain.proofs.Places.{first_depth, follows_at, base_is_full, entry_at, count_same}
use Rattle.dym_chain.proofs.Moves.{oldest_drop, depth_fits, without}
use Rattle.std.proofs.lemmas.Bool.{cases_lt, cond-true, cond-false, eq-eqb, ne_eqb, or_left, or_right}
use Rattle.dym_base.specs.RunLaws.{EachFollows}
use Rattle.dym_chain.proofs.Lawfuls.{at_place}

-- as many records as logs
pub records_count : (c : ChainMeaning) → IsLawful c → length c.records ≡ length c.base_logs + length c.logs
records_count c law =
    sym (length-map c.records (λ (r : Numbered). r.bytes)) ∙ ap length law.records ∙ length-map (all_logs c) (record_of law.version) ∙ length-append c.base_logs c.logs

slots_by : (n : ℕ) (logs : List LogEntry) → n ≡ oldest_depth logs → n + length logs ≡ slots logs
slots_by n [] is = omega (arith, is)
slots_by n (e ∷ logs) is = omega (arith, is)

pub slots_are : (c : ChainMeaning) → IsLawful c → length c.records ≡ slots c.logs
slots_are c law = records_count c law ∙ slots_by (length c.base_logs) c.logs law.base

-- the depth of the oldest log is how many stand below it
pub base_is : {kept : List Entry} {capacity : ℕ} {keep : KeepMeaning} {copies : ChainCopies} (d : Entry) → IsChain kept capacity keep copies → 0 < length copies.logs → (get_or kept 0 d).depth ≡ length copies.base_logs
base_is {kept = kept} {copies = copies} d chain some =
    ap (λ (e : Entry). e.depth) (entry_at copies.logs kept 0 d chain.shows.entries some) ∙ first_depth copies.logs some ∙ sym chain.lawful.base

-- what holds where the first logs are dropped
pub record Dropping (keep : KeepMeaning) (copies : ChainCopies) (n base depth : ℕ) : Type 0 where
  pub some : n < length copies.logs
  pub base_is : base ≡ length copies.base_logs
  pub depth_is : depth ≡ oldest_depth (drop n copies.logs)
  pub fits : depth ≤ base + n
  pub inside : base + n - depth < length keep.records
  pub small : base + n < 1024
  pub shallow : depth ≤ 31

pub dropping : {kept : List Entry} {capacity : ℕ} {keep : KeepMeaning} {copies : ChainCopies} (n base depth : ℕ) (d e : Entry) → IsChain kept capacity keep copies → n < length kept → base ≡ (get_or kept 0 d).depth → depth ≡ (get_or kept n e).depth
    → Dropping keep copies n base depth
dropping {kept = kept} {keep = keep} {copies = copies} n base depth d e chain within base_of depth_of =
    let c : ChainMeaning = chain_of copies keep in
    let count = count_same copies.logs kept chain.shows.entries in
    let some : n < length copies.logs = omega (arith, count, within) in
    let at : base ≡ length copies.base_logs = base_of ∙ base_is d chain (omega (arith, some)) in
    let low : depth ≡ (log_at copies.logs n).depth = depth_of ∙ ap (λ (x : Entry). x.depth) (entry_at copies.logs kept n e chain.shows.entries some) in
    let depth_is : depth ≡ oldest_depth (drop n copies.logs) = low ∙ sym (oldest_drop n copies.logs some) in
    let fits = depth_fits c n some chain.lawful in
    let records = records_count c chain.lawful in
    let Small : LogEntry → Type 0 = λ x. x.depth ≤ 31 in
    let shallow : (log_at copies.logs n).depth ≤ 31 = All-from_recursion Small copies.logs chain.lawful.list.1 n no_entry some in
    let first : (log_at copies.logs 0).depth ≤ 31 = All-from_recursion Small copies.logs chain.lawful.list.1 0 no_entry (omega (arith, some)) in
    let first_is = first_depth copies.logs (omega (arith, some)) in
    let few = chain.lawful.list.0 in
    let base_law = chain.lawful.base in
    record {
      some = some;
      base_is = at;
      depth_is = depth_is;
      fits = omega (arith, fits, depth_is, at);
      inside = omega (arith, records, at, some);
      small = omega (arith, at, base_law, first_is, first, some, few);
      shallow = omega (arith, low, shallow);
    }

-- the chain that the fields then show
pub view_drop : {keep keep' : KeepMeaning} {copies copies' : ChainCopies} {n base depth : ℕ} → Dropping keep copies n base depth → keep' ≡ from keep (base + n - depth)
    → copies' ≡ record { base_logs = take depth (drop (length copies.base_logs + n - depth) (copies.base_logs ++ copies.logs)); logs = drop n copies.logs } → chain_of copies' keep' ≡ without n (chain_of copies keep)
view_drop {keep = keep} {keep' = keep'} {copies = copies} {n = n} {base = base} {depth = depth} is keep_is told_is =
    let told : ℕ → ChainCopies = λ d. record { base_logs = take d (drop (length copies.base_logs + n - d) (copies.base_logs ++ copies.logs)); logs = drop n copies.logs } in
    ap (λ (t : ChainCopies). chain_of t keep') told_is
    ∙ ap (chain_of (told depth)) keep_is
    ∙ ap (λ b. chain_of (told depth) (from keep (b + n - depth))) is.base_is
    ∙ ap (λ d. chain_of (told d) (from keep (length copies.base_logs + n - d))) is.depth_is

-- where none is dropped, nothing changes

pub without_none : (c : ChainMeaning) → IsLawful c → without 0 c ≡ c
without_none c law =
    let F : ℕ → ℕ → ChainMeaning = λ d gone. record c { base_logs = take d (drop gone (all_logs c)); records = drop gone c.records } in
    let gone : length c.base_logs + 0 - oldest_depth c.logs ≡ 0 = omega (arith, law.base) in
    ap (F (oldest_depth c.logs)) gone ∙ ap (λ d. F d 0) (sym law.base) ∙ ap (λ (l : List LogEntry). record c { base_logs = l }) (take-append_seam c.base_logs c.logs)

-- ---- what stays below the kept logs as the first of them are dropped: those from the last full one on

-- ---- the last full log of a list

is_full : (e : LogEntry) → e.depth ≡ 0 → (e.depth == 0) ≡ true
is_full e none = eq-eqb e.depth 0 none

none_full : (logs : List LogEntry) → ((i : ℕ) → i < length logs → 0 < (log_at logs i).depth) → has_full logs ≡ false
none_full [] deep = refl
none_full (e ∷ es) deep =
    let some : 0 < e.depth = deep 0 (omega arith) in
    ap (λ b. b || has_full es) (ne_eqb e.depth 0 (λ none. (let no_such : ⊥ = omega (arith, some, none) in no_such)))
    ∙ none_full es (λ i within. deep (suc i) (omega arith))

one_full : (logs : List LogEntry) (i : ℕ) → i < length logs → (log_at logs i).depth ≡ 0 → has_full logs ≡ true
one_full [] i within none = absurd (omega arith)
one_full (e ∷ es) zero within none = or_left (e.depth == 0) (has_full es) (is_full e none)
one_full (e ∷ es) (suc i) within none = or_right (e.depth == 0) (has_full es) (one_full es i (omega arith) none)

-- where log b is full and none after it is, the list from there on
last_full_at : (logs : List LogEntry) (b : ℕ) → b < length logs → (log_at logs b).depth ≡ 0 → ((i : ℕ) → b < i → i < length logs → 0 < (log_at logs i).depth) → from_last_full logs ≡ drop b logs
last_full_at [] b within none deep = absurd (omega arith)
last_full_at (e ∷ es) zero within none deep =
    cond-false (has_full es) (from_last_full es) (e ∷ es) (none_full es (λ i low. deep (suc i) (omega arith) (omega arith)))
last_full_at (e ∷ es) (suc b) within none deep =
    cond-true (has_full es) (from_last_full es) (e ∷ es) (one_full es b (omega arith) none)
    ∙ last_full_at es b (omega arith) none (λ i above low. deep (suc i) (omega arith) (omega arith))

-- ---- the logs between a full one and one that stands on it

deep_between : (logs : List LogEntry) → EachFollows logs → (i d j : ℕ) → i < length logs → (log_at logs i).depth ≡ d → j ≤ i → i < j + d → (log_at logs j).depth + i ≡ d + j
deep_between logs each zero d j within is low near =
    let at : j ≡ 0 = omega arith in
    subst (λ n. (log_at logs n).depth + 0 ≡ d + n) (sym at) (omega (arith, is))
deep_between logs each (suc i) d j within is low near =
    elim (cases_lt j (suc i)) as (λ _. (log_at logs j).depth + suc i ≡ d + j) [
      | inr here ↦ (let at : j ≡ suc i = omega arith in subst (λ n. (log_at logs n).depth + suc i ≡ d + n) (sym at) (omega (arith, is)))
      | inl before ↦
          elim (follows_at logs i each within).1 as (λ _. (log_at logs j).depth + suc i ≡ d + j) [
            | inl none ↦ (let no_such : ⊥ = omega (arith, none, is) in absurd no_such)
            | inr one ↦
                let up : (log_at logs i).depth + 1 ≡ d = sym one ∙ is in
                let rest = deep_between logs each i (log_at logs i).depth j (omega arith) refl (omega arith) (omega (arith, up)) in
                omega (arith, rest, up)
          ]
    ]

-- ---- what is left

pub base_logs_left : (c : ChainMeaning) (n : ℕ) → 0 < n → n < length c.logs → IsLawful c → (without n c).base_logs ≡ dropped_base_logs c.base_logs c.logs n
base_logs_left c n some within law =
    let d : ℕ = oldest_depth (drop n c.logs) in
    let i : ℕ = length c.base_logs + n in
    let b : ℕ = i - d in
    let before : List LogEntry = c.base_logs ++ take n c.logs in
    let fits : d ≤ i = depth_fits c n within law in
    let sum : b + d ≡ i = omega (arith, fits) in
    let inside : i < length (all_logs c) = omega (arith, length-append c.base_logs c.logs, within) in
    let depth : (log_at (all_logs c) i).depth ≡ d = ap (λ (e : LogEntry). e.depth) (at_place c n) ∙ sym (oldest_drop n c.logs within) in
    let is : before ≡ take i (all_logs c) = sym (take-append-add c.base_logs c.logs n) in
    let long : length before ≡ i = ap length is ∙ length-take i (all_logs c) ∙ (let least : Rattle.std.specs.Prelude.min i (length (all_logs c)) ≡ i = omega arith in least) in
    let at : (j : ℕ) → j < i → log_at before j ≡ log_at (all_logs c) j = λ j low. ap (λ (l : List LogEntry). log_at l j) is ∙ get_or-take i (all_logs c) j no_entry low in
    let zero_case : d ≡ 0 → take d (drop b (all_logs c)) ≡ left_base_logs before (drop n c.logs) = λ none.
    ap (λ m. take m (drop b (all_logs c))) none ∙ sym (cond-true (d == 0) [] (from_last_full before) (eq-eqb d 0 none)) in
    let deep_case : 0 < d → take d (drop b (all_logs c)) ≡ left_base_logs before (drop n c.logs) = λ deep.
    sym (drop-take b d (all_logs c))
    ∙ ap (λ m. drop b (take m (all_logs c))) sum
    ∙ ap (drop b) (sym is)
    ∙ sym (last_full_at before b (omega (arith, long, fits, deep))
    (ap (λ (e : LogEntry). e.depth) (at b (omega (arith, fits, deep))) ∙ ap (λ m. (log_at (all_logs c) (i - m)).depth) (sym depth) ∙ base_is_full (all_logs c) law.follows law.full i inside)
    (λ j above low.
    let near : (log_at (all_logs c) j).depth + i ≡ d + j = deep_between (all_logs c) law.follows i d j inside depth (omega (arith, long)) (omega (arith, above, sum)) in
    let same : (log_at before j).depth ≡ (log_at (all_logs c) j).depth = ap (λ (e : LogEntry). e.depth) (at j (omega (arith, long))) in
    omega (arith, near, same, above, sum)))
    ∙ sym (cond-false (d == 0) [] (from_last_full before) (ne_eqb d 0 (λ none. (let no_such : ⊥ = omega (arith, deep, none) in no_such)))) in
    let whole : take d (drop b (all_logs c)) ≡ left_base_logs before (drop n c.logs) = elim (cases_lt 0 d) as (λ _. take d (drop b (all_logs c)) ≡ left_base_logs before (drop n c.logs)) [
      | inl deep ↦ deep_case deep
      | inr none ↦ zero_case (omega (arith, none))
    ] in
    whole ∙ sym (cond-false (n == 0) c.base_logs (left_base_logs before (drop n c.logs)) (ne_eqb n 0 (λ none. (let no_such : ⊥ = omega (arith, some, none) in no_such))))
