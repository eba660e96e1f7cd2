-- Records that were read, with one more.
use Rattle.std.proofs.Common.{◌≡◌, ℕ, ◌+◌, ◌-◌, ◌<◌, List, [], ◌∷◌, ◌++◌, length, get_or, map, take, refl, sym, ap, subst, ◌∙◌, arith}
use Rattle.std.specs.List.{AllByRecursion}
use Rattle.std.proofs.lemmas.List.{length-append, length-map, map-append, get_or-append_right}
use Rattle.std.proofs.Math.ListN.{get_or-map}
use Rattle.std.proofs.Math.Seq.{take-append_seam}
use Rattle.dym_base.specs.LawfulLists.{IsRecordOf, IsLawful, IsLawfulList, MayFollow, depth_after}
use Rattle.dym_base.specs.Packed.{Logged, packed}
use Rattle.dym_base.specs.Recorded.{IsRecorded}
use Rattle.dym_base.specs.declared.command.Version.{Version}
use Rattle.dym_base.specs.declared.command.Kind.{Kind}
use Rattle.dym_pack.specs.ParsedAreas.{OfLog}
use Rattle.dym_slots.specs.Meanings.{Numbered, KeepMeaning, no_record, with_record}
use Rattle.dym_chain.specs.Keeps.{bytes_of}
use Rattle.dym_ckpt.specs.Lists.{OfLogs, last_depth, FitsPlace, IsListed, last_bytes}
use Rattle.dym_ckpt.specs.declared.records.RecordList.{RecordList}
use Rattle.dym_ckpt.proofs.Lists.{all_front, all_last, lawful_more, lawful_fits, lawful_follows, last_depth_more}

-- ---- the last of a list

-- a list that isn't empty has a last element
pub record Ends {X : Type 0} (xs : List X) : Type 0 where
  pub front : List X
  pub last : X
  pub is : xs ≡ front ++ last ∷ []

pub ends : {X : Type 0} (x : X) (xs : List X) → Ends (x ∷ xs)
ends x [] = record { front = []; last = x; is = refl }
ends x (y ∷ xs) = let e = ends y xs in record { front = x ∷ e.front; last = e.last; is = ap (λ zs. x ∷ zs) e.is }

pub some_ends : {X : Type 0} (xs : List X) → 0 < length xs → Ends xs
some_ends [] some = absurd (omega (arith, some))
some_ends (x ∷ xs) some = ends x xs

pub at_end : {X : Type 0} (xs : List X) (x d : X) → get_or (xs ++ x ∷ []) (length (xs ++ x ∷ []) - 1) d ≡ x
at_end xs x d =
    let long : length (xs ++ x ∷ []) - 1 ≡ length xs = omega (arith, length-append xs (x ∷ [])) in
    let none : length xs - length xs ≡ 0 = omega arith in
    ap (λ n. get_or (xs ++ x ∷ []) n d) long ∙ get_or-append_right xs (x ∷ []) (length xs) (length xs) d refl (omega arith) ∙ ap (λ n. get_or (x ∷ []) n d) none

without_last : (xs : List (List ℕ)) (x : List ℕ) → take (length (xs ++ x ∷ []) - 1) (xs ++ x ∷ []) ≡ xs
without_last xs x = ap (λ n. take n (xs ++ x ∷ [])) (omega (arith, length-append xs (x ∷ []))) ∙ take-append_seam xs (x ∷ [])

fronts : (xs ys : List (List ℕ)) (x y : List ℕ) → xs ++ x ∷ [] ≡ ys ++ y ∷ [] → xs ≡ ys
fronts xs ys x y same = sym (without_last xs x) ∙ ap (λ zs. take (length zs - 1) zs) same ∙ without_last ys y

-- logs of records with one more
pub record Apart (logs : List Logged) (records : List (List ℕ)) (more : List ℕ) : Type 0 where
  pub front : List Logged
  pub last : Logged
  pub is : logs ≡ front ++ last ∷ []
  pub are : map packed front ≡ records
  pub same : packed last ≡ more

pub apart : (logs : List Logged) (records : List (List ℕ)) (more : List ℕ) → map packed logs ≡ records ++ more ∷ [] → Apart logs records more
apart logs records more are =
    let long : 0 < length logs = omega (arith, ap length are, length-map logs packed, length-append records (more ∷ [])) in
    let e = some_ends logs long in
    let both : map packed e.front ++ packed e.last ∷ [] ≡ records ++ more ∷ [] = sym (map-append packed e.front (e.last ∷ [])) ∙ sym (ap (map packed) e.is) ∙ are in
    record {
      front = e.front;
      last = e.last;
      is = e.is;
      are = fronts (map packed e.front) records (packed e.last) more both;
      same = sym (at_end (map packed e.front) (packed e.last) []) ∙ ap (λ xs. get_or xs (length xs - 1) []) both ∙ at_end records more [];
    }

pub last_is : (records : List Numbered) (ys : List (List ℕ)) (y : List ℕ) → bytes_of records ≡ ys ++ y ∷ [] → last_bytes records ≡ y
last_is records ys y are =
    let long : length records ≡ length (bytes_of records) = sym (length-map records (λ (r : Numbered). r.bytes)) in
    ap (λ n. (get_or records (n - 1) no_record).bytes) long
    ∙ sym (get_or-map (λ (r : Numbered). r.bytes) records (length (bytes_of records) - 1) no_record)
    ∙ ap (λ (xs : List (List ℕ)). get_or xs (length xs - 1) []) are
    ∙ at_end ys y []

-- ---- one record more

count_of : (logs : List Logged) (records : List Numbered) → map packed logs ≡ bytes_of records → length logs ≡ length records
count_of logs records are = sym (length-map logs packed) ∙ ap length are ∙ length-map records (λ (r : Numbered). r.bytes)

pub never_next : (v : Version) (d : ℕ) (records : List Numbered) (depth : ℕ) (rec more : List ℕ) → rec ≡ more → OfLogs (bytes_of records) (λ logs. depth ≡ last_depth 0 logs)
    → OfLog rec (λ log. FitsPlace d (length records) depth log.kind → (0 < length records) × OfLog (last_bytes records) (λ b. MayFollow b log → ⊥))
    → IsLawfulList v d (bytes_of records ++ more ∷ []) → ⊥
never_next v d records depth rec more is_rec deep never list =
    let parts = apart list.0 (bytes_of records) more list.2 in
    let is : IsLawful v d (parts.front ++ parts.last ∷ []) = subst (IsLawful v d) parts.is list.1 in
    let fits = lawful_fits v d parts.front parts.last is in
    let depths = deep parts.front (all_front IsRecorded parts.front parts.last is.recorded) parts.are in
    let here = subst (λ n. FitsPlace d n depth parts.last.kind) (count_of parts.front records parts.are) (subst (λ n. FitsPlace d (length parts.front) n parts.last.kind) (sym depths) fits) in
    let no = never parts.last (all_last IsRecorded parts.front parts.last is.recorded) (parts.same ∙ sym is_rec) here in
    let e = some_ends parts.front (omega (arith, no.0, count_of parts.front records parts.are)) in
    let whole : IsLawful v d ((e.front ++ e.last ∷ []) ++ parts.last ∷ []) = subst (λ xs. IsLawful v d (xs ++ parts.last ∷ [])) e.is is in
    let recorded = all_last IsRecorded e.front e.last (subst (AllByRecursion IsRecorded) e.is (all_front IsRecorded parts.front parts.last is.recorded)) in
    no.1 e.last recorded (sym (last_is records (map packed e.front) (packed e.last) (sym parts.are ∙ ap (map packed) e.is ∙ map-append packed e.front (e.last ∷ [])))) (lawful_follows v d e.front e.last parts.last whole)

pub list_next : (v : Version) (quota d : ℕ) (records : List Numbered) (depth : ℕ) (rec more : List ℕ) → rec ≡ more → IsLawfulList v d (bytes_of records) → OfLogs (bytes_of records) (λ logs. depth ≡ last_depth 0 logs)
    → IsRecordOf v quota more → OfLog rec (λ log. FitsPlace d (length records) depth log.kind) → (0 < length records → OfLog (last_bytes records) (λ b. OfLog rec (λ log. MayFollow b log)))
    → IsLawfulList v d (bytes_of records ++ more ∷ [])
list_next v quota d records depth rec more is_rec list deep of fits follows =
    let logs = list.0 in
    let is = list.1 in
    let log = of.0 in
    let here = subst (λ n. FitsPlace d n (last_depth 0 logs) log.kind) (sym (count_of logs records list.2)) (subst (λ n. FitsPlace d (length records) n log.kind) (deep logs is.recorded list.2) (fits log of.1.recorded (of.2 ∙ sym is_rec))) in (
      logs ++ log ∷ [],
      lawful_more v d logs log is of.1.recorded of.1.version here
          (λ front b same.
          let long : 0 < length records = omega (arith, count_of logs records list.2, ap length same, length-append front (b ∷ [])) in
          let recorded = all_last IsRecorded front b (subst (AllByRecursion IsRecorded) same is.recorded) in
          follows long b recorded (sym (last_is records (map packed front) (packed b) (sym list.2 ∙ ap (map packed) same ∙ map-append packed front (b ∷ [])))) log of.1.recorded (of.2 ∙ sym is_rec)),
      map-append packed logs (log ∷ []) ∙ ap (λ xs. xs ++ packed log ∷ []) list.2 ∙ ap (λ x. bytes_of records ++ x ∷ []) of.2,
    )

pub depth_next : (records : List (List ℕ)) (depth : ℕ) (rec more : List ℕ) (kind : Kind) → rec ≡ more → OfLogs records (λ logs. depth ≡ last_depth 0 logs) → OfLog rec (λ log. kind ≡ log.kind) → OfLogs (records ++ more ∷ []) (λ logs. depth_after depth kind ≡ last_depth 0 logs)
depth_next records depth rec more kind is_rec deep kinds logs recorded are =
    let parts = apart logs records more are in
    let each = subst (AllByRecursion IsRecorded) parts.is recorded in
    ap (λ n. depth_after n kind) (deep parts.front (all_front IsRecorded parts.front parts.last each) parts.are)
    ∙ ap (depth_after (last_depth 0 parts.front)) (kinds parts.last (all_last IsRecorded parts.front parts.last each) (parts.same ∙ sym is_rec))
    ∙ sym (last_depth_more 0 parts.front parts.last)
    ∙ ap (last_depth 0) (sym parts.is)

pub listed_next : (v : Version) (quota d : ℕ) (record_list : RecordList) (keep mid : KeepMeaning) (rec more : List ℕ) (kind : Kind) (depth : ℕ) → IsListed v d record_list → rec ≡ more → IsRecordOf v quota more
    → OfLog rec (λ log. FitsPlace d (length record_list.keep.records) record_list.depth log.kind)
    → (0 < length record_list.keep.records → OfLog (last_bytes record_list.keep.records) (λ b. OfLog rec (λ log. MayFollow b log)))
    → OfLog rec (λ log. kind ≡ log.kind) → depth ≡ depth_after record_list.depth kind → mid ≡ record_list.keep → keep ≡ with_record mid rec
    → IsListed v d (record { keep = keep; depth = depth })
listed_next v quota d record_list keep mid rec more kind depth is is_rec of fits follows kinds depths same put =
    let put_here : keep ≡ with_record record_list.keep rec = put ∙ ap (λ k. with_record k rec) same in
    let all : bytes_of keep.records ≡ bytes_of record_list.keep.records ++ more ∷ []
    = ap (λ (k : KeepMeaning). bytes_of k.records) put_here
    ∙ map-append (λ (r : Numbered). r.bytes) record_list.keep.records (record { number = record_list.keep.made; bytes = rec } ∷ [])
    ∙ ap (λ x. bytes_of record_list.keep.records ++ x ∷ []) is_rec in
    record {
      idle = ap (λ (k : KeepMeaning). k.lifted) put_here ∙ is.idle;
      made = ap (λ (k : KeepMeaning). k.made) put_here ∙ ap (λ n. n + 1) is.made
          ∙ sym (ap (λ (k : KeepMeaning). length k.records) put_here ∙ length-append record_list.keep.records (record { number = record_list.keep.made; bytes = rec } ∷ []));
      own_room = ap (λ (k : KeepMeaning). k.origin) put_here ∙ is.own_room;
      lawful = subst (IsLawfulList v d) (sym all) (list_next v quota d record_list.keep.records record_list.depth rec more is_rec is.lawful is.depth of fits follows);
      depth = λ logs recorded are. depths ∙ depth_next (bytes_of record_list.keep.records) record_list.depth rec more kind is_rec is.depth kinds logs recorded (are ∙ all);
    }
