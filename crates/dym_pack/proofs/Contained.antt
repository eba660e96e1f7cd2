-- The areas that a log has, as its bytes say them.
use Rattle.std.proofs.Common.{◌≡◌, ℕ, zero, suc, ◌+◌, ◌-◌, ◌*◌, ◌%◌, ◌^◌, ◌<◌, ◌≤◌, ◌⊎◌, Bool, true, false, ◌||◌, Option, Some, None, is_some, unwrap_or, Result, Ok, Err, IfErr, List, [], ◌∷◌, ◌++◌, length, map, take, drop, get_or, refl, sym, ap, subst, ◌∙◌, arith, inl, inr}
use Rattle.std.specs.Int.{w32, w64, to_le_bytes, from_le_bytes}
use Rattle.std.specs.List.{flat_map, range_with_len, list_any, AllByRecursion}
use Rattle.std.specs.FinMap.{get, contains_key}
use Rattle.std.specs.FinSet.{contains}
use Rattle.std.proofs.lemmas.Bool.{cases_eq, true≢false}
use Rattle.std.proofs.lemmas.List.{length-map, append-nil, length-append, map-append, take-append-drop, length-take, length-drop, drop-drop}
use Rattle.std.proofs.lemmas.Nat.{div-add-mod', pow_pos, le_bytes_4, le_bytes_8, from_le_bytes-to_le_bytes_4}
use Rattle.std.proofs.lemmas.Option.{same_Some}
use Rattle.dym_base.specs.Numbers.{per, number, index_of}
use Rattle.dym_base.specs.Heaps.{areas, held}
use Rattle.dym_base.specs.Laws.{IsLengthOf}
use Rattle.dym_base.specs.Packed.{Logged, kind_byte, packs_by, packed_chunk, packed}
use Rattle.dym_base.specs.Recorded.{IsRecorded}
use Rattle.dym_base.specs.LawfulLists.{IsLogOf}
use Rattle.dym_base.specs.declared.command.Version.{Version}
use Rattle.dym_base.specs.declared.command.Kind.{Kind}
use Rattle.dym_base.specs.declared.command.Kind.TheVariants.{Full, Inc}
use Rattle.dym_base.proofs.Heaps.{areas_held, areas_reached}
use Rattle.dym_base.proofs.Sizes.{exponent_of_number}
use Rattle.dym_pack.specs.Areas.{AreaName, area_list}
use Rattle.dym_pack.specs.Offsets.{name_bytes, header, area_bytes}
use Rattle.dym_pack.specs.Contents.{Content, IsContent, picks, has_some, content_body, content_bytes, contents_bytes, head_bytes, Follows, AreOrdered, AreLeft}
use Rattle.dym_pack.proofs.Bitmaps.{length_bitmap}
use Rattle.dym_pack.proofs.Fronts.{packed_is}
use Rattle.dym_pack.proofs.Named.{named, row, area_list_is, length_areas, index_small, most_per, IsArea, each_area}
use Rattle.dym_pack.proofs.Ranges.{filter_same}
use Rattle.dym_pack.proofs.Seen.{use_part, touched_part, content_parts, content_len}
use Rattle.dym_pack.proofs.Unique.{num, area_parts, body_of, packs_of}

-- an area of a log
abbrev pub content_of : Logged → AreaName → Content
content_of log x = record {
  exponent = x.exponent;
  ordinal = x.ordinal;
  used = λ i. contains_key log.copy (num x i);
  touched = λ i. contains log.found (num x i);
  chunk = λ i. unwrap_or (get log.copy (num x i)) [];
}

picks_are : (log : Logged) (x : AreaName) (i : ℕ) → packs_of log x i ≡ picks log.kind (content_of log x).used (content_of log x).touched i
picks_are log x i = elim log.kind as (λ d. packs_by d log.copy log.found (num x i) ≡ picks d (λ j. contains_key log.copy (num x j)) (λ j. contains log.found (num x j)) i) [ Full ↦ refl | Inc ↦ refl ]

body_is : (log : Logged) (x : AreaName) → body_of log x ≡ content_body log.version log.kind (content_of log x)
body_is log x =
    ap (flat_map (λ i. packed_chunk log.version (unwrap_or (get log.copy (num x i)) [])))
    (filter_same (packs_of log x) (picks log.kind (content_of log x).used (content_of log x).touched) (per x.exponent) 0 (λ j low high. picks_are log x j))

area_is_content : (log : Logged) (x : AreaName) → area_bytes log x ≡ content_bytes log.version log.kind (content_of log x)
area_is_content log x =
    let a = content_of log x in
    let all : area_bytes log x ++ [] ≡ content_bytes log.version log.kind a ++ []
    = area_parts log x []
    ∙ ap (λ ys. name_bytes x.exponent x.ordinal ++ (use_part a ++ (touched_part log.kind a ++ (ys ++ [])))) (body_is log x)
    ∙ sym (content_parts log.version log.kind a []) in
    sym (append-nil (area_bytes log x)) ∙ all ∙ append-nil (content_bytes log.version log.kind a)

areas_are_contents : (log : Logged) (xs : List AreaName) → flat_map (area_bytes log) xs ≡ contents_bytes log.version log.kind (map (content_of log) xs)
areas_are_contents log [] = refl
areas_are_contents log (x ∷ xs) =
    ap (λ ys. ys ++ flat_map (area_bytes log) xs) (area_is_content log x)
    ∙ ap (λ ys. content_bytes log.version log.kind (content_of log x) ++ ys) (areas_are_contents log xs)

content_is : (log : Logged) → IsRecorded log → (x : AreaName) → IsArea log.copy x → IsContent log.version (content_of log x)
content_is log ok x is =
    let few : x.ordinal < 1024 = omega (arith, is.there, areas_held log.copy x.exponent is.least is.most, ok.few) in
    record {
      least = is.least;
      most = is.most;
      small = omega arith;
      sized = λ i inside has. elim (get log.copy (num x i)) as (λ o. get log.copy (num x i) ≡ o → is_some o ≡ true → IsLengthOf log.version x.exponent (length (unwrap_or o []))) [
        | Some b ↦ λ at some. subst (λ e. IsLengthOf log.version e (length b)) (exponent_of_number x.exponent (x.ordinal * per x.exponent + i) (index_small x.ordinal (per x.exponent) i few (most_per x.exponent is.least) inside)) (ok.sized (num x i) b at).2
        | None ↦ λ at some. absurd (true≢false (sym some))
      ] refl has;
      touched = λ i inside mark. ok.found_live (num x i) mark;
    }

each_content : (log : Logged) → IsRecorded log → (xs : List AreaName) → AllByRecursion (IsArea log.copy) xs → AllByRecursion (IsContent log.version) (map (content_of log) xs)
each_content log ok [] each = tt
each_content log ok (x ∷ xs) each = (content_is log ok x each.0, each_content log ok xs each.1)

-- ---- their order

any_from : (p : ℕ → Bool) (n from i : ℕ) → from ≤ i → i < from + n → p i ≡ true → list_any p (range_with_len from n) ≡ true
any_from p zero from i low high hit = absurd (omega arith)
any_from p (suc n) from i low high hit =
    elim (cases_eq i from) [
      | inl here ↦ ap (λ b. b || list_any p (range_with_len (from + 1) n)) (sym (ap p here) ∙ hit)
      | inr later ↦ either (p from) _ (any_from p n (from + 1) i (omega arith) (omega arith) hit)
    ]
  where
    either : (x y : Bool) → y ≡ true → (x || y) ≡ true
    either true y is = refl
    either false y is = is

last_has : (log : Logged) (e o : ℕ) → areas log.copy e ≡ o + 1 → has_some (per e) (content_of log (named e o)).used ≡ true
last_has log e o is =
    let at = areas_reached log.copy e o is in
    let k = at.0 in
    let i = index_of k % per e in
    let some : 1 ≤ per e = pow_pos (16 - e) in
    let inside : i < per e = omega arith in
    let index : o * per e + i ≡ index_of k = ap (λ q. q * per e + i) (sym at.3) ∙ div-add-mod' (index_of k) (per e) in
    let whole : number e (index_of k) ≡ k = (let class = at.2 in omega arith) in
    let here : num (named e o) i ≡ k = ap (number e) index ∙ whole in
    any_from (content_of log (named e o)).used (per e) 0 i (omega arith) (omega arith) (ap (contains_key log.copy) here ∙ at.1)

row_ordered : (log : Logged) (e n o exponent next : ℕ) (used : Bool) (tail : List Content) → Follows exponent next used e o → o + suc n ≡ areas log.copy e → AreOrdered e (areas log.copy e) true tail → AreOrdered exponent next used (map (content_of log) (map (named e) (range_with_len o (suc n))) ++ tail)
row_ordered log e zero o exponent next used tail follows all behind =
    let count : areas log.copy e ≡ o + 1 = omega arith in
    (follows, subst (λ u. AreOrdered e (o + 1) u tail) (sym (last_has log e o count)) (subst (λ m. AreOrdered e m true tail) count behind))
row_ordered log e (suc n) o exponent next used tail follows all behind =
    (follows, row_ordered log e n (o + 1) e (o + 1) (has_some (per e) (content_of log (named e o)).used) tail (inl (refl, refl)) (omega arith) behind)

rows_ordered : (log : Logged) (d e exponent next : ℕ) → (exponent < e) ⊎ ((e ≡ exponent) × (next ≡ 0)) → AreOrdered exponent next true (map (content_of log) (flat_map (row log.copy) (range_with_len e d)))
rows_ordered log zero e exponent next behind = refl
rows_ordered log (suc d) e exponent next behind =
    let names = flat_map (row log.copy) (range_with_len (e + 1) d) in
    let Goal : ℕ → Type 0 = λ n. AreOrdered exponent next true (map (content_of log) (map (named e) (range_with_len 0 n) ++ names)) in
    let low : exponent ≤ e = elim behind [ inl below ↦ omega arith | inr same ↦ omega (arith, same.0) ] in
    let follows : Follows exponent next true e 0 = elim behind [ inl below ↦ inr (below, refl, refl) | inr same ↦ inl (same.0, sym same.1) ] in
    elim (areas log.copy e) as (λ n. areas log.copy e ≡ n → Goal n) [
      | zero ↦ λ none. rows_ordered log d (e + 1) exponent next (inl (omega arith))
      | suc n ↦ λ count.
          subst (AreOrdered exponent next true) (sym (map-append (content_of log) (map (named e) (range_with_len 0 (suc n))) names))
          (row_ordered log e n 0 exponent next true (map (content_of log) names) follows (omega arith) (rows_ordered log d (e + 1) e (areas log.copy e) (inl (omega arith))))
    ] refl

-- what the bytes of a log are
pub left_of_log : (log : Logged) → IsRecorded log → AreLeft log.version log.kind (flat_map (area_bytes log) (area_list log.copy)) (held log.copy) 5 0 true
left_of_log log ok =
    let names = area_list_is log.copy in
    record {
      contents = map (content_of log) (area_list log.copy);
      many = length-map (area_list log.copy) (content_of log) ∙ length_areas log.copy;
      each = each_content log ok (area_list log.copy) (subst (AllByRecursion (IsArea log.copy)) (sym names) (each_area log.copy));
      ordered = subst (λ xs. AreOrdered 5 0 true (map (content_of log) xs)) (sym names) (rows_ordered log 12 5 5 0 (inr (refl, refl)));
      are = areas_are_contents log (area_list log.copy);
    }

contents_long : (v : Version) (kind : Kind) (cs : List Content) → 6 * length cs ≤ length (contents_bytes v kind cs)
contents_long v kind [] = omega arith
contents_long v kind (a ∷ cs) =
    omega (arith, contents_long v kind cs, length-append (content_bytes v kind a) (contents_bytes v kind cs), content_len v kind a, length_bitmap (per a.exponent) a.used)

pub record Headed (v : Version) (bytes : List ℕ) (log : Logged) : Type 0 where
  pub head : bytes ≡ head_bytes v log.kind log.time (held log.copy) ++ drop 13 bytes
  pub left : AreLeft v log.kind (drop 13 bytes) (held log.copy) 5 0 true
  pub room : 13 + 6 * held log.copy ≤ length bytes

pub headed : (v : Version) (quota : ℕ) (bytes : List ℕ) (log : Logged) → IsLogOf v quota log → packed log ≡ bytes → Headed v bytes log
headed v quota bytes log is are =
    let body = flat_map (area_bytes log) (area_list log.copy) in
    let apart : bytes ≡ header log ++ body = sym are ∙ packed_is log in
    let behind : drop 13 bytes ≡ body = ap (drop 13) apart in
    let left = left_of_log log is.recorded in
    let there = subst (λ bs. AreLeft log.version log.kind bs (held log.copy) 5 0 true) (sym behind) left in
    record {
      head = apart
          ∙ ap (λ w. head_bytes w log.kind log.time (held log.copy) ++ body) is.version
          ∙ ap (λ ys. head_bytes v log.kind log.time (held log.copy) ++ ys) (sym behind);
      left = subst (λ w. AreLeft w log.kind (drop 13 bytes) (held log.copy) 5 0 true) is.version there;
      room = omega (arith, ap length apart, length-append (header log) body, ap length left.are, contents_long log.version log.kind left.contents, left.many);
    }

-- ---- the header

front_small : (bytes : List ℕ) → ((i : ℕ) → get_or bytes i 0 < 256) → (n i : ℕ) → get_or (take n bytes) i 0 < 256
front_small bytes small zero i = omega arith
front_small [] small (suc n) i = omega arith
front_small (b ∷ bytes) small (suc n) zero = small 0
front_small (b ∷ bytes) small (suc n) (suc i) = front_small bytes (λ j. small (suc j)) n i

rest_small : (bytes : List ℕ) → ((i : ℕ) → get_or bytes i 0 < 256) → (n i : ℕ) → get_or (drop n bytes) i 0 < 256
rest_small bytes small zero i = small i
rest_small [] small (suc n) i = omega arith
rest_small (b ∷ bytes) small (suc n) i = rest_small bytes (λ j. small (suc j)) n i

pub header_is : (v : Version) (kind : Kind) (bytes : List ℕ) (count : ℕ) → ((i : ℕ) → get_or bytes i 0 < 256) → 13 ≤ length bytes → get_or bytes 0 0 ≡ kind_byte v kind → count ≡ from_le_bytes w32 (take 4 (drop 9 bytes)) → bytes ≡ head_bytes v kind (from_le_bytes w64 (take 8 (drop 1 bytes))) count ++ drop 13 bytes
header_is v kind [] count small room first is = absurd (omega arith)
header_is v kind (b ∷ bs) count small room first is =
    let time = from_le_bytes w64 (take 8 bs) in
    let rest : List ℕ = drop 8 bs in
    let times : to_le_bytes w64 time ≡ take 8 bs = le_bytes_8 (take 8 bs) time (length-take 8 bs ∙ omega arith) (front_small bs (λ i. small (suc i)) 8) refl in
    let counts : to_le_bytes w32 count ≡ take 4 rest = le_bytes_4 (take 4 rest) count (length-take 4 rest ∙ omega (arith, length-drop 8 bs)) (front_small rest (rest_small bs (λ i. small (suc i)) 8) 4) is in
    let end : drop 4 rest ≡ drop 12 bs = drop-drop 4 8 bs in
    ap (λ x. x ∷ bs) first
    ∙ ap (λ ys. kind_byte v kind ∷ ys)
    (sym (take-append-drop 8 bs)
    ∙ ap (λ ys. take 8 bs ++ ys) (sym (take-append-drop 4 rest))
    ∙ ap (λ ys. ys ++ (take 4 rest ++ drop 4 rest)) (sym times)
    ∙ ap (λ ys. to_le_bytes w64 time ++ (ys ++ drop 4 rest)) (sym counts)
    ∙ ap (λ ys. to_le_bytes w64 time ++ (to_le_bytes w32 count ++ ys)) end)

pub header_count : (v : Version) (kind : Kind) (bytes rest : List ℕ) (time count : ℕ) → count < 2 ^ 32 → bytes ≡ head_bytes v kind time count ++ rest → (get_or bytes 0 0 ≡ kind_byte v kind) × (from_le_bytes w32 (take 4 (drop 9 bytes)) ≡ count)
header_count v kind bytes rest time count small is = (ap (λ bs. get_or bs 0 0) is, ap (λ bs. from_le_bytes w32 (take 4 (drop 9 bs))) is ∙ from_le_bytes-to_le_bytes_4 count small)

pub time_small : (bs : List ℕ) → ((i : ℕ) → get_or bs i 0 < 256) → from_le_bytes w64 bs < 2 ^ 64
time_small bs small = omega (arith, small 0, small 1, small 2, small 3, small 4, small 5, small 6, small 7)

pub first_time : (bytes : List ℕ) → ((i : ℕ) → get_or bytes i 0 < 256) → from_le_bytes w64 (take 8 (drop 1 bytes)) < 2 ^ 64
first_time bytes small = time_small (take 8 (drop 1 bytes)) (front_small (drop 1 bytes) (rest_small bytes small 1) 8)

abbrev pub head_pair : Kind → ℕ → Option (Kind × ℕ)
head_pair kind count = Some (kind, count)

pub same_heads : (kind other : Kind) (n m : ℕ) → head_pair kind n ≡ head_pair other m → (kind ≡ other) × (n ≡ m)
same_heads kind other n m is =
    let x : Kind × ℕ = (kind, n) in
    let y : Kind × ℕ = (other, m) in
    let pair : x ≡ y = same_Some x y is in
    (ap (λ (z : Kind × ℕ). z.0) pair, ap (λ (z : Kind × ℕ). z.1) pair)

pub if_err : {T E : Type 0} (r : Result T E) (P Q : E → Type 0) → ((e : E) → P e → Q e) → IfErr r P → IfErr r Q
if_err r P Q follows = elim r as (λ x. IfErr x P → IfErr x Q) [ Ok x ↦ λ none. none | Err e ↦ follows e ]
