-- Of bytes there is one reading as a file.
use Rattle.std.proofs.Common.{◌≡◌, ℕ, zero, suc, ◌+◌, ◌^◌, ◌<◌, ◌≤◌, ◌⊎◌, List, [], ◌∷◌, ◌++◌, length, map, take, drop, get_or, refl, sym, ap, subst, ◌∙◌, arith, inl, inr}
use Rattle.std.specs.Int.{w32, to_le_bytes, from_le_bytes}
use Rattle.std.specs.List.{AllByRecursion, flat_map}
use Rattle.std.proofs.lemmas.Grind.{flat_map-append}
use Rattle.std.proofs.lemmas.List.{append-nil, append_assoc, length-append}
use Rattle.std.proofs.lemmas.Nat.{from_le_bytes-to_le_bytes_4}
use Rattle.dym_base.specs.Files.{FileHead, IsFileHead, head_bytes, version_number, framed, ReadsTo, NextFails}
use Rattle.dym_base.specs.LawfulLists.{IsRecordOf, IsLawful, IsLawfulList, StartsFull, EachMayFollow, depths_from, depth_after}
use Rattle.dym_base.specs.Packed.{Logged, packed}
use Rattle.dym_base.specs.Recorded.{IsRecorded}
use Rattle.dym_base.specs.declared.limits.TheConstants.{MOST_DEPTH}
use Rattle.dym_base.specs.declared.command.Version.{Version}
use Rattle.dym_base.specs.declared.command.Version.TheVariants.{One, Two}
use Rattle.dym_base.specs.declared.command.Kind.TheVariants.{Inc}
use Rattle.dym_pack.proofs.Unique.{split_same}
use Rattle.dym_ckpt.specs.Heads.{from_name, from_quota, from_version, from_depth}
use Rattle.dym_ckpt.specs.Laws.{FilesHaveOneReading, NoFileFails, OnePartFails}
use Rattle.dym_ckpt.proofs.Headers.{head_parts, said_is}
use Rattle.dym_ckpt.proofs.RecordLengths.{record_short}

-- ---- numbers and framed bytes

number_same : (m n : ℕ) (xs ys : List ℕ) → m < 2 ^ 32 → n < 2 ^ 32 → to_le_bytes w32 m ++ xs ≡ to_le_bytes w32 n ++ ys → (m ≡ n) × (xs ≡ ys)
number_same m n xs ys small also same =
    (sym (from_le_bytes-to_le_bytes_4 m small) ∙ ap (λ zs. from_le_bytes w32 (take 4 zs)) same ∙ from_le_bytes-to_le_bytes_4 n also, ap (drop 4) same)

framed_same : (x y xs ys : List ℕ) → length x < 2 ^ 32 → length y < 2 ^ 32 → framed x ++ xs ≡ framed y ++ ys → (x ≡ y) × (xs ≡ ys)
framed_same x y xs ys small also same =
    let lens = number_same (length x) (length y) (x ++ xs) (y ++ ys) small also same in
    split_same x y xs ys lens.0 lens.1

-- ---- headers

version_same : (v w : Version) → version_number v ≡ version_number w → v ≡ w
version_same One One same = refl
version_same One Two same = absurd (omega (arith, same))
version_same Two One same = absurd (omega (arith, same))
version_same Two Two same = refl

pub head_same : (g h : FileHead) (xs ys : List ℕ) → IsFileHead g → IsFileHead h → head_bytes g ++ xs ≡ head_bytes h ++ ys → (g ≡ h) × (xs ≡ ys)
head_same g h xs ys good also same =
    let behind : from_name g xs ≡ from_name h ys = ap (drop 8) (sym (head_parts g xs) ∙ same ∙ head_parts h ys) in
    let names = split_same g.name h.name (from_quota g xs) (from_quota h ys) (ap (λ zs. get_or zs 0 0) behind) (ap (drop 1) behind) in
    let quotas = number_same g.quota h.quota (from_version g xs) (from_version h ys) (omega (arith, good.within)) (omega (arith, also.within)) names.1 in
    let version : g.version ≡ h.version = version_same g.version h.version (ap (λ zs. get_or zs 0 0) quotas.1) in
    let counts = number_same g.count h.count (from_depth g xs) (from_depth h ys) (omega (arith, good.few)) (omega (arith, also.few)) (ap (drop 1) quotas.1) in
    (said_is g h names.0 quotas.0 version counts.0 (ap (λ zs. get_or zs 0 0) counts.1), ap (drop 1) counts.1)

-- ---- records

-- one list of records goes on where the other ends
pub record GoesOn (qs rs : List (List ℕ)) (xs ys : List ℕ) : Type 0 where
  pub more : List (List ℕ)
  pub is : rs ≡ qs ++ more
  pub left : xs ≡ flat_map framed more ++ ys

goes_on : (qs rs : List (List ℕ)) (xs ys : List ℕ) → AllByRecursion (λ (x : List ℕ). length x < 2 ^ 32) qs → AllByRecursion (λ (x : List ℕ). length x < 2 ^ 32) rs → flat_map framed qs ++ xs ≡ flat_map framed rs ++ ys → GoesOn qs rs xs ys ⊎ GoesOn rs qs ys xs
goes_on [] rs xs ys small also same = inl (record { more = rs; is = refl; left = same })
goes_on (q ∷ qs) [] xs ys small also same = inr (record { more = q ∷ qs; is = refl; left = sym same })
goes_on (q ∷ qs) (r ∷ rs) xs ys small also same =
    let first = framed_same q r (flat_map framed qs ++ xs) (flat_map framed rs ++ ys) small.0 also.0
    (sym (append_assoc (framed q) (flat_map framed qs) xs) ∙ same ∙ append_assoc (framed r) (flat_map framed rs) ys) in
    elim (goes_on qs rs xs ys small.1 also.1 first.1) as (λ _. GoesOn (q ∷ qs) (r ∷ rs) xs ys ⊎ GoesOn (r ∷ rs) (q ∷ qs) ys xs) [
      | inl on ↦ inl (record { more = on.more; is = ap (λ z. z ∷ rs) (sym first.0) ∙ ap (λ zs. q ∷ zs) on.is; left = on.left })
      | inr on ↦ inr (record { more = on.more; is = ap (λ z. z ∷ qs) first.0 ∙ ap (λ zs. r ∷ zs) on.is; left = on.left })
    ]

records_short : (v : Version) (quota : ℕ) (records : List (List ℕ)) → AllByRecursion (IsRecordOf v quota) records → AllByRecursion (λ (x : List ℕ). length x < 2 ^ 32) records
records_short v quota [] each = tt
records_short v quota (x ∷ records) each = (record_short v quota x each.0, records_short v quota records each.1)

-- ---- the front of a lawful list

all_front : {X : Type 0} (P : X → Type 0) (xs ys : List X) → AllByRecursion P (xs ++ ys) → AllByRecursion P xs
all_front P [] ys each = tt
all_front P (x ∷ xs) ys each = (each.0, all_front P xs ys each.1)

base_front : (d : ℕ) (xs ys : List Logged) → AllByRecursion (λ (x : Logged). x.kind ≡ Inc) (take d (xs ++ ys)) → AllByRecursion (λ (x : Logged). x.kind ≡ Inc) (take d xs)
base_front zero xs ys each = tt
base_front (suc d) [] ys each = tt
base_front (suc d) (x ∷ xs) ys each = (each.0, base_front d xs ys each.1)

depths_front : (n : ℕ) (xs ys : List Logged) → AllByRecursion (λ depth. depth ≤ MOST_DEPTH) (depths_from n (xs ++ ys)) → AllByRecursion (λ depth. depth ≤ MOST_DEPTH) (depths_from n xs)
depths_front n [] ys each = tt
depths_front n (x ∷ xs) ys each = (each.0, depths_front (depth_after n x.kind) xs ys each.1)

follow_front : (xs ys : List Logged) → EachMayFollow (xs ++ ys) → EachMayFollow xs
follow_front [] ys each = tt
follow_front (x ∷ []) ys each = (tt, tt)
follow_front (x ∷ y ∷ xs) ys each = (each.0, follow_front (y ∷ xs) ys each.1)

lawful_front : (v : Version) (d : ℕ) (xs ys : List Logged) → IsLawful v d (xs ++ ys) → IsLawful v d xs
lawful_front v d xs ys is = record {
  recorded = all_front IsRecorded xs ys is.recorded;
  version = all_front (λ (x : Logged). x.version ≡ v) xs ys is.version;
  full = full xs is.full;
  base = base xs is.base;
  shallow = depths_front 0 xs ys is.shallow;
  follow = follow_front xs ys is.follow;
}
  where
    full : (xs : List Logged) → StartsFull (xs ++ ys) → StartsFull xs
    full [] starts = tt
    full (x ∷ xs) starts = starts

    base : (xs : List Logged) → AllByRecursion (λ (x : Logged). x.kind ≡ Inc) (take d (drop 1 (xs ++ ys))) → AllByRecursion (λ (x : Logged). x.kind ≡ Inc) (take d (drop 1 xs))
    base [] each = base_front d [] (drop 1 ys) each
    base (x ∷ xs) each = base_front d xs ys each

-- logs whose records are two lists one after the other
record Parted (logs : List Logged) (rs qs : List (List ℕ)) : Type 0 where
  front : List Logged
  back : List Logged
  is : logs ≡ front ++ back
  are : map packed front ≡ rs

parted : (logs : List Logged) (rs qs : List (List ℕ)) → map packed logs ≡ rs ++ qs → Parted logs rs qs
parted logs [] qs are = record { front = []; back = logs; is = refl; are = refl }
parted [] (r ∷ rs) qs are = absurd (omega (arith, ap length are))
parted (x ∷ logs) (r ∷ rs) qs are =
    let rest = parted logs rs qs (ap (drop 1) are) in
    record {
      front = x ∷ rest.front;
      back = rest.back;
      is = ap (λ zs. x ∷ zs) rest.is;
      are = ap (λ z. z ∷ map packed rest.front) (ap (λ (zs : List (List ℕ)). get_or zs 0 []) are) ∙ ap (λ zs. r ∷ zs) rest.are;
    }

list_front : (v : Version) (d : ℕ) (rs qs : List (List ℕ)) → IsLawfulList v d (rs ++ qs) → IsLawfulList v d rs
list_front v d rs qs list =
    let parts = parted list.0 rs qs list.2 in
    (parts.front, lawful_front v d parts.front parts.back (subst (IsLawful v d) parts.is list.1), parts.are)

-- ---- readings

reads_front : (bytes : List ℕ) (h : FileHead) (rs qs : List (List ℕ)) (left : List ℕ) → ReadsTo bytes h (rs ++ qs) left → ReadsTo bytes h rs (flat_map framed qs ++ left)
reads_front bytes h rs qs left read = record {
  good = read.good;
  few = omega (arith, read.few, length-append rs qs);
  each = all_front (IsRecordOf h.version h.quota) rs qs read.each;
  lawful = list_front h.version h.depth rs qs read.lawful;
  are = read.are
      ∙ ap (λ ys. head_bytes h ++ ys ++ left) (flat_map-append framed rs qs)
      ∙ ap (λ ys. ys ++ left) (sym (append_assoc (head_bytes h) (flat_map framed rs) (flat_map framed qs)))
      ∙ append_assoc (head_bytes h ++ flat_map framed rs) (flat_map framed qs) left;
}

-- two readings of the same bytes have one header, and one of them goes on where the other ends
record Both (g h : FileHead) (qs rs : List (List ℕ)) (xs ys : List ℕ) : Type 0 where
  heads : g ≡ h
  on : GoesOn qs rs xs ys ⊎ GoesOn rs qs ys xs

both : (bytes : List ℕ) (g h : FileHead) (qs rs : List (List ℕ)) (xs ys : List ℕ) → ReadsTo bytes g qs xs → ReadsTo bytes h rs ys → Both g h qs rs xs ys
both bytes g h qs rs xs ys read also =
    let same = head_same g h (flat_map framed qs ++ xs) (flat_map framed rs ++ ys) read.good also.good
    (sym (append_assoc (head_bytes g) (flat_map framed qs) xs) ∙ sym read.are ∙ also.are ∙ append_assoc (head_bytes h) (flat_map framed rs) ys) in
    record {
      heads = same.0;
      on = goes_on qs rs xs ys (records_short g.version g.quota qs read.each) (records_short h.version h.quota rs also.each) same.1;
    }

-- nothing goes on that is as long
nothing_on : (qs rs more : List (List ℕ)) → rs ≡ qs ++ more → length qs ≡ length rs → qs ≡ rs
nothing_on qs rs [] is same = sym (append-nil qs) ∙ sym is
nothing_on qs rs (x ∷ more) is same = absurd (omega (arith, same, ap length is, length-append qs (x ∷ more)))

pub one_reading : FilesHaveOneReading
one_reading bytes g h qs rs file also =
    let is = both bytes g h qs rs [] [] file.read also.read in
    let long : length qs ≡ length rs = file.whole ∙ ap (λ (x : FileHead). x.count) is.heads ∙ sym also.whole in (
      is.heads,
      elim is.on as (λ _. qs ≡ rs) [
        | inl on ↦ nothing_on qs rs on.more on.is long
        | inr on ↦ sym (nothing_on rs qs on.more on.is (sym long))
      ],
    )

-- a reading can't go on where the next part fails
never_on : (bytes : List ℕ) (part : ℕ) (fails : NextFails bytes part) (more : List (List ℕ)) (left x : List ℕ) → ReadsTo bytes fails.head (fails.records ++ x ∷ more) left → ⊥
never_on bytes part fails more left x read =
    fails.next x (flat_map framed more ++ left)
    (reads_front bytes fails.head (fails.records ++ x ∷ []) more left (subst (λ rs. ReadsTo bytes fails.head rs left) (sym (append_assoc fails.records (x ∷ []) more)) read))

pub no_file : NoFileFails
no_file bytes h rs part file fails =
    elim fails as (λ _. ⊥) [
      | inl head ↦ head.0 h (flat_map framed rs ++ []) (reads_front bytes h [] rs [] file.read)
      | inr next ↦ next_part next
    ]
  where
    ends : (next : NextFails bytes part) (heads : next.head ≡ h) (more : List (List ℕ)) → rs ≡ next.records ++ more → next.left ≡ flat_map framed more ++ [] → ⊥
    ends next heads [] is left = next.end (ap length (sym (append-nil next.records) ∙ sym is) ∙ file.whole ∙ ap (λ (x : FileHead). x.count) (sym heads)) left
    ends next heads (x ∷ more) is left =
        never_on bytes part next more [] x (subst (λ zs. ReadsTo bytes next.head zs []) is (subst (λ g. ReadsTo bytes g rs []) (sym heads) file.read))

    past : (next : NextFails bytes part) (heads : next.head ≡ h) (more : List (List ℕ)) → next.records ≡ rs ++ more → [] ≡ flat_map framed more ++ next.left → ⊥
    past next heads [] is left = next.end (ap length (is ∙ append-nil rs) ∙ file.whole ∙ ap (λ (x : FileHead). x.count) (sym heads)) (sym left)
    past next heads (x ∷ more) is left = absurd (omega (arith, ap length left, length-append (framed x) (flat_map framed more), length-append (framed x ++ flat_map framed more) next.left))

    next_part : NextFails bytes part → ⊥
    next_part next =
        let is = both bytes next.head h next.records rs next.left [] next.read file.read in
        elim is.on as (λ _. ⊥) [
          | inl on ↦ ends next is.heads on.more on.is on.left
          | inr on ↦ past next is.heads on.more on.is on.left
        ]

same_part : (bytes : List ℕ) (p q : ℕ) (a : NextFails bytes p) (b : NextFails bytes q) → a.head ≡ b.head → (more : List (List ℕ)) → b.records ≡ a.records ++ more → p ≡ q
same_part bytes p q a b heads [] is = a.at ∙ ap (λ (rs : List (List ℕ)). length rs + 1) (sym (append-nil a.records) ∙ sym is) ∙ sym b.at
same_part bytes p q a b heads (x ∷ more) is =
    absurd (never_on bytes p a more b.left x (subst (λ zs. ReadsTo bytes a.head zs b.left) is (subst (λ g. ReadsTo bytes g b.records b.left) (sym heads) b.read)))

pub one_part : OnePartFails
one_part bytes p q first second =
    elim first as (λ _. p ≡ q) [
      | inl a ↦ elim second as (λ _. p ≡ q) [
        | inl b ↦ a.1 ∙ sym b.1
        | inr b ↦ absurd (a.0 b.head (flat_map framed b.records ++ b.left) (reads_front bytes b.head [] b.records b.left b.read))
      ]
      | inr a ↦ elim second as (λ _. p ≡ q) [
        | inl b ↦ absurd (b.0 a.head (flat_map framed a.records ++ a.left) (reads_front bytes a.head [] a.records a.left a.read))
        | inr b ↦ (
            let is = both bytes a.head b.head a.records b.records a.left b.left a.read b.read in
            elim is.on as (λ _. p ≡ q) [
              | inl on ↦ same_part bytes p q a b is.heads on.more on.is
              | inr on ↦ sym (same_part bytes q p b a (sym is.heads) on.more on.is)
            ])
      ]
    ]
