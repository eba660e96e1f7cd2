-- The bytes of a header, part by part.
use Rattle.std.proofs.Common.{◌≡◌, ℕ, ◌<◌, ◌≤◌, zero, suc, List, [], ◌∷◌, ◌++◌, length, take, drop, get_or, codes, sym, ap, ◌∙◌, arith}
use Rattle.std.specs.Int.{w32, to_le_bytes, from_le_bytes}
use Rattle.std.proofs.lemmas.List.{append_assoc, length-take, take-append-drop}
use Rattle.std.proofs.lemmas.Nat.{le_bytes_4}
use Rattle.dym_base.specs.Files.{FileHead, IsFileHead, head_bytes, version_number}
use Rattle.dym_ckpt.specs.Heads.{AreWithin, from_name}

four_behind : (a q v d left : List ℕ) → a ++ q ++ v ++ d ++ left ≡ a ++ (q ++ (v ++ (d ++ left)))
four_behind a q v d left = append_assoc (a ++ q ++ v) d left ∙ append_assoc (a ++ q) v (d ++ left) ∙ append_assoc a q (v ++ (d ++ left))

pub head_parts : (h : FileHead) (left : List ℕ) → head_bytes h ++ left ≡ codes "DYMCKPT1" ++ from_name h left
unfolding head_bytes
head_parts h left =
    four_behind (codes "DYMCKPT1" ++ length h.name ∷ h.name) (to_le_bytes w32 h.quota) (version_number h.version ∷ to_le_bytes w32 h.count) (h.depth ∷ []) left

pub first_same : (x y : ℕ) (xs ys : List ℕ) → x ∷ xs ≡ y ∷ ys → (x ≡ y) × (xs ≡ ys)
first_same x y xs ys same = (ap (λ zs. get_or zs 0 0) same, ap (drop 1) same)

pub within_said : (h : FileHead) (quota count depth : ℕ) → quota ≡ h.quota → count ≡ h.count → depth ≡ h.depth → IsFileHead h → AreWithin quota count depth
within_said h quota count depth quotas counts depths good = record {
  some_quota = omega (arith, quotas, good.some_quota);
  within = omega (arith, quotas, good.within);
  few = omega (arith, counts, good.few);
  shallow = omega (arith, depths, good.shallow);
  kept = omega (arith, counts, depths, good.kept);
  none = λ is. depths ∙ good.none (sym counts ∙ is);
  some = λ is. omega (arith, counts, depths, good.some (omega (arith, counts, is)));
}

pub said_is : (a : FileHead) (h : FileHead) → a.name ≡ h.name → a.quota ≡ h.quota → a.version ≡ h.version → a.count ≡ h.count → a.depth ≡ h.depth → a ≡ h
said_is a h names quotas versions counts depths =
    ap (λ x. record { name = x; quota = a.quota; version = a.version; count = a.count; depth = a.depth }) names
    ∙ ap (λ x. record { name = h.name; quota = x; version = a.version; count = a.count; depth = a.depth }) quotas
    ∙ ap (λ x. record { name = h.name; quota = h.quota; version = x; count = a.count; depth = a.depth }) versions
    ∙ ap (λ x. record { name = h.name; quota = h.quota; version = h.version; count = x; depth = a.depth }) counts
    ∙ ap (λ x. record { name = h.name; quota = h.quota; version = h.version; count = h.count; depth = x }) depths

-- what was read is put together again
pub head_read : (h : FileHead) (bytes behind quota version count depth left : List ℕ) → bytes ≡ codes "DYMCKPT1" ++ behind → behind ≡ length h.name ∷ h.name ++ quota → quota ≡ to_le_bytes w32 h.quota ++ version → version ≡ version_number h.version ∷ count → count ≡ to_le_bytes w32 h.count ++ depth → depth ≡ h.depth ∷ left → bytes ≡ head_bytes h ++ left
head_read h bytes behind quota version count depth left at_start at_name at_quota at_version at_count at_depth =
    at_start
    ∙ ap (λ ys. codes "DYMCKPT1" ++ ys) (at_name
    ∙ ap (λ ys. length h.name ∷ h.name ++ ys) (at_quota
    ∙ ap (λ ys. to_le_bytes w32 h.quota ++ ys) (at_version
    ∙ ap (λ ys. version_number h.version ∷ ys) (at_count
    ∙ ap (λ ys. to_le_bytes w32 h.count ++ ys) at_depth))))
    ∙ sym (head_parts h left)

take_small : (bytes : List ℕ) → ((i : ℕ) → get_or bytes i 0 < 256) → (n i : ℕ) → get_or (take n bytes) i 0 < 256
take_small bytes small zero i = omega arith
take_small [] small (suc n) i = omega arith
take_small (b ∷ bytes) small (suc n) zero = small 0
take_small (b ∷ bytes) small (suc n) (suc i) = take_small bytes (λ j. small (suc j)) n i

pub number_is : (bytes four rest : List ℕ) (n : ℕ) → ((i : ℕ) → get_or bytes i 0 < 256) → 4 ≤ length bytes → four ≡ take 4 bytes → rest ≡ drop 4 bytes → n ≡ from_le_bytes w32 four → bytes ≡ to_le_bytes w32 n ++ rest
number_is bytes four rest n small long front behind value =
    let back : to_le_bytes w32 n ≡ take 4 bytes
    = le_bytes_4 (take 4 bytes) n (length-take 4 bytes ∙ omega arith) (take_small bytes small 4) (value ∙ ap (from_le_bytes w32) front) in
    sym (take-append-drop 4 bytes) ∙ ap (λ ys. ys ++ drop 4 bytes) (sym back) ∙ ap (λ ys. to_le_bytes w32 n ++ ys) (sym behind)
