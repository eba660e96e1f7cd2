-- What the bytes of a record say, area by area, before there is a map.
use Rattle.std.specs.Prelude.{◌≡◌, ◌⊎◌, ℕ, ◌+◌, ◌<◌, ◌≤◌, ◌^◌, true, Bool, List, [], ◌∷◌, ◌++◌, length, drop}
use Rattle.std.specs.Int.{w32, w64, to_le_bytes}
use Rattle.std.specs.List.{AllByRecursion, flat_map, filter, list_any, range_with_len}
use Rattle.dym_base.specs.Numbers.{per}
use Rattle.dym_base.specs.Laws.{IsLengthOf}
use Rattle.dym_base.specs.Packed.{kind_byte, bitmap, touched_bits, packed_chunk}
use Rattle.dym_base.specs.declared.command.Version.{Version}
use Rattle.dym_base.specs.declared.command.Kind.{Kind}
use Rattle.dym_base.specs.declared.command.Kind.TheVariants.{Full, Inc}
use Rattle.dym_base.specs.declared.limits.TheConstants.{LEAST_EXPONENT, GREATEST_EXPONENT}
use Rattle.dym_pack.specs.Offsets.{name_bytes}
use Rattle.dym_pack.specs.declared.parsed_area.ParsedMaps.{ParsedMaps}
use Rattle.dym_pack.specs.declared.parsed_area.ParsedArea.{ParsedArea}

-- an area: its class and its ordinal, which of its chunks are used and which are touched, and the bytes of each
pub record Content : Type 0 where
  pub exponent : ℕ
  pub ordinal : ℕ
  pub used : ℕ → Bool
  pub touched : ℕ → Bool
  pub chunk : ℕ → List ℕ

-- which chunks a record of a kind packs, by the bits
abbrev pub picks : Kind → (ℕ → Bool) → (ℕ → Bool) → ℕ → Bool
picks Full used touched = used
picks Inc used touched = touched

-- whether one of the first n is set
abbrev pub has_some : ℕ → (ℕ → Bool) → Bool
has_some n used = list_any used (range_with_len 0 n)

-- those of the first n that are set
abbrev pub picked : ℕ → (ℕ → Bool) → List ℕ
picked n is_set = filter is_set (range_with_len 0 n)

-- the packed chunks of an area, and its bytes
abbrev pub content_body : Version → Kind → Content → List ℕ
content_body v kind a = flat_map (λ i. packed_chunk v (a.chunk i)) (picked (per a.exponent) (picks kind a.used a.touched))

unfoldable pub content_bytes : Version → Kind → Content → List ℕ
content_bytes v kind a =
    name_bytes a.exponent a.ordinal
    ++ (bitmap (per a.exponent) a.used
    ++ (touched_bits kind (per a.exponent) a.touched
    ++ content_body v kind a))

-- an area that a record of a version can have
pub record IsContent (v : Version) (a : Content) : Type 0 where
  pub least : LEAST_EXPONENT ≤ a.exponent
  pub most : a.exponent ≤ GREATEST_EXPONENT
  pub small : a.ordinal < 2 ^ 32
  pub sized : (i : ℕ) → i < per a.exponent → a.used i ≡ true → IsLengthOf v a.exponent (length (a.chunk i))
  pub touched : (i : ℕ) → i < per a.exponent → a.touched i ≡ true → a.used i ≡ true

-- an area of class e and ordinal o may stand where the one before it is of a class, is followed by this ordinal in its class, and
-- has a used chunk or not
abbrev pub Follows : ℕ → ℕ → Bool → ℕ → ℕ → Type 0
Follows exponent next used e o = ((e ≡ exponent) × (o ≡ next)) ⊎ ((exponent < e) × (used ≡ true) × (o ≡ 0))

-- these areas may stand there: exponents and ordinals rise without a gap, and the last of each class has a used chunk
abbrev pub AreOrdered : ℕ → ℕ → Bool → List Content → Type 0
AreOrdered exponent next used [] = used ≡ true
AreOrdered exponent next used (a ∷ others) =
    Follows exponent next used a.exponent a.ordinal × AreOrdered a.exponent (a.ordinal + 1) (has_some (per a.exponent) a.used) others

-- what stands before them
abbrev pub head_bytes : Version → Kind → ℕ → ℕ → List ℕ
head_bytes v kind time count = kind_byte v kind ∷ to_le_bytes w64 time ++ to_le_bytes w32 count

abbrev pub contents_bytes : Version → Kind → List Content → List ℕ
contents_bytes v kind contents = flat_map (content_bytes v kind) contents

-- where each area begins, from a place on, and where the last one ends
abbrev pub starts_from : Version → Kind → ℕ → List Content → List ℕ
starts_from v kind at [] = at ∷ []
starts_from v kind at (a ∷ others) = at ∷ starts_from v kind (at + length (content_bytes v kind a)) others

-- ---- what is read of bytes

-- the bytes begin with the bitmaps of an area of class e
pub record IsMaps (kind : Kind) (e : ℕ) (bytes : List ℕ) (parsed : ParsedMaps) : Type 0 where
  pub used : ℕ → Bool
  pub touched : ℕ → Bool
  pub rest : List ℕ
  pub within : (i : ℕ) → i < per e → touched i ≡ true → used i ≡ true
  pub are : bytes ≡ bitmap (per e) used ++ (touched_bits kind (per e) touched ++ rest)
  pub some : parsed.used ≡ has_some (per e) used
  pub count : parsed.packed ≡ length (picked (per e) (picks kind used touched))
  pub long : parsed.len ≡ length (bitmap (per e) used) + length (touched_bits kind (per e) touched)

-- the bytes begin with n packed chunks of class e, which take so many bytes
pub record IsBody (v : Version) (e n : ℕ) (bytes : List ℕ) (len : ℕ) : Type 0 where
  pub chunks : List (List ℕ)
  pub rest : List ℕ
  pub count : length chunks ≡ n
  pub sized : AllByRecursion (λ (chunk : List ℕ). IsLengthOf v e (length chunk)) chunks
  pub are : bytes ≡ flat_map (packed_chunk v) chunks ++ rest
  pub long : len ≡ length (flat_map (packed_chunk v) chunks)

-- the bytes begin with an area
pub record IsSeen (v : Version) (kind : Kind) (bytes : List ℕ) (parsed : ParsedArea) : Type 0 where
  pub content : Content
  pub rest : List ℕ
  pub is : IsContent v content
  pub are : bytes ≡ content_bytes v kind content ++ rest
  pub exp : parsed.exp ≡ content.exponent
  pub ordinal : parsed.ordinal ≡ content.ordinal
  pub used : parsed.used ≡ has_some (per content.exponent) content.used
  pub len : parsed.len ≡ length (content_bytes v kind content)

-- the bytes from a place on are so many areas that may stand behind the one before it, and nothing else
pub record AreLeft (v : Version) (kind : Kind) (bytes : List ℕ) (count exponent next : ℕ) (used : Bool) : Type 0 where
  pub contents : List Content
  pub many : length contents ≡ count
  pub each : AllByRecursion (IsContent v) contents
  pub ordered : AreOrdered exponent next used contents
  pub are : bytes ≡ contents_bytes v kind contents

-- the areas of a whole record, and where they begin
pub record HaveOffsets (v : Version) (kind : Kind) (bytes : List ℕ) (count : ℕ) (starts : List ℕ) : Type 0 where
  pub contents : List Content
  pub many : length contents ≡ count
  pub each : AllByRecursion (IsContent v) contents
  pub ordered : AreOrdered 5 0 true contents
  pub are : drop 13 bytes ≡ contents_bytes v kind contents
  pub placed : starts ≡ starts_from v kind 13 contents

-- so many areas were read up to a place, behind which others may stand
pub record AreRead (v : Version) (kind : Kind) (bytes : List ℕ) (at count exponent next : ℕ) (used : Bool) (starts : List ℕ) : Type 0 where
  pub contents : List Content
  pub many : length contents ≡ count
  pub each : AllByRecursion (IsContent v) contents
  pub ordered : (more : List Content) → AreOrdered exponent next used more → AreOrdered 5 0 true (contents ++ more)
  pub are : drop 13 bytes ≡ contents_bytes v kind contents ++ drop at bytes
  pub placed : starts ++ at ∷ [] ≡ starts_from v kind 13 contents
  pub behind : at ≡ 13 + length (contents_bytes v kind contents)
