-- Which segment an area gets, where a supply binds its segments to areas.
use Rattle.std.specs.Prelude.{◌≡◌, ℕ, ◌+◌, ◌*◌, ◌<◌, List, [], ◌∷◌, slice_index_or, Option, None, Some, ⊤}
use Rattle.std.proofs.Common.{ap, sym, ◌∙◌}
use Rattle.std.proofs.lemmas.Nat.{div-mul-add, mod-mul-add}
use Prim.Native.Nat.{◌/◌, ◌%◌}
use Rattle.std.specs.Option.{ForSome}
use Rattle.dym_base.specs.Origins.{Origin, own, shared}
use Rattle.dym_region.specs.declared.segment.SegmentId.{SegmentId}
use Rattle.dym_quota.specs.HeldIds.{IsHeld}

-- the identity of the segment that area `o` of class `c` gets, for a supply that binds them
abbrev pub Binding : Type 0
Binding = Option (ℕ → ℕ → SegmentId)

-- the area's segment is not out
abbrev pub IsFreeFor : Binding → List SegmentId → ℕ → ℕ → Type 0
IsFreeFor None ids c o = ⊤
IsFreeFor (Some f) ids c o = IsHeld ids (f c o) → ⊥

-- a segment is that of the area
abbrev pub IsBoundTo : Binding → ℕ → ℕ → SegmentId → Type 0
IsBoundTo None c o one = ⊤
IsBoundTo (Some f) c o one = one ≡ f c o

-- two areas of a quota of q never get one segment
abbrev pub AreApart : Binding → ℕ → Type 0
AreApart None q = ⊤
AreApart (Some f) q = (c o c' o' : ℕ) → o < q → o' < q → f c o ≡ f c' o' → (c ≡ c') × (o ≡ o')

-- area o of class c gets segment c * q + o of a region
abbrev pub bound_in : ℕ → ℕ → Binding
bound_in region q = Some (λ c o. record { region = region; number = c * q + o })

pub bound_in_apart : (region q : ℕ) → AreApart (bound_in region q) q
bound_in_apart region q c o c' o' l l' same =
    let e : c * q + o ≡ c' * q + o' = ap (λ (x : SegmentId). x.number) same in
    (sym (div-mul-add c q o l) ∙ ap (λ n. n / q) e ∙ div-mul-add c' q o' l', sym (mod-mul-add c q o l) ∙ ap (λ n. n % q) e ∙ mod-mul-add c' q o' l')

-- a supply with a region of its own has it as its origin, by the region's block
abbrev pub region_origin : ℕ → Origin
region_origin region = shared (record { words = 0; slots = 0; views_name = 0; atom = 0; block = region; offset = 0; slot_names = [] })

-- such a supply binds areas to the region's segments
abbrev pub bound_by : Origin → ℕ → Binding
bound_by own q = None
bound_by (shared name) q = bound_in name.block q

pub bound_by_apart : (origin : Origin) (q : ℕ) → AreApart (bound_by origin q) q
bound_by_apart own q = tt
bound_by_apart (shared name) q = bound_in_apart name.block q

module _ {X : Type 0} where
  -- the segments that are there
  abbrev pub present : List (Option X) → List X
  present [] = []
  present (None ∷ xs) = present xs
  present (Some x ∷ xs) = x ∷ present xs

  -- the segments of a region that are out, of those from number `from` on: those whose places are empty
  abbrev pub missing : ℕ → ℕ → List (Option X) → List SegmentId
  missing region from [] = []
  missing region from (None ∷ xs) = record { region = region; number = from } ∷ missing region (from + 1) xs
  missing region from (Some x ∷ xs) = missing region (from + 1) xs

  -- each one that is there stands at its number
  abbrev pub AreNumbered : (X → SegmentId) → ℕ → List (Option X) → Type 0
  AreNumbered id region xs = (i : ℕ) → ForSome (slice_index_or xs i None) (λ x. ((id x).region ≡ region) × ((id x).number ≡ i))
