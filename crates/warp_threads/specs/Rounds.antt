-- What a round does to lanes.
use Rattle.std.specs.Prelude.{List, [], ◌∷◌, map, All}
use Rattle.std.specs.List.{AllZip, zip}

-- each lane may be advanced by its order
abbrev pub AllMayAdvance : {O L : Type 0} → (O → L → Type 0) → List O → List L → Type 0
AllMayAdvance may orders lanes = All (λ x. may x.0 x.1) (zip orders lanes)

-- each lane is the lane that stood in its place before, advanced by the order for that place
abbrev pub AllAdvanced : {O L : Type 0} → (O → L → L → Type 0) → List O → List L → List L → Type 0
AllAdvanced advances orders before after = AllZip (λ x lane. advances x.0 x.1 lane) (zip orders before) after

-- one thread has each of these values
abbrev pub one_each : {P : Type 0} → List P → List (List P)
one_each values = map (λ x. x ∷ []) values
