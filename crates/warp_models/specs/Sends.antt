-- What a model sends.
use Rattle.std.specs.Prelude.{◌^◌, nat_lt, Bool, cond, true, false, List, [], ◌∷◌}
use Rattle.warp_base.specs.declared.event.Draft.{Draft}
use Rattle.warp_base.specs.Events.{Each}

-- a draft, unless 64 bits don't hold its time: then nothing
abbrev pub in_time : {P : Type 0} → Draft P → List (Draft P)
in_time draft = cond (nat_lt draft.time (2 ^ 64)) (draft ∷ []) []

pub Each-cond : {X : Type 0} (Q : X → Type 0) (b : Bool) (xs ys : List X) → Each Q xs → Each Q ys → Each Q (cond b xs ys)
Each-cond Q true xs ys one two = one
Each-cond Q false xs ys one two = two

pub Each-in_time : {P : Type 0} (Q : Draft P → Type 0) (draft : Draft P) → Q draft → Each Q (in_time draft)
Each-in_time Q draft h = Each-cond Q (nat_lt draft.time (2 ^ 64)) (draft ∷ []) [] (h, tt) tt
