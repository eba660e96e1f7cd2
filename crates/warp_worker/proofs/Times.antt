-- The times of a worker's processes are noted one after the other.
use Rattle.std.proofs.Common.{◌≡◌, ℕ, zero, suc, ◌+◌, ◌-◌, ◌<◌, ◌≤◌, ◌⊎◌, min, inl, inr, Option, Some, None, List, [], ◌∷◌, length, take, set, slice_get, refl, ap, sym, subst, ◌∙◌, arith}
use Rattle.std.proofs.lemmas.List.{length-set, nil_from_length}
use Rattle.std.proofs.lemmas.Option.{slice_get_within}
use Rattle.std.proofs.lemmas.Bool.{cases_lt}
use Rattle.warp_base.specs.declared.event.Event.{Event}
use Rattle.warp_process.specs.Processes.{ProcessFace}
use Rattle.warp_worker.specs.Workers.{WorkerFace}
use Rattle.warp_worker.specs.Times.{last_ran, time_or, TellsTimes}

set_here : {X : Type 0} (xs : List X) (i : ℕ) (x : X) → i < length xs → slice_get (set xs i x) i ≡ Some x
set_here [] i x less = absurd (omega (arith, less))
set_here (y ∷ ys) zero x less = refl
set_here (y ∷ ys) (suc i) x less = set_here ys i x (omega (arith, less))

set_apart : {X : Type 0} (xs : List X) (i j : ℕ) (x : X) → (i ≡ j → ⊥) → slice_get (set xs i x) j ≡ slice_get xs j
set_apart [] i j x apart = refl
set_apart (y ∷ ys) zero zero x apart = absurd (apart refl)
set_apart (y ∷ ys) zero (suc j) x apart = refl
set_apart (y ∷ ys) (suc i) zero x apart = refl
set_apart (y ∷ ys) (suc i) (suc j) x apart = set_apart ys i j x (λ same. apart (ap suc same))

-- the last of the first elements
get_last : {X : Type 0} (xs : List X) (n : ℕ) → slice_get (take (suc n) xs) n ≡ slice_get xs n
get_last [] n = refl
get_last (x ∷ xs) zero = refl
get_last (x ∷ xs) (suc n) = get_last xs n

-- what lies outside of some places and one more lies outside of these places, and isn't at the further one
fewer : (first places i : ℕ) → (i < first) ⊎ (first + (places + 1) ≤ i) → (i < first) ⊎ (first + places ≤ i)
fewer first places i (inl low) = inl low
fewer first places i (inr high) = inr (omega (arith, high))

elsewhere : (first places i : ℕ) → (i < first) ⊎ (first + (places + 1) ≤ i) → first + places ≡ i → ⊥
elsewhere first places i (inl low) same = omega (arith, low, same)
elsewhere first places i (inr high) same = omega (arith, high, same)

module _ {P S : Type 0} (w : WorkerFace P S) (committed : List ℕ) where
  -- the times of the first processes are noted
  pub record IsNoted (places : ℕ) (old new : List ℕ) : Type 0 where
    pub count : length new ≡ length old
    pub time : (place : ℕ) (f : ProcessFace P S) → place < places → slice_get w.processes place ≡ Some f
        → slice_get new (w.first + place) ≡ time_or (slice_get committed (w.first + place)) (last_ran f)
    pub others : (i : ℕ) → (i < w.first) ⊎ (w.first + places ≤ i) → slice_get new i ≡ slice_get old i

  -- one time more
  pub noted_more : (places : ℕ) (old new : List ℕ) (f : ProcessFace P S) (time : ℕ) → IsNoted places old new → slice_get w.processes places ≡ Some f → w.first + places < length old
      → Some time ≡ time_or (slice_get committed (w.first + places)) (last_ran f) → IsNoted (places + 1) old (set new (w.first + places) time)
  noted_more places old new f time h there within told = record {
    count = length-set new (w.first + places) time ∙ h.count;
    time = λ place g less at.
        elim (cases_lt place places) as (λ _. slice_get (set new (w.first + places) time) (w.first + place) ≡ time_or (slice_get committed (w.first + place)) (last_ran g)) [
          | inl before ↦ set_apart new (w.first + places) (w.first + place) time (λ same. omega (arith, same, before)) ∙ h.time place g before at
          | inr behind ↦ (
              let is : places ≡ place = omega (arith, less, behind) in
              subst (λ k. slice_get (set new (w.first + places) time) (w.first + k) ≡ time_or (slice_get committed (w.first + k)) (last_ran g)) is
              (set_here new (w.first + places) time (let count = h.count in omega (arith, within, count)) ∙ told ∙ ap (λ x. time_or (slice_get committed (w.first + places)) (last_ran x)) (one f g there (subst (λ k. slice_get w.processes k ≡ Some g) (sym is) at)))
              )
        ];
    others = λ i apart. set_apart new (w.first + places) i time (elsewhere w.first places i apart) ∙ h.others i (fewer w.first places i apart);
  }
    where
      one : (x y : ProcessFace P S) → slice_get w.processes places ≡ Some x → slice_get w.processes places ≡ Some y → x ≡ y
      one x y first second = let both : Some x ≡ Some y = sym first ∙ second in cc

  -- all that have a place
  pub noted_all : (places : ℕ) (old new : List ℕ) → IsNoted places old new → places ≤ length w.processes
      → (places < length w.processes → min (length committed) (length old) ≤ w.first + places) → TellsTimes w committed old new
  noted_all places old new h few all = record {
    count = h.count;
    time = λ place f at known inside. h.time place f (within place f at known inside) at;
    others = λ i apart. h.others i (wider i apart);
  }
    where
      within : (place : ℕ) (f : ProcessFace P S) → slice_get w.processes place ≡ Some f → w.first + place < length committed → w.first + place < length old → place < places
      within place f at known inside =
          let less = slice_get_within w.processes place f at in
          elim (cases_lt place places) as (λ _. place < places) [
            | inl before ↦ before
            | inr behind ↦ (let past = all (omega (arith, less, behind)) in omega (arith, past, known, inside, behind))
          ]

      wider : (i : ℕ) → (i < w.first) ⊎ (w.first + length w.processes ≤ i) → (i < w.first) ⊎ (w.first + places ≤ i)
      wider i (inl low) = inl low
      wider i (inr high) = inr (omega (arith, high, few))

-- the last event that a process has run, as its call tells it
module _ {P S : Type 0} (f : ProcessFace P S) where
  last_of_some : 0 < length f.marks → last_ran f ≡ slice_get f.events (length f.marks - 1)
  last_of_some some =
      let n = length f.marks - 1 in
      let is : length f.marks ≡ suc n = omega (arith, some) in
      ap (λ k. slice_get (take k f.events) n) is ∙ get_last f.events n

  last_of_none : f.marks ≡ [] → last_ran f ≡ None
  last_of_none none = ap (λ marks. slice_get (take (length marks) f.events) (length marks - 1)) none

  pub last_told : (last : Option (Event P)) → (0 < length f.marks → last ≡ slice_get f.events (length f.marks - 1)) → (f.marks ≡ [] → last ≡ None) → last ≡ last_ran f
  last_told last some none =
      elim (cases_lt 0 (length f.marks)) as (λ _. last ≡ last_ran f) [
        | inl more ↦ some more ∙ sym (last_of_some more)
        | inr few ↦ (let empty = nil_from_length f.marks (omega (arith, few)) in none empty ∙ sym (last_of_none empty))
      ]
