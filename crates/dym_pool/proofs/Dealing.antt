-- Dealing from the last job to the first: of w places, job j comes to the place j % w.
use Rattle.std.proofs.Common.{◌≡◌, ℕ, zero, suc, ◌+◌, ◌-◌, ◌*◌, ◌/◌, ◌%◌, ◌<◌, ◌≤◌, inl, inr, List, length, set, get_or, sym, subst, arith, suc-mul, mod-lt, div-add-mod', mul-le-mul_right, lt_of_mul-lt-mul_right, zero-mul, mul_comm, length-set, get_or-set_same, get_or-set_other}
use Rattle.std.proofs.lemmas.Bool.{cases_eq}
use Rattle.std.proofs.Math.Nat.{lt_of_mul-lt-mul_left}

-- the place k has some of `count` jobs already, and t of the first `left` ones are to come: together no more than its share
abbrev Due : ℕ → ℕ → ℕ → ℕ → ℕ → Type 0
Due w count left k has = (t : ℕ) × (left ≤ t * w + k) × (has * w + t * w + k < count + w)

due_all : (w count k : ℕ) → k < w → Due w count count k 0
due_all w count k l =
    let m = count + (w - 1) - k in
    let split = div-add-mod' m w in
    let rest : m % w < w = mod-lt m (omega (arith, l)) in
    (m / w, omega (arith, l, split, rest), omega (arith, l, split, rest))

due_some : (w count job has t : ℕ) → job + 1 ≤ t * w + job % w → has * w + t * w + job % w < count + w → (has * w < count) × Due w count job (job % w) (has + 1)
due_some w count job has zero few fits = let split = div-add-mod' job w in absurd (omega (arith, split, few))
due_some w count job has (suc t) few fits =
    let split = div-add-mod' job w in
    let more : suc t * w ≡ t * w + w = suc-mul t w in
    let before : job / w < suc t = lt_of_mul-lt-mul_right w (omega (arith, split, few, more)) in
    let below : job / w * w ≤ t * w = mul-le-mul_right w (omega (arith, before)) in
    let one : suc has * w ≡ has * w + w = suc-mul has w in
    (omega (arith, fits, more), (t, omega (arith, split, below), omega (arith, fits, more, one)))

-- one that is due at its place comes, and there was room for it
due_one : (w count job has : ℕ) → Due w count (job + 1) (job % w) has → (has * w < count) × Due w count job (job % w) (has + 1)
due_one w count job has due = due_some w count job has due.0 due.1 due.2

some_place : (w room n : ℕ) → n < w * room → 0 < w
some_place zero room n h = let none = zero-mul room in absurd (omega (arith, none, h))
some_place (suc w) room n h = omega arith

module _ {X : Type 0} (size capacity : X → ℕ) where
  -- the first `left` jobs are still to be dealt, and each place has room for those that come to it
  abbrev pub Deals : List X → ℕ → Type 0
  Deals xs left =
      (room : ℕ) × (count : ℕ) × (count < length xs * room)
      × ((k : ℕ) (d : X) → k < length xs → (room ≤ capacity (get_or xs k d)) × Due (length xs) count left k (size (get_or xs k d)))

  pub deals_none : (xs : List X) (left room : ℕ) → left < length xs * room → ((k : ℕ) (d : X) → k < length xs → (size (get_or xs k d) ≡ 0) × (room ≤ capacity (get_or xs k d))) → Deals xs left
  deals_none xs left room few each =
      (room, left, few, λ k d l. let it = each k d l in (it.1, subst (λ (n : ℕ). Due (length xs) left left k n) (sym it.0) (due_all (length xs) left k l)))

  pub deals_place : (xs : List X) (left job : ℕ) → Deals xs left → job % length xs < length xs
  deals_place xs left job deals = mod-lt job (some_place (length xs) deals.0 deals.1 deals.2)

  -- there is room for the last job that is left at its place
  pub deals_room : (xs : List X) (job : ℕ) (d : X) → Deals xs (job + 1) → size (get_or xs (job % length xs) d) < capacity (get_or xs (job % length xs) d)
  deals_room xs job d deals =
      let it = deals.3 (job % length xs) d (deals_place xs (job + 1) job deals) in
      let s = size (get_or xs (job % length xs) d) in
      let few = (due_one (length xs) deals.1 job s it.1).0 in
      let turned : s * length xs ≡ length xs * s = mul_comm s (length xs) in
      let below : s < deals.0 = lt_of_mul-lt-mul_left (length xs) (omega (arith, few, turned, deals.2)) in
      omega (arith, below, it.0)

  -- that job is dealt
  pub deals_one : (xs : List X) (job : ℕ) (y d : X) → size y ≡ size (get_or xs (job % length xs) d) + 1 → capacity y ≡ capacity (get_or xs (job % length xs) d) → Deals xs (job + 1) → Deals (set xs (job % length xs) y) job
  deals_one xs job y d more same deals =
      let w = length xs in
      let place = job % w in
      let inside = deals_place xs (job + 1) job deals in
      let here = deals.3 place d inside in
      let one = (due_one w deals.1 job (size (get_or xs place d)) here.1).1 in (
        deals.0,
        deals.1,
        rw (length-set xs place y) deals.2,
        λ k e l.
            elim (cases_eq k place) [
              | inl is ↦ rw (is, get_or-set_same, length-set xs place y) (omega (arith, here.0, same), subst (λ (n : ℕ). Due w deals.1 job place n) (sym more) one)
              | inr other ↦ let it = deals.3 k e (omega (arith, length-set xs place y)) in rw (get_or-set_other, length-set xs place y) (it.0, (it.1.0, omega (arith, it.1.1), it.1.2))
            ],
      )
