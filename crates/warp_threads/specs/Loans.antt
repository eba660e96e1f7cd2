-- What is lent is what the borrower holds and what the queue holds. One pass lends and has what is lent, one borrows and has what the borrower holds.
use Rattle.std.specs.Prelude.{◌≡◌, ℕ, Bool, true, false, ◌≤◌, List, [], ◌++◌, length}
use mathlib.Core.Option.{some}
use lib.ListN.{get_elem?}
use Rattle.crossbeam_queue.specs.Passes.{Pass, view}
use Rattle.warp_threads.specs.declared.exchange.Holding.{Holding}

abbrev pub holding : {P : Type 0} → Bool → Bool → List P → List P → Holding P
holding may_lend may_borrow lent held = record { lends = may_lend; borrows = may_borrow; lent = lent; held = held }

-- the view of the pass at a place: the lender's has what is lent, the borrower's what it holds, and no other pass lends or borrows
abbrev pub Fits : {P : Type 0} → ℕ → ℕ → List P → List P → ℕ → Holding P → Type 0
Fits lender borrower lent held place v = (v.lends ≡ true → (place ≡ lender) × (v.lent ≡ lent)) × (v.borrows ≡ true → (place ≡ borrower) × (v.held ≡ held))

-- the rule, of what the queue holds and what each pass knows
abbrev pub IsLent : {P : Type 0} → List P → List (Holding P) → Type 0
IsLent {P} items views = (lender : ℕ) × (borrower : ℕ) × (lent : List P) × (held : List P) × (lent ≡ held ++ items) × (length lent ≤ 1)
    × ((place : ℕ) (v : Holding P) → get_elem? views place ≡ some v → Fits lender borrower lent held place v)

-- what the lender's pass has lent
abbrev pub lent_by : {P : Type 0} → Pass P (Holding P) → List P
lent_by pass = (view pass).lent

-- what the borrower's pass holds
abbrev pub held_by : {P : Type 0} → Pass P (Holding P) → List P
held_by pass = (view pass).held

-- a pass that may lend and no more
abbrev pub IsLender : {P : Type 0} → Pass P (Holding P) → Type 0
IsLender pass = view pass ≡ holding true false (lent_by pass) []

-- a pass that may borrow and no more
abbrev pub IsBorrower : {P : Type 0} → Pass P (Holding P) → Type 0
IsBorrower pass = view pass ≡ holding false true [] (held_by pass)
