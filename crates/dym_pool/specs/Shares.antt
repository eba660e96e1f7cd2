-- What is dealt to shares, and how it comes back.
use Rattle.std.specs.Prelude.{◌≡◌, ℕ, ◌<◌, ◌⊎◌, Option, Some, List, [], ◌∷◌, length, slice_index_or, slice_set}
use Rattle.std.specs.List.{flat_map}
use Rattle.std.specs.Option.{option_to_list}
use Rattle.std.specs.declared.boxed.Box.{Box}
use Rattle.std.specs.declared.alloc.Global.{Global}
use Rattle.dym_pool.specs.Jobs.{boxed_labels, AllBoxedEnded}

module _ {A : Type 0} where
  -- x is one of the list
  abbrev pub Has : List A → A → Type 0
  Has [] x = ⊥
  Has (y ∷ ys) x = (y ≡ x) ⊎ Has ys x

  -- each of ys is one of xs
  abbrev pub Within : List A → List A → Type 0
  Within xs ys = (x : A) → Has ys x → Has xs x

  -- the two lists have the same elements, in whatever order
  abbrev pub SameElements : List A → List A → Type 0
  SameElements xs ys = Within xs ys × Within ys xs

module _ {B : Type 0} (number : B → ℕ) where
  -- the places after each box was put at the place of its number
  abbrev pub placed : List B → List (Option B) → List (Option B)
  placed [] slots = slots
  placed (b ∷ bs) slots = placed bs (slice_set slots (number b) (Some b))

-- boxes with these labels, whose jobs have ended, were put at the places of their numbers
abbrev pub ResultsEnded : {J O : Type 0} → (J → ℕ) → (J → ℕ) → (J → O) → List (ℕ × O) → List (Option (Box J Global)) → List (Option (Box J Global)) → Type 0
ResultsEnded {J} number left origin labels before after =
    (boxes : List (Box J Global)) × (boxed_labels number origin boxes ≡ labels) × AllBoxedEnded left boxes × (after ≡ placed (λ b. number b.value) boxes before)

-- what stands at the places, in order
abbrev pub standing : {B : Type 0} → List (Option B) → List B
standing slots = flat_map option_to_list slots

-- the numbers of the labels are those below n
abbrev pub NumbersBelow : {O : Type 0} → ℕ → List (ℕ × O) → Type 0
NumbersBelow {O} n labels =
    ((x : ℕ × O) → Has labels x → x.0 < n) × ((k : ℕ) → k < n → (o : O) × Has labels (k, o))

-- n jobs in the order of their numbers, each with one of the labels, and all ended
abbrev pub Gathered : {J O : Type 0} → (J → ℕ) → (J → ℕ) → (J → O) → ℕ → List (ℕ × O) → List J → Type 0
Gathered {J} number left origin n labels jobs =
    (length jobs ≡ n)
    × ((k : ℕ) (d : J) → k < n → (number (slice_index_or jobs k d) ≡ k) × Has labels (number (slice_index_or jobs k d), origin (slice_index_or jobs k d)) × (left (slice_index_or jobs k d) ≡ 0))
