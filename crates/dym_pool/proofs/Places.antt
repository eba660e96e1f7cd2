-- Boxes that are put at the places of their numbers.
use Rattle.std.proofs.Common.{◌≡◌, ℕ, zero, suc, ◌<◌, ◌⊎◌, inl, inr, Option, Some, None, List, [], ◌∷◌, ◌++◌, map, length, set, get_or, sym, refl, ap, ◌∙◌, subst, arith, append_assoc, append-nil, length-set, get_or-set_same, get_or-set_other}
use Rattle.std.proofs.lemmas.Bool.{cases_eq, cases_lt}
use Rattle.std.proofs.lemmas.List.{set_past}
use Rattle.std.proofs.lemmas.Option.{same_Some}
use Rattle.std.specs.List.{flat_map}
use Rattle.std.specs.Option.{option_to_list}
use Rattle.dym_pool.specs.Shares.{Has, placed, standing}

module _ {X A : Type 0} (f : X → List A) where
  pub flat-push : (xs : List X) (x : X) → flat_map f (xs ++ x ∷ []) ≡ flat_map f xs ++ f x
  flat-push [] x = append-nil (f x)
  flat-push (y ∷ ys) x = ap {B = List A} (λ l. f y ++ l) (flat-push ys x) ∙ sym (append_assoc (f y) (flat_map f ys) (f x))

module _ {B : Type 0} (number : B → ℕ) where
  pub placed-length : (bs : List B) (slots : List (Option B)) → length (placed number bs slots) ≡ length slots
  placed-length [] slots = refl
  placed-length (b ∷ bs) slots = placed-length bs (set slots (number b) (Some b)) ∙ length-set slots (number b) (Some b)

  pub placed-append : (bs cs : List B) (slots : List (Option B)) → placed number (bs ++ cs) slots ≡ placed number cs (placed number bs slots)
  placed-append [] cs slots = refl
  placed-append (b ∷ bs) cs slots = placed-append bs cs (set slots (number b) (Some b))

  pub placed-push : (bs : List B) (b : B) (from slots : List (Option B)) (n : ℕ) → slots ≡ placed number bs from → n ≡ number b → set slots n (Some b) ≡ placed number (bs ++ b ∷ []) from
  placed-push bs b from slots n is at = ap (λ (s : List (Option B)). set s n (Some b)) is ∙ ap (λ (k : ℕ). set (placed number bs from) k (Some b)) at ∙ sym (placed-append bs (b ∷ []) from)

  module _ (Fits : B → Type 0) where
    -- what stands at a place has its number
    abbrev pub Right : List (Option B) → Type 0
    Right slots = (k : ℕ) (b : B) → get_or slots k None ≡ Some b → (number b ≡ k) × Fits b

    right_set : (slots : List (Option B)) (b : B) → Fits b → Right slots → Right (set slots (number b) (Some b))
    right_set slots b fits right k c is =
        elim (cases_eq k (number b)) [
          | inl same ↦ elim (cases_lt (number b) (length slots)) [
            | inl inside ↦ let e : Some b ≡ Some c = sym (get_or-set_same slots (number b) (Some b) None inside) ∙ ap (λ (n : ℕ). get_or (set slots (number b) (Some b)) n None) (sym same) ∙ is in
                let it : b ≡ c = same_Some b c e in (ap number (sym it) ∙ sym same, subst Fits it fits)
            | inr out ↦ right k c (ap (λ (s : List (Option B)). get_or s k None) (sym (set_past slots (number b) (Some b) out)) ∙ is)
          ]
          | inr other ↦ right k c (sym (get_or-set_other slots (number b) k (Some b) None other) ∙ is)
        ]

    pub placed-right : (bs : List B) (slots : List (Option B)) → ((k : ℕ) (d : B) → k < length bs → Fits (get_or bs k d)) → Right slots → Right (placed number bs slots)
    placed-right [] slots fits right = right
    placed-right (b ∷ bs) slots fits right = placed-right bs (set slots (number b) (Some b)) (λ k d l. fits (suc k) d (omega arith)) (right_set slots b (fits 0 b (omega arith)) right)

  -- something stands at the place
  abbrev pub There : List (Option B) → ℕ → Type 0
  There slots k = (b : B) × (get_or slots k None ≡ Some b)

  there_set : (slots : List (Option B)) (b : B) (k : ℕ) → k < length slots → (number b ≡ k) ⊎ There slots k → There (set slots (number b) (Some b)) k
  there_set slots b k l h =
      elim (cases_eq (number b) k) [
        | inl same ↦ (b, ap (λ (n : ℕ). get_or (set slots (number b) (Some b)) n None) (sym same) ∙ get_or-set_same slots (number b) (Some b) None (omega arith))
        | inr other ↦ elim h [
          | inl same ↦ absurd (other same)
          | inr t ↦ (t.0, get_or-set_other slots (number b) k (Some b) None (λ (e : k ≡ number b). other (sym e)) ∙ t.1)
        ]
      ]

  pub placed-there : (bs : List B) (slots : List (Option B)) (k : ℕ) → k < length slots → Has (map number bs) k ⊎ There slots k → There (placed number bs slots) k
  placed-there [] slots k l h = elim h [ inl z ↦ absurd z | inr t ↦ t ]
  placed-there (b ∷ bs) slots k l h =
      let there = there_set slots b k l in
      placed-there bs (set slots (number b) (Some b)) k (omega (arith, length-set slots (number b) (Some b)))
      (elim h [ inl t ↦ elim t [ inl e ↦ inr (there (inl e)) | inr o ↦ inl o ] | inr t ↦ inr (there (inr t)) ])

module _ {B : Type 0} where
  at-each : (b : B) (bs : List B) (n : ℕ) (P : ℕ → B → Type 0) → P 0 b → ((k : ℕ) (d : B) → k < n → P (suc k) (get_or bs k d)) → (k : ℕ) (d : B) → k < suc n → P k (get_or (b ∷ bs) k d)
  at-each b bs n P first rest zero d l = first
  at-each b bs n P first rest (suc k) d l = rest k d (omega arith)

  -- where something stands at each place, all of it stands in the order of the places
  pub all-standing : (P : ℕ → B → Type 0) (slots : List (Option B)) → ((k : ℕ) → k < length slots → (b : B) × (get_or slots k None ≡ Some b) × P k b)
      → (length (standing slots) ≡ length slots) × ((k : ℕ) (d : B) → k < length slots → P k (get_or (standing slots) k d))
  all-standing P [] h = (refl, λ k d l. absurd (omega arith))
  all-standing P (o ∷ slots) h =
      let first = h 0 (omega arith) in
      let rest = all-standing (λ k. P (suc k)) slots (λ k l. h (suc k) (omega arith)) in
      let is : standing (o ∷ slots) ≡ first.0 ∷ standing slots = ap (λ (q : Option B). option_to_list q ++ standing slots) first.1 in
      let Good : List B → Type 0 = λ bs. (length bs ≡ suc (length slots)) × ((k : ℕ) (d : B) → k < suc (length slots) → P k (get_or bs k d)) in
      subst Good (sym is) (ap suc rest.0, at-each (first.0) (standing slots) (length slots) P first.2 rest.1)
