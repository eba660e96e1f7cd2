-- How many parts a text is cut into.
use Rattle.std.proofs.Common.{◌≡◌, ℕ, ◌+◌, ◌-◌, ◌*◌, ◌/◌, ◌<◌, ◌≤◌, inl, inr, ap, ◌∙◌, arith, add-one, suc-mul, mul-le-mul_right}
use Rattle.std.proofs.Math.Nat.{lt-mul-div-succ}
use Rattle.std.proofs.lemmas.Bool.{cases_lt}

grown : (n m size rest part text : ℕ) → m ≡ n + size → n + rest ≤ text → size < part → part ≤ rest → m + (rest - part) ≤ text
grown n m size rest part text up all long within = omega arith

-- a part more, which is longer than the size that each part has at least
pub one_part_more : (count size rest part text : ℕ) → count * size + rest ≤ text → size < part → part ≤ rest → (count + 1) * size + (rest - part) ≤ text
one_part_more count size rest part text all long within =
    grown (count * size) ((count + 1) * size) size rest part text (ap (λ n. n * size) (add-one count) ∙ suc-mul count size) all long within

never : (a b c : ℕ) → c < a → a ≤ b → b ≤ c → ⊥
never a b c over more all = omega arith

below : (n size rest text : ℕ) → n * size + rest ≤ text → n * size ≤ text
below n size rest text all = let part : ℕ = n * size in let whole : part + rest ≤ text = all in omega arith

-- with the last part there are as many as were asked for, or fewer
pub few_parts : (text count parts rest : ℕ) → 0 < count → parts * (text / count + 1) + rest ≤ text → parts + 1 ≤ count
few_parts text count parts rest some all = elim (cases_lt parts count) [
  | inl fewer ↦ omega arith
  | inr more ↦
      absurd (never (count * (text / count + 1)) (parts * (text / count + 1)) text (lt-mul-div-succ text some)
      (mul-le-mul_right (text / count + 1) more) (below parts (text / count + 1) rest text all))
]
