-- The next live chunk, class by class.
use Rattle.std.proofs.Common.{◌≡◌, ℕ, ◌+◌, ◌-◌, ◌^◌, ◌<◌, ◌≤◌, ◌⊎◌, inl, inr, false, is_some, None, ap, ◌∙◌, arith}
use Rattle.std.specs.FinMap.{get, contains_key}
use Rattle.std.proofs.lemmas.Bool.{cases_lt}
use Rattle.dym_base.specs.Numbers.{number}
use Rattle.dym_heap.specs.Shelves.{ShelfMeaning, IsValidShelf, IsNextUsed}
use Rattle.dym_heap.specs.Replies.{IsNextLive}
use Rattle.dym_heap.proofs.Tidy.{not_live}

-- no number from `from` up to `to` is that of a live chunk
abbrev pub NoneUpTo : ShelfMeaning → ℕ → ℕ → Type 0
NoneUpTo s from to = (k : ℕ) → from ≤ k → k < to → contains_key s.state.live k ≡ false

-- the start: at the number sought from, or at that of the first class where no live chunk lies between
pub none_before : (s : ShelfMeaning) (from e i : ℕ) → IsValidShelf s → from ≤ number e i → (number e i ≡ from) ⊎ (number e i ≡ number 5 0) → NoneUpTo s from (number e i)
none_before s from e i valid_shelf le cases k a b =
    elim cases as (λ _. contains_key s.state.live k ≡ false) [
      | inl same ↦ absurd (omega arith)
      | inr first ↦ ap is_some (not_live k valid_shelf (λ class. let low = class.0 in omega arith))
    ]

pub none_after : (s : ShelfMeaning) (from e i : ℕ) → NoneUpTo s from (number e i) → ((j : ℕ) → i ≤ j → j < 2 ^ 32 → get s.state.live (number e j) ≡ None) → NoneUpTo s from (number (e + 1) 0)
none_after s from e i none free k a b =
    elim (cases_lt k (number e i)) as (λ _. contains_key s.state.live k ≡ false) [
      | inl before ↦ none k a before
      | inr past ↦ (let h : k ≡ number e (k - number e 0) = omega arith in ap (contains_key s.state.live) h ∙ ap is_some (free (k - number e 0) (omega arith) (omega arith)))
    ]

pub next_here : (s : ShelfMeaning) (from e i j : ℕ) → from ≤ number e i → NoneUpTo s from (number e i) → IsNextUsed s.state e i j → IsNextLive s.state.live from (number e j)
next_here s from e i j start none next =
    let at = next.at_least in
    record {
      at_least = omega arith;
      is_live = next.used;
      least = λ k a b.
          elim (cases_lt k (number e i)) as (λ _. contains_key s.state.live k ≡ false) [
            | inl before ↦ none k a before
            | inr past ↦ (let h : k ≡ number e (k - number e 0) = omega arith in ap (contains_key s.state.live) h ∙ ap is_some (next.least (k - number e 0) (omega arith) (omega arith)))
          ];
    }

pub none_left : (s : ShelfMeaning) (from e i k : ℕ) → IsValidShelf s → 16 < e → NoneUpTo s from (number e i) → from ≤ k → contains_key s.state.live k ≡ false
none_left s from e i k valid_shelf past none a =
    elim (cases_lt k (number e i)) as (λ _. contains_key s.state.live k ≡ false) [
      | inl before ↦ none k a before
      | inr far ↦ ap is_some (not_live k valid_shelf (λ class. let high = class.1 in omega arith))
    ]
