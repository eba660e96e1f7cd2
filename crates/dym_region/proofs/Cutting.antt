-- Room and places, as a block is cut from its front and joined from its end.
use Rattle.std.proofs.Common.{◌≡◌, ℕ, ◌+◌, ◌-◌, ◌*◌, ◌<◌, ◌≤◌, sym, ap, ◌∙◌, arith}
use denote.RawPtr.{Ptr, block_ptr, block_of, ◌+ₚ◌}

-- the bytes of one more segment
pub one_more : (k s : ℕ) → (k + 1) * s ≡ k * s + s
one_more k s = grind arith

-- what is left is a segment, and what is left after it
pub left_over : (n k s : ℕ) → k < n → (n - k) * s ≡ (n - (k + 1)) * s + s
left_over n k s below =
    let more : n - k ≡ n - (k + 1) + 1 = omega arith in
    ap (λ j. j * s) more ∙ one_more (n - (k + 1)) s

-- so that there is room for one
pub left_enough : (room n k s : ℕ) → k < n → room ≡ (n - k) * s → s ≤ room
left_enough room n k s below is = omega (arith, is, left_over n k s below)

-- and this is left behind it
pub left_behind : (room behind n k s : ℕ) → k < n → room ≡ (n - k) * s → behind ≡ room - s → behind ≡ (n - (k + 1)) * s
left_behind room behind n k s below is cut = omega (arith, is, cut, left_over n k s below)

-- a pointer at a place of a block
pub placed : (p : Ptr) (b at : ℕ) → p ≡ block_ptr b at → p ≡ block_ptr (block_of p) at
placed p b at is = is ∙ sym (ap (λ c. block_ptr c at) (ap block_of is))

-- the place behind one more segment
pub next_place : (p q : Ptr) (b k s : ℕ) → p ≡ block_ptr b (k * s) → q ≡ p +ₚ s → q ≡ block_ptr b ((k + 1) * s)
next_place p q b k s here there = there ∙ ap (λ r. r +ₚ s) here ∙ ap (block_ptr b) (sym (one_more k s))

-- what lies behind the segment k begins where that segment ends
pub lies_behind : (p q : Ptr) (b k n s room : ℕ) → p ≡ block_ptr b (k * s) → q ≡ block_ptr b (n * s) → k + 1 ≡ n → room ≡ s → q ≡ p +ₚ room
lies_behind p q b k n s room here there next size =
    there ∙ ap (λ m. block_ptr b (m * s)) (sym next) ∙ ap (block_ptr b) (one_more k s ∙ ap (λ m. k * s + m) (sym size)) ∙ ap (λ r. r +ₚ room) (sym here)

-- the room that is back, and that which is not yet
pub size_back : (front back joined k n s whole : ℕ) → joined ≡ front + back → front ≡ s → back + n * s ≡ whole → k + 1 ≡ n → joined + k * s ≡ whole
size_back front back joined k n s whole all one before next = omega (arith, all, one, before, ap (λ m. m * s) next, one_more k s)
