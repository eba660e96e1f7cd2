-- Each line is at most one event: the words before its numbers tell the kind, and no two kinds share them.
use Rattle.std.proofs.Common.{◌≡◌, ◌≢◌, ◌⊎◌, inl, inr, ℕ, zero, suc, ◌+◌, ◌^◌, ◌<◌, Bool, true, false, not, ◌&&◌, ◌||◌, nat_eq, List, [], ◌∷◌, ◌++◌, length, get_or, sym, ◌∙◌, ap, subst, refl, arith}
use Rattle.std.specs.Prelude.{codes}
use Rattle.std.specs.Fmt.{decimal}
use Rattle.std.specs.List.{list_all, All}
use Rattle.std.proofs.lemmas.Bool.{cases_eq, cases_lt}
use Rattle.std.proofs.lemmas.Bool.Decides.{nat_tests}
use Rattle.std.proofs.lemmas.List.{append_cancel_left, get_or_at, length-append}
use Rattle.std.proofs.lemmas.List.Elements.{All-from_get_or}
use Rattle.std.proofs.lemmas.Fmt.{decimal_injective, decimal_nonempty}
use Rattle.dym_trace.proofs.Digits.{decimal_byte}
use Rattle.dym_trace.proofs.Cuts.{cut_once}
use Rattle.dym_base.specs.declared.limits.TheConstants.{LOG_SLOTS}
use Rattle.dym_slots.specs.declared.machine.Event.{Event}
use Rattle.dym_slots.specs.declared.machine.Event.TheVariants.{OwnerLook, OwnerClaim, OwnerTake, OwnerEmpty, OwnerFill, OwnerPut, OwnerLower, OwnerFree, OwnerRaise, SweeperRoot, SweeperLook, SweeperGrab, SweeperEmpty, SweeperFree}
use Rattle.dym_trace.specs.Events.{event_text, IsInRange, Reads}

-- the words before the numbers, by kind
abbrev pub words : List (List ℕ)
words = codes "o look " ∷ codes "o claim " ∷ codes "o take " ∷ codes "o swap " ∷ codes "o put " ∷ codes "o lower " ∷ codes "o free " ∷ codes "o raise " ∷ codes "s root" ∷ codes "s look " ∷ codes "s grab " ∷ codes "s swap " ∷ codes "s free " ∷ []

abbrev pub words_of : ℕ → List ℕ
words_of k = get_or words k []

-- the kind of an event, and what stands after its words
abbrev pub kind : Event → ℕ
kind (OwnerLook s) = 0
kind (OwnerClaim s) = 1
kind (OwnerTake s) = 2
kind (OwnerEmpty s) = 3
kind (OwnerFill s n) = 3
kind (OwnerPut s) = 4
kind (OwnerLower s) = 5
kind (OwnerFree s) = 6
kind (OwnerRaise n) = 7
kind SweeperRoot = 8
kind (SweeperLook s) = 9
kind (SweeperGrab s) = 10
kind (SweeperEmpty s) = 11
kind (SweeperFree s) = 12

abbrev pub tail_of : Event → List ℕ
tail_of (OwnerLook s) = decimal s
tail_of (OwnerClaim s) = decimal s
tail_of (OwnerTake s) = decimal s
tail_of (OwnerEmpty s) = decimal s ++ codes " -"
tail_of (OwnerFill s n) = decimal s ++ (codes " " ++ decimal n)
tail_of (OwnerPut s) = decimal s
tail_of (OwnerLower s) = decimal s
tail_of (OwnerFree s) = decimal s
tail_of (OwnerRaise n) = decimal n
tail_of SweeperRoot = []
tail_of (SweeperLook s) = decimal s
tail_of (SweeperGrab s) = decimal s
tail_of (SweeperEmpty s) = decimal s
tail_of (SweeperFree s) = decimal s

text_splits : (e : Event) → event_text e ≡ words_of (kind e) ++ tail_of e
text_splits (OwnerLook s) = refl
text_splits (OwnerClaim s) = refl
text_splits (OwnerTake s) = refl
text_splits (OwnerEmpty s) = refl
text_splits (OwnerFill s n) = refl
text_splits (OwnerPut s) = refl
text_splits (OwnerLower s) = refl
text_splits (OwnerFree s) = refl
text_splits (OwnerRaise n) = refl
text_splits SweeperRoot = refl
text_splits (SweeperLook s) = refl
text_splits (SweeperGrab s) = refl
text_splits (SweeperEmpty s) = refl
text_splits (SweeperFree s) = refl

kind_below : (e : Event) → kind e < 13
kind_below (OwnerLook s) = omega arith
kind_below (OwnerClaim s) = omega arith
kind_below (OwnerTake s) = omega arith
kind_below (OwnerEmpty s) = omega arith
kind_below (OwnerFill s n) = omega arith
kind_below (OwnerPut s) = omega arith
kind_below (OwnerLower s) = omega arith
kind_below (OwnerFree s) = omega arith
kind_below (OwnerRaise n) = omega arith
kind_below SweeperRoot = omega arith
kind_below (SweeperLook s) = omega arith
kind_below (SweeperGrab s) = omega arith
kind_below (SweeperEmpty s) = omega arith
kind_below (SweeperFree s) = omega arith

-- two texts that differ at a place that both have
abbrev pub differ : List ℕ → List ℕ → Bool
differ [] q = false
differ (x ∷ p) [] = false
differ (x ∷ p) (y ∷ q) = not (nat_eq x y) || differ p q

pub differ_apart : (p q r s : List ℕ) → differ p q ≡ true → p ++ r ≡ q ++ s → ⊥
differ_apart [] q r s d e = cc
differ_apart (x ∷ p) [] r s d e = cc
differ_apart (x ∷ p) (y ∷ q) r s d e =
    let head : x ≡ y = cc in
    let tail : p ++ r ≡ q ++ s = cc in
    let hit : nat_eq x y ≡ true = grind (arith, nat_tests) in
    differ_apart p q r s (rw hit at d) tail

-- each text differs from all later ones
all_differ : List (List ℕ) → Bool
all_differ [] = true
all_differ (p ∷ ps) = list_all (λ q. differ p q) ps && all_differ ps

differ_at : (p : List ℕ) (ps : List (List ℕ)) (k : ℕ) → list_all (λ q. differ p q) ps ≡ true → k < length ps → differ p (get_or ps k []) ≡ true
differ_at p [] k all within = absurd (omega arith)
differ_at p (q ∷ ps) zero all within = elim (differ p q) as (λ b. (b && list_all (λ x. differ p x) ps) ≡ true → b ≡ true) [ true ↦ λ h. refl | false ↦ λ h. h ] all
differ_at p (q ∷ ps) (suc k) all within = differ_at p ps k (elim (differ p q) as (λ b. (b && list_all (λ x. differ p x) ps) ≡ true → list_all (λ x. differ p x) ps ≡ true) [ true ↦ λ h. h | false ↦ λ h. cc ] all) (omega arith)

differ_below : (ps : List (List ℕ)) (i j : ℕ) → all_differ ps ≡ true → i < j → j < length ps → differ (get_or ps i []) (get_or ps j []) ≡ true
unfolding all_differ
differ_below [] i j all lt within = absurd (omega arith)
differ_below (p ∷ ps) i zero all lt within = absurd (omega arith)
differ_below (p ∷ ps) zero (suc j) all lt within = differ_at p ps j (elim (list_all (λ q. differ p q) ps) as (λ b. (b && all_differ ps) ≡ true → b ≡ true) [ true ↦ λ h. refl | false ↦ λ h. h ] all) (omega arith)
differ_below (p ∷ ps) (suc i) (suc j) all lt within = differ_below ps i j (elim (list_all (λ q. differ p q) ps) as (λ b. (b && all_differ ps) ≡ true → all_differ ps ≡ true) [ true ↦ λ h. h | false ↦ λ h. cc ] all) (omega arith) (omega arith)

-- the words of a line tell the kind
one_kind : (i j : ℕ) (r s : List ℕ) → i < 13 → j < 13 → words_of i ++ r ≡ words_of j ++ s → i ≡ j
unfolding all_differ
one_kind i j r s a b e = elim (cases_lt i j) [
  | inl lt ↦ absurd (differ_apart (words_of i) (words_of j) r s (differ_below words i j refl lt b) e)
  | inr ge ↦ elim (cases_lt j i) [
    | inl lt ↦ absurd (differ_apart (words_of j) (words_of i) s r (differ_below words j i refl lt a) (sym e))
    | inr le ↦ omega arith
  ]
]

-- an event with these words has this kind, and its numbers stand after them
pub of_kind : (k : ℕ) (rest : List ℕ) (e : Event) → k < 13 → words_of k ++ rest ≡ event_text e → (kind e ≡ k) × (rest ≡ tail_of e)
of_kind k rest e small is =
    let both : words_of k ++ rest ≡ words_of (kind e) ++ tail_of e = is ∙ text_splits e in
    let same : k ≡ kind e = one_kind k (kind e) rest (tail_of e) small (kind_below e) both in
    let tails : words_of (kind e) ++ rest ≡ words_of (kind e) ++ tail_of e = subst (λ j. words_of j ++ rest ≡ words_of (kind e) ++ tail_of e) same both in
    (sym same, append_cancel_left (words_of (kind e)) rest (tail_of e) tails)

-- whether the events of the kind have a slot alone
abbrev pub is_of_slot : ℕ → Bool
is_of_slot k = not (nat_eq k 3 || (nat_eq k 7 || nat_eq k 8))

abbrev pub slot_of : Event → ℕ
slot_of (OwnerLook s) = s
slot_of (OwnerClaim s) = s
slot_of (OwnerTake s) = s
slot_of (OwnerEmpty s) = s
slot_of (OwnerFill s n) = s
slot_of (OwnerPut s) = s
slot_of (OwnerLower s) = s
slot_of (OwnerFree s) = s
slot_of (OwnerRaise n) = 0
slot_of SweeperRoot = 0
slot_of (SweeperLook s) = s
slot_of (SweeperGrab s) = s
slot_of (SweeperEmpty s) = s
slot_of (SweeperFree s) = s

slot_tail : (e : Event) → is_of_slot (kind e) ≡ true → IsInRange e → (tail_of e ≡ decimal (slot_of e)) × (slot_of e < LOG_SLOTS)
slot_tail (OwnerLook s) is in_range = (refl, in_range)
slot_tail (OwnerClaim s) is in_range = (refl, in_range)
slot_tail (OwnerTake s) is in_range = (refl, in_range)
slot_tail (OwnerEmpty s) is in_range = cc
slot_tail (OwnerFill s n) is in_range = cc
slot_tail (OwnerPut s) is in_range = (refl, in_range)
slot_tail (OwnerLower s) is in_range = (refl, in_range)
slot_tail (OwnerFree s) is in_range = (refl, in_range)
slot_tail (OwnerRaise n) is in_range = cc
slot_tail SweeperRoot is in_range = cc
slot_tail (SweeperLook s) is in_range = (refl, in_range)
slot_tail (SweeperGrab s) is in_range = (refl, in_range)
slot_tail (SweeperEmpty s) is in_range = (refl, in_range)
slot_tail (SweeperFree s) is in_range = (refl, in_range)

-- what stands after the first word of a swap
abbrev pub IsHome : List ℕ → Type 0
IsHome rest = (rest ≡ codes "-") ⊎ ((n : ℕ) × (n < 2 ^ 64) × (rest ≡ decimal n))

pub swap_tail : (e : Event) → kind e ≡ 3 → IsInRange e → (s : ℕ) × (rest : List ℕ) × (s < LOG_SLOTS) × (tail_of e ≡ decimal s ++ 32 ∷ rest) × IsHome rest
swap_tail (OwnerLook s) is in_range = absurd (omega arith)
swap_tail (OwnerClaim s) is in_range = absurd (omega arith)
swap_tail (OwnerTake s) is in_range = absurd (omega arith)
swap_tail (OwnerEmpty s) is in_range = (s, codes "-", in_range, refl, inl refl)
swap_tail (OwnerFill s n) is in_range = (s, decimal n, in_range.0, refl, inr (n, in_range.1, refl))
swap_tail (OwnerPut s) is in_range = absurd (omega arith)
swap_tail (OwnerLower s) is in_range = absurd (omega arith)
swap_tail (OwnerFree s) is in_range = absurd (omega arith)
swap_tail (OwnerRaise n) is in_range = absurd (omega arith)
swap_tail SweeperRoot is in_range = absurd (omega arith)
swap_tail (SweeperLook s) is in_range = absurd (omega arith)
swap_tail (SweeperGrab s) is in_range = absurd (omega arith)
swap_tail (SweeperEmpty s) is in_range = absurd (omega arith)
swap_tail (SweeperFree s) is in_range = absurd (omega arith)

pub no_space_in_decimal : (s : ℕ) → s < 2 ^ 64 → All (λ x. x ≢ 32) (decimal s)
no_space_in_decimal s small = All-from_get_or (λ x. x ≢ 32) (decimal s) 0 (λ i within space. let byte = decimal_byte s i small within in omega arith)

-- the words of a swap have a space
pub no_space : (rest : List ℕ) → All (λ x. x ≢ 32) rest → (e : Event) → ¬ Reads (words_of 3 ++ rest) e
no_space rest none e reads =
    let of = of_kind 3 rest e (omega arith) reads.text in
    let tail = swap_tail e of.0 reads.in_range in
    let is : rest ≡ decimal tail.0 ++ 32 ∷ tail.1 = of.1 ∙ tail.3 in
    let space : get_or rest (length (decimal tail.0)) 0 ≡ 32 = subst (λ (x : List ℕ). get_or x (length (decimal tail.0)) 0 ≡ 32) (sym is) (get_or_at (decimal tail.0) 32 tail.1 0 (length (decimal tail.0)) refl) in
    let long : length rest ≡ length (decimal tail.0) + (1 + length tail.1) = ap (λ (x : List ℕ). length x) is ∙ (length-append (decimal tail.0) (32 ∷ tail.1) ∙ omega arith) in
    none (length (decimal tail.0)) 0 (omega arith) space

-- the first space of a swap parts its slot from what it leaves at home
pub swap_parts : (rest slot home : List ℕ) → rest ≡ slot ++ 32 ∷ home → All (λ x. x ≢ 32) slot → (e : Event) → Reads (words_of 3 ++ rest) e →
    (s : ℕ) × (s < LOG_SLOTS) × (slot ≡ decimal s) × IsHome home
swap_parts rest slot home is none e reads =
    let of = of_kind 3 rest e (omega arith) reads.text in
    let tail = swap_tail e of.0 reads.in_range in
    let both : slot ++ 32 ∷ home ≡ decimal tail.0 ++ 32 ∷ tail.1 = sym is ∙ (of.1 ∙ tail.3) in
    let small : tail.0 < 2 ^ 64 = let low = tail.2 in omega arith in
    let cut = cut_once slot (decimal tail.0) home tail.1 none (no_space_in_decimal tail.0 small) both in
    (tail.0, tail.2, cut.0, subst IsHome (sym cut.1) tail.4)

-- the event of a kind with a slot alone
of_slot : ℕ → ℕ → Event
of_slot k s = get_or (OwnerLook s ∷ OwnerClaim s ∷ OwnerTake s ∷ SweeperRoot ∷ OwnerPut s ∷ OwnerLower s ∷ OwnerFree s ∷ SweeperRoot ∷ SweeperRoot ∷ SweeperLook s ∷ SweeperGrab s ∷ SweeperEmpty s ∷ SweeperFree s ∷ []) k SweeperRoot

of_slot_is : (e : Event) → is_of_slot (kind e) ≡ true → e ≡ of_slot (kind e) (slot_of e)
unfolding of_slot
of_slot_is (OwnerLook s) is = refl
of_slot_is (OwnerClaim s) is = refl
of_slot_is (OwnerTake s) is = refl
of_slot_is (OwnerEmpty s) is = cc
of_slot_is (OwnerFill s n) is = cc
of_slot_is (OwnerPut s) is = refl
of_slot_is (OwnerLower s) is = refl
of_slot_is (OwnerFree s) is = refl
of_slot_is (OwnerRaise n) is = cc
of_slot_is SweeperRoot is = cc
of_slot_is (SweeperLook s) is = refl
of_slot_is (SweeperGrab s) is = refl
of_slot_is (SweeperEmpty s) is = refl
of_slot_is (SweeperFree s) is = refl

raise_is : (e : Event) → kind e ≡ 7 → IsInRange e → (n : ℕ) × (e ≡ OwnerRaise n) × (n < 2 ^ 64) × (tail_of e ≡ decimal n)
raise_is (OwnerLook s) is in_range = absurd (omega arith)
raise_is (OwnerClaim s) is in_range = absurd (omega arith)
raise_is (OwnerTake s) is in_range = absurd (omega arith)
raise_is (OwnerEmpty s) is in_range = absurd (omega arith)
raise_is (OwnerFill s n) is in_range = absurd (omega arith)
raise_is (OwnerPut s) is in_range = absurd (omega arith)
raise_is (OwnerLower s) is in_range = absurd (omega arith)
raise_is (OwnerFree s) is in_range = absurd (omega arith)
raise_is (OwnerRaise n) is in_range = (n, refl, in_range, refl)
raise_is SweeperRoot is in_range = absurd (omega arith)
raise_is (SweeperLook s) is in_range = absurd (omega arith)
raise_is (SweeperGrab s) is in_range = absurd (omega arith)
raise_is (SweeperEmpty s) is in_range = absurd (omega arith)
raise_is (SweeperFree s) is in_range = absurd (omega arith)

root_is : (e : Event) → kind e ≡ 8 → e ≡ SweeperRoot
root_is (OwnerLook s) is = absurd (omega arith)
root_is (OwnerClaim s) is = absurd (omega arith)
root_is (OwnerTake s) is = absurd (omega arith)
root_is (OwnerEmpty s) is = absurd (omega arith)
root_is (OwnerFill s n) is = absurd (omega arith)
root_is (OwnerPut s) is = absurd (omega arith)
root_is (OwnerLower s) is = absurd (omega arith)
root_is (OwnerFree s) is = absurd (omega arith)
root_is (OwnerRaise n) is = absurd (omega arith)
root_is SweeperRoot is = refl
root_is (SweeperLook s) is = absurd (omega arith)
root_is (SweeperGrab s) is = absurd (omega arith)
root_is (SweeperEmpty s) is = absurd (omega arith)
root_is (SweeperFree s) is = absurd (omega arith)

-- an event that swaps in a record, or nothing
IsSwapOf : Event → ℕ → List ℕ → Type 0
IsSwapOf e s rest = ((e ≡ OwnerEmpty s) × (rest ≡ codes "-")) ⊎ ((n : ℕ) × (e ≡ OwnerFill s n) × (n < 2 ^ 64) × (rest ≡ decimal n))

swap_is : (e : Event) → kind e ≡ 3 → IsInRange e → (s : ℕ) × (rest : List ℕ) × (s < LOG_SLOTS) × (tail_of e ≡ decimal s ++ 32 ∷ rest) × IsSwapOf e s rest
unfolding IsSwapOf
swap_is (OwnerLook s) is in_range = absurd (omega arith)
swap_is (OwnerClaim s) is in_range = absurd (omega arith)
swap_is (OwnerTake s) is in_range = absurd (omega arith)
swap_is (OwnerEmpty s) is in_range = (s, codes "-", in_range, refl, inl (refl, refl))
swap_is (OwnerFill s n) is in_range = (s, decimal n, in_range.0, refl, inr (n, refl, in_range.1, refl))
swap_is (OwnerPut s) is in_range = absurd (omega arith)
swap_is (OwnerLower s) is in_range = absurd (omega arith)
swap_is (OwnerFree s) is in_range = absurd (omega arith)
swap_is (OwnerRaise n) is in_range = absurd (omega arith)
swap_is SweeperRoot is in_range = absurd (omega arith)
swap_is (SweeperLook s) is in_range = absurd (omega arith)
swap_is (SweeperGrab s) is in_range = absurd (omega arith)
swap_is (SweeperEmpty s) is in_range = absurd (omega arith)
swap_is (SweeperFree s) is in_range = absurd (omega arith)

no_dash : (n : ℕ) → n < 2 ^ 64 → decimal n ≢ codes "-"
no_dash n small is =
    let byte = decimal_byte n 0 small (decimal_nonempty n small) in
    let dash : get_or (decimal n) 0 0 ≡ 45 = rw is refl in
    omega arith

one_swap : (e f : Event) (s t : ℕ) (rest more : List ℕ) → s ≡ t → rest ≡ more → IsSwapOf e s rest → IsSwapOf f t more → e ≡ f
unfolding IsSwapOf
one_swap e f s t rest more slot home (inl x) (inl y) = x.0 ∙ (rw slot (sym y.0))
one_swap e f s t rest more slot home (inl x) (inr y) = absurd (no_dash y.0 y.2 (sym y.3 ∙ (sym home ∙ x.1)))
one_swap e f s t rest more slot home (inr x) (inl y) = absurd (no_dash x.0 x.2 (sym x.3 ∙ (home ∙ y.1)))
one_swap e f s t rest more slot home (inr x) (inr y) =
    let number : x.0 ≡ y.0 = decimal_injective x.0 y.0 x.2 y.2 (sym x.3 ∙ (home ∙ y.3)) in
    x.1 ∙ (rw (slot, number) (sym y.1))

-- two events with the same kind and the same numbers are one
same_event : (e f : Event) → kind e ≡ kind f → tail_of e ≡ tail_of f → IsInRange e → IsInRange f → e ≡ f
same_event e f kinds tails in_e in_f = elim (cases_eq (kind f) 3) [
  | inl swap ↦
      let x = swap_is e (kinds ∙ swap) in_e in
      let y = swap_is f swap in_f in
      let both : decimal x.0 ++ 32 ∷ x.1 ≡ decimal y.0 ++ 32 ∷ y.1 = sym x.3 ∙ (tails ∙ y.3) in
      let small_x : x.0 < 2 ^ 64 = let low = x.2 in omega arith in
      let small_y : y.0 < 2 ^ 64 = let low = y.2 in omega arith in
      let cut = cut_once (decimal x.0) (decimal y.0) x.1 y.1 (no_space_in_decimal x.0 small_x) (no_space_in_decimal y.0 small_y) both in
      one_swap e f x.0 y.0 x.1 y.1 (decimal_injective x.0 y.0 small_x small_y cut.0) cut.1 x.4 y.4
  | inr no_swap ↦ elim (cases_eq (kind f) 7) [
    | inl raise ↦
        let x = raise_is e (kinds ∙ raise) in_e in
        let y = raise_is f raise in_f in
        let number : x.0 ≡ y.0 = decimal_injective x.0 y.0 x.2 y.2 (sym x.3 ∙ (tails ∙ y.3)) in
        x.1 ∙ (rw number (sym y.1))
    | inr no_raise ↦ elim (cases_eq (kind f) 8) [
      | inl root ↦ root_is e (kinds ∙ root) ∙ sym (root_is f root)
      | inr no_root ↦
          let plain_f : is_of_slot (kind f) ≡ true =
          let a : nat_eq (kind f) 3 ≡ false = grind (arith, nat_tests) in
          let b : nat_eq (kind f) 7 ≡ false = grind (arith, nat_tests) in
          let d : nat_eq (kind f) 8 ≡ false = grind (arith, nat_tests) in
          rw (a, b, d) refl in
          let plain_e : is_of_slot (kind e) ≡ true = rw kinds plain_f in
          let x = slot_tail e plain_e in_e in
          let y = slot_tail f plain_f in_f in
          let small_x : slot_of e < 2 ^ 64 = let low = x.1 in omega arith in
          let small_y : slot_of f < 2 ^ 64 = let low = y.1 in omega arith in
          let slots : slot_of e ≡ slot_of f = decimal_injective (slot_of e) (slot_of f) small_x small_y (sym x.0 ∙ (tails ∙ y.0)) in
          let made : of_slot (kind e) (slot_of e) ≡ of_slot (kind f) (slot_of f) = cc in
          of_slot_is e plain_e ∙ (made ∙ sym (of_slot_is f plain_f))
    ]
  ]
]

pub one_reading : (line : List ℕ) (e f : Event) → Reads line e → Reads line f → e ≡ f
one_reading line e f x y =
    let text : words_of (kind f) ++ tail_of f ≡ event_text e = sym (text_splits f) ∙ (sym y.text ∙ x.text) in
    let of = of_kind (kind f) (tail_of f) e (kind_below f) text in
    same_event e f of.0 (sym of.1) x.in_range y.in_range
