-- Of each line it can be told which event it is, if any: of each kind only one event can be, since the line tells its numbers.
use Rattle.std.proofs.Common.{◌≡◌, ◌≢◌, ◌⊎◌, inl, inr, ℕ, suc, ◌^◌, ◌<◌, true, false, cond, nat_eq, List, [], ◌∷◌, ◌++◌, drop, sym, ◌∙◌, ap, subst, refl, arith}
use Rattle.std.specs.Fmt.{decimal}
use Rattle.std.specs.List.{All}
use Rattle.std.specs.Str.{bytes_eq}
use Rattle.std.specs.Str.Parse.{digits_value}
use Rattle.std.specs.Cmp.Lexicographic.{bytes_decides}
use Rattle.std.proofs.lemmas.Bool.Decides.{nat_tests}
use Rattle.std.proofs.lemmas.Fmt.{decimal_is_IsNumeral}
use Rattle.dym_base.specs.declared.limits.TheConstants.{LOG_SLOTS}
use Rattle.dym_slots.specs.declared.machine.Event.{Event}
use Rattle.dym_slots.specs.declared.machine.Event.TheVariants.{OwnerLook, OwnerClaim, OwnerTake, OwnerEmpty, OwnerFill, OwnerPut, OwnerLower, OwnerFree, OwnerRaise, SweeperRoot, SweeperLook, SweeperGrab, SweeperEmpty, SweeperFree}
use Rattle.dym_trace.specs.Events.{event_text, IsInRange, Reads}
use Rattle.dym_trace.proofs.Reading.{no_space_in_decimal}
use Rattle.dym_trace.proofs.Decided.{Told, both, told_below}

-- what stands before the first space, and after it
abbrev before : List ℕ → List ℕ
before [] = []
before (b ∷ bytes) = cond (nat_eq b 32) [] (b ∷ before bytes)

abbrev after : List ℕ → List ℕ
after [] = []
after (b ∷ bytes) = cond (nat_eq b 32) bytes (after bytes)

cut_space : (xs more : List ℕ) → All (λ x. x ≢ 32) xs → (before (xs ++ 32 ∷ more) ≡ xs) × (after (xs ++ 32 ∷ more) ≡ more)
cut_space [] more none = (refl, refl)
cut_space (x ∷ xs) more none =
    let other : x ≢ 32 = none 0 x (omega arith) in
    let miss : nat_eq x 32 ≡ false = grind (arith, nat_tests) in
    let rest = cut_space xs more (λ k d lt. none (suc k) d (omega arith)) in
    (rw miss (ap (λ t. x ∷ t) rest.0), rw miss rest.1)

-- the number behind so many bytes of a line
abbrev number_at : ℕ → List ℕ → ℕ
number_at m line = digits_value 10 (drop m line)

-- the event of the same kind that a line tells
abbrev guess : Event → List ℕ → Event
guess (OwnerLook s) line = OwnerLook (number_at 7 line)
guess (OwnerClaim s) line = OwnerClaim (number_at 8 line)
guess (OwnerTake s) line = OwnerTake (number_at 7 line)
guess (OwnerEmpty s) line = OwnerEmpty (digits_value 10 (before (drop 7 line)))
guess (OwnerFill s n) line = OwnerFill (digits_value 10 (before (drop 7 line))) (digits_value 10 (after (drop 7 line)))
guess (OwnerPut s) line = OwnerPut (number_at 6 line)
guess (OwnerLower s) line = OwnerLower (number_at 8 line)
guess (OwnerFree s) line = OwnerFree (number_at 7 line)
guess (OwnerRaise n) line = OwnerRaise (number_at 8 line)
guess SweeperRoot line = SweeperRoot
guess (SweeperLook s) line = SweeperLook (number_at 7 line)
guess (SweeperGrab s) line = SweeperGrab (number_at 7 line)
guess (SweeperEmpty s) line = SweeperEmpty (number_at 7 line)
guess (SweeperFree s) line = SweeperFree (number_at 7 line)

number_is : (n : ℕ) → n < 2 ^ 64 → digits_value 10 (decimal n) ≡ n
number_is n small = (decimal_is_IsNumeral n small).1

-- a slot's number is where the line has it
slot_at : (m s : ℕ) (line text : List ℕ) → line ≡ text → drop m text ≡ decimal s → s < LOG_SLOTS → s ≡ number_at m line
slot_at m s line text is at small = sym (ap (number_at m) is ∙ (ap (digits_value 10) at ∙ number_is s (omega arith)))

-- a line that is an event is that of its kind that the line tells
guessed : (line : List ℕ) (e : Event) → Reads line e → e ≡ guess e line
guessed line (OwnerLook s) r = ap OwnerLook (slot_at 7 s line _ r.text refl r.in_range)
guessed line (OwnerClaim s) r = ap OwnerClaim (slot_at 8 s line _ r.text refl r.in_range)
guessed line (OwnerTake s) r = ap OwnerTake (slot_at 7 s line _ r.text refl r.in_range)
guessed line (OwnerEmpty s) r =
    let small : s < LOG_SLOTS = r.in_range in
    let cut = cut_space (decimal s) (45 ∷ []) (no_space_in_decimal s (omega arith)) in
    ap OwnerEmpty (sym (ap (λ t. digits_value 10 (before (drop 7 t))) r.text ∙ (ap (digits_value 10) cut.0 ∙ number_is s (omega arith))))
guessed line (OwnerFill s n) r =
    let small : s < LOG_SLOTS = r.in_range.0 in
    let cut = cut_space (decimal s) (decimal n) (no_space_in_decimal s (omega arith)) in
    let slot : digits_value 10 (before (drop 7 line)) ≡ s = ap (λ t. digits_value 10 (before (drop 7 t))) r.text
    ∙ (ap (digits_value 10) cut.0 ∙ number_is s (omega arith)) in
    let number : digits_value 10 (after (drop 7 line)) ≡ n = ap (λ t. digits_value 10 (after (drop 7 t))) r.text
    ∙ (ap (digits_value 10) cut.1 ∙ number_is n r.in_range.1) in
    rw (slot, number) refl
guessed line (OwnerPut s) r = ap OwnerPut (slot_at 6 s line _ r.text refl r.in_range)
guessed line (OwnerLower s) r = ap OwnerLower (slot_at 8 s line _ r.text refl r.in_range)
guessed line (OwnerFree s) r = ap OwnerFree (slot_at 7 s line _ r.text refl r.in_range)
guessed line (OwnerRaise n) r = ap OwnerRaise (sym (ap (number_at 8) r.text ∙ number_is n r.in_range))
guessed line SweeperRoot r = refl
guessed line (SweeperLook s) r = ap SweeperLook (slot_at 7 s line _ r.text refl r.in_range)
guessed line (SweeperGrab s) r = ap SweeperGrab (slot_at 7 s line _ r.text refl r.in_range)
guessed line (SweeperEmpty s) r = ap SweeperEmpty (slot_at 7 s line _ r.text refl r.in_range)
guessed line (SweeperFree s) r = ap SweeperFree (slot_at 7 s line _ r.text refl r.in_range)

told_range : (e : Event) → Told (IsInRange e)
told_range (OwnerLook s) = told_below s LOG_SLOTS
told_range (OwnerClaim s) = told_below s LOG_SLOTS
told_range (OwnerTake s) = told_below s LOG_SLOTS
told_range (OwnerEmpty s) = told_below s LOG_SLOTS
told_range (OwnerFill s n) = both (told_below s LOG_SLOTS) (told_below n (2 ^ 64))
told_range (OwnerPut s) = told_below s LOG_SLOTS
told_range (OwnerLower s) = told_below s LOG_SLOTS
told_range (OwnerFree s) = told_below s LOG_SLOTS
told_range (OwnerRaise n) = told_below n (2 ^ 64)
told_range SweeperRoot = inl tt
told_range (SweeperLook s) = told_below s LOG_SLOTS
told_range (SweeperGrab s) = told_below s LOG_SLOTS
told_range (SweeperEmpty s) = told_below s LOG_SLOTS
told_range (SweeperFree s) = told_below s LOG_SLOTS

told_text : (xs ys : List ℕ) → Told (xs ≡ ys)
told_text xs ys = elim (bytes_eq xs ys) as (λ b. bytes_eq xs ys ≡ b → Told (xs ≡ ys)) [
  | true ↦ λ same. inl ((bytes_decides xs ys).0 same)
  | false ↦ λ other. inr (λ is. let same = (bytes_decides xs ys).1 is in cc)
] refl

told_event : (line : List ℕ) (e : Event) → Told (Reads line e)
told_event line e = elim (both (told_text line (event_text e)) (told_range e)) [
  | inl h ↦ inl (record { text = h.0; in_range = h.1 })
  | inr never ↦ inr (λ r. never (r.text, r.in_range))
]

-- an event of each kind
abbrev kinds : List Event
kinds =
    OwnerLook 0 ∷ OwnerClaim 0 ∷ OwnerTake 0 ∷ OwnerEmpty 0 ∷ OwnerFill 0 0 ∷ OwnerPut 0 ∷ OwnerLower 0 ∷ OwnerFree 0 ∷ OwnerRaise 0 ∷ SweeperRoot
    ∷ SweeperLook 0 ∷ SweeperGrab 0 ∷ SweeperEmpty 0 ∷ SweeperFree 0 ∷ []

-- the line is none of what it tells of these kinds
abbrev IsNone : List ℕ → List Event → Type 0
IsNone line [] = Unit {0}
IsNone line (e ∷ es) = (¬ Reads line (guess e line)) × IsNone line es

of_kinds : (line : List ℕ) (es : List Event) → ((e : Event) × Reads line e) ⊎ IsNone line es
of_kinds line [] = inr tt
of_kinds line (e ∷ es) = elim (told_event line (guess e line)) [
  | inl reads ↦ inl (guess e line, reads)
  | inr never ↦ elim (of_kinds line es) [ inl some ↦ inl some | inr none ↦ inr (never, none) ]
]

-- a line that is none of what it tells is no event
no_event : (line : List ℕ) → IsNone line kinds → (e : Event) → ¬ Reads line (guess e line)
no_event line none (OwnerLook s) = none.0
no_event line none (OwnerClaim s) = none.1.0
no_event line none (OwnerTake s) = none.1.1.0
no_event line none (OwnerEmpty s) = none.1.1.1.0
no_event line none (OwnerFill s n) = none.1.1.1.1.0
no_event line none (OwnerPut s) = none.1.1.1.1.1.0
no_event line none (OwnerLower s) = none.1.1.1.1.1.1.0
no_event line none (OwnerFree s) = none.1.1.1.1.1.1.1.0
no_event line none (OwnerRaise n) = none.1.1.1.1.1.1.1.1.0
no_event line none SweeperRoot = none.1.1.1.1.1.1.1.1.1.0
no_event line none (SweeperLook s) = none.1.1.1.1.1.1.1.1.1.1.0
no_event line none (SweeperGrab s) = none.1.1.1.1.1.1.1.1.1.1.1.0
no_event line none (SweeperEmpty s) = none.1.1.1.1.1.1.1.1.1.1.1.1.0
no_event line none (SweeperFree s) = none.1.1.1.1.1.1.1.1.1.1.1.1.1.0

-- a line is an event, or none
pub line_read : (line : List ℕ) → ((e : Event) × Reads line e) ⊎ ((e : Event) → ¬ Reads line e)
line_read line = elim (of_kinds line kinds) [
  | inl some ↦ inl some
  | inr none ↦ inr (λ e reads. no_event line none e (subst (λ f. Reads line f) (guessed line e reads) reads))
]
