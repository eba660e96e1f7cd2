-- Each step keeps the notes.
use Rattle.std.proofs.Common.{refl, ◌≡◌, ◌≢◌, ◌⊎◌, inl, inr, ℕ, ◌+◌, ◌<◌, ◌≤◌, Bool, true, false, Some, None, List, [], ◌∷◌, length, get_or, set, nat_eq, sym, ◌∙◌, ap, subst, cond, arith}
use Rattle.std.specs.Prelude.{if◌then◌else◌, filter}
use Rattle.std.proofs.lemmas.List.{get_or-set_other}
use Rattle.std.proofs.lemmas.Bool.{cases_eq}
use Rattle.std.proofs.lemmas.Bool.Decides.{nat_tests}
use Rattle.dym_slots.specs.declared.machine.Slot.{Slot}
use Rattle.dym_slots.specs.declared.machine.Slot.TheVariants.{Free, Live, OutOwner, OutSweeper}
use Rattle.dym_slots.specs.declared.machine.Event.{Event}
use Rattle.dym_slots.specs.declared.machine.Event.TheVariants.{OwnerLook, OwnerClaim, OwnerTake, OwnerEmpty, OwnerFill, OwnerPut, OwnerLower, OwnerFree, SweeperRoot, SweeperLook, SweeperGrab, SweeperFree}
use Rattle.dym_slots.specs.Slots.{Core, state_of}
use Rattle.dym_slots.specs.SlotSteps.{Step, Steps, is_retired}
use Rattle.dym_slots.specs.SlotFacts.{Facts}
use Rattle.dym_slots.specs.SlotNotes.{Look, OwnerNote, SweeperNote, Noted, NotedStep, NotedSteps, noted_start, NotesStand, LookStands, FoundStands, owner_note, sweeper_note, forget, live_number, is_round, is_taking_back}
use Rattle.dym_slots.proofs.SlotPlaces.{written, inside_live, inside_owner, inside_sweeper}
use Rattle.dym_slots.proofs.Steps.{step_keeps}

-- No step makes a slot Live with a number below the root seen: a slot that is so after it was so before it.

-- the states after a step that wrote the slot s
wrote : (c d : Core) (s : ℕ) (w : Slot) → s < length c.slots → d.slots ≡ set c.slots s w → (t : ℕ) → ((t ≡ s) × (state_of d t ≡ w)) ⊎ ((t ≢ s) × (state_of d t ≡ state_of c t))
wrote c d s w inside is t = rw is (written c.slots s t w Free inside)

-- at a slot that was written with another state than Live
unlive : (c d : Core) (s : ℕ) (w : Slot) → s < length c.slots → d.slots ≡ set c.slots s w → ((m : ℕ) → w ≢ Live m) →
    (t m : ℕ) → state_of d t ≡ Live m → state_of c t ≡ Live m
unlive c d s w inside is never t m live = elim (wrote c d s w inside is t) [
  | inl p ↦ absurd (never m (sym p.1 ∙ live))
  | inr q ↦ sym q.1 ∙ live
]

-- at a slot that was made Live with a number that isn't below the root seen
made_live : (c d : Core) (s n : ℕ) → s < length c.slots → d.slots ≡ set c.slots s (Live n) → c.sweeper.root_seen ≤ n →
    (t m : ℕ) → state_of d t ≡ Live m → m < c.sweeper.root_seen → state_of c t ≡ Live m
made_live c d s n inside is kept t m live past = elim (wrote c d s (Live n) inside is t) [
  | inl p ↦ let same : Live n ≡ Live m = sym p.1 ∙ live in let number : n ≡ m = cc in absurd (omega arith)
  | inr q ↦ sym q.1 ∙ live
]

-- the slots after a step
slots_of : {c d : Core} → d ≡ c → d.slots ≡ c.slots
slots_of after = ap (λ (x : Core). x.slots) after

-- where no slot changes
unchanged : (c d : Core) → d.slots ≡ c.slots → (t : ℕ) → state_of d t ≡ state_of c t
unchanged c d is t = ap (λ (xs : List Slot). get_or xs t Free) is

pub past_was_past : (e : Event) (c d : Core) → Step e c d → Facts c → (t m : ℕ) → state_of d t ≡ Live m → m < c.sweeper.root_seen → state_of c t ≡ Live m
past_was_past (OwnerClaim s) c d h f t m live past = unlive c d s (OutOwner c.owner.next) h.exists (slots_of h.after) (λ k e. cc) t m live
past_was_past (OwnerTake s) c d h f t m live past = unlive c d s (OutOwner h.number) (inside_live c s h.number h.live) (slots_of h.after) (λ k e. cc) t m live
past_was_past (OwnerPut s) c d h f t m live past =
    let a = f.seen in
    let b = f.list.root_below_next in
    made_live c d s c.owner.next (inside_owner c s h.number h.out) (slots_of h.after) (omega arith) t m live past
past_was_past (OwnerLower s) c d h f t m live past =
    let a = f.seen in
    let b = f.list.from_root h.listed.0 h.number h.listed.1 in
    made_live c d s h.number (inside_owner c s h.number h.out) (slots_of h.after) (omega arith) t m live past
past_was_past (OwnerFree s) c d h f t m live past = unlive c d s Free (inside_owner c s h.number h.out) (slots_of h.after) (λ k e. cc) t m live
past_was_past (SweeperGrab s) c d h f t m live past = unlive c d s (OutSweeper h.number) (inside_live c s h.number h.live) (slots_of h.after) (λ k e. cc) t m live
past_was_past (SweeperFree s) c d h f t m live past =
    let out = f.sweeper.out s h.holds in
    unlive c d s Free (inside_sweeper c s out.0 out.1) (slots_of h.after) (λ k e. cc) t m live
past_was_past _ c d h f t m live past = sym (unchanged c d (slots_of h.after) t) ∙ live

-- The owner's note

-- what a step on the slot s leaves is a look at another slot
forgot : (s t : ℕ) (w : Slot) (was : OwnerNote) → forget s was ≡ Some (record { slot = t; found = w }) →
    (was ≡ Some (record { slot = t; found = w })) × (t ≢ s)
forgot s t w None e = absurd cc
forgot s t w (Some l) e = elim (cases_eq l.slot s) [
  | inl same ↦
      let hit : nat_eq l.slot s ≡ true = grind (arith, nat_tests) in
      absurd (let wrong : None ≡ Some (record { slot = t; found = w }) = rw hit at e in cc)
  | inr other ↦
      let miss : nat_eq l.slot s ≡ false = grind (arith, nat_tests) in
      let kept : Some l ≡ Some (record { slot = t; found = w }) = rw miss at e in
      let look : l ≡ record { slot = t; found = w } = cc in
      let slot : l.slot ≡ t = ap (λ (x : Look). x.slot) look in
      (kept, λ here. other (slot ∙ here))
]

-- a step on the slot s keeps a look at another one
elsewhere : (s : ℕ) (c d : Core) (was : OwnerNote) → ((t : ℕ) → t ≢ s → state_of d t ≡ state_of c t) → LookStands was c → LookStands (forget s was) d
elsewhere s c d was same l = record {
  free = λ t e. let k = forgot s t Free was e in same t k.1 ∙ l.free t k.0;
  live = λ t n e. let k = forgot s t (Live n) was e in let is = same t k.1 in rw is (l.live t n k.0);
}

other_slots : (s : ℕ) (w : Slot) (c d : Core) → d.slots ≡ set c.slots s w → (t : ℕ) → t ≢ s → state_of d t ≡ state_of c t
other_slots s w c d is t other = ap (λ (xs : List Slot). get_or xs t Free) is ∙ get_or-set_other c.slots s t w Free other

-- a step that writes the slot s keeps a look at another one
moved : (s : ℕ) (w : Slot) (a b : Noted) → b.core.slots ≡ set a.core.slots s w → b.owner ≡ forget s a.owner → LookStands a.owner a.core → LookStands b.owner b.core
moved s w a b is note l = rw note (elsewhere s a.core b.core a.owner (other_slots s w a.core b.core is) l)

still : (c d : Core) (was : OwnerNote) → d.slots ≡ c.slots → LookStands was c → LookStands was d
still c d was is l = record {
  free = λ t e. unchanged c d is t ∙ l.free t e;
  live = λ t n e. let same = unchanged c d is t in rw same (l.live t n e);
}

look_stands : (e : Event) (a b : Noted) → NotedStep e a b → Facts a.core → LookStands a.owner a.core → LookStands b.owner b.core
look_stands (OwnerLook s) a b h f l =
    let is : b.core.slots ≡ a.core.slots = slots_of h.step.after in
    let seen : (t : ℕ) (w : Slot) → b.owner ≡ Some (record { slot = t; found = w }) → state_of b.core t ≡ w = λ t w e.
    let both : Some (record { slot = s; found = state_of a.core s }) ≡ Some (record { slot = t; found = w }) = sym h.owner ∙ e in
    let look : record { slot = s; found = state_of a.core s } ≡ record { slot = t; found = w } = cc in
    let slot : s ≡ t = ap (λ (x : Look). x.slot) look in
    let found : state_of a.core s ≡ w = ap (λ (x : Look). x.found) look in
    unchanged a.core b.core is t ∙ (rw (← slot) found) in
    record { free = λ t e. seen t Free e; live = λ t n e. inl (seen t (Live n) e) }
look_stands (OwnerClaim s) a b h f l = moved s _ a b (slots_of h.step.after) h.owner l
look_stands (OwnerTake s) a b h f l = moved s _ a b (slots_of h.step.after) h.owner l
look_stands (OwnerEmpty s) a b h f l = rw h.owner (elsewhere s a.core b.core a.owner (λ t other. unchanged a.core b.core (slots_of h.step.after) t) l)
look_stands (OwnerFill s n) a b h f l = rw h.owner (elsewhere s a.core b.core a.owner (λ t other. unchanged a.core b.core (slots_of h.step.after) t) l)
look_stands (OwnerPut s) a b h f l = moved s _ a b (slots_of h.step.after) h.owner l
look_stands (OwnerLower s) a b h f l = moved s _ a b (slots_of h.step.after) h.owner l
look_stands (OwnerFree s) a b h f l = moved s _ a b (slots_of h.step.after) h.owner l
look_stands (SweeperGrab s) a b h f l =
    let at = λ (t : ℕ). wrote a.core b.core s (OutSweeper h.step.number) (inside_live a.core s h.step.number h.step.live) (slots_of h.step.after) t in
    let live = h.step.live in
    rw h.owner (record {
      free = λ t e. let was = l.free t e in let x = at t in grind arith;
      live = λ t n e. let was = l.live t n e in let x = at t in grind arith;
    })
look_stands (SweeperFree s) a b h f l =
    let out = f.sweeper.out s h.step.holds in
    let at = λ (t : ℕ). wrote a.core b.core s Free (inside_sweeper a.core s out.0 out.1) (slots_of h.step.after) t in
    rw h.owner (record {
      free = λ t e. let was = l.free t e in let x = at t in grind arith;
      live = λ t n e. let was = l.live t n e in let x = at t in grind arith;
    })
look_stands _ a b h f l = rw h.owner (still a.core b.core a.owner (slots_of h.step.after) l)

-- The sweeper's note

-- a step that leaves the note, the clean count and the root seen
found_kept : (e : Event) (a b : Noted) → Step e a.core b.core → Facts a.core → b.sweeper.found ≡ a.sweeper.found →
    b.core.sweeper.clean ≡ a.core.sweeper.clean → b.core.sweeper.root_seen ≡ a.core.sweeper.root_seen →
    FoundStands a.sweeper a.core → FoundStands b.sweeper b.core
found_kept e a b step f note clean seen stands n m found live past =
    let live' : state_of b.core a.core.sweeper.clean ≡ Live m = rw (← clean) live in
    let past' : m < a.core.sweeper.root_seen = rw (← seen) past in
    stands n m (sym note ∙ found) (past_was_past e a.core b.core step f a.core.sweeper.clean m live' past') past'

found_stands : (e : Event) (a b : Noted) → NotedStep e a b → Facts a.core → FoundStands a.sweeper a.core → FoundStands b.sweeper b.core
found_stands SweeperRoot a b h f g = λ n m found live past.
    let none : b.sweeper.found ≡ None = ap (λ (x : SweeperNote). x.found) h.sweeper in
    let wrong : None ≡ Some n = sym none ∙ found in cc
found_stands (SweeperLook s) a b h f g = λ n m found live past.
    let note : b.sweeper.found ≡ (if is_retired a.core.sweeper.root_seen (state_of a.core s) then live_number (state_of a.core s) else None) = ap (λ (x : SweeperNote). x.found) h.sweeper in
    let clean : b.core.sweeper.clean ≡ (if is_retired a.core.sweeper.root_seen (state_of a.core s) then a.core.sweeper.clean else (a.core.sweeper.clean + 1)) = ap (λ (x : Core). x.sweeper.clean) h.step.after in
    let same : state_of b.core s ≡ state_of a.core s = unchanged a.core b.core (slots_of h.step.after) s in
    looked_stands a.core.sweeper.root_seen (state_of a.core s) n m s a.core.sweeper.clean b.core.sweeper.clean h.step.in_turn clean (sym note ∙ found)
    (λ here. sym same ∙ (rw here at live))
  where
    looked_stands : (seen : ℕ) (w : Slot) (n m s clean now : ℕ) → s ≡ clean → now ≡ (if is_retired seen w then clean else (clean + 1)) →
        (if is_retired seen w then live_number w else None) ≡ Some n → (now ≡ s → w ≡ Live m) → m ≡ n
    looked_stands seen w n m s clean now turn is note live =
        elim (is_retired seen w) as (λ b. now ≡ (if b then clean else (clean + 1)) → (if b then live_number w else None) ≡ Some n → m ≡ n) [
          | true ↦ λ stays number.
              let is_live : w ≡ Live m = live (stays ∙ sym turn) in
              let same : Some m ≡ Some n = rw is_live at number in
              cc
          | false ↦ λ rises number. absurd cc
        ] is note
found_stands (SweeperFree s) a b h f g = elim (cases_eq s a.core.sweeper.clean) [
  | inl same ↦ λ n m found live past.
      let hit : nat_eq s a.core.sweeper.clean ≡ true = grind (arith, nat_tests) in
      let note : b.sweeper.found ≡ (if nat_eq s a.core.sweeper.clean then None else a.sweeper.found) = ap (λ (x : SweeperNote). x.found) h.sweeper in
      let none : b.sweeper.found ≡ None = rw hit at note in
      let wrong : None ≡ Some n = sym none ∙ found in cc
  | inr other ↦
      let miss : nat_eq s a.core.sweeper.clean ≡ false = grind (arith, nat_tests) in
      let note : b.sweeper.found ≡ (if nat_eq s a.core.sweeper.clean then None else a.sweeper.found) = ap (λ (x : SweeperNote). x.found) h.sweeper in
      let clean : b.core.sweeper.clean ≡ (if nat_eq s a.core.sweeper.clean then (a.core.sweeper.clean + 1) else a.core.sweeper.clean) = ap (λ (x : Core). x.sweeper.clean) h.step.after in
      found_kept (SweeperFree s) a b h.step f (rw miss at note) (rw miss at clean) (ap (λ (x : Core). x.sweeper.root_seen) h.step.after) g
]
found_stands e a b h f g =
    found_kept e a b h.step f (ap (λ (x : SweeperNote). x.found) h.sweeper) (ap (λ (x : Core). x.sweeper.clean) h.step.after) (ap (λ (x : Core). x.sweeper.root_seen) h.step.after) g

pub step_keeps_notes : (e : Event) (a b : Noted) → NotedStep e a b → Facts a.core → NotesStand a → NotesStand b
step_keeps_notes e a b h f stand = record { look = look_stands e a b h f stand.look; found = found_stands e a b h f stand.found }

-- The counts

counted : {X : Type 0} (p : X → Bool) (x : X) (xs : List X) → length (filter p (x ∷ xs)) ≡ cond (p x) 1 0 + length (filter p xs)
counted p x xs = elim (p x) as (λ b. length (cond b (x ∷ filter p xs) (filter p xs)) ≡ cond b 1 0 + length (filter p xs)) [ true ↦ omega arith | false ↦ omega arith ]

rounds_step : (e : Event) (a b : Noted) → NotedStep e a b → b.sweeper.rounds ≡ a.sweeper.rounds + cond (is_round e) 1 0
rounds_step SweeperRoot a b h = let is = ap (λ (x : SweeperNote). x.rounds) h.sweeper in omega arith
rounds_step _ a b h = let is = ap (λ (x : SweeperNote). x.rounds) h.sweeper in omega arith

taken_back_step : (e : Event) (a b : Noted) → NotedStep e a b → b.sweeper.taken_back ≡ a.sweeper.taken_back + cond (is_taking_back e) 1 0
taken_back_step (SweeperFree s) a b h = let is = ap (λ (x : SweeperNote). x.taken_back) h.sweeper in omega arith
taken_back_step _ a b h = let is = ap (λ (x : SweeperNote). x.taken_back) h.sweeper in omega arith

-- what a list of steps keeps
pub record RunKeeps (es : List Event) (a b : Noted) : Type 0 where
  pub facts : Facts b.core
  pub notes : NotesStand b
  pub rounds : b.sweeper.rounds ≡ a.sweeper.rounds + length (filter is_round es)
  pub taken_back : b.sweeper.taken_back ≡ a.sweeper.taken_back + length (filter is_taking_back es)

pub run_keeps_notes : (es : List Event) (a b : Noted) → NotedSteps es a b → Facts a.core → NotesStand a → RunKeeps es a b
run_keeps_notes [] a b same f stand = record {
  facts = subst (λ (x : Noted). Facts x.core) same f;
  notes = subst NotesStand same stand;
  rounds = let is = ap (λ (x : Noted). x.sweeper.rounds) same in omega arith;
  taken_back = let is = ap (λ (x : Noted). x.sweeper.taken_back) same in omega arith;
}
run_keeps_notes (e ∷ es) a b (m, step, rest) f stand =
    let after = run_keeps_notes es m b rest (step_keeps e a.core m.core step.step f) (step_keeps_notes e a m step f stand) in
    record {
      facts = after.facts;
      notes = after.notes;
      rounds = omega (arith, rounds_step e a m step, after.rounds, counted is_round e es);
      taken_back = omega (arith, taken_back_step e a m step, after.taken_back, counted is_taking_back e es);
    }

-- the start has nothing to keep
pub start_stands : (count : ℕ) → NotesStand (noted_start count)
start_stands count = record {
  look = record { free = λ s e. absurd cc; live = λ s n e. absurd cc };
  found = λ n m e live past. absurd cc;
}

-- the notes follow any list of steps
pub run_has_notes : (es : List Event) (a : Noted) (d : Core) → Steps es a.core d → (b : Noted) × NotedSteps es a b × (b.core ≡ d)
run_has_notes [] a d same = (a, refl, same)
run_has_notes (e ∷ es) a d (m, step, rest) =
    let n : Noted = record { core = m; owner = owner_note e a.core a.owner; sweeper = sweeper_note e a.core a.sweeper } in
    let after = run_has_notes es n d rest in
    (after.0, (n, record { step = step; owner = refl; sweeper = refl }, after.1), after.2)
