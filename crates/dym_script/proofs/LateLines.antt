-- The lines of a script of late events: how many events each object has with one line more, and that no more are accepted.
use Rattle.std.proofs.Common.{◌≡◌, ◌≢◌, ℕ, ◌+◌, ◌<◌, ◌≤◌, ◌==◌, ◌&&◌, Bool, true, false, cond, max, nat_lt, List, [], ◌∷◌, ◌++◌, All, length, map, filter, get_or, set, refl, sym, ap, ◌∙◌, arith, add-zero, eqb-true, get_or-set_other, length-set, length-append}
use Rattle.std.proofs.Math.ListN.{get_or-append}
use Rattle.std.proofs.Math.Seq.{get_or-append_seam}
use Rattle.std.proofs.lemmas.Bool.Decides.{nat_tests}
use Rattle.std.proofs.lemmas.Grind.{get_or-set_at}
use Rattle.std.proofs.lemmas.List.Sums.{sum_by-append, sum_by-cons}
use Rattle.std.proofs.lemmas.List.Elements.{All-head, All-tail, All-push, All-weaker}
use Rattle.dym_base.specs.LateRun.{Arrival, accepted_after}
use Rattle.dym_script.specs.declared.late_reader.LateReader.{LateReader}
use Rattle.dym_base.specs.declared.limits.TheConstants.{MOST_LATE_LINES, MOST_LATE_EVENTS}
use Rattle.dym_script.specs.declared.late_script.LateAct.{LateAct}
use Rattle.dym_script.specs.declared.late_script.LateAct.TheVariants.{At, Commit}
use Rattle.dym_script.specs.declared.late_script.LateLine.{LateLine}
use Rattle.dym_script.specs.Late.{is_event, events_of}
use Rattle.dym_script.specs.LateArrivals.{arrival, arrivals_of, MayAct, NoMoreAreAccepted}
use Rattle.dym_script.specs.LateAnswers.{AreCounts, IsValidLateReader}
use Rattle.dym_script.specs.Readers.{IsValidReader}

-- the line is one of this object's events
abbrev counts_for : LateLine → ℕ → Bool
counts_for line object = line.object == object && is_event line.act

events_cons : (line : LateLine) (lines : List LateLine) (object : ℕ) → events_of (line ∷ lines) object ≡ cond (counts_for line object) 1 0 + events_of lines object
events_cons line lines object = sum_by-cons (λ l. cond (counts_for l object) 1 0) line lines

events_push : (lines : List LateLine) (line : LateLine) (object : ℕ) → events_of (lines ++ line ∷ []) object ≡ events_of lines object + cond (counts_for line object) 1 0
events_push lines line object = sum_by-append (λ l. cond (counts_for l object) 1 0) lines (line ∷ [])
    ∙ ap (λ n. events_of lines object + n) (events_cons line [] object ∙ add-zero (cond (counts_for line object) 1 0))

-- an event more of its object, and of no other
events_own : (lines : List LateLine) (line : LateLine) (object : ℕ) → (line.object == object) ≡ true → is_event line.act ≡ true
    → events_of (lines ++ line ∷ []) object ≡ events_of lines object + 1
events_own lines line object own marked = events_push lines line object ∙ ap (λ b. events_of lines object + cond (b && is_event line.act) 1 0) own
    ∙ ap (λ b. events_of lines object + cond b 1 0) marked

events_other : (lines : List LateLine) (line : LateLine) (object : ℕ) → (line.object == object) ≡ false → events_of (lines ++ line ∷ []) object ≡ events_of lines object
events_other lines line object other = events_push lines line object ∙ ap (λ b. events_of lines object + cond (b && is_event line.act) 1 0) other
    ∙ add-zero (events_of lines object)

-- a commit is no event
no_event : (b : Bool) (n : ℕ) → n + cond (b && false) 1 0 ≡ n
no_event true n = add-zero n
no_event false n = add-zero n

events_none : (lines : List LateLine) (line : LateLine) (object : ℕ) → is_event line.act ≡ false → events_of (lines ++ line ∷ []) object ≡ events_of lines object
events_none lines line object unmarked = events_push lines line object
    ∙ ap (λ b. events_of lines object + cond ((line.object == object) && b) 1 0) unmarked ∙ no_event (line.object == object) (events_of lines object)

-- what is known of the counts with one line more
pub record Counts (lines : List LateLine) (counts : List ℕ) : Type 0 where
  pub are : AreCounts counts lines
  pub few : (object : ℕ) → events_of lines object ≤ MOST_LATE_EVENTS

pub counts_event : (lines : List LateLine) (line : LateLine) (counts : List ℕ) (n d : ℕ) → Counts lines counts → line.object < length counts
    → is_event line.act ≡ true → n ≡ get_or counts line.object d → n ≢ MOST_LATE_EVENTS
    → Counts (lines ++ line ∷ []) (set counts line.object (n + 1))
counts_event lines line counts n first old inside marked at room = record {
  are = λ object d small. elim (line.object == object) as (λ b. (line.object == object) ≡ b
      → get_or (set counts line.object (n + 1)) object d ≡ events_of (lines ++ line ∷ []) object) [
        | true ↦ λ own.
            let is : line.object ≡ object = eqb-true line.object object own in
            get_or-set_at counts line.object object (n + 1) d (sym is) inside
            ∙ ap (λ k. k + 1) (at ∙ old.are line.object first inside ∙ ap (events_of lines) is) ∙ sym (events_own lines line object own marked)
        | false ↦ λ other.
            let apart : object ≢ line.object = grind (arith, nat_tests) in
            get_or-set_other counts line.object object (n + 1) d apart ∙ old.are object d (omega (arith, length-set counts line.object (n + 1)))
            ∙ sym (events_other lines line object other)
      ] refl;
  few = λ object. elim (line.object == object) as (λ b. (line.object == object) ≡ b → events_of (lines ++ line ∷ []) object ≤ MOST_LATE_EVENTS) [
    | true ↦ λ own.
        let is : line.object ≡ object = eqb-true line.object object own in
        let now : n ≡ events_of lines object = at ∙ old.are line.object first inside ∙ ap (events_of lines) is in
        let below : n < MOST_LATE_EVENTS = grind (arith, nat_tests, now, old.few object, room) in
        omega (arith, below, now, events_own lines line object own marked)
    | false ↦ λ other. omega (arith, old.few object, events_other lines line object other)
  ] refl;
}

pub counts_commit : (lines : List LateLine) (line : LateLine) (counts : List ℕ) → Counts lines counts → is_event line.act ≡ false → Counts (lines ++ line ∷ []) counts
counts_commit lines line counts old unmarked = record {
  are = λ object d small. old.are object d small ∙ sym (events_none lines line object unmarked);
  few = λ object. omega (arith, old.few object, events_none lines line object unmarked);
}

-- an object that no line names has no event
no_events : (lines : List LateLine) (n : ℕ) → All (λ line. line.object < n) lines → events_of lines n ≡ 0
no_events [] n within = refl
no_events (l ∷ ls) n within =
    let below : l.object < n = All-head (λ line. line.object < n) l ls within in
    let other : (l.object == n) ≡ false = grind (arith, nat_tests) in
    let none : ℕ = 0 in
    let first : cond (counts_for l n) 1 0 ≡ none = ap (λ b. cond (b && is_event l.act) 1 0) other in
    omega (arith, events_cons l ls n, first, no_events ls n (All-tail (λ line. line.object < n) l ls within))

pub counts_declare : (lines : List LateLine) (counts : List ℕ) → AreCounts counts lines → All (λ line. line.object < length counts) lines
    → AreCounts (counts ++ 0 ∷ []) lines
counts_declare lines counts are within object d small =
    elim (nat_lt object (length counts)) as (λ b. nat_lt object (length counts) ≡ b → get_or (counts ++ 0 ∷ []) object d ≡ events_of lines object) [
      | true ↦ λ old.
          let inside : object < length counts = grind (arith, nat_tests) in
          get_or-append counts (0 ∷ []) d object inside ∙ are object d inside
      | false ↦ λ new.
          let last : object ≡ length counts = grind (arith, nat_tests, length-append counts (0 ∷ [])) in
          ap (λ k. get_or (counts ++ 0 ∷ []) k d) last ∙ get_or-append_seam counts 0 [] d ∙ sym (ap (events_of lines) last ∙ no_events lines (length counts) within)
    ] refl

-- there is room for a line more
pub late_room : (n : ℕ) → n ≤ MOST_LATE_LINES → n ≢ MOST_LATE_LINES → n < MOST_LATE_LINES
late_room n within other = grind (arith, nat_tests)

-- what is kept stays kept with a line more
pub kept_line : (r s : LateReader) (line : LateLine) → IsValidLateReader r → s.declared ≡ r.declared → s.lines.items ≡ r.lines.items ++ line ∷ []
    → length s.events.items ≡ length r.events.items → length r.lines.items < MOST_LATE_LINES
    → line.object < length r.declared.objects.items → MayAct line.act → Counts (r.lines.items ++ line ∷ []) s.events.items → IsValidLateReader s
kept_line r s line kept same lines counted room inside may counts = record {
  index = rw same kept.index;
  version = rw same kept.version;
  counted = rw same (counted ∙ kept.counted);
  counts = rw lines counts.are;
  few = rw lines (omega (arith, length-append r.lines.items (line ∷ [])));
  within = rw (same, lines) (All-push (λ l. l.object < length r.declared.objects.items) r.lines.items line kept.within inside);
  acts = rw lines (All-push (λ l. MayAct l.act) r.lines.items line kept.acts may);
  events = rw lines counts.few;
}

-- and with a declaration more
pub kept_declared : (r s : LateReader) → IsValidLateReader r → IsValidReader s.declared → s.declared.version ≡ r.declared.version
    → length s.declared.objects.items ≡ length r.declared.objects.items + 1 → s.events.items ≡ r.events.items ++ 0 ∷ [] → s.lines ≡ r.lines
    → IsValidLateReader s
kept_declared r s kept index version more events lines =
    let within : All (λ line. line.object < length r.events.items) r.lines.items = rw kept.counted kept.within in
    record {
      index = index;
      version = version ∙ kept.version;
      counted = rw events (omega (arith, more, kept.counted, length-append r.events.items (0 ∷ [])));
      counts = rw (events, lines) (counts_declare r.lines.items r.events.items kept.counts within);
      few = rw lines kept.few;
      within = rw lines (All-weaker (λ line. line.object < length r.declared.objects.items) (λ line. line.object < length s.declared.objects.items)
          (λ line below. omega (arith, more)) r.lines.items kept.within);
      acts = rw lines kept.acts;
      events = rw lines kept.events;
    }

-- of one arrival more at most one event more is accepted
accepted_more : (act : LateAct) (bound : ℕ) (arrivals : List Arrival) (n : ℕ) → ((b : ℕ) → length (accepted_after b arrivals) ≤ n)
    → length (accepted_after bound (arrival act ∷ arrivals)) ≤ cond (is_event act) 1 0 + n
accepted_more (Commit time) bound arrivals n few = omega (arith, few (max bound time))
accepted_more (At time command) bound arrivals n few =
    elim (nat_lt time bound) as (λ b.
    length (cond b (accepted_after bound arrivals) (record { time = time; command = command } ∷ accepted_after bound arrivals)) ≤ 1 + n) [
      | true ↦ omega (arith, few bound)
      | false ↦ omega (arith, few bound)
    ]

arrivals_cons : (line : LateLine) (lines : List LateLine) (object : ℕ)
    → arrivals_of (line ∷ lines) object ≡ cond (line.object == object) (arrival line.act ∷ arrivals_of lines object) (arrivals_of lines object)
arrivals_cons line lines object = elim (line.object == object) as (λ b.
    map (λ l. arrival l.act) (cond b (line ∷ filter (λ l. l.object == object) lines) (filter (λ l. l.object == object) lines)) ≡ cond b
    (arrival line.act ∷ arrivals_of lines object) (arrivals_of lines object)) [ true ↦ refl | false ↦ refl ]

accepted_few : (lines : List LateLine) (object bound : ℕ) → length (accepted_after bound (arrivals_of lines object)) ≤ events_of lines object
accepted_few [] object bound = omega arith
accepted_few (l ∷ ls) object bound =
    let few : length (accepted_after bound (cond (l.object == object) (arrival l.act ∷ arrivals_of ls object) (arrivals_of ls object))) ≤ cond
    (l.object == object && is_event l.act) 1 0 + events_of ls object =
    elim (l.object == object) as (λ b. length (accepted_after bound (cond b (arrival l.act ∷ arrivals_of ls object) (arrivals_of ls object))) ≤ cond
    (b && is_event l.act) 1 0 + events_of ls object) [
      | true ↦ accepted_more l.act bound (arrivals_of ls object) (events_of ls object) (accepted_few ls object)
      | false ↦ omega (arith, accepted_few ls object bound)
    ] in
    rw (arrivals_cons l ls object, events_cons l ls object) few

pub no_more_are_accepted : NoMoreAreAccepted
no_more_are_accepted lines object = accepted_few lines object 0
