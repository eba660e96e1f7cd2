-- A note of the root is cut off the owner's seat, and the sweeper's takes it in.
use Rattle.std.proofs.Common.{◌≡◌, ℕ, zero, suc, ◌≤◌, max, inr, List, [], ◌∷◌, ◌++◌, map, set, sym, refl, ap, ◌∙◌, subst, arith}
use Rattle.std.specs.List.{All}
use Rattle.std.proofs.lemmas.List.{map-append, map-set}
use Rattle.std.proofs.lemmas.List.Elements.{All-head, All-tail, All-push, All-set}
use mathlib.Core.Option.{some, some-injective, some-ne-none}
use lib.ListN.{get_elem?}
use Rattle.atomic_table.specs.Table.{Splits, Joins}
use Rattle.atomic_table.proofs.Lists.{set_again}
use Rattle.dym_slots.specs.declared.machine.Entry.{Entry}
use Rattle.dym_slots.specs.declared.view.OwnerSeat.{OwnerSeat}
use Rattle.dym_slots.specs.declared.view.SweeperSeat.{SweeperSeat}
use Rattle.dym_slots.specs.declared.view.SeatView.{SeatView}
use Rattle.dym_slots.specs.declared.view.SeatView.TheVariants.{Owns, Sweeps, Knows}
use Rattle.dym_slots.specs.SeatViews.{Naming, listed, owner_seat, sweeper_seat, owner_of, sweeper_of, known_root, with_least_root, IsOwner, IsSweeper}
use Rattle.dym_slots.specs.TableStates.{Holds, first_of}
use Rattle.dym_slots.specs.Meanings.{first_number}
use Rattle.dym_slots.specs.Orders.{numbered, root_of}
use Rattle.dym_slots.proofs.Running.{owner_in, sweeper_in, note_at}

first_numbered : (records : Naming) (es : List Entry) (next : ℕ) → first_number (map numbered (map (listed records) es)) next ≡ first_of es next
first_numbered records [] next = refl
first_numbered records (e ∷ es) next = refl

-- what the owner's seat says of the root is so
root_here : (o : OwnerSeat) (records : Naming) (es : List Entry) (next root : ℕ) → map (listed records) es ≡ o.list → next ≡ o.next → first_of es next ≡ root → root_of o ≡ root
root_here o records es next root list is first =
    (λ j. first_number (map numbered (sym list j)) (sym is j)) ∙ first_numbered records es next ∙ first

pub notes_root : (count id : ℕ) (v : SeatView) → IsOwner v → Splits (Holds count) id v v (Knows (root_of (owner_of v)))
notes_root count id v owner st holds at =
    let o = owner_of v in
    let i = owner_in count st id o holds (at ∙ ap some owner) in
    let c = i.state.core in
    let s = i.shows in
    let root : root_of o ≡ c.root = root_here o i.records c.owner.list c.owner.next c.root (ap (λ (p : OwnerSeat). p.list) i.seat) (ap (λ (p : OwnerSeat). p.next) i.seat) i.sound.root in
    let same : set st.views id v ≡ st.views = set_again st.views id v at in
    inr (
      i.state,
      i.records,
      record {
        words = s.words;
        homes = s.homes;
        least_root = s.least_root;
        notes = s.notes ++ root_of o ∷ [];
        views = ap (λ (l : List SeatView). l ++ Knows (root_of o) ∷ []) (same ∙ s.views)
            ∙ ap (λ (l : List SeatView). Owns (owner_seat i.records c.owner i.state.owner) ∷ Sweeps (sweeper_seat s.least_root c.sweeper i.state.sweeper) ∷ l) (sym (map-append Knows s.notes (root_of o ∷ [])));
        reached = s.reached;
        all_reached = All-push (λ n. n ≤ c.root) s.notes (root_of o) s.all_reached (omega arith);
      },
      i.sound,
    )

-- the place of a note behind the two ends'
place_of : (o : OwnerSeat) (w : SweeperSeat) (notes : List ℕ) (other root : ℕ) → get_elem? (Owns o ∷ Sweeps w ∷ map Knows notes) other ≡ some (Knows root)
    → (k : ℕ) × (other ≡ suc (suc k)) × (get_elem? notes k ≡ some root)
place_of o w notes zero root e = absurd (let same : Owns o ≡ Knows root = some-injective (Owns o) (Knows root) e in cc)
place_of o w notes (suc zero) root e = absurd (let same : Sweeps w ≡ Knows root = some-injective (Sweeps w) (Knows root) e in cc)
place_of o w notes (suc (suc k)) root e =
    let n = note_at notes k (Knows root) e in
    (k, refl, n.1 ∙ ap (λ (v : SeatView). some (known_root v)) n.2)

reached_at : (notes : List ℕ) (k n root : ℕ) → All (λ m. m ≤ root) notes → get_elem? notes k ≡ some n → n ≤ root
reached_at [] k n root all e = absurd (some-ne-none n (sym e))
reached_at (m ∷ ms) zero n root all e = let same : m ≡ n = some-injective m n e in subst (λ (x : ℕ). x ≤ root) same (All-head (λ x. x ≤ root) m ms all)
reached_at (m ∷ ms) (suc k) n root all e = reached_at ms k n root (All-tail (λ x. x ≤ root) m ms all) e

pub learns_root : (count id : ℕ) (v : SeatView) (other : ℕ) (w : SeatView) → IsSweeper v → w ≡ Knows (known_root w)
    → Joins (Holds count) id v other w (Sweeps (with_least_root (known_root w) (sweeper_of v))) (Knows 0)
learns_root count id v other w sweeper knows st holds at apart there =
    let y = sweeper_of v in
    let root = known_root w in
    let both = with_least_root root y in
    let i = sweeper_in count st id y holds (at ∙ ap some sweeper) in
    let c = i.state.core in
    let s = i.shows in
    let owner = owner_seat i.records c.owner i.state.owner in
    let now : set st.views id (Sweeps both) ≡ Owns owner ∷ Sweeps both ∷ map Knows s.notes = λ k. set (s.views k) (i.second k) (Sweeps both) in
    let p = place_of owner both s.notes other root (ap (λ (l : List SeatView). get_elem? l other) (sym now) ∙ there ∙ ap some knows) in
    let low : root ≤ c.root = reached_at s.notes p.0 root c.root s.all_reached p.2 in
    let seat : sweeper_seat (max root s.least_root) c.sweeper i.state.sweeper ≡ both = ap (with_least_root root) i.seat in
    inr (
      i.state,
      i.records,
      record {
        words = s.words;
        homes = s.homes;
        least_root = max root s.least_root;
        notes = set s.notes p.0 0;
        views = (λ k. set (now k) (p.1 k) (Knows 0)) ∙ (λ k. Owns owner ∷ Sweeps (sym seat k) ∷ sym (map-set Knows s.notes p.0 0) k);
        reached = (let r = s.reached in omega arith);
        all_reached = All-set (λ n. n ≤ c.root) s.notes p.0 0 (omega arith) s.all_reached;
      },
      i.sound,
    )
