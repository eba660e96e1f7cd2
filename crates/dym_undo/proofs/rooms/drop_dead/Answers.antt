use Rattle.std.proofs.Common.{◌≡◌, ℕ, ◌-◌, ◌≤◌, List, [], ◌∷◌, length, map, take, drop, Some, slice_get, refl, sym, ap, ap₂, ◌∙◌, arith, subst, ◌++◌, append-nil}
use Rattle.std.proofs.Math.Seq.{take-length, drop-length}
use Rattle.dym_undo.specs.Heads.{bytes_in}
use Rattle.dym_undo.specs.UndoLogs.{ArePlaced, IsDrained}
use Rattle.dym_undo.specs.declared.head.Head.{Head}
use Rattle.dym_undo.proofs.Decoding.{bytes_in-split}
use Rattle.dym_undo.proofs.rooms.drop_dead.Goals as goal

first_placed : (low high p : ℕ) (ps : List ℕ) → slice_get ps 0 ≡ Some p → ArePlaced low high ps → ArePlaced p high ps
first_placed low high p [] e placed = absurd cc
first_placed low high p (x ∷ ps) e placed =
    let same : x ≡ p = cc in
    (omega (arith, same), placed.1)

placed_high : (low high : ℕ) (ps : List ℕ) → ArePlaced low high ps → low ≤ high
placed_high low high [] p = p
placed_high low high (x ∷ ps) p = omega (arith, p.0, placed_high x high ps p.1)

map_less : (ps : List ℕ) → ps ≡ map (λ p. p - 0) ps
map_less [] = refl
map_less (p ∷ ps) = ap₂ (λ (x : ℕ) (xs : List ℕ). x ∷ xs) (let e : p ≡ p - 0 = omega arith in e) (map_less ps)

none_drained : (places : List ℕ) (hs : List Head) (bytes : List ℕ) → ArePlaced 0 (length hs) places → IsDrained places hs bytes places hs bytes
none_drained places hs bytes placed = record { count = 0; placed = placed; places_are = map_less places; heads_are = refl; bytes_are = refl }

pub returns-then-place-len-clause-drained : goal.returns-then-place-len-clause-drained
returns-then-place-len-clause-drained c = none_drained c.args.places.now.items c.args.heads.now.items c.args.bytes.now.items c.requires.placed

bytes_split : (n : ℕ) (hs : List Head) → bytes_in (take n hs) ≤ bytes_in hs
bytes_split n hs = omega (arith, bytes_in-split n hs)

low : (n p : ℕ) (ps : List ℕ) → slice_get ps 0 ≡ Some p → ArePlaced 0 n ps → p ≤ n
low n p ps e placed = placed_high p n ps (first_placed 0 n p ps e placed)

pub overflow_sub-len : goal.overflow_sub-len
overflow_sub-len c = omega (arith, low _ c.in-Some.place c.args.places.now.items (sym (sym c.in-Some.is ∙ c.first_place.ensures ∙ ap (λ (ps : List ℕ). slice_get ps 0) c.deref.ensures.value)) c.requires.placed, c.len.ensures)

pub split_at-requires : goal.split_at-requires
split_at-requires c = omega (arith, low _ c.in-Some.place c.args.places.now.items (sym (sym c.in-Some.is ∙ c.first_place.ensures ∙ ap (λ (ps : List ℕ). slice_get ps 0) c.deref.ensures.value)) c.requires.placed, c.deref-2.ensures.len)

pub count_bytes-gone-requires : goal.count_bytes-gone-requires
count_bytes-gone-requires c =
    omega (arith, ap bytes_in (c.split_at.ensures.front ∙ ap (take c.in-Some.place) c.deref-2.ensures.value), bytes_split c.in-Some.place c.args.heads.now.items, c.requires.whole, c.len-len.ensures)

pub drop_first-requires : goal.drop_first-requires
drop_first-requires c = omega (arith, low _ c.in-Some.place c.args.places.now.items (sym (sym c.in-Some.is ∙ c.first_place.ensures ∙ ap (λ (ps : List ℕ). slice_get ps 0) c.deref.ensures.value)) c.requires.placed)

pub drop_first-requires-2 : goal.drop_first-requires-2
drop_first-requires-2 c =
    omega (arith, ap bytes_in (c.split_at.ensures.front ∙ ap (take c.in-Some.place) c.deref-2.ensures.value), bytes_split c.in-Some.place c.args.heads.now.items, c.requires.whole, c.count_bytes-gone.ensures)

pub move_places-requires : goal.move_places-requires
move_places-requires c = (
  length c.args.heads.now.items,
  subst (ArePlaced c.in-Some.place (length c.args.heads.now.items)) (sym c.deref_mut.ensures.value)
      (first_placed 0 (length c.args.heads.now.items) c.in-Some.place c.args.places.now.items (sym (sym c.in-Some.is ∙ c.first_place.ensures ∙ ap (λ (ps : List ℕ). slice_get ps 0) c.deref.ensures.value)) c.requires.placed),
)

whole : (n : ℕ) (xs ys : List ℕ) → length xs ≡ length ys → n ≡ length ys → take n (xs ++ drop (length xs) ys) ≡ xs
whole n xs ys same is =
    ap₂ (λ (m : ℕ) (l : List ℕ). take m (xs ++ l)) (is ∙ sym same) (ap (λ k. drop k ys) same ∙ drop-length ys)
    ∙ ap (take (length xs)) (append-nil xs) ∙ take-length xs

pub returns-clause-drained : goal.returns-clause-drained
returns-clause-drained c = record {
  count = c.in-Some.place;
  placed = first_placed 0 (length c.args.heads.now.items) c.in-Some.place c.args.places.now.items (sym (sym c.in-Some.is ∙ c.first_place.ensures ∙ ap (λ (ps : List ℕ). slice_get ps 0) c.deref.ensures.value)) c.requires.placed;
  places_are = whole _ c.move_places.new.places c.args.places.now.items (c.move_places.auto.places ∙ ap length c.deref_mut.ensures.value) (omega (arith, c.deref_mut.ensures.len, ap length c.deref_mut.ensures.value)) ∙ c.move_places.ensures ∙ ap (map (λ p. p - c.in-Some.place)) c.deref_mut.ensures.value;
  heads_are = c.drop_first.ensures.items;
  bytes_are = c.drop_first-2.ensures.items
      ∙ ap (λ n. drop n c.args.bytes.now.items) (c.count_bytes-gone.ensures ∙ ap bytes_in (c.split_at.ensures.front ∙ ap (take c.in-Some.place) c.deref-2.ensures.value));
}
