-- Chunks that are kept may count as touched.
use Rattle.std.proofs.Common.{◌≡◌, ℕ, ◌||◌, ◌&&◌, Bool, true, false, refl, sym, ap, ◌∙◌}
use Rattle.std.specs.List.{filter}
use Rattle.std.specs.Cmp.{nat_cmp_total, unsigned_tied}
use Rattle.std.specs.Ordering.{nat_cmp, eq_by_cmp}
use Rattle.std.proofs.lemmas.Bool.{eqb-true}
use Rattle.std.proofs.lemmas.Map.Views.{any-filter_same}
use Rattle.std.specs.FinMap.{contains_key, contains_key-keys, keys}
use Rattle.std.specs.FinSet.{contains, contains-from_list, from_list, contains-union}
use Rattle.dym_base.specs.Heaps.{Live, Touched, HeapState}
use Rattle.dym_base.specs.declared.command.Version.{Version}
use Rattle.dym_heap.specs.Touches.{all_touched, touched_in, has_byte_in}
use Rattle.dym_undo.specs.UndoLogs.{UndoMeaning, Belongs, IsKept}

-- the heap with another set of chunks that are touched
abbrev pub touching : HeapState → Touched → HeapState
touching s touched = record { live = s.live; touched = touched }

pub belongs_touched : (v : Version) (quota : ℕ) (s : HeapState) (touched : Touched) (u : UndoMeaning) → ((k : ℕ) → contains touched k ≡ true → IsKept u k)
    → Belongs v quota s u → Belongs v quota (touching s touched) u
belongs_touched v quota s touched u kept belongs = record {
  quota_same = belongs.quota_same;
  copies = belongs.copies;
  noted = λ some k has. kept k has some;
  fitting = belongs.fitting;
}

-- every live chunk
pub all_kept : (s : HeapState) (u : UndoMeaning) → ((k : ℕ) → contains_key s.live k ≡ true → IsKept u k) → (k : ℕ) → contains (all_touched s).touched k ≡ true
    → IsKept u k
all_kept s u kept k has = kept k (contains_key-keys s.live k ∙ sym (contains-from_list nat_cmp_total (keys s.live) k) ∙ has)

-- those with a byte in a range
either : (a b : Bool) (P : Type 0) → (a || b) ≡ true → (a ≡ true → P) → (b ≡ true → P) → P
either true b P is first next = first refl
either false b P is first next = next is

left : (a b : Bool) → (a && b) ≡ true → a ≡ true
left true b is = refl
left false b is = is

in_range : (quota : ℕ) (live : Live) (from end q : ℕ) → contains (from_list {R = nat_cmp} (filter (has_byte_in quota live from end) (keys live))) q ≡ true
    → has_byte_in quota live from end q ≡ true
in_range quota live from end q has =
    let p : ℕ → Bool = has_byte_in quota live from end in
    left (p q) _ (sym (contains-from_list nat_cmp_total (filter p (keys live)) q ∙ any-filter_same (eq_by_cmp nat_cmp q) p (p q)
    (λ x tied. ap p (sym (eqb-true q x (sym (unsigned_tied q x) ∙ tied)))) (keys live)) ∙ has)

pub range_kept : (v : Version) (quota from end : ℕ) (s : HeapState) (u : UndoMeaning) → Belongs v quota s u
    → ((k : ℕ) → has_byte_in quota s.live from end k ≡ true → IsKept u k) → (k : ℕ) → contains (touched_in quota from end s).touched k ≡ true → IsKept u k
range_kept v quota from end s u belongs kept k has =
    either (contains s.touched k) (contains (from_list {R = nat_cmp} (filter (has_byte_in quota s.live from end) (keys s.live))) k) (IsKept u k)
    (sym (contains-union nat_cmp_total s.touched (from_list (filter (has_byte_in quota s.live from end) (keys s.live))) k) ∙ has)
    (λ was some. belongs.noted some k was)
    (λ is. kept k (in_range quota s.live from end k is))
