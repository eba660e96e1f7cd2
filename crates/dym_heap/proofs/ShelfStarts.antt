-- Where the segment of an area lies.
use Rattle.std.proofs.Common.{◌≡◌, ℕ, ◌-◌, ◌/◌, ◌^◌, ◌<◌, ◌≤◌, Bool, List, Option, None, Some, get_or, sym, ap, subst, ◌∙◌}
use Rattle.std.specs.Option.{ForSome}
use denote.RawPtr.{Ptr}
use Rattle.dym_region.specs.declared.segment.SegmentId.{SegmentId}
use Rattle.dym_quota.specs.Bound.{Binding, IsBoundTo}
use Rattle.dym_base.specs.Numbers.{per}
use Rattle.dym_base.specs.Origins.{Origin}
use Rattle.dym_base.specs.declared.command.Version.{Version}
use Rattle.dym_heap.specs.Shelves.{ShelfMeaning}
use Rattle.dym_heap.specs.SizedAreas.{SizedAreaMeaning}
use Rattle.dym_heap.specs.Arrangement.{AreBound, IsPlaced, shelf_of}
use Rattle.dym_heap.proofs.AreaBindings.{BoundArea}
use Rattle.dym_heap.proofs.ShelfCalls.{Finds, stands_e, in_e, placed_q}
use Rattle.dym_heap.proofs.ShelfParts.{IsShelfOf}

-- an area lies where its binding tells
start_of_area : (place_of : SegmentId → Option Ptr) (binding : Binding) {binding' : Binding} {v : Version} {e o : ℕ} {p : SizedAreaMeaning} (at : Ptr) → binding' ≡ binding → IsPlaced v e o p
    → IsBoundTo binding (p.exponent - 5) p.ordinal p.identity → ForSome (place_of p.identity) (λ place. at ≡ place) → ForSome binding' (λ f. ForSome (place_of (f (e - 5) o)) (λ place. at ≡ place))
start_of_area place_of None at same placed bound lies f is = absurd (let e = sym same ∙ is in cc)
start_of_area place_of (Some g) {e} {o} {p} at same placed bound lies f is = λ place there.
    let fs : (g ≡ f) = ap (λ (b : Binding). elim b as (λ _. ℕ → ℕ → SegmentId) [ None ↦ g | Some x ↦ x ]) (sym same ∙ is) in
    let id : p.identity ≡ f (e - 5) o = bound ∙ ap (λ x. g (x - 5) p.ordinal) placed.exponent ∙ ap (g (e - 5)) placed.ordinal ∙ (λ j. fs j (e - 5) o) in
    lies place (ap place_of id ∙ there)

-- the segment that the area of a chunk is over, where the area is there
pub start_of_chunk : (binding : Origin → ℕ → Binding) (place_of : SegmentId → Option Ptr)
    {v : Version} {quota : ℕ} {ids : List SegmentId} {origin : Origin} {starts : List ℕ}
    {sized_areas : List SizedAreaMeaning} {full : List (List Bool)} {room spare spare_room : ℕ} {s : ShelfMeaning}
    (view : shelf_of v quota ids origin starts sized_areas ≡ s)
    (is : IsShelfOf v quota ids starts sized_areas full room spare spare_room)
    → AreBound (binding origin quota) sized_areas
    → {e : ℕ} (low : 5 ≤ e) (high : e ≤ 16) (i : ℕ) (small : i < 2 ^ 32) {o j k : ℕ}
    → Finds view is low high i small o j k
    → {q : SizedAreaMeaning} → q ≡ get_or sized_areas k q → (at : Ptr)
    → ForSome (place_of q.identity) (λ place. at ≡ place)
    → ForSome (binding s.origin s.quota) (λ f. ForSome (place_of (f (e - 5) (i / per e))) (λ place. at ≡ place))
start_of_chunk binding place_of {s = s} view is bound {e} low high i small {k = k} finds {q} here at lies =
    let stands = stands_e view is low high i small finds in
    let over = subst (BoundArea _) (sym here) (bound k q (in_e view is low high i small finds)) in
    subst (λ o. ForSome (binding s.origin s.quota)
    (λ f. ForSome (place_of (f (e - 5) o)) (λ place. at ≡ place))) finds.0
    (start_of_area place_of _ at (ap (λ (t : ShelfMeaning). binding t.origin t.quota) (sym view))
    (placed_q view is stands here) over lies)
