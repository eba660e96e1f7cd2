-- What a round over lanes asks and gives, as facts of all workers of a world.
use Rattle.std.proofs.Common.{◌≡◌, ℕ, zero, suc, ◌+◌, ◌<◌, ◌≤◌, Option, Some, None, slice_get, get_or, set, List, [], ◌∷◌, ◌++◌, length, map, take, drop, refl, ap, sym, subst, ◌∙◌, arith}
use Rattle.std.specs.List.{All}
use Rattle.std.proofs.lemmas.List.Elements.{All-nil, All-push, All-append}
use Rattle.std.specs.List.{AllZip, zip}
use Rattle.warp_base.specs.Events.{Each, AreFrom}
use Rattle.warp_base.specs.Histories.{Behaviour}
use Rattle.std.proofs.lemmas.List.{take_more, take_all}
use Rattle.warp_base.proofs.Lists.{Each-front, Each-back, Each-append}
use Rattle.warp_process.specs.Processes.{ProcessFace}
use Rattle.warp_worker.specs.Workers.{WorkerFace, Cell, IsWorker, IsReady, IsArrival, MayAdvance, TellsNext, total}
use Rattle.warp_run.specs.Worlds.{AreWorkers, AreContiguous, IsNotBefore, process_count}
use Rattle.warp_run.proofs.Families.{faces}

pub Each-map : {X Y : Type 0} (f : X → Y) (Q : Y → Type 0) (xs : List X) → Each Q (map f xs) → Each (λ (x : X). Q (f x)) xs
Each-map f Q [] h = tt
Each-map f Q (x ∷ xs) h = (h.0, Each-map f Q xs h.1)

pub Each-mapped : {X Y : Type 0} (f : X → Y) (Q : Y → Type 0) (xs : List X) → Each (λ (x : X). Q (f x)) xs → Each Q (map f xs)
Each-mapped f Q [] h = tt
Each-mapped f Q (x ∷ xs) h = (h.0, Each-mapped f Q xs h.1)

pub map-set : {X Y : Type 0} (f : X → Y) (xs : List X) (i : ℕ) (y : X) → map f (set xs i y) ≡ set (map f xs) i (f y)
map-set f [] i y = refl
map-set f (x ∷ xs) zero y = refl
map-set f (x ∷ xs) (suc i) y = ap (λ l. f x ∷ l) (map-set f xs i y)

-- orders that are alike, for lanes that may all be advanced so
pub all_with : {O L : Type 0} (may : O → L → Type 0) (Alike : O → Type 0) (Q : L → Type 0) → ((o : O) (lane : L) → Alike o → Q lane → may o lane) → (orders : List O) (lanes : List L) → Each Alike orders → Each Q lanes → All (λ (x : O × L). may x.0 x.1) (zip orders lanes)
all_with may Alike Q tells [] [] same h = All-nil (λ x. may x.0 x.1)
all_with may Alike Q tells [] (lane ∷ lanes) same h = All-nil (λ x. may x.0 x.1)
all_with may Alike Q tells (o ∷ orders) [] same h = All-nil (λ x. may x.0 x.1)
all_with {O} {L} may Alike Q tells (o ∷ orders) (lane ∷ lanes) same h =
    let R : O × L → Type 0 = λ x. may x.0 x.1 in
    All-append R ((o, lane) ∷ []) (zip orders lanes) (All-push R [] (o, lane) (All-nil R) (tells o lane same.0 h.0)) (all_with may Alike Q tells orders lanes same.1 h.1)

pub zipped_with : {O L : Type 0} (R : O → L → L → Type 0) (Alike : O → Type 0) (T : L → L → Type 0) → ((o : O) (w v : L) → Alike o → R o w v → T w v) → (orders : List O) (before after : List L) → Each Alike orders → length orders ≡ length before → AllZip (λ (x : O × L) lane. R x.0 x.1 lane) (zip orders before) after → AllZip T before after
zipped_with R Alike T tells [] [] [] same count h = tt
zipped_with R Alike T tells [] [] (v ∷ after) same count h = absurd h
zipped_with R Alike T tells [] (w ∷ before) after same count h = absurd (omega (arith, count))
zipped_with R Alike T tells (o ∷ orders) [] after same count h = absurd (omega (arith, count))
zipped_with R Alike T tells (o ∷ orders) (w ∷ before) [] same count h = absurd h
zipped_with R Alike T tells (o ∷ orders) (w ∷ before) (v ∷ after) same count h = (tells o w v same.0 h.0, zipped_with R Alike T tells orders before after same.1 (omega (arith, count)) h.1)

-- where no lane has an error, as what their faces are
pub without_errors : {L F : Type 0} (face : L → F) (fine : L → Type 0) (Q : F → F → Type 0) (before after : List L) → AllZip (λ w v. fine v → Q (face w) (face v)) before after → Each fine after → AllZip Q (map face before) (map face after)
without_errors face fine Q [] [] h g = tt
without_errors face fine Q [] (v ∷ after) h g = absurd h
without_errors face fine Q (w ∷ before) [] h g = absurd h
without_errors face fine Q (w ∷ before) (v ∷ after) h g = (h.0 g.0, without_errors face fine Q before after h.1 g.1)

module _ {P S : Type 0} where
  -- where a worker's numbers begin
  pub first_at : (k : ℕ) (ws : List (WorkerFace P S)) (i : ℕ) (w : WorkerFace P S) → AreContiguous k ws → slice_get ws i ≡ Some w → w.first ≡ k + total process_count (take i ws)
  first_at k [] i w con there = cc
  first_at k (x ∷ ws) zero w con there = let is : x ≡ w = cc in ap (λ (u : WorkerFace P S). u.first) (sym is) ∙ con.0 ∙ (let e : k ≡ k + 0 = omega arith in e)
  first_at k (x ∷ ws) (suc i) w con there = let rest = first_at (k + length x.processes) ws i w con.1 there in omega (arith, rest)

  pub total_more : (count : WorkerFace P S → ℕ) (ws : List (WorkerFace P S)) (i : ℕ) (w : WorkerFace P S) → slice_get ws i ≡ Some w → total count (take (suc i) ws) ≡ total count (take i ws) + count w
  total_more count [] i w there = cc
  total_more count (x ∷ ws) zero w there = let is : x ≡ w = cc in let same = ap count is in let none = nothing ws in omega (arith, same, none)
    where
      nothing : (ws : List (WorkerFace P S)) → total count (take 0 ws) ≡ 0
      nothing ws = refl
  total_more count (x ∷ ws) (suc i) w there = let rest = total_more count ws i w there in omega (arith, rest)

  Each-cells : (Q : ProcessFace P S → Type 0) (cells : List (Cell P S)) → Each (λ (c : Cell P S). Q c.1) cells → Each Q (faces cells)
  Each-cells Q [] h = tt
  Each-cells Q (c ∷ cells) h = (h.0, Each-cells Q cells h.1)

  module _ (words : P → List ℕ) (b : Behaviour P S) (bound end : ℕ) where
    pub all_may : (cells : List (Cell P S)) (ws : List (WorkerFace P S)) → bound ≤ end → AreWorkers words b cells ws → Each (λ (w : WorkerFace P S). Each (IsReady bound bound end) w.processes) ws → Each (λ (w : WorkerFace P S). Each (IsArrival bound w) w.inbox) ws → Each (λ (w : WorkerFace P S). w.outbox ≡ []) ws → Each (λ (c : Cell P S). AreFrom bound c.1.early) cells → Each (λ (w : WorkerFace P S). MayAdvance bound end w × ((cs : List (Cell P S)) × IsWorker words b cs w)) ws
    all_may cells [] within workers ready inboxes outboxes early = tt
    all_may cells (w ∷ ws) within workers ready inboxes outboxes early =
        let front = workers.0 in
        let back = workers.1 in
        let all = subst (Each (λ (c : Cell P S). AreFrom bound c.1.early)) workers.2 early in
        let here = Each-front (λ (c : Cell P S). AreFrom bound c.1.early) front back all in (
          (
            record {
              within = within;
              ready = ready.0;
              early = subst (Each (λ (f : ProcessFace P S). AreFrom bound f.early)) workers.3.faces (Each-cells (λ (f : ProcessFace P S). AreFrom bound f.early) front here);
              inbox = inboxes.0;
              outbox = outboxes.0;
            },
            (front, workers.3),
          ),
          all_may back ws within workers.4 ready.1 inboxes.1 outboxes.1 (Each-back (λ (c : Cell P S). AreFrom bound c.1.early) front back all),
        )

    -- what a worker tells is later than the bound
    pub later_next : (ws : List (WorkerFace P S)) → Each (λ (w : WorkerFace P S). TellsNext bound w w.next) ws → Each (λ (w : WorkerFace P S). IsNotBefore (suc bound) w.next) ws
    later_next [] h = tt
    later_next (w ∷ ws) h = (one w w.next h.0, later_next ws h.1)
      where
        one : (w : WorkerFace P S) (next : Option ℕ) → TellsNext bound w next → IsNotBefore (suc bound) next
        one w None tells = tt
        one w (Some next) tells = omega (arith, tells.0)

-- where what is put at a place looks like what stood there
pub set_same : {X Y : Type 0} (f : X → Y) (xs : List X) (i : ℕ) (x y : X) → i < length xs → x ≡ get_or xs i x → f y ≡ f x → set (map f xs) i (f y) ≡ map f xs
set_same f [] i x y less is same = absurd (omega (arith, less))
set_same f (z ∷ xs) zero x y less is same = ap (λ w. w ∷ map f xs) (same ∙ ap f is)
set_same f (z ∷ xs) (suc i) x y less is same = ap (λ l. f z ∷ l) (set_same f xs i x y (omega (arith, less)) is same)

pub map_long : {X Y : Type 0} (f : X → Y) (xs : List X) → length (map f xs) ≡ length xs
map_long f [] = refl
map_long f (x ∷ xs) = ap suc (map_long f xs)

-- one list more is empty
pub empty_put : {X : Type 0} (lists : List (List X)) (i : ℕ) → i < length lists → Each (λ (l : List X). l ≡ []) (take i lists) → Each (λ (l : List X). l ≡ []) (take (i + 1) (set lists i []))
empty_put [] i less h = absurd (omega (arith, less))
empty_put (l ∷ lists) zero less h = (refl, tt)
empty_put {X} (l ∷ lists) (suc i) less h = subst (λ k. Each (λ (o : List X). o ≡ []) (take k (l ∷ set lists i []))) (let e : suc (i + 1) ≡ suc i + 1 = omega arith in e) (h.0, empty_put lists i (omega (arith, less)) h.1)

-- a fact of the first elements, and of the one behind them
pub Each-more : {X : Type 0} (Q : X → Type 0) (xs : List X) (i : ℕ) (x : X) → i < length xs → x ≡ get_or xs i x → Q x → Each Q (take i xs) → Each Q (take (i + 1) xs)
Each-more Q xs i x less is here h =
    let more : take (i + 1) xs ≡ take i xs ++ x ∷ [] = take_more xs i x less ∙ ap (λ y. take i xs ++ y ∷ []) (sym is) in
    subst (Each Q) (sym more) (Each-append Q (take i xs) (x ∷ []) h (here, tt))

pub Each-all : {X : Type 0} (Q : X → Type 0) (xs : List X) (i : ℕ) → length xs ≤ i → Each Q (take i xs) → Each Q xs
Each-all Q xs i all h = subst (Each Q) (take_all i xs all) h

pub Each-read : {X : Type 0} (Q : X → Type 0) (xs : List X) (i : ℕ) (x : X) → i < length xs → x ≡ get_or xs i x → Each Q xs → Q x
Each-read Q [] i x less is h = absurd (omega (arith, less))
Each-read Q (y ∷ xs) zero x less is h = subst Q (sym is) h.0
Each-read Q (y ∷ xs) (suc i) x less is h = Each-read Q xs i x (omega (arith, less)) is h.1

pub drop_beyond : {X : Type 0} (k : ℕ) (xs : List X) → length xs ≤ k → drop k xs ≡ []
drop_beyond zero [] few = refl
drop_beyond zero (x ∷ xs) few = absurd (omega (arith, few))
drop_beyond (suc k) [] few = refl
drop_beyond (suc k) (x ∷ xs) few = drop_beyond k xs (omega (arith, few))

pub map-push : {X Y : Type 0} (f : X → Y) (xs : List X) (x : X) → map f (xs ++ x ∷ []) ≡ map f xs ++ f x ∷ []
map-push f [] x = refl
map-push f (y ∷ xs) x = ap (λ l. f y ∷ l) (map-push f xs x)

pub none_left : {X : Type 0} (xs : List X) → length xs ≡ 0 → xs ≡ []
none_left [] is = refl
none_left (x ∷ xs) is = absurd (omega (arith, is))
