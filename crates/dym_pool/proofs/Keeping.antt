-- Holdings that are kept, lent and joined.
use Rattle.std.proofs.Common.{◌≡◌, ℕ, ◌+◌, ◌<◌, List, [], ◌∷◌, ◌++◌, append_assoc, All, length, set, get_or, sym, refl, ap, ◌∙◌, subst, arith}
use Rattle.std.specs.List.{AllZip}
use Rattle.dym_pool.specs.Holdings.{Holding, KeepsShare, KeepsDeque, IsNewStealShare, IsStealShareOf, Lends, Joins, IsFinished}
use Rattle.dym_pool.proofs.Zips.{Back, zip-refl, zip-set, zip-trans, zip-under, zip-all, zip-at, zip-mid, zip-length}

module _ {O : Type 0} where
  -- the list and the part stay
  abbrev SameLoad : Holding O → Holding O → Type 0
  SameLoad a b = (b.part ≡ a.part) × (b.list ≡ a.list)

  -- all parts of a share are here
  abbrev HasAllParts : Holding O → Type 0
  HasAllParts s = s.part ≡ 65

  pub keeps_same : (x : Holding O) → KeepsShare x x
  keeps_same x = record { deque = refl; list = refl; part = refl }

  pub keeps_then : (x y z : Holding O) → KeepsShare x y → KeepsShare y z → KeepsShare x z
  keeps_then x y z a b = record { deque = b.deque ∙ a.deque; list = b.list ∙ a.list; part = b.part ∙ a.part }

  pub keeps_none : (xs : List (Holding O)) → AllZip KeepsShare xs xs
  keeps_none xs = zip-refl KeepsShare keeps_same xs

  pub keeps_both : (xs ys zs : List (Holding O)) → AllZip KeepsShare xs ys → AllZip KeepsShare ys zs → AllZip KeepsShare xs zs
  keeps_both xs ys zs a b = zip-trans KeepsShare KeepsShare KeepsShare xs ys zs keeps_then a b

  pub keeps_set : (xs ys : List (Holding O)) (i : ℕ) (y d : Holding O) → i < length ys → AllZip KeepsShare xs ys → KeepsShare (get_or ys i d) y → AllZip KeepsShare xs (set ys i y)
  keeps_set xs ys i y d l h k = zip-set KeepsShare xs ys i y d h (keeps_then (get_or xs i d) (get_or ys i d) y (zip-at KeepsShare xs ys i d d h (omega (arith, zip-length KeepsShare xs ys h))) k)

  pub keeps_parts : (xs ys : List (Holding O)) → AllZip KeepsShare xs ys → All (λ x. 0 < x.part) xs → All (λ y. 0 < y.part) ys
  keeps_parts xs ys h p = zip-all KeepsShare (λ x. 0 < x.part) (λ y. 0 < y.part) xs ys (λ x y k l. omega (arith, k.part)) h p

  pub lends_none : (x : Holding O) → Lends 0 x x
  lends_none x = record { deque = refl; list = refl; part = omega arith; room = refl }

  pub lends_more : (n m k : ℕ) → n + m ≡ k → (x y z : Holding O) → Lends n x y → Lends m y z → Lends k x z
  lends_more n m k e x y z a b = record { deque = b.deque ∙ a.deque; list = b.list ∙ a.list; part = omega (arith, a.part, b.part); room = b.room ∙ a.room }

  pub joins_none : (x : Holding O) → Joins 0 x x
  joins_none x = record { deque = refl; list = refl; part = omega arith }

  pub joins_more : (n m k : ℕ) → n + m ≡ k → (x y z : Holding O) → Joins n x y → Joins m y z → Joins k x z
  joins_more n m k e x y z a b = record { deque = b.deque ∙ a.deque; list = b.list ∙ a.list; part = omega (arith, a.part, b.part) }

  pub guest_stays : (n : ℕ) (x y r : Holding O) → Lends n x y → IsNewStealShare x r → IsNewStealShare y r
  guest_stays n x y r l h = record { deque = h.deque ∙ sym l.deque; hand = h.hand; room = h.room ∙ sym l.room }

  pub reach_before : (n : ℕ) (x y r : Holding O) → Lends n x y → IsStealShareOf y r → IsStealShareOf x r
  reach_before n x y r l h = record { deque = h.deque ∙ l.deque; part = h.part }

  pub reach_after : (n : ℕ) (x y r : Holding O) → Joins n x y → IsStealShareOf x r → IsStealShareOf y r
  reach_after n x y r l h = record { deque = h.deque ∙ sym l.deque; part = h.part }

  -- the last reach of what is left of a row is one to the share at its place, which hasn't changed yet
  pub last_reach : (shares now row left front tail : List (Holding O)) (steal_share share : Holding O) (n place : ℕ) → AllZip IsStealShareOf shares row → left ++ tail ≡ row → left ≡ front ++ steal_share ∷ [] → Back (Joins 1) n shares now
      → n ≡ length front + 1 → place ≡ length front → share ≡ get_or now place share
      → (front ++ steal_share ∷ tail ≡ row) × (length front < length shares) × Back (Joins 1) (length front + 1) shares now × (share ≡ get_or shares (length front) share) × IsStealShareOf share steal_share
  last_reach shares now row left front tail steal_share share n place all whole is back one at here =
      let other : front ++ steal_share ∷ tail ≡ row = sym (append_assoc front (steal_share ∷ []) tail) ∙ ap {B = List (Holding O)} (λ l. l ++ tail) (sym is) ∙ whole in
      let mid = zip-mid IsStealShareOf shares front steal_share tail (subst (λ (l : List (Holding O)). AllZip IsStealShareOf shares l) (sym other) all) in
      let same : share ≡ get_or shares (length front) share = here ∙ ap (λ (k : ℕ). get_or now k share) at ∙ back.rest (length front) share (omega arith) in
      (other, mid.0, subst (λ (k : ℕ). Back (Joins 1) k shares now) one back, same, subst (λ (h : Holding O). IsStealShareOf h steal_share) (sym same) (mid.1 share))

  pub ways_none : (xs : List (Holding O)) → AllZip KeepsDeque xs xs
  ways_none xs = zip-refl KeepsDeque (λ x. record { deque = refl; part = refl; room = refl }) xs

  pub ways_set : (xs ys : List (Holding O)) (i : ℕ) (y d : Holding O) → i < length ys → AllZip KeepsDeque xs ys → KeepsDeque (get_or ys i d) y → AllZip KeepsDeque xs (set ys i y)
  ways_set xs ys i y d l h k =
      let old = zip-at KeepsDeque xs ys i d d h (omega (arith, zip-length KeepsDeque xs ys h)) in
      zip-set KeepsDeque xs ys i y d h (record { deque = k.deque ∙ old.deque; part = k.part ∙ old.part; room = k.room ∙ old.room })

  pub reach_parts : (shares row : List (Holding O)) → AllZip IsStealShareOf shares row → All (λ r. 0 < r.part) row
  reach_parts shares row z k d l = let it = zip-at IsStealShareOf shares row k d d z (omega (arith, zip-length IsStealShareOf shares row z)) in omega (arith, it.part)

  -- lent, kept and joined again, a share has its list and all its parts
  pub workers_whole : (n : ℕ) (first lent kept joined : List (Holding O)) → AllZip (Lends n) first lent → AllZip KeepsShare lent kept → AllZip (Joins n) kept joined → AllZip SameLoad first joined
  workers_whole n first lent kept joined l k j =
      let LessBy : Holding O → Holding O → Type 0 = λ a b. (b.part + n ≡ a.part) × (b.list ≡ a.list) in
      let half = zip-trans (Lends n) KeepsShare LessBy first lent kept (λ x y w p q. (omega (arith, p.part, q.part), q.list ∙ p.list)) l k in
      zip-trans LessBy (Joins n) SameLoad first kept joined (λ x y w p q. (omega (arith, p.0, q.part), q.list ∙ p.1)) half j

  pub whole_again : (first joined : List (Holding O)) → AllZip SameLoad first joined → All HasAllParts first → All HasAllParts joined
  whole_again first joined z = zip-all SameLoad HasAllParts HasAllParts first joined (λ x y p q. p.0 ∙ q) z

  pub finished_again : (first joined finished : List (Holding O)) → AllZip SameLoad first joined → AllZip IsFinished joined finished → AllZip IsFinished first finished
  finished_again first joined finished z f = zip-trans SameLoad IsFinished IsFinished first joined finished (λ x y w p q. record { list = q.list ∙ p.1; all = q.all }) z f

  -- after the run the rows are reaches to the shares that come back
  pub rows_after : {V : Type 0} (items : V → List (Holding O)) (n : ℕ) (first lent kept : List (Holding O)) (rows after : List V) → AllZip (Lends n) first lent → AllZip KeepsShare lent kept → AllZip (λ v w. AllZip KeepsShare (items v) (items w)) rows after
      → All (λ row. AllZip IsStealShareOf first (items row)) rows → All (λ row. AllZip IsStealShareOf kept (items row)) after
  rows_after items n first lent kept rows after l k each reaches =
      let same = zip-trans (Lends n) KeepsShare (λ a b. b.deque ≡ a.deque) first lent kept (λ x y w p q. q.deque ∙ p.deque) l k in
      zip-all (λ v w. AllZip KeepsShare (items v) (items w)) (λ row. AllZip IsStealShareOf first (items row)) (λ row. AllZip IsStealShareOf kept (items row)) rows after
      (λ v w keeps steal_share. zip-under (λ a b. b.deque ≡ a.deque) IsStealShareOf IsStealShareOf first kept (items w) (λ x y r d h. record { deque = h.deque ∙ sym d; part = h.part }) same
      (zip-trans IsStealShareOf KeepsShare IsStealShareOf first (items v) (items w) (λ x y r h q. record { deque = q.deque ∙ h.deque; part = q.part ∙ h.part }) steal_share keeps)) each reaches

  -- after the dealing they are guests of the same shares
  pub guests_after : {V : Type 0} (items : V → List (Holding O)) (opened dealt : List (Holding O)) (rows : List V) → AllZip KeepsDeque opened dealt → All (λ row. AllZip IsNewStealShare opened (items row)) rows → All (λ row. AllZip IsNewStealShare dealt (items row)) rows
  guests_after items opened dealt rows ways guests k d l =
      zip-under KeepsDeque IsNewStealShare IsNewStealShare opened dealt (items (get_or rows k d)) (λ x y r w h. record { deque = h.deque ∙ sym w.deque; hand = h.hand; room = h.room ∙ sym w.room }) ways (guests k d l)

  pub ways_whole : (opened dealt : List (Holding O)) → AllZip KeepsDeque opened dealt → All HasAllParts opened → All HasAllParts dealt
  ways_whole opened dealt z = zip-all KeepsDeque HasAllParts HasAllParts opened dealt (λ x y p q. p.part ∙ q) z
