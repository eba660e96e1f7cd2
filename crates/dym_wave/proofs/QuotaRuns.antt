-- Runs of quotas.
use Rattle.std.proofs.Common.{◌≡◌, ℕ, ◌+◌, ◌-◌, ◌<◌, ◌≤◌, List, [], ◌∷◌, ◌++◌, length, take, drop, sum, All, sym, ap, subst, ◌∙◌, arith, map, length-append, drop-drop, ◌⊎◌, inl, inr}
use Rattle.std.specs.Prelude.{slice_range}
use Rattle.std.proofs.lemmas.List.Elements.{All-same, All-append, All-weaker, All-take, All-map, All-head}
use Rattle.std.proofs.lemmas.List.Sums.{get_or-le-sum_by}
use Rattle.std.proofs.lemmas.List.{map-append, length-map, length-take-le, length-drop, get_or-append-add}
use Rattle.std.proofs.lemmas.List.Folds.{drop_split}
use Rattle.std.proofs.Math.Seq.{take-add, take-length, drop-append-add}
use Rattle.dym_script.specs.declared.parts.Part.{Part}
use Rattle.std.proofs.lemmas.Bool.{cases_lt}
use Rattle.dym_script.specs.OwnCommands.{IsRunnable}
use Rattle.dym_wave.specs.Parts.{quota_of, IsSumOfRun}

-- each of some numbers is at most their sum
each_in_sum : (xs : List ℕ) → All (λ x. x ≤ sum xs) xs
each_in_sum xs k d within = get_or-le-sum_by (λ x. x) xs k d within

-- the first `end` are the first `from` and the run between
take_range : (xs : List ℕ) (from end : ℕ) → from ≤ end → take end xs ≡ take from xs ++ slice_range xs from end
take_range xs from end order =
    ap (λ n. take n xs) (omega arith) ∙ take-add from (end - from) xs

pub fits_more : (xs : List ℕ) (from end largest total more : ℕ) → from ≤ end → All (λ x. x ≤ largest) (take from xs)
    → total ≡ sum (slice_range xs from end) → largest ≤ more → total ≤ more → All (λ x. x ≤ more) (take end xs)
fits_more xs from end largest total more order fits is left right =
    All-same (λ x. x ≤ more) (take end xs) (take from xs ++ slice_range xs from end) (take_range xs from end order)
    (All-append (λ x. x ≤ more) (take from xs) (slice_range xs from end)
    (All-weaker (λ x. x ≤ largest) (λ x. x ≤ more) (λ x h. omega (arith, h, left)) (take from xs) fits)
    (All-weaker (λ x. x ≤ sum (slice_range xs from end)) (λ x. x ≤ more) (λ x h. omega (arith, h, is, right)) (slice_range xs from end)
    (each_in_sum (slice_range xs from end))))

-- all of them
pub fits_all : (xs : List ℕ) (from largest : ℕ) → length xs ≤ from → from ≤ length xs → All (λ x. x ≤ largest) (take from xs) → All (λ x. x ≤ largest) xs
fits_all xs from largest over inside fits =
    All-same (λ x. x ≤ largest) xs (take from xs) (sym (take-length xs) ∙ ap (λ n. take n xs) (omega (arith, over, inside))) fits

-- the greater of what two runs need is what a run needs
pub needs_greater : (xs : List ℕ) (a b greater : ℕ) → IsSumOfRun xs a → IsSumOfRun xs b
    → a ≤ greater → b ≤ greater → ((most : ℕ) → a ≤ most → b ≤ most → greater ≤ most) → IsSumOfRun xs greater
needs_greater xs a b greater of_a of_b over_a over_b least = of (cases_lt a b)
  where
    of : (a < b) ⊎ (b ≤ a) → IsSumOfRun xs greater
    of (inl less) = subst (IsSumOfRun xs) (omega (arith, over_b, least b (omega (arith, less)) (omega arith))) of_b
    of (inr less) = subst (IsSumOfRun xs) (omega (arith, over_a, least a (omega arith) less)) of_a

-- a quota of some objects is at least 1
quotas_least : (parts : List Part) → All IsRunnable parts → All (λ q. (1 ≤ q) × (q ≤ 1024)) (map quota_of parts)
quotas_least parts runnable =
    All-map (λ q. (1 ≤ q) × (q ≤ 1024)) quota_of parts
    (All-weaker IsRunnable (λ p. (1 ≤ quota_of p) × (quota_of p ≤ 1024)) (λ p h. (h.quota_least, h.quota_most)) parts runnable)

-- the largest is at least 1
pub largest_least : (parts : List Part) (largest : ℕ) (quotas : List ℕ) → quotas ≡ map quota_of parts → All IsRunnable parts → 0 < length parts
    → All (λ q. q ≤ largest) quotas → 1 ≤ largest
largest_least [] largest quotas is runnable some fits = absurd (omega (arith, some))
largest_least (p ∷ parts) largest quotas is runnable some fits =
    let of : All (λ q. q ≤ largest) (map quota_of (p ∷ parts)) = All-same (λ q. q ≤ largest) (map quota_of (p ∷ parts)) quotas (sym is) fits in
    omega (arith, (All-head IsRunnable p parts runnable).quota_least, All-head (λ q. q ≤ largest) (quota_of p) (map quota_of parts) of)

-- the parts that ran leave those whose quotas come behind the run
pub lined_rest : (done rest before : List Part) (quotas : List ℕ) (from end : ℕ) → before ≡ done ++ rest → from ≤ end → length done ≡ end - from
    → map quota_of before ≡ drop from quotas → map quota_of rest ≡ drop end quotas
lined_rest done rest before quotas from end cut order count lined =
    sym (drop-append-add (map quota_of done) (map quota_of rest) 0)
    ∙ (λ i. drop (count' i) (parts i))
    ∙ ap (drop (end - from)) lined
    ∙ drop-drop (end - from) from quotas
    ∙ ap (λ n. drop n quotas) (omega (arith, order))
  where
    count' : length (map quota_of done) + 0 ≡ end - from
    count' = omega (arith, length-map done quota_of, count)

    parts : map quota_of done ++ map quota_of rest ≡ map quota_of before
    parts = sym (map-append quota_of done rest) ∙ ap (map quota_of) (sym cut)

-- what holds of all parts holds of those that are left
pub all_back : (P : Part → Type 0) (front back all : List Part) → all ≡ front ++ back → All P all → All P back
all_back P front back all is h k d within =
    subst P (get_or-append-add front back k d) (All-same P (front ++ back) all (sym is) h (length front + k) d (omega (arith, within, length-append front back)))

-- the quotas of a run of objects, and of those behind it
pub run_quotas : (parts : List Part) (quotas : List ℕ) (from end : ℕ) → All IsRunnable parts → map quota_of parts ≡ drop from quotas
    → All (λ q. (1 ≤ q) × (q ≤ 1024)) (slice_range quotas from end)
run_quotas parts quotas from end runnable lined =
    let P : ℕ → Type 0 = λ q. (1 ≤ q) × (q ≤ 1024) in
    All-take P (end - from) (drop from quotas) (All-same P (drop from quotas) (map quota_of parts) (sym lined) (quotas_least parts runnable))

pub run_lined : (parts : List Part) (quotas lined_up : List ℕ) (from end : ℕ) → from ≤ end → map quota_of parts ≡ drop from quotas
    → lined_up ≡ slice_range quotas from end → (rest : List ℕ) × (map quota_of parts ≡ lined_up ++ rest)
run_lined parts quotas lined_up from end order lined is =
    (drop end quotas, lined ∙ drop_split quotas from end order ∙ ap (λ l. l ++ drop end quotas) (sym is))

-- how many quotas a run has
pub run_length : (quotas : List ℕ) (from end : ℕ) → from ≤ end → end ≤ length quotas → length (slice_range quotas from end) ≡ end - from
run_length quotas from end order inside = length-take-le (end - from) (drop from quotas) (omega (arith, length-drop from quotas, order, inside))
